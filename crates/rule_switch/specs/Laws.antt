-- What the rules of `switch` rest on.
use Rattle.std.specs.Prelude.{◌≡◌, true, refl}
use Rattle.hare_tree.specs.declared.kind.Kind.{Kind}
use Rattle.hare_tree.specs.declared.kind.Kind.TheVariants as ki
use Rattle.hare_types.specs.Store.{Store}
use Rattle.hare_rules.specs.Table.{rows_of}
use Rattle.rule_judge.specs.declared.turn.Turn.{Turn}
use Rattle.rule_judge.specs.Asked.{are_asked}
use Rattle.rule_judge.specs.Grown.{IsGrown}
use Rattle.rule_switch.specs.Kinds.{judges, asks}
use Rattle.rule_switch.specs.Needs.{IsReady}

-- each row of the kind is one of these, or one of all
pub rows_asked : (k : Kind) → judges k ≡ true → are_asked asks (rows_of k) ≡ true
rows_asked ki.Switch h = refl
rows_asked _ h = absurd cc

-- what is relied on stays as the store grows
pub ready_stays : (now later : Store) (t : Turn) → IsGrown now later → IsReady now t → IsReady later t
ready_stays now later t g h = h
