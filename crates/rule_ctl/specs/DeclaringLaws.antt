-- What the rules of declarations rest on.
use Rattle.std.specs.Prelude.{◌≡◌, true, refl}
use Rattle.hare_tree.specs.declared.kind.Kind.{Kind}
use Rattle.hare_tree.specs.declared.kind.Kind.TheVariants as ki
use Rattle.hare_types.specs.Store.{Store}
use Rattle.hare_rules.specs.Table.{rows_of}
use Rattle.rule_judge.specs.declared.turn.Turn.{Turn}
use Rattle.rule_judge.specs.Asked.{are_asked}
use Rattle.rule_judge.specs.Grown.{IsGrown}
use Rattle.rule_ctl.specs.Declaring.{declares, asks, IsConstant}

-- each row of these kinds is one of theirs, or one of all
pub rows_asked : (k : Kind) → declares k ≡ true → are_asked asks (rows_of k) ≡ true
rows_asked ki.Def h = refl
rows_asked ki.GlobalLet h = refl
rows_asked ki.GlobalConst h = refl
rows_asked _ h = absurd cc

-- a constant stays one as the store grows
pub constant_stays : (now later : Store) (t : Turn) → IsGrown now later → IsConstant now t → IsConstant later t
constant_stays now later t g h = h
