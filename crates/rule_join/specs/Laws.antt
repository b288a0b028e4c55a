-- What the rules of these kinds rest on.
use Rattle.std.specs.Prelude.{◌≡◌, true, refl}
use Rattle.hare_tree.specs.declared.kind.Kind.{Kind}
use Rattle.hare_tree.specs.declared.kind.Kind.TheVariants as ki
use Rattle.hare_types.specs.Store.{Store}
use Rattle.hare_rules.specs.Table.{rows_of}
use Rattle.rule_judge.specs.declared.turn.Turn.{Turn}
use Rattle.rule_judge.specs.Asked.{are_asked}
use Rattle.rule_judge.specs.Grown.{IsGrown}
use Rattle.rule_judge.proofs.DefinedLemmas.{defined_stays}
use Rattle.rule_join.specs.Kinds.{judges, asks}
use Rattle.rule_join.specs.Needs.{IsReady}

-- each row of these kinds is one of theirs, or one of all
pub rows_asked : (k : Kind) → judges k ≡ true → are_asked asks (rows_of k) ≡ true
rows_asked ki.If h = refl
rows_asked ki.For h = refl
rows_asked ki.ForEach h = refl
rows_asked ki.Block h = refl
rows_asked ki.Case h = refl
rows_asked ki.SwitchCase h = refl
rows_asked _ h = absurd cc

-- what is relied on stays as the store grows
pub ready_stays : (now later : Store) (t : Turn) → IsGrown now later → IsReady now t → IsReady later t
ready_stays now later t g h = record {
  sound = g.later.sound;
  result = defined_stays now later h.sound g.later t.case.now.inside.result h.result;
}
