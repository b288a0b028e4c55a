-- What the rules of these kinds rest on.
use Rattle.std.specs.Prelude.{◌≡◌, true, refl}
use Rattle.hare_tree.specs.declared.kind.Kind.{Kind}
use Rattle.hare_tree.specs.declared.kind.Kind.TheVariants as ki
use Rattle.hare_types.specs.Store.{Store}
use Rattle.hare_rules.specs.Words.{nomem}
use Rattle.hare_rules.specs.Table.{rows_of}
use Rattle.rule_judge.specs.declared.turn.Turn.{Turn}
use Rattle.rule_judge.specs.Asked.{are_asked}
use Rattle.rule_judge.specs.Grown.{IsGrown}
use Rattle.rule_judge.proofs.DefinedLemmas.{defined_stays}
use Rattle.rule_judge.proofs.MeantLemmas.{name_stays, meant_stays}
use Rattle.rule_ctl.specs.Kinds.{judges, asks}
use Rattle.rule_ctl.specs.Needs.{IsSoundReady}

-- each row of these kinds is one of theirs, or one of all
pub rows_asked : (k : Kind) → judges k ≡ true → are_asked asks (rows_of k) ≡ true
rows_asked ki.As h = refl
rows_asked ki.Is h = refl
rows_asked ki.Call h = refl
rows_asked ki.Try h = refl
rows_asked ki.Force h = refl
rows_asked ki.Abort h = refl
rows_asked ki.Assert h = refl
rows_asked ki.Let h = refl
rows_asked ki.Const h = refl
rows_asked ki.Defer h = refl
rows_asked ki.Break h = refl
rows_asked ki.Continue h = refl
rows_asked ki.Return h = refl
rows_asked ki.Yield h = refl
rows_asked _ h = absurd cc

-- what the rules rely on stays as the store grows
pub ready_stays : (now later : Store) (t : Turn) → IsGrown now later → IsSoundReady now t → IsSoundReady later t
ready_stays now later t g h = record {
  sound = g.later.sound;
  ready = record {
    nomem = name_stays now later h.sound g.later nomem h.ready.nomem;
    meant = meant_stays now later h.sound g.later t.decls.now t.locals.now t.case.now.meaning h.ready.meant;
    result = defined_stays now later h.sound g.later t.case.now.inside.result h.ready.result;
  };
}
