-- What the rules of these kinds rest on.
use Rattle.std.specs.Prelude.{◌≡◌, true, refl}
use Rattle.hare_tree.specs.declared.kind.Kind.{Kind}
use Rattle.hare_tree.specs.declared.kind.Kind.TheVariants as ki
use Rattle.hare_types.specs.Store.{Store}
use Rattle.hare_rules.specs.Words.{nomem}
use Rattle.hare_rules.specs.Table.{rows_of}
use Rattle.rule_judge.specs.declared.turn.Turn.{Turn}
use Rattle.rule_judge.specs.Asked.{are_asked}
use Rattle.rule_judge.specs.Grown.{IsGrown}
use Rattle.rule_judge.proofs.MeantLemmas.{name_stays, meant_stays}
use Rattle.rule_mem.specs.Kinds.{judges, asks}
use Rattle.rule_mem.specs.Needs.{IsSoundReady}

-- ---- rows

-- each row of these kinds is one of theirs, or one of all
pub rows_asked : (k : Kind) → judges k ≡ true → are_asked asks (rows_of k) ≡ true
rows_asked ki.Path h = refl
rows_asked ki.Deref h = refl
rows_asked ki.Addr h = refl
rows_asked ki.Assign h = refl
rows_asked ki.Index h = refl
rows_asked ki.Slice h = refl
rows_asked ki.Field h = refl
rows_asked ki.StructLit h = refl
rows_asked ki.Tuple h = refl
rows_asked ki.Array h = refl
rows_asked ki.Alloc h = refl
rows_asked ki.Free h = refl
rows_asked ki.Append h = refl
rows_asked ki.Delete h = refl
rows_asked ki.Len h = refl
rows_asked ki.Offset h = refl
rows_asked _ h = absurd cc

-- ---- what stays as the store grows

pub ready_stays : (now later : Store) (t : Turn) → IsGrown now later → IsSoundReady now t → IsSoundReady later t
ready_stays now later t g h = record {
  sound = g.later.sound;
  ready = record {
    nomem = name_stays now later h.sound g.later nomem h.ready.nomem;
    meant = meant_stays now later h.sound g.later t.decls.now t.locals.now t.case.now.meaning h.ready.meant;
    typed = h.ready.typed;
  };
}
