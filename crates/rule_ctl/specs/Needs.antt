-- What the judge relies on beside what each judge relies on.
use Rattle.std.specs.Prelude.{List}
use Rattle.hare_types.specs.Store.{Store}
use Rattle.hare_types.specs.Sound.{IsStore}
use Rattle.hare_rules.specs.declared.declared.Local.{Local}
use Rattle.hare_rules.specs.declared.declared.DeclType.{DeclType}
use Rattle.hare_rules.specs.declared.judged.Case.{Case}
use Rattle.hare_rules.specs.Words.{nomem}
use Rattle.rule_judge.specs.declared.turn.Turn.{Turn}
use Rattle.rule_judge.specs.Defined.{IsDefined, IsDefinedName}
use Rattle.rule_judge.specs.Meant.{IsMeant}

-- The refusal of memory is defined; what a callee means is known; and so is the type that the function gives, which mentions no name that
-- is not defined.
pub record IsReadyNode (s : Store) (decls : List DeclType) (locals : List Local) (c : Case) : Type 0 where
  pub nomem : IsDefinedName s nomem
  pub meant : IsMeant s decls locals c.meaning
  pub result : IsDefined s c.inside.result

abbrev pub IsReady : Store → Turn → Type 0
IsReady s t = IsReadyNode s t.decls.now t.locals.now t.case.now

-- the same, of a store
pub record IsSoundReady (s : Store) (t : Turn) : Type 0 where
  pub sound : IsStore s
  pub ready : IsReady s t
