-- What the judge relies on beside what each judge relies on.
use Rattle.hare_types.specs.Store.{Store}
use Rattle.hare_types.specs.Sound.{IsStore}
use Rattle.hare_rules.specs.declared.judged.Case.{Case}
use Rattle.rule_judge.specs.declared.turn.Turn.{Turn}
use Rattle.rule_judge.specs.Defined.{IsDefined}

-- the type that the function gives is in the store, and mentions no name that is not defined
abbrev pub IsReadyNode : Store → Case → Type 0
IsReadyNode s c = IsDefined s c.inside.result

-- the same, of a store
pub record IsReady (s : Store) (t : Turn) : Type 0 where
  pub sound : IsStore s
  pub result : IsReadyNode s t.case.now
