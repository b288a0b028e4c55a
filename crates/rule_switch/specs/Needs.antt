-- What the judge relies on beside what each judge relies on.
use Rattle.std.specs.Prelude.{drop}
use Rattle.hare_types.specs.Store.{Store}
use Rattle.rule_judge.specs.declared.turn.Turn.{Turn}
use Rattle.rule_join.specs.Cases.{AreTyped}

-- what each case gives has a type, whatever the store
abbrev pub IsReady : Store → Turn → Type 0
IsReady s t = AreTyped (drop 1 t.kids.now)
