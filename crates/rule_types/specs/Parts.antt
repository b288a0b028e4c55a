-- The parts of structs and tuples, without the place of a comma behind them.
use Rattle.std.specs.Prelude.{List, [], ◌∷◌}
use Rattle.hare_types.specs.Store.{Store}
use Rattle.hare_typed.specs.Typed.{TypedNode}
use Rattle.hare_typed.specs.Numbers.{kind_of}
use Rattle.hare_rules.specs.Aggregates.{but_last}
use Rattle.hare_rules.specs.Written.{part_type_by}
use Rattle.rule_judge.specs.Defined.{IsDefinedTy}
use Rattle.rule_types.specs.Known.{IsKnownTy}

abbrev pub EachKnown : Store → List TypedNode → Type 0
EachKnown s [] = Unit {0}
EachKnown s (x ∷ xs) = IsKnownTy s (part_type_by (kind_of x) x) × EachKnown s xs

-- what each part writes is known
abbrev pub ArePartsKnown : Store → List TypedNode → Type 0
ArePartsKnown s xs = EachKnown s (but_last xs)

abbrev pub EachDefined : Store → List TypedNode → Type 0
EachDefined s [] = Unit {0}
EachDefined s (x ∷ xs) = IsDefinedTy s (part_type_by (kind_of x) x) × EachDefined s xs

-- and mentions no name that is not defined
abbrev pub ArePartsDefined : Store → List TypedNode → Type 0
ArePartsDefined s xs = EachDefined s (but_last xs)
