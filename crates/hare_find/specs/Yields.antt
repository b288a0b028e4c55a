-- Which types what was yielded mentions.
use Rattle.std.specs.Prelude.{List, [], ◌∷◌, Option, Some, None}
use Rattle.hare_types.specs.declared.coercion.Ty.{Ty}
use Rattle.hare_types.specs.Store.{Store}
use Rattle.hare_rules.specs.Context.{Given}
use Rattle.rule_judge.specs.Defined.{IsDefinedTy}

-- the type, where there is one, is in the store, and mentions no name that is not defined
abbrev pub IsDefinedOption : Store → Option Ty → Type 0
IsDefinedOption s None = Unit {0}
IsDefinedOption s (Some a) = IsDefinedTy s a

-- so it is of each value
abbrev pub AreDefinedGivens : Store → List Given → Type 0
AreDefinedGivens s [] = Unit {0}
AreDefinedGivens s (g ∷ gs) = IsDefinedOption s g.ty × AreDefinedGivens s gs
