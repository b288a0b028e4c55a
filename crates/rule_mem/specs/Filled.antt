-- The values of a struct literal, by the names before them.
use Rattle.std.specs.Prelude.{ℕ, Bool, cond, nat_eq, List, drop, filter, length, Option, Some, None, is_some, option_and_then}
use Rattle.std.specs.Option.{unwrap_or}
use Rattle.indexmap.specs.IndexMap.{IndexMap, get}
use Rattle.hare_types.specs.Store.{Store}
use Rattle.hare_typed.specs.Typed.{TypedNode}
use Rattle.hare_rules.specs.Aggregates.{name_number, is_named_by, but_last}

-- the text is spelled as the name with this number
abbrev pub spells : Store → ℕ → List ℕ → Bool
spells s n text = is_some (option_and_then (λ m. cond (nat_eq m n) (Some m) None) (name_number s text))

-- the values among the kids of a struct literal
abbrev pub values_of : List TypedNode → List TypedNode
values_of xs = but_last (drop 1 xs)

-- how many values have the name with this number
abbrev pub times_named : Store → ℕ → List TypedNode → ℕ
times_named s n xs = length (filter (is_named_by s n) xs)
