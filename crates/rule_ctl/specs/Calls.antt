-- The functions of the module `rt`, by their parts.
use Rattle.std.specs.Prelude.{ℕ, length, Option, option_map, option_and_then, slice_get}
use Rattle.hare_types.specs.Store.{Store}
use Rattle.hare_rules.specs.Aggregates.{Signature, runtime_signatures}

abbrev pub count_of : Option Signature → Option ℕ
count_of = option_map (λ g. length g.params)

abbrev pub result_in : Option Signature → Option ℕ
result_in = option_and_then (λ g. g.result)

-- the function with this number
abbrev pub runtime_at : Store → ℕ → Option Signature
runtime_at s n = slice_get (runtime_signatures s) n
