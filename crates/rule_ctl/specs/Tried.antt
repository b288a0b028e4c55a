-- Errors that may not be handed on, and what an allocation under `?` or `!` is asked for.
use Rattle.std.specs.Prelude.{ℕ, Bool, not, ◌&&◌, Option, is_some, option_and_then}
use Rattle.std.specs.Option.{option_or}
use Rattle.hare_types.specs.declared.coercion.Ty.TheVariants as ty
use Rattle.hare_types.specs.declared.row.Row.{Row}
use Rattle.hare_types.specs.ByIds.{is_error_at}
use Rattle.hare_types.specs.Store.{Store}
use Rattle.hare_typed.specs.Coercions.{element_of_slice}
use Rattle.hare_typed.specs.Given.{base_row}
use Rattle.hare_rules.specs.declared.hint.Hint.{Hint}
use Rattle.hare_rules.specs.Above.{leads_to, hint_id}
use Rattle.hare_rules.specs.Aggregates.{pointer_to, slice_of}
use Rattle.hare_rules.specs.Words.{fits, array_element, allocation, with_refusal}

-- an error type that may not be assigned to the other
abbrev pub rejected : Store → (u to : ℕ) → Bool
rejected s u to = is_error_at s u && not (fits s (ty.Of u) to)

-- the element of a slice or an array
abbrev pub element_of : Option Row → Option ℕ
element_of r = option_or (element_of_slice r) (array_element r)

-- what an allocation makes that is asked for a value of the type
abbrev pub made_of : Store → ℕ → Option ℕ
made_of s t = option_or (pointer_to s (leads_to (base_row s (ty.Of t)))) (slice_of s (element_of (base_row s (ty.Of t))))

-- whether the hint asks for the union of that with the refusal of memory
abbrev pub asks_refusable : Store → Hint → Bool
asks_refusable s h = is_some (option_and_then (λ t. option_and_then (with_refusal s) (made_of s t))
    (option_and_then (allocation s) (hint_id h)))
