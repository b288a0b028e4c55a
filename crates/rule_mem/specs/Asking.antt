-- What hints ask of allocations.
use Rattle.std.specs.Prelude.{ℕ, Option, option_and_then}
use Rattle.hare_types.specs.declared.coercion.Ty.TheVariants as ty
use Rattle.hare_types.specs.Store.{Store}
use Rattle.hare_typed.specs.Given.{base_row}
use Rattle.hare_rules.specs.declared.hint.Hint.{Hint}
use Rattle.hare_rules.specs.Above.{hint_id, leads_to}
use Rattle.hare_rules.specs.Words.{allocation}

-- the object that `alloc` of one operand is asked for
abbrev pub object_of : Store → Hint → Option ℕ
object_of s h = option_and_then (λ t. leads_to (base_row s (ty.Of t))) (option_and_then (allocation s) (hint_id h))
