-- Assignments and bindings.
use Rattle.std.specs.Prelude.{ℕ, ℤ, ◌-◌, ◌||◌, Bool, bytes_eq, codes, List, [], length, take, None, if◌then◌else◌}
use Rattle.hare_types.specs.declared.coercion.Ty.{Ty}
use Rattle.hare_typed.specs.Typed.{TypedNode, head_of}
use Rattle.hare_typed.specs.Answers.{Answer, Gives}
use Rattle.hare_typed.specs.Objects.{reading}
use Rattle.hare_typed.specs.Arithmetic.{arithmetic_of, arithmetic, shift_of, shifted}
use Rattle.hare_typed.specs.Shapes.{align_in}
use Rattle.hare_typed.specs.Coercions.{number_of_value, number_cells}
use Rattle.hare_typed.specs.State.{Scope}
use Rattle.hare_typed.specs.Acts.{look, make}
use Rattle.hare_typed.specs.World.{World, answered}
use Rattle.hare_typed.specs.Sequence.{value, place}
use Rattle.hare_typed.specs.Evaluated.{ValueForm, read_value}
use Rattle.hare_typed.specs.ConstantForms.{type_of_kid, number_of_kid, int_in}
use Rattle.hare_meaning.specs.Steps.{storing, local_object}

-- the place, then the value
abbrev pub assign_form : World → TypedNode → Scope → ValueForm
assign_form w t sc k =
    place 0 sc λ p.
    value 1 sc λ cs.
    storing w (head_of t) p (align_in w.types (type_of_kid 0 t)) cs (k [])

-- ---- with an operator

-- the operator without the `=` behind it
abbrev pub operator_of : List ℕ → List ℕ
operator_of x = take (length x - 1) x

abbrev pub is_shift : List ℕ → Bool
is_shift x = bytes_eq x (codes "<<") || bytes_eq x (codes ">>")

-- what the operator makes of two numbers at the type of the place: abort 8 for a divisor of zero
abbrev pub operated : World → Ty → List ℕ → ℤ → ℤ → Answer ℤ
operated w f x a b =
    if is_shift x then Gives (shifted (shift_of x) (int_in w.types f) a b) else arithmetic (arithmetic_of x) (int_in w.types f) a b

-- the place, then the value; then the place is read, and then stored to
abbrev pub op_assign_form : World → TypedNode → Scope → ValueForm
op_assign_form w t sc k =
    let f = type_of_kid 0 t in
    place 0 sc λ p.
    value 1 sc λ b.
    look λ m. answered w (head_of t) (read_value w.types (reading m.objects) p f) λ a.
    answered w (head_of t) (operated w f (operator_of (head_of t).text) (number_of_value w.types f a) (number_of_kid w t 1 b)) λ v.
    storing w (head_of t) p (align_in w.types f) (number_cells w.types f v) (k [])

-- ---- bindings

-- a new local object has the value, as its coercion gives it
abbrev pub let_form : World → TypedNode → Scope → ValueForm
let_form w t sc k =
    value 1 sc λ cs.
    make None (local_object w.types (type_of_kid 1 t) cs) λ o. k []
