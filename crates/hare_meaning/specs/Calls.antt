-- Calls of functions.
use Rattle.std.specs.Prelude.{ℕ, ◌+◌, ◌-◌, ◌^◌, nat_lt, List, [], ◌∷◌, slice_index, Some, None, if◌then◌else◌}
use Rattle.hare_tree.specs.declared.token.Meaning.{Meaning}
use Rattle.hare_tree.specs.declared.token.Meaning.TheVariants as meant
use Rattle.hare_types.specs.declared.coercion.Ty.{Ty}
use Rattle.hare_typed.specs.declared.cell.Cell.{Cell}
use Rattle.hare_typed.specs.Typed.{TypedNode, head_of, mark_of, kids_of}
use Rattle.hare_typed.specs.Order.{kid_from_front}
use Rattle.hare_typed.specs.Numbers.{parameters_of}
use Rattle.hare_typed.specs.Given.{given}
use Rattle.hare_typed.specs.Weight.{count}
use Rattle.hare_typed.specs.State.{Memory, Scope, AsValue, Outcome, Value, Reached, Break, Continue, Yield, Return, Exit, Abort, Undefined, Over, Spent}
use Rattle.hare_typed.specs.Acts.{Act, end, look, put, kid, within, call}
use Rattle.hare_typed.specs.World.{World}
use Rattle.hare_typed.specs.Sequence.{values, on_value}
use Rattle.hare_typed.specs.Evaluated.{ValueForm}
use Rattle.hare_meaning.specs.Code.{declaration}
use Rattle.hare_meaning.specs.Steps.{binding, void_at}
use Rattle.hare_meaning.specs.Runtime.{runtime_form}

-- ---- the call

-- a call has its callee, its arguments, and a place for a comma
abbrev pub arguments_of : TypedNode → ℕ
arguments_of t = count (kids_of t) - 2

-- a call of a function of the program: its arguments from left to right, and then the function
abbrev pub function_form : TypedNode → Scope → ℕ → ValueForm
function_form t sc d k = values 1 (arguments_of t) sc λ cs. call d cs (on_value k)

abbrev pub call_of : World → TypedNode → Scope → Meaning → ValueForm
call_of w t sc (meant.Decl d) k = function_form t sc d k
call_of w t sc (meant.Rt f) k = runtime_form w t sc f k
call_of w t sc (meant.Local x) k = k []
call_of w t sc meant.None k = k []

-- the callee is not evaluated: its path says which function it is
abbrev pub call_form : World → TypedNode → Scope → ValueForm
call_form w t sc k = call_of w t sc (mark_of (kid_from_front 0 t)).meaning k

-- ---- the function, with one turn less

abbrev pub most_stack : ℕ
most_stack = 2 ^ 30

abbrev pub with_stack : Memory → ℕ → Memory
with_stack m n = record m { stack = n }

-- the type of a parameter
abbrev pub type_of_parameter : TypedNode → Ty
type_of_parameter p = given (kid_from_front 0 p)

-- the parameters are bound to the arguments, in their order
abbrev pub parameters : World → List TypedNode → List (List Cell) → (number : ℕ) → Scope → (Scope → Act) → Act
parameters w [] cs n sc k = k sc
parameters w (p ∷ ps) [] n sc k = k sc
parameters w (p ∷ ps) (c ∷ cs) n sc k = binding w sc n (type_of_parameter p) c λ sc'. parameters w ps cs (n + 1) sc' k

-- the body is the last kid of a function, behind its result
abbrev pub in_function : World → TypedNode → List (List Cell) → Scope → Act
in_function w f cs sc = parameters w (parameters_of f) cs 0 sc λ inner. kid 4 AsValue inner end

-- the stack measure falls again
abbrev pub returned : ℕ → List Cell → Act
returned n cs = look λ m. put (with_stack m (m.stack - n)) (end (Value cs))

-- what the body came to: its value, or what it returned
abbrev pub returning : World → TypedNode → ℕ → Outcome → Act
returning w f n (Value cs) = returned n cs
returning w f n (Reached p) = returned n []
returning w f n (Return (Some cs)) = returned n cs
returning w f n (Return None) = void_at w (head_of f) (given (kid_from_front 3 f)) (returned n)
returning w f n (Break l) = end (Break l)
returning w f n (Continue l) = end (Continue l)
returning w f n (Yield l cs) = end (Yield l cs)
returning w f n (Exit k) = end (Exit k)
returning w f n (Abort x) = end (Abort x)
returning w f n (Undefined u p) = end (Undefined u p)
returning w f n Over = end Over
returning w f n Spent = end Spent

-- A call of this function counts so many bytes on the stack measure: Over where that would pass its limit.
abbrev pub called : World → ℕ → List (List Cell) → Scope → Act
called w d cs sc =
    let f = declaration w.declarations d in
    let n = slice_index w.bounds d in
    look λ m.
    if nat_lt most_stack (m.stack + n) then end Over
    else put (with_stack m (m.stack + n)) (within (in_function w f cs sc) (returning w f n))
