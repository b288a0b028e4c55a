-- Members of unions, and pointers that may be null, taken apart.
use Rattle.std.specs.Prelude.{ℕ, Bool, true, false, not, nat_eq, List, filter, length, Some, if◌then◌else◌}
use Rattle.hare_types.specs.declared.coercion.Ty.{Ty}
use Rattle.hare_types.specs.declared.coercion.Ty.TheVariants as kept
use Rattle.hare_types.specs.Store.{Store}
use Rattle.hare_types.specs.ByIds.{is_error_at}
use Rattle.hare_typed.specs.declared.cell.Cell.{Cell}
use Rattle.hare_typed.specs.Typed.{TypedNode, head_of}
use Rattle.hare_typed.specs.Order.{kid_from_front}
use Rattle.hare_typed.specs.Given.{given, base_row}
use Rattle.hare_typed.specs.Answers.{Answer, Gives, Aborts, ◌then◌}
use Rattle.hare_typed.specs.Scalars.{Pointer, Null, Address}
use Rattle.hare_typed.specs.Unions.{union_members, member_by_tag, payload, union_cells}
use Rattle.hare_typed.specs.Coercions.{pointer_of, assigned}
use Rattle.hare_typed.specs.State.{Scope, Return}
use Rattle.hare_typed.specs.Acts.{end}
use Rattle.hare_typed.specs.World.{World, answered}
use Rattle.hare_typed.specs.Sequence.{value}
use Rattle.hare_typed.specs.Evaluated.{ValueForm}
use Rattle.hare_typed.specs.ConstantForms.{own_type, type_of_kid, id_in, bool_cells}
use Rattle.hare_meaning.specs.Code.{declaration}
use Rattle.hare_meaning.specs.Steps.{is_nullable_row}

abbrev pub is_nullable : World → TypedNode → Bool
is_nullable w t = is_nullable_row (base_row w.types (type_of_kid 0 t))

abbrev pub is_null : List Cell → Bool
is_null cs = is_null_pointer (pointer_of cs)
  where
    is_null_pointer : Pointer → Bool
    is_null_pointer Null = true
    is_null_pointer (Address o d) = false

-- the union of which the operand is a value
abbrev pub union_of_kid : TypedNode → ℕ
union_of_kid t = id_in (type_of_kid 0 t)

-- ---- as, is

-- the value as that member: abort 1 where it is another, or null
abbrev pub as_member : World → TypedNode → List Cell → Answer (List Cell)
as_member w t cs =
    member_by_tag w.types (union_of_kid t) cs then λ m.
    if nat_eq m (id_in (own_type t)) then payload w.types (union_of_kid t) m cs else Aborts 1

abbrev pub as_pointer : List Cell → Answer (List Cell)
as_pointer cs = if is_null cs then Aborts 1 else Gives cs

abbrev pub as_form : World → TypedNode → Scope → ValueForm
as_form w t sc k =
    value 0 sc λ cs. answered w (head_of t) (if is_nullable w t then as_pointer cs else as_member w t cs) k

-- the payload is not read
abbrev pub is_member : World → TypedNode → List Cell → Answer Bool
is_member w t cs = member_by_tag w.types (union_of_kid t) cs then λ m. Gives (nat_eq m (id_in (type_of_kid 1 t)))

abbrev pub is_form : World → TypedNode → Scope → ValueForm
is_form w t sc k =
    value 0 sc λ cs.
    answered w (head_of t) (if is_nullable w t then Gives (not (is_null cs)) else is_member w t cs) λ b. k (bool_cells b)

-- ---- errors

abbrev pub without_errors : Store → List ℕ → List ℕ
without_errors s ms = filter (λ m. not (is_error_at s m)) ms

-- What is left of the union without its errors: the one member, or a union of those that are left.
abbrev pub what_is_left : World → TypedNode → (member : ℕ) → List Cell → List Cell
what_is_left w t m d =
    if nat_eq (length (without_errors w.types (union_members w.types (union_of_kid t)))) 1 then d
    else union_cells w.types (id_in (own_type t)) m d

-- what the function in which a node stands gives
abbrev pub result_of : World → Scope → Ty
result_of w sc = given (kid_from_front 3 (declaration w.declarations sc.own))

abbrev pub as_result : World → Ty → (member : ℕ) → List Cell → Answer (List Cell)
as_result w (kept.Of r) m d = assigned w.types (kept.Of m) r d
as_result w (kept.Iconst v) m d = Gives d
as_result w kept.Null m d = Gives d
as_result w kept.Empty m d = Gives d

-- an error member is returned, as the function's result
abbrev pub tried : World → TypedNode → Scope → (member : ℕ) → List Cell → ValueForm
tried w t sc m d k =
    if is_error_at w.types m
    then (answered w (head_of t) (as_result w (result_of w sc) m d) λ r. end (Return (Some r)))
    else k (what_is_left w t m d)

abbrev pub try_form : World → TypedNode → Scope → ValueForm
try_form w t sc k =
    value 0 sc λ cs.
    answered w (head_of t) (member_by_tag w.types (union_of_kid t) cs) λ m.
    answered w (head_of t) (payload w.types (union_of_kid t) m cs) λ d.
    tried w t sc m d k

-- abort 7 on an error member, whose payload is not read
abbrev pub forced : World → TypedNode → List Cell → Answer (List Cell)
forced w t cs =
    member_by_tag w.types (union_of_kid t) cs then λ m.
    if is_error_at w.types m then Aborts 7
    else payload w.types (union_of_kid t) m cs then λ d. Gives (what_is_left w t m d)

abbrev pub force_form : World → TypedNode → Scope → ValueForm
force_form w t sc k = value 0 sc λ cs. answered w (head_of t) (forced w t cs) k
