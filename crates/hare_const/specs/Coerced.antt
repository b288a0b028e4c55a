-- What becomes of a value by one row of the table of assignability, and at a union. No public clause cites it.
use Rattle.std.specs.Prelude.{ℕ, List, [], ◌∷◌, Option, Some, None, is_some, if◌then◌else◌}
use Rattle.hare_types.specs.declared.coercion.Coercion.{Coercion}
use Rattle.hare_types.specs.declared.coercion.Ty.TheVariants as kept
use Rattle.hare_types.specs.Store.{Store}
use Rattle.hare_typed.specs.declared.cell.Cell.{Cell}
use Rattle.hare_typed.specs.declared.constant.ConstObject.{ConstObject}
use Rattle.hare_typed.specs.Typed.{TypedNode, mark_of}
use Rattle.hare_typed.specs.Answers.{Answer}
use Rattle.hare_typed.specs.Unions.{union_members}
use Rattle.hare_typed.specs.Coercions.{length_of_value, chosen_member, inner_as, element_by, coerced_by, coerced_as}
use Rattle.hare_const.specs.declared.outcome.Outcome.{Outcome}
use Rattle.hare_const.specs.declared.outcome.Outcome.TheVariants.{Known}
use Rattle.hare_const.specs.NodeValues.{on_answer, object_number, slice_of}

-- the cells of the value, or those of a slice over it where it becomes one
abbrev pub sliced_or : Store → (own : ℕ) → TypedNode → List Cell → Option ℕ → List Cell
sliced_or s own t cs o =
    elim o [
      | None ↦ cs
      | Some x ↦ slice_of own t (length_of_value s (mark_of t).ty)
    ]

-- the object of the node, where it becomes a slice
abbrev pub object_or : (own : ℕ) → TypedNode → List Cell → Option ℕ → List ConstObject
object_or own t cs o = if is_some o then record { object = object_number own t; cells = cs } ∷ [] else []

-- the value of a node as a row gives it at a type, and the object that it gets so
abbrev pub value_by_row : Store → (own : ℕ) → TypedNode → (row to : ℕ) → List Cell → List Cell
value_by_row s own t r to cs = coerced_by s (mark_of t).ty r to (sliced_or s own t cs (element_by s r (kept.Of to)))

abbrev pub object_by_row : Store → (own : ℕ) → TypedNode → (row to : ℕ) → List Cell → List ConstObject
object_by_row s own t r to cs = object_or own t cs (element_by s r (kept.Of to))

-- what a value becomes a slice of that goes to a union as a member, or as none
abbrev pub sliced_as : Store → TypedNode → (of_union : ℕ) → Option ℕ → Option ℕ
sliced_as s t u o = let i : Coercion = inner_as s (mark_of t).ty u o in element_by s i.row i.to

abbrev pub joined_as : Store → (own : ℕ) → TypedNode → (of_union : ℕ) → List Cell → Option ℕ → Answer (List Cell)
joined_as s own t u cs o = coerced_as s (mark_of t).ty u (sliced_or s own t cs (sliced_as s t u o)) o

-- the member that the value of a node becomes
abbrev pub member_of : Store → TypedNode → (of_union : ℕ) → Option ℕ
member_of s t u = chosen_member s (mark_of t).ty (union_members s u)

-- the value of a node at a union, and the object that it gets so
abbrev pub joined_value : Store → (own : ℕ) → TypedNode → (of_union : ℕ) → List Cell → Outcome
joined_value s own t u cs = on_answer (joined_as s own t u cs (member_of s t u)) Known

abbrev pub joined_object : Store → (own : ℕ) → TypedNode → (of_union : ℕ) → List Cell → List ConstObject
joined_object s own t u cs = object_or own t cs (sliced_as s t u (member_of s t u))
