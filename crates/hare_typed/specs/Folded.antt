-- The constant of a value: whether it has one, and its cells with the objects to which they lead.
use Rattle.std.specs.Prelude.{ℕ, zero, suc, Bool, true, false, nat_eq, List, [], ◌∷◌, length, flat_map, Option, Some, None}
use Rattle.std.specs.Map.{lookup}
use Rattle.hare_types.specs.Store.{Store}
use Rattle.hare_types.specs.Unions.{put_all, ascending}
use Rattle.hare_typed.specs.declared.cell.Cell.{Cell}
use Rattle.hare_typed.specs.declared.constant.Const.{Const}
use Rattle.hare_typed.specs.declared.constant.Const.TheVariants as constant
use Rattle.hare_typed.specs.declared.constant.ConstObject.{ConstObject}
use Rattle.hare_typed.specs.Leads.{leads}
use Rattle.hare_typed.specs.Typed.{TypedNode}
use Rattle.hare_typed.specs.Objects.{Object}
use Rattle.hare_typed.specs.State.{Outcome, Value, Abort, Result}
use Rattle.hare_typed.specs.Constancy.{first_inconstant}
use Rattle.hare_typed.specs.ConstantForms.{counted_from}
use Rattle.hare_typed.specs.ConstantValues.{constant_result}

-- ---- tags

-- Which types have tags, and in which order, is known when all bodies are checked. Until then the tag of a type is one more than its id: in
-- the constants that trees carry it is always so, and no later store says otherwise. The objects of globals have the tags of the finished
-- program.
abbrev pub tagged_by_id : Store → Store
tagged_by_id s = record s { listed = counted_from 0 (length s.rows) }

-- ---- whether a value has a constant

abbrev pub is_abort : Outcome → Bool
is_abort (Abort text) = true
is_abort _ = false

-- the evaluation of the node would abort
abbrev pub aborts : Store → (own : ℕ) → TypedNode → Bool
aborts s own t = is_abort (constant_result (tagged_by_id s) own t).0

-- The first node of the value of a declaration, in check order, that is not constant or would abort. It is looked at also where it would
-- not run.
abbrev pub inconstant : Store → (own : ℕ) → TypedNode → Option TypedNode
inconstant s own t = first_inconstant s (aborts s own) t

-- ---- the objects to which cells lead

abbrev pub cells_named : Option Object → List Cell
cells_named None = []
cells_named (Some o) = o.cells

abbrev pub cells_of_named : List (ℕ × Object) → ℕ → List Cell
cells_of_named os n = cells_named (lookup (nat_eq n) os)

-- the objects that are reached from these in so many steps, in ascending order
abbrev pub reached_in : ℕ → List (ℕ × Object) → List ℕ → List ℕ
reached_in zero os ns = ns
reached_in (suc k) os ns = reached_in k os (put_all (flat_map (λ n. leads (cells_of_named os n)) ns) ns)

abbrev pub with_cells_of : List (ℕ × Object) → List ℕ → List ConstObject
with_cells_of os [] = []
with_cells_of os (n ∷ ns) = record { object = n; cells = cells_of_named os n } ∷ with_cells_of os ns

-- No way to an object is longer than there are objects.
abbrev pub objects_behind : List (ℕ × Object) → List Cell → List ConstObject
objects_behind os cs = with_cells_of os (reached_in (length os) os (ascending (leads cs)))

-- ---- the constant

abbrev pub folded_from : Result → Const
folded_from (Value cs, s) = constant.Known cs (objects_behind s.memory.objects.named cs)
folded_from (o, s) = constant.Absent

-- The constant that the value of a declaration has, as its coercion gives it; Absent where it has none.
abbrev pub folded : Store → (own : ℕ) → TypedNode → Const
folded s own t = elim (inconstant s own t) [ None ↦ folded_from (constant_result (tagged_by_id s) own t) | Some u ↦ constant.Absent ]
