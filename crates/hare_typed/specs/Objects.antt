-- Objects, of which memory is made, and the accesses to them. An object has no address: a pointer names it by its number.
use Rattle.std.specs.Prelude.{ℕ, ◌+◌, ◌%◌, max, Bool, true, false, not, ◌&&◌, ◌||◌, nat_eq, nat_lt, List, [], ◌∷◌, ◌++◌, length, slice_get, slice_set, Option, Some, None, if◌then◌else◌}
use Rattle.std.specs.Option.{option_or}
use Rattle.std.specs.Map.{lookup}
use Rattle.hare_typed.specs.declared.cell.Cell.{Cell}
use Rattle.hare_typed.specs.Cells.{cells_within, with_cells, bytes_of}
use Rattle.hare_typed.specs.Scalars.{Pointer, Null, Address, Scalar, Shape, width, spelled}
use Rattle.hare_typed.specs.Answers.{Answer, Gives, or_undefined, unless, ◌then◌}

-- where an object comes from, which says when it dies and whether it may be stored to
pub data ObjectKind : Type 0 where
  Local : ObjectKind  -- a binding, a parameter, or a value that is used as a place: it dies with its scope
  Heap : ObjectKind  -- an allocation: it dies when it is freed
  Global : ObjectKind
  Constant : ObjectKind  -- a constant global, a string literal, or an argument

pub record Object : Type 0 where
  pub cells : List Cell  -- as many as it has bytes, also when it is dead
  pub kind : ObjectKind
  pub align : ℕ
  pub alive : Bool

-- One behind its last offset is an object's end. An object of no bytes has one place that is not its end.
abbrev pub extent_of : Object → ℕ
extent_of o = max 1 (length o.cells)

-- ---- the objects of a run

-- The objects, by number: a new one comes last, and none is ever taken out. While a constant is computed there is no run; then static
-- objects stand beside the list, under the names that constants have for them.
pub record Objects : Type 0 where
  pub made : List Object
  pub named : List (ℕ × Object)

-- what is seen of objects: the one with a number, where there is one
abbrev pub Reading : Type 0
Reading = ℕ → Option Object

abbrev pub reading : Objects → Reading
reading os o = option_or (slice_get os.made o) (lookup (nat_eq o) os.named)

-- ---- accesses

-- so many bytes at a place, to be read or stored at an alignment
pub record Access : Type 0 where
  pub at : Pointer
  pub bytes : ℕ
  pub align : ℕ
  pub stores : Bool

abbrev pub is_constant : ObjectKind → Bool
is_constant Local = false
is_constant Heap = false
is_constant Global = false
is_constant Constant = true

-- the first that is true of these, by its number
abbrev pub first_act : List (Bool × ℕ) → Option ℕ
first_act [] = None
first_act (t ∷ ts) = if t.0 then Some t.1 else first_act ts

-- what an access of some bytes to an object does wrong: U1 where it is dead or the access goes past its cells, U4 where the offset is no
-- multiple of the alignment or the object's alignment is less, U2 where it stores to a constant
abbrev pub wrong_at : Access → (offset : ℕ) → Option Object → Option ℕ
wrong_at a d None = Some 1
wrong_at a d (Some o) =
    first_act (
    (not o.alive || nat_lt (length o.cells) (d + a.bytes), 1)
    ∷ (not (nat_eq (d % a.align) 0) || nat_lt o.align a.align, 4)
    ∷ (a.stores && is_constant o.kind, 2)
    ∷ []
    )

abbrev pub wrong_to : Reading → Access → Pointer → Option ℕ
wrong_to r a Null = Some 1
wrong_to r a (Address o d) = wrong_at a d (r o)

-- The undefined act that an access is, if it is one. An access of no bytes is no access.
abbrev pub reaches : Reading → Access → Option ℕ
reaches r a = if nat_eq a.bytes 0 then None else wrong_to r a a.at

-- ---- reading

abbrev pub cells_of : Option Object → List Cell
cells_of None = []
cells_of (Some o) = o.cells

-- the cells at a place, as far as there are so many
abbrev pub cells_at : Reading → Pointer → ℕ → List Cell
cells_at r Null n = []
cells_at r (Address o d) n = cells_within d n (cells_of (r o))

-- goes on where the access is no undefined act
abbrev pub reached : {A : Type 0} → Reading → Access → Answer A → Answer A
reached r a go = unless (reaches r a) go

-- the cells of so many bytes at a place
abbrev pub read_cells : Reading → Pointer → (bytes align : ℕ) → Answer (List Cell)
read_cells r p n a = reached r (record { at = p; bytes = n; align = a; stores = false }) (Gives (cells_at r p n))

-- the scalar that cells spell, and U3 where they spell none
abbrev pub scalar_of : Shape → List Cell → Answer Scalar
scalar_of shape cs = or_undefined 3 (spelled shape cs)

-- a scalar at a place, at the alignment of its type
abbrev pub read_scalar : Reading → Pointer → (align : ℕ) → Shape → Answer Scalar
read_scalar r p a shape = read_cells r p (width shape) a then λ cs. scalar_of shape cs

-- so many bytes at a place, and U3 where a cell is none
abbrev pub bytes_within : List Cell → Answer (List ℕ)
bytes_within cs = or_undefined 3 (bytes_of cs)

abbrev pub read_bytes : Reading → Pointer → ℕ → Answer (List ℕ)
read_bytes r p n = read_cells r p n 1 then λ cs. bytes_within cs

-- ---- what changes objects

abbrev pub with_object : Objects → ℕ → Object → Objects
with_object os n o = record os { made = slice_set os.made n o }

abbrev pub changed_by : Objects → ℕ → (Object → Object) → Option Object → Objects
changed_by os n f None = os
changed_by os n f (Some o) = with_object os n (f o)

abbrev pub changed_object : Objects → ℕ → (Object → Object) → Objects
changed_object os n f = changed_by os n f (slice_get os.made n)

-- the cells at a place become these
abbrev pub write_cells : Objects → Pointer → List Cell → Objects
write_cells os Null cs = os
write_cells os (Address n d) cs = changed_object os n (λ o. record o { cells = with_cells d cs o.cells })

-- stores cells at a place
abbrev pub store_cells : Objects → Pointer → (align : ℕ) → List Cell → Answer Objects
store_cells os p a cs =
    reached (reading os) (record { at = p; bytes = length cs; align = a; stores = true }) (Gives (write_cells os p cs))

-- a new object comes last, and its number is that of the objects before it
abbrev pub with_new : Objects → Object → Objects
with_new os o = record os { made = os.made ++ o ∷ [] }

-- a static object beside the list; one that has its name already stays
abbrev pub with_named : Objects → ℕ → Object → Objects
with_named os name o = record os { named = os.named ++ (name, o) ∷ [] }

abbrev pub killed : Object → Object
killed o = record o { alive = false }

abbrev pub kill : Objects → ℕ → Objects
kill os n = changed_object os n killed

abbrev pub is_local : ObjectKind → Bool
is_local Local = true
is_local Heap = false
is_local Global = false
is_local Constant = false

abbrev pub killed_local : Object → Object
killed_local o = if is_local o.kind then killed o else o

abbrev pub locals_killed_from : ℕ → List Object → List Object
locals_killed_from n [] = []
locals_killed_from ℕ.zero (o ∷ os) = killed_local o ∷ locals_killed_from 0 os
locals_killed_from (ℕ.suc n) (o ∷ os) = o ∷ locals_killed_from n os

-- the end of a scope that began when there were so many objects: all local objects die that were made since, and no other
abbrev pub close_scope : ℕ → Objects → Objects
close_scope n os = record os { made = locals_killed_from n os.made }
