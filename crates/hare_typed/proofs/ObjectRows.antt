-- Rows of objects and of accesses to them, worked out.
use Rattle.std.proofs.Common.{◌≡◌, ℕ, ◌++◌, true, false, Bool, [], ◌∷◌, Option, Some, None, pos, refl}
use Rattle.hare_typed.specs.declared.cell.Cell.TheVariants as cell
use Rattle.hare_typed.specs.Answers.{Gives, IsUndefined}
use Rattle.hare_typed.specs.Scalars.{Pointer, Null, Address, Number, Whole, Truth, Reference, Nullable}
use Rattle.hare_typed.specs.Objects.{Objects, Local, Heap, Global, Constant, reading, Reading, reaches, read_cells, read_scalar, read_bytes, store_cells, write_cells, with_new, kill, close_scope}
use Rattle.hare_typed.proofs.Samples.{bytes, no_cells}

-- ---- some objects

-- 0: a local of eight bytes 1 to 8; 1: a dead local of four; 2: a constant of four, of alignment 1; 3: a heap object of no bytes; 4: a
-- global of four cells, the first a byte, the others undefined
abbrev objects : Objects
objects = record {
  made =
      record { cells = bytes (1 ∷ 2 ∷ 3 ∷ 4 ∷ 5 ∷ 6 ∷ 7 ∷ 8 ∷ []); kind = Local; align = 4; alive = true }
      ∷ record { cells = bytes (1 ∷ 2 ∷ 3 ∷ 4 ∷ []); kind = Local; align = 4; alive = false }
      ∷ record { cells = bytes (97 ∷ 98 ∷ 99 ∷ 100 ∷ []); kind = Constant; align = 1; alive = true }
      ∷ record { cells = []; kind = Heap; align = 16; alive = true }
      ∷ record { cells = cell.Byte 1 ∷ no_cells 3; kind = Global; align = 4; alive = true }
      ∷ [];
  named = (4294967299, record { cells = bytes (120 ∷ []); kind = Constant; align = 1; alive = true }) ∷ [];
}

abbrev seen : Reading
seen = reading objects

abbrev reach : Pointer → (bytes align : ℕ) → Bool → Option ℕ
reach p n a stores = reaches seen (record { at = p; bytes = n; align = a; stores = stores })

-- ---- the undefined acts of accesses, each alone

whole_object : reach (Address 0 0) 8 4 false ≡ None
whole_object = refl

last_bytes : reach (Address 0 4) 4 4 true ≡ None
last_bytes = refl

null_is_outside : reach Null 4 4 false ≡ Some 1
null_is_outside = refl

no_object_has_the_number : reach (Address 5 0) 1 1 false ≡ Some 1
no_object_has_the_number = refl

dead_object : reach (Address 1 0) 4 4 false ≡ Some 1
dead_object = refl

across_the_end : reach (Address 0 6) 4 1 false ≡ Some 1
across_the_end = refl

at_the_end : reach (Address 0 8) 1 1 false ≡ Some 1
at_the_end = refl

wrong_offset : reach (Address 0 2) 4 4 false ≡ Some 4
wrong_offset = refl

-- the object itself stands at multiples of 4 alone
stricter_than_the_object : reach (Address 0 0) 8 8 false ≡ Some 4
stricter_than_the_object = refl

store_to_a_constant : reach (Address 2 0) 1 1 true ≡ Some 2
store_to_a_constant = refl

reading_a_constant : reach (Address 2 0) 4 1 false ≡ None
reading_a_constant = refl

object_of_no_bytes_has_none : reach (Address 3 0) 1 1 false ≡ Some 1
object_of_no_bytes_has_none = refl

-- ---- which number comes first where two apply

outside_and_unaligned : reach (Address 0 6) 4 4 false ≡ Some 1
outside_and_unaligned = refl

dead_and_unaligned : reach (Address 1 1) 2 2 false ≡ Some 1
dead_and_unaligned = refl

null_and_unaligned : reach Null 4 4 true ≡ Some 1
null_and_unaligned = refl

outside_and_constant : reach (Address 2 3) 2 1 true ≡ Some 1
outside_and_constant = refl

unaligned_and_constant : reach (Address 2 1) 2 2 true ≡ Some 4
unaligned_and_constant = refl

strict_and_constant : reach (Address 2 0) 4 4 true ≡ Some 4
strict_and_constant = refl

all_three : reach (Address 2 3) 4 4 true ≡ Some 1
all_three = refl

-- ---- an access of no bytes is none

nothing_of_null : reach Null 0 8 true ≡ None
nothing_of_null = refl

nothing_of_the_dead : reach (Address 1 3) 0 4 true ≡ None
nothing_of_the_dead = refl

nothing_of_a_constant : reach (Address 2 9) 0 4 true ≡ None
nothing_of_a_constant = refl

-- ---- reading

reads_cells : read_cells seen (Address 0 2) 3 1 ≡ Gives (bytes (3 ∷ 4 ∷ 5 ∷ []))
reads_cells = refl

reads_undefined_cells : read_cells seen (Address 4 0) 4 4 ≡ Gives (cell.Byte 1 ∷ no_cells 3)
reads_undefined_cells = refl

reads_a_number : read_scalar seen (Address 0 4) 4 (Whole 4 true) ≡ Gives (Number (pos 134678021))
reads_a_number = refl

undefined_number : read_scalar seen (Address 4 0) 4 (Whole 4 true) ≡ IsUndefined 3
undefined_number = refl

-- a read past the end is that, whatever its cells are
outside_and_undefined : read_scalar seen (Address 4 2) 1 (Whole 4 true) ≡ IsUndefined 1
outside_and_undefined = refl

unaligned_and_undefined : read_scalar seen (Address 4 1) 2 (Whole 2 true) ≡ IsUndefined 4
unaligned_and_undefined = refl

no_bool : read_scalar seen (Address 0 1) 1 Truth ≡ IsUndefined 3
no_bool = refl

no_pointer : read_scalar (reading (record objects
    { made = record { cells = bytes (1 ∷ 2 ∷ 3 ∷ 4 ∷ 5 ∷ 6 ∷ 7 ∷ 8 ∷ []); kind = Local; align = 8; alive = true } ∷ [] }))
    (Address 0 0) 8 Nullable ≡ IsUndefined 3
no_pointer = refl

-- null is no value of `*t`
null_read_as_a_reference : read_scalar (reading
    (record objects {
      made = record { cells = bytes (0 ∷ 0 ∷ 0 ∷ 0 ∷ 0 ∷ 0 ∷ 0 ∷ 0 ∷ []); kind = Local; align = 8; alive = true }
          ∷ [];
    })) (Address 0 0) 8 Reference ≡ IsUndefined 3
null_read_as_a_reference = refl

void_is_read_anywhere : read_scalar seen Null 1 (Whole 0 false) ≡ Gives (Number (pos 0))
void_is_read_anywhere = refl

reads_bytes : read_bytes seen (Address 2 1) 2 ≡ Gives (98 ∷ 99 ∷ [])
reads_bytes = refl

no_byte : read_bytes seen (Address 4 0) 2 ≡ IsUndefined 3
no_byte = refl

-- a static object that a constant names
reads_a_named_one : read_bytes seen (Address 4294967299 0) 1 ≡ Gives (120 ∷ [])
reads_a_named_one = refl

-- ---- writing

abbrev two_objects : Objects
two_objects = record {
  made =
      record { cells = bytes (1 ∷ 2 ∷ 3 ∷ 4 ∷ []); kind = Local; align = 4; alive = true }
      ∷ record { cells = bytes (5 ∷ []); kind = Heap; align = 16; alive = true }
      ∷ [];
  named = [];
}

writes_in_the_middle : (write_cells two_objects (Address 0 1) (bytes (9 ∷ 8 ∷ []))).made
    ≡ record { cells = bytes (1 ∷ 9 ∷ 8 ∷ 4 ∷ []); kind = Local; align = 4; alive = true }
    ∷ record { cells = bytes (5 ∷ []); kind = Heap; align = 16; alive = true } ∷ []
writes_in_the_middle = refl

stores_what_it_was_given : store_cells two_objects (Address 1 0) 1 (cell.Undef ∷ [])
    ≡ Gives (record two_objects {
      made = record { cells = bytes (1 ∷ 2 ∷ 3 ∷ 4 ∷ []); kind = Local; align = 4; alive = true }
          ∷ record { cells = cell.Undef ∷ []; kind = Heap; align = 16; alive = true } ∷ [];
    })
stores_what_it_was_given = refl

stores_nothing_anywhere : store_cells two_objects Null 8 [] ≡ Gives two_objects
stores_nothing_anywhere = refl

stores_to_no_constant : store_cells objects (Address 2 0) 1 (bytes (0 ∷ [])) ≡ IsUndefined 2
stores_to_no_constant = refl

-- ---- making and dying

new_ones_come_last : (with_new two_objects (record { cells = []; kind = Local; align = 1; alive = true })).made
    ≡ two_objects.made ++ record { cells = []; kind = Local; align = 1; alive = true } ∷ []
new_ones_come_last = refl

-- a dead object keeps its cells, and its number
dies : (kill two_objects 1).made ≡ record { cells = bytes (1 ∷ 2 ∷ 3 ∷ 4 ∷ []); kind = Local; align = 4; alive = true }
    ∷ record { cells = bytes (5 ∷ []); kind = Heap; align = 16; alive = false } ∷ []
dies = refl

-- locals made since the scope began die; a heap object does not, nor what stood before
scope_ends : (close_scope 0 two_objects).made
    ≡ record { cells = bytes (1 ∷ 2 ∷ 3 ∷ 4 ∷ []); kind = Local; align = 4; alive = false }
    ∷ record { cells = bytes (5 ∷ []); kind = Heap; align = 16; alive = true } ∷ []
scope_ends = refl

scope_spares_what_stood_before : close_scope 1 two_objects ≡ two_objects
scope_spares_what_stood_before = refl
