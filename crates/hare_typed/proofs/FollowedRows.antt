-- Rows of what stands behind pointers, worked out.
use Rattle.std.proofs.Common.{◌≡◌, true, false, [], ◌∷◌, refl}
use Rattle.hare_types.specs.declared.row.Row.TheVariants as row
use Rattle.hare_types.specs.declared.row.Scalar.TheVariants as keyword
use Rattle.hare_types.specs.declared.coercion.Ty.TheVariants as kept
use Rattle.hare_types.specs.Store.{Store}
use Rattle.hare_typed.specs.Answers.{Gives, IsUndefined}
use Rattle.hare_typed.specs.Scalars.{Null, Address, Pointing, Nullable, cells}
use Rattle.hare_typed.specs.Objects.{Local, Reading, reading}
use Rattle.hare_typed.specs.Words.{three}
use Rattle.hare_typed.specs.Followed.{reached_type, followed_place, words_at}
use Rattle.hare_typed.proofs.Samples.{bytes, no_cells}

-- 0: int, 1: *int, 2: **int, 3: []int, 4: *[]int, 5: [3]int, 6: *[3]int
abbrev types : Store
types = record {
  names = [];
  rows = row.Scalar keyword.Int ∷ row.Pointer 0 ∷ row.Pointer 1 ∷ row.Slice 0 ∷ row.Pointer 3 ∷ row.Array 3 0 ∷ row.Pointer 5 ∷ [];
  declared = [];
  listed = [];
}

-- 0: an int; 1: its address; 2: a slice of three; 3: eight zero bytes; 4: an address that is dead; 5: undefined
abbrev seen : Reading
seen = reading record {
  made =
      record { cells = bytes (7 ∷ 0 ∷ 0 ∷ 0 ∷ []); kind = Local; align = 4; alive = true }
      ∷ record { cells = cells Nullable (Pointing (Address 0 0)); kind = Local; align = 8; alive = true }
      ∷ record { cells = three (record { data_at = Address 0 0; length = 3; capacity = 3 }); kind = Local; align = 8; alive = true }
      ∷ record { cells = bytes (0 ∷ 0 ∷ 0 ∷ 0 ∷ 0 ∷ 0 ∷ 0 ∷ 0 ∷ []); kind = Local; align = 8; alive = true }
      ∷ record { cells = cells Nullable (Pointing (Address 0 0)); kind = Local; align = 8; alive = false }
      ∷ record { cells = no_cells 8; kind = Local; align = 8; alive = true }
      ∷ [];
  named = [];
}

-- ---- types

no_pointer : reached_type types (kept.Of 5) ≡ kept.Of 5
no_pointer = refl

two_pointers : reached_type types (kept.Of 2) ≡ kept.Of 0
two_pointers = refl

-- ---- places

place_itself : followed_place types seen (kept.Of 5) (Address 9 4) ≡ Gives (Address 9 4)
place_itself = refl

-- an address is not read: it was the operand's value
one_pointer : followed_place types seen (kept.Of 1) (Address 0 0) ≡ Gives (Address 0 0)
one_pointer = refl

-- the second pointer is read where the first leads
second_is_read : followed_place types seen (kept.Of 2) (Address 1 0) ≡ Gives (Address 0 0)
second_is_read = refl

second_is_null : followed_place types seen (kept.Of 2) (Address 3 0) ≡ IsUndefined 3
second_is_null = refl

second_is_dead : followed_place types seen (kept.Of 2) (Address 4 0) ≡ IsUndefined 1
second_is_dead = refl

second_is_undefined : followed_place types seen (kept.Of 2) (Address 5 0) ≡ IsUndefined 3
second_is_undefined = refl

second_is_not_aligned : followed_place types seen (kept.Of 2) (Address 2 4) ≡ IsUndefined 4
second_is_not_aligned = refl

first_is_null : followed_place types seen (kept.Of 2) Null ≡ IsUndefined 1
first_is_null = refl

-- ---- slices and arrays

array_is_not_read : words_at types seen 5 (Address 8 0) ≡ Gives (record { data_at = Address 8 0; length = 3; capacity = 3 })
array_is_not_read = refl

slice_is_read : words_at types seen 3 (Address 2 0) ≡ Gives (record { data_at = Address 0 0; length = 3; capacity = 3 })
slice_is_read = refl

slice_past_the_end : words_at types seen 3 (Address 1 0) ≡ IsUndefined 1
slice_past_the_end = refl
