-- Rows of operations on pointers, slices and strings, worked out.
use Rattle.std.proofs.Common.{◌≡◌, ℕ, ◌^◌, ◌++◌, true, false, [], ◌∷◌, refl}
use Rattle.hare_typed.specs.Answers.{Gives, Aborts, IsUndefined}
use Rattle.hare_typed.specs.Scalars.{Null, Address, Pointing, Nullable, cells}
use Rattle.hare_typed.specs.Objects.{Local, Heap, Constant, Reading, reading}
use Rattle.hare_typed.specs.Pointers.{move, same_pointer}
use Rattle.hare_typed.specs.Words.{Words, three, words, element_at, sliced, same_text, size_cells}
use Rattle.hare_typed.proofs.Samples.{bytes, no_cells}

-- 0: a local of twelve bytes; 1: a dead local of four; 2: `abcd`; 3: `abcd` again, with two undefined cells behind; 4: an object of no
-- bytes
abbrev seen : Reading
seen = reading record {
  made =
      record { cells = bytes (1 ∷ 0 ∷ 0 ∷ 0 ∷ 2 ∷ 0 ∷ 0 ∷ 0 ∷ 3 ∷ 0 ∷ 0 ∷ 0 ∷ []); kind = Local; align = 4; alive = true }
      ∷ record { cells = bytes (97 ∷ 98 ∷ 99 ∷ 100 ∷ []); kind = Local; align = 4; alive = false }
      ∷ record { cells = bytes (97 ∷ 98 ∷ 99 ∷ 100 ∷ []); kind = Constant; align = 1; alive = true }
      ∷ record { cells = bytes (97 ∷ 98 ∷ 99 ∷ 100 ∷ []) ++ no_cells 2; kind = Heap; align = 16; alive = true }
      ∷ record { cells = []; kind = Local; align = 4; alive = true }
      ∷ [];
  named = [];
}

-- ---- moving a pointer

moves_on : move seen (Address 0 4) 4 ≡ Gives (Address 0 8)
moves_on = refl

moves_to_the_end : move seen (Address 0 4) 8 ≡ Gives (Address 0 12)
moves_to_the_end = refl

moves_past_the_end : move seen (Address 0 4) 9 ≡ IsUndefined 1
moves_past_the_end = refl

null_stays : move seen Null 0 ≡ Gives Null
null_stays = refl

null_moves : move seen Null 4 ≡ IsUndefined 1
null_moves = refl

-- whether the object lives is not looked at
moves_in_the_dead : move seen (Address 1 0) 4 ≡ Gives (Address 1 4)
moves_in_the_dead = refl

-- an object of no bytes has an extent of 1
moves_to_the_end_of_nothing : move seen (Address 4 0) 1 ≡ Gives (Address 4 1)
moves_to_the_end_of_nothing = refl

moves_past_nothing : move seen (Address 4 0) 2 ≡ IsUndefined 1
moves_past_nothing = refl

-- ---- comparing pointers

same_place : same_pointer seen (Address 0 4) (Address 0 4) ≡ Gives true
same_place = refl

other_offset : same_pointer seen (Address 0 4) (Address 0 8) ≡ Gives false
other_offset = refl

both_null : same_pointer seen Null Null ≡ Gives true
both_null = refl

one_null : same_pointer seen (Address 0 0) Null ≡ Gives false
one_null = refl

other_object : same_pointer seen (Address 0 4) (Address 2 0) ≡ Gives false
other_object = refl

dead_one : same_pointer seen (Address 1 0) (Address 0 0) ≡ IsUndefined 6
dead_one = refl

dead_beside_null : same_pointer seen Null (Address 1 0) ≡ IsUndefined 6
dead_beside_null = refl

dead_beside_itself : same_pointer seen (Address 1 0) (Address 1 0) ≡ IsUndefined 6
dead_beside_itself = refl

-- the end of one object against the start of another
end_against_start : same_pointer seen (Address 0 12) (Address 2 0) ≡ IsUndefined 6
end_against_start = refl

start_against_end : same_pointer seen (Address 2 0) (Address 0 12) ≡ IsUndefined 6
start_against_end = refl

ends_of_one_object : same_pointer seen (Address 0 12) (Address 0 12) ≡ Gives true
ends_of_one_object = refl

end_beside_null : same_pointer seen (Address 0 12) Null ≡ Gives false
end_beside_null = refl

-- the one place of an object of no bytes is not its end
nothing_against_start : same_pointer seen (Address 4 0) (Address 0 0) ≡ Gives false
nothing_against_start = refl

-- ---- three words

abbrev ints : Words
ints = record { data_at = Address 0 0; length = 3; capacity = 3 }

three_of_ints : three ints ≡ cells Nullable (Pointing (Address 0 0)) ++ bytes
    (3 ∷ 0 ∷ 0 ∷ 0 ∷ 0 ∷ 0 ∷ 0 ∷ 0 ∷ 3 ∷ 0 ∷ 0 ∷ 0 ∷ 0 ∷ 0 ∷ 0 ∷ 0 ∷ [])
three_of_ints = refl

words_of_three : words (three ints) ≡ Gives ints
words_of_three = refl

words_of_null : words (three (record { data_at = Null; length = 0; capacity = 0 }))
    ≡ Gives (record { data_at = Null; length = 0; capacity = 0 })
words_of_null = refl

-- each word is read, also one that is not used
undefined_capacity : words (cells Nullable (Pointing Null) ++ size_cells 1 ++ no_cells 8) ≡ IsUndefined 3
undefined_capacity = refl

undefined_length : words (cells Nullable (Pointing Null) ++ no_cells 8 ++ size_cells 1) ≡ IsUndefined 3
undefined_length = refl

undefined_data : words (no_cells 8 ++ size_cells 1 ++ size_cells 1) ≡ IsUndefined 3
undefined_data = refl

-- ---- indexes

first_element : element_at seen ints 4 0 ≡ Gives (Address 0 0)
first_element = refl

last_element : element_at seen ints 4 2 ≡ Gives (Address 0 8)
last_element = refl

at_the_length : element_at seen ints 4 3 ≡ Aborts 0
at_the_length = refl

-- an index has no sign
at_two_to_the_63 : element_at seen ints 4 (2 ^ 63) ≡ Aborts 0
at_two_to_the_63 = refl

-- the abort comes before the pointer is moved
past_a_false_length : element_at seen (record { data_at = Address 0 0; length = 9; capacity = 9 }) 4 8 ≡ IsUndefined 1
past_a_false_length = refl

past_null : element_at seen (record { data_at = Null; length = 9; capacity = 9 }) 4 1 ≡ IsUndefined 1
past_null = refl

first_past_null : element_at seen (record { data_at = Null; length = 9; capacity = 9 }) 4 0 ≡ Gives Null
first_past_null = refl

-- ---- slices

from_one : sliced seen ints 4 1 3 ≡ Gives (record { data_at = Address 0 4; length = 2; capacity = 2 })
from_one = refl

nothing_at_the_end : sliced seen ints 4 3 3 ≡ Gives (record { data_at = Address 0 12; length = 0; capacity = 0 })
nothing_at_the_end = refl

backwards : sliced seen ints 4 2 1 ≡ Aborts 0
backwards = refl

past_the_length : sliced seen ints 4 0 4 ≡ Aborts 0
past_the_length = refl

nothing_of_null : sliced seen (record { data_at = Null; length = 0; capacity = 0 }) 4 0 0
    ≡ Gives (record { data_at = Null; length = 0; capacity = 0 })
nothing_of_null = refl

-- a length beyond the capacity is no fault: the capacity is counted modulo 2^64
capacity_wraps_round : sliced seen (record { data_at = Address 0 0; length = 3; capacity = 0 }) 4 1 3
    ≡ Gives (record { data_at = Address 0 4; length = 2; capacity = 18446744073709551615 })
capacity_wraps_round = refl

-- ---- strings

abbrev text : (object length : ℕ) → Words
text o n = record { data_at = Address o 0; length = n; capacity = n }

equal_texts : same_text seen (text 2 4) (text 3 4) ≡ Gives true
equal_texts = refl

unequal_texts : same_text seen (text 2 1) (record { data_at = Address 2 1; length = 1; capacity = 3 }) ≡ Gives false
unequal_texts = refl

-- where the lengths differ nothing is read, not even of a dead object
lengths_come_first : same_text seen (text 1 4) (text 2 3) ≡ Gives false
lengths_come_first = refl

text_of_the_dead : same_text seen (text 1 4) (text 2 4) ≡ IsUndefined 1
text_of_the_dead = refl

dead_on_the_right : same_text seen (text 2 4) (text 1 4) ≡ IsUndefined 1
dead_on_the_right = refl

text_past_the_end : same_text seen (text 2 5) (text 2 5) ≡ IsUndefined 1
text_past_the_end = refl

text_of_undefined : same_text seen (text 3 5) (text 3 5) ≡ IsUndefined 3
text_of_undefined = refl

-- both are accessed before the bytes of either are looked at
access_before_bytes : same_text seen (text 3 5) (text 2 5) ≡ IsUndefined 1
access_before_bytes = refl

empty_texts_are_equal : same_text seen (record { data_at = Null; length = 0; capacity = 0 }) (text 1 0) ≡ Gives true
empty_texts_are_equal = refl
