-- Which pages ranges meet, which lie in them, and what ranges cover.
use Rattle.std.proofs.Common.{◌≡◌, ◌+◌, ◌-◌, ◌*◌, ◌^◌, List, ℕ, true, false, [], ◌∷◌, Some, None, refl}
use Rattle.std.specs.Ordering.{nat_cmp}
use Rattle.std.specs.BTreeMap.{insert_entry}
use Rattle.il_mem.specs.Kept.{Held, place_in, is_held, byte_of, meets, lies_in, covers}
use Rattle.il_mem.specs.Laid.{are_laid}

-- ---- pages that a range meets

meets_first : meets 4092 8 0 ≡ true
meets_first = refl

meets_second : meets 4092 8 1 ≡ true
meets_second = refl

meets_no_third : meets 4092 8 2 ≡ false
meets_no_third = refl

-- a range that ends with its page
meets_to_the_end : meets 4088 8 1 ≡ false
meets_to_the_end = refl

meets_from_the_start : meets 4096 1 0 ≡ false
meets_from_the_start = refl

-- a range of no bytes
meets_none : meets 100 0 0 ≡ false
meets_none = refl

-- the last byte that may be mapped
meets_last : meets (2 ^ 64 - 2) 1 (2 ^ 52 - 1) ≡ true
meets_last = refl

-- ---- pages that lie in a range

lies_whole : lies_in 4096 4096 1 ≡ true
lies_whole = refl

lies_one_short : lies_in 4096 4095 1 ≡ false
lies_one_short = refl

lies_one_late : lies_in 4097 8192 1 ≡ false
lies_one_late = refl

lies_next : lies_in 4097 8192 2 ≡ true
lies_next = refl

lies_next_short : lies_in 4097 8190 2 ≡ false
lies_next_short = refl

lies_between : lies_in 4097 9000 2 ≡ true
lies_between = refl

-- ---- places and bytes

abbrev three_pages : List ℕ
three_pages = 7 ∷ 2 ∷ 9 ∷ []

place_second : place_in three_pages 2 ≡ Some 1
place_second = refl

place_missing : place_in three_pages 3 ≡ None
place_missing = refl

-- a page of which only the first bytes matter here
abbrev one_page : Held
one_page = record { fill = 165; pages = 2 ∷ []; bytes = 1 ∷ 2 ∷ 3 ∷ [] }

byte_held : byte_of one_page (2 * 4096 + 1) ≡ 2
byte_held = refl

byte_bare : byte_of one_page (3 * 4096 + 1) ≡ 165
byte_bare = refl

held_yes : is_held one_page 2 ≡ true
held_yes = refl

held_no : is_held one_page 0 ≡ false
held_no = refl

-- ---- ranges

abbrev two_ranges : List (ℕ × ℕ)
two_ranges = (100, 104) ∷ (104, 110) ∷ []

covers_before : covers two_ranges 99 ≡ false
covers_before = refl

covers_first : covers two_ranges 100 ≡ true
covers_first = refl

covers_across : covers two_ranges 104 ≡ true
covers_across = refl

covers_behind : covers two_ranges 110 ≡ false
covers_behind = refl

laid_touching : are_laid 0 two_ranges ≡ true
laid_touching = refl

laid_crossing : are_laid 0 ((100, 105) ∷ (104, 110) ∷ []) ≡ false
laid_crossing = refl

laid_empty : are_laid 0 ((100, 100) ∷ []) ≡ false
laid_empty = refl

laid_last : are_laid 0 ((100, 2 ^ 64 - 1) ∷ []) ≡ true
laid_last = refl

laid_past : are_laid 0 ((100, 2 ^ 64) ∷ []) ≡ false
laid_past = refl

-- a new range stands in its place
inserted_between : insert_entry nat_cmp two_ranges 110 120 ≡ (100, 104) ∷ (104, 110) ∷ (110, 120) ∷ []
inserted_between = refl

inserted_first : insert_entry nat_cmp two_ranges 90 95 ≡ (90, 95) ∷ (100, 104) ∷ (104, 110) ∷ []
inserted_first = refl
