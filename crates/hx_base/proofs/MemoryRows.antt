-- What small memories hold.
use Rattle.std.proofs.Common.{◌≡◌, ◌-◌, ◌^◌, true, false, [], ◌∷◌, Some, None, refl}
use Rattle.std.specs.Prelude.{option_and_then}
use Rattle.hx_base.specs.Memory.{Memory, le_bytes, le_number, round_up, empty_memory, is_mapped, bytes_at, map_range, unmap_range, clear_range, load, store, move, same}

-- ---- numbers

le_bytes_4 : le_bytes 4 4278387201 ≡ 1 ∷ 2 ∷ 3 ∷ 255 ∷ []
le_bytes_4 = refl

-- what is above is cut
le_bytes_1 : le_bytes 1 511 ≡ 255 ∷ []
le_bytes_1 = refl

le_number_4 : le_number (1 ∷ 2 ∷ 3 ∷ 255 ∷ []) ≡ 4278387201
le_number_4 = refl

round_up_16 : round_up 16 16 ≡ 16
round_up_16 = refl

round_up_17 : round_up 17 16 ≡ 32
round_up_17 = refl

round_up_0 : round_up 0 8 ≡ 0
round_up_0 = refl

-- ---- ranges

-- the addresses 100 to 103, and then 104 to 107
abbrev two_ranges : Memory
two_ranges = map_range (map_range (empty_memory 7) 100 4) 104 4

-- ranges that touch are one
load_across : load two_ranges 102 4 ≡ Some 117901063
load_across = refl

load_behind : load two_ranges 101 8 ≡ None
load_behind = refl

load_before : load two_ranges 99 1 ≡ None
load_before = refl

store_behind : store two_ranges 106 4 0 ≡ None
store_behind = refl

-- no bytes are mapped anywhere
move_none : option_and_then (λ (m : Memory). load m 100 1) (move two_ranges 5 9 0) ≡ Some 7
move_none = refl

-- the last byte that has an address, and one behind it
load_last : load (map_range (empty_memory 7) (2 ^ 64 - 1) 1) (2 ^ 64 - 1) 1 ≡ Some 7
load_last = refl

load_past : load (map_range (empty_memory 7) (2 ^ 64 - 1) 1) (2 ^ 64 - 1) 2 ≡ None
load_past = refl

-- ---- bytes

abbrev filled : Memory
filled = record { fill = 7; written = (100, 1) ∷ (101, 2) ∷ (102, 3) ∷ (103, 4) ∷ []; mappings = two_ranges.mappings }

stored : option_and_then (λ (m : Memory). Some (bytes_at m 99 6)) (store filled 101 2 65535) ≡ Some (7 ∷ 1 ∷ 255 ∷ 255 ∷ 4 ∷ 7 ∷ [])
stored = refl

-- copied to where it overlaps, up and down
moved_up : option_and_then (λ (m : Memory). Some (bytes_at m 100 8)) (move filled 102 100 4) ≡ Some (1 ∷ 2 ∷ 1 ∷ 2 ∷ 3 ∷ 4 ∷ 7 ∷ 7 ∷ [])
moved_up = refl

moved_down : option_and_then (λ (m : Memory). Some (bytes_at m 100 8)) (move filled 100 101 3) ≡ Some (2 ∷ 3 ∷ 4 ∷ 4 ∷ 7 ∷ 7 ∷ 7 ∷ 7 ∷ [])
moved_down = refl

same_filled : same filled 104 105 3 ≡ Some true
same_filled = refl

same_not : same filled 100 101 1 ≡ Some false
same_not = refl

same_wild : same filled 100 105 4 ≡ None
same_wild = refl

-- what is unmapped is kept, and what is cleared is not
kept : bytes_at (map_range (unmap_range filled 101 2) 101 2) 100 4 ≡ 1 ∷ 2 ∷ 3 ∷ 4 ∷ []
kept = refl

unmapped : is_mapped (unmap_range filled 101 2) 102 ≡ false
unmapped = refl

beside_unmapped : is_mapped (unmap_range filled 101 2) 103 ≡ true
beside_unmapped = refl

cleared : bytes_at (clear_range filled 101 2) 100 4 ≡ 1 ∷ 7 ∷ 7 ∷ 4 ∷ []
cleared = refl
