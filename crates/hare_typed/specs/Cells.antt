-- Cells: what values and objects are made of. A cell is a byte, one of the eight fragments of a pointer, or undefined.
use Rattle.std.specs.Prelude.{ℕ, zero, suc, Bool, true, false, ◌&&◌, nat_eq, List, [], ◌∷◌, take, drop, map, replicate, Option, Some, None, option_map}
use Rattle.hare_typed.specs.declared.cell.Cell.{Cell}
use Rattle.hare_typed.specs.declared.cell.Cell.TheVariants as cell

-- ---- bytes

abbrev pub byte_cells : List ℕ → List Cell
byte_cells bs = map cell.Byte bs

-- the bytes that the cells are, where each is one
abbrev pub bytes_of : List Cell → Option (List ℕ)
bytes_of [] = Some []
bytes_of (cell.Byte b ∷ cs) = option_map (λ bs. b ∷ bs) (bytes_of cs)
bytes_of (cell.Fragment o d k ∷ cs) = None
bytes_of (cell.Undef ∷ cs) = None

-- ---- pointers

-- so many fragments of the pointer to offset d of object o, from the one with place k on
abbrev pub fragments : (o d k n : ℕ) → List Cell
fragments o d k zero = []
fragments o d k (suc n) = cell.Fragment o d k ∷ fragments o d (suc k) n

-- whether the cells are the fragments of the pointer to offset d of object o from the one with place k on, in order
abbrev pub are_fragments : (o d k : ℕ) → List Cell → Bool
are_fragments o d k [] = true
are_fragments o d k (cell.Fragment p e l ∷ cs) = (nat_eq o p && (nat_eq d e && nat_eq k l)) && are_fragments o d (suc k) cs
are_fragments o d k (cell.Byte b ∷ cs) = false
are_fragments o d k (cell.Undef ∷ cs) = false

-- ---- parts of values

-- so many cells from place `at` on
abbrev pub cells_within : (at n : ℕ) → List Cell → List Cell
cells_within at n cs = take n (drop at cs)

abbrev pub undefined_cells : ℕ → List Cell
undefined_cells n = replicate n cell.Undef

-- the cells with others in the place of those from `at` on; what would lie behind the end is left out
abbrev pub with_cells : (at : ℕ) → List Cell → List Cell → List Cell
with_cells zero [] cs = cs
with_cells zero (n ∷ ns) [] = []
with_cells zero (n ∷ ns) (c ∷ cs) = n ∷ with_cells zero ns cs
with_cells (suc at) ns [] = []
with_cells (suc at) ns (c ∷ cs) = c ∷ with_cells at ns cs
