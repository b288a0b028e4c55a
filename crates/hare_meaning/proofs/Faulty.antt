-- Values and statements that lead to undefined acts. Where one takes a number n, so many bindings begin before it.
use Rattle.std.proofs.Common.{ℕ, ◌+◌, ◌*◌, ◌^◌, [], ◌∷◌, ◌++◌, codes, map}
use Rattle.hare_tree.specs.declared.kind.Kind.TheVariants as kind
use Rattle.hx_base.specs.Memory.{le_bytes}
use Rattle.hare_typed.specs.declared.cell.Cell.TheVariants as cell
use Rattle.hare_typed.specs.Cells.{byte_cells}
use Rattle.hare_typed.specs.Typed.{TypedNode}
use Rattle.hare_meaning.proofs.Samples.{str, str_pointer, u8, int, size, pointer, byte_pointer, pointer_to_pointer, slice_pointer, bytes, three_ints, four_bytes, int_or_bool, new_bytes}
use Rattle.hare_meaning.proofs.Trees.{to, numbered, known, node, one, rt, text, giving, bind, local, global, hand, set, n8, num, array, part, index, type_node, alloc_for, free, sure, absent}

abbrev pub four : TypedNode
four = array four_bytes (n8 1 ∷ n8 2 ∷ n8 3 ∷ n8 4 ∷ [])

-- a pointer as one to values of another type
abbrev pub cast : ℕ → TypedNode → TypedNode
cast t e = node kind.Cast [] 0 t (e ∷ type_node t ∷ [])

abbrev pub address : ℕ → TypedNode → TypedNode
address t e = one kind.Addr t e

abbrev pub deref : ℕ → TypedNode → TypedNode
deref t e = one kind.Deref t e

-- ---- what lives no longer

-- the address of a local of an inner block, behind that
abbrev pub dangling : ℕ → TypedNode
dangling n = giving byte_pointer (bind (n8 2) ∷ hand (address byte_pointer (local n u8)) ∷ [])

-- a slice of four bytes, freed
abbrev pub freed_slice : ℕ → TypedNode
freed_slice n =
    giving bytes (bind (sure bytes (alloc_for new_bytes four 4)) ∷ free (local n bytes) ∷ hand (local n bytes) ∷ [])

-- ---- constants

-- the bytes of a text
abbrev pub text_bytes : TypedNode
text_bytes = rt 3 bytes (text 0 (codes "abcd") ∷ [])

-- a slice of four bytes, over an array that has node 5
abbrev pub slice_of_four : TypedNode
slice_of_four = to 7 bytes (numbered 5 four)

-- a constant slice of so many bytes, with room for so many, over the array in the value of the third declaration
abbrev pub words_over_four : (length capacity : ℕ) → TypedNode
words_over_four l c =
    known (map (λ k. cell.Fragment (3 * 2 ^ 32 + 5) 0 k) (0 ∷ 1 ∷ 2 ∷ 3 ∷ 4 ∷ 5 ∷ 6 ∷ 7 ∷ [])
    ++ byte_cells (le_bytes 8 l) ++ byte_cells (le_bytes 8 c))
    (global 3 bytes)

-- ---- slices and texts

-- a local slice as a text of its bytes
abbrev pub as_text : ℕ → TypedNode
as_text x = deref str (cast str_pointer (address slice_pointer (local x bytes)))

-- the place of the lower half of a local slice's length
abbrev pub length_of : ℕ → TypedNode
length_of x = index int (deref three_ints (cast pointer (address slice_pointer (local x bytes)))) (num size 2)

-- a local slice gets another length
abbrev pub of_length : (local length : ℕ) → TypedNode
of_length x n = set (length_of x) (num int n)

-- the length of a local slice becomes an address, so that its words spell nothing
abbrev pub broken : ℕ → TypedNode
broken x = set (deref byte_pointer (cast pointer_to_pointer (address pointer (length_of x)))) (address slice_pointer (local x bytes))

-- a slice of the first four bytes of a local pointer, which are no bytes
abbrev pub fragments : ℕ → TypedNode
fragments x =
    part bytes (deref four_bytes (cast byte_pointer (address byte_pointer (local x byte_pointer)))) absent absent

-- the same of a pointer that is dead
abbrev pub dead_fragments : ℕ → TypedNode
dead_fragments n =
    giving bytes (bind (n8 1) ∷ bind (address byte_pointer (local n u8)) ∷ hand (fragments (n + 1)) ∷ [])

-- ---- unions

abbrev pub a_union : TypedNode
a_union = to 9 int_or_bool (num int 5)

-- the first byte of a local union becomes 99, which is no tag
abbrev pub overwritten : ℕ → TypedNode
overwritten x = set (deref u8 (cast byte_pointer (address byte_pointer (local x int_or_bool)))) (n8 99)

-- the payload of a local union becomes four fragments of a local pointer, which spell no int
abbrev pub spoiled : (union pointer : ℕ) → TypedNode
spoiled x p =
    set
    (deref four_bytes (cast byte_pointer (address pointer
    (index int (deref three_ints (cast pointer (address byte_pointer (local x int_or_bool)))) (num size 1)))))
    (deref four_bytes (cast byte_pointer (address byte_pointer (local p byte_pointer))))
