-- The cells of addresses and of slices.
use Rattle.std.proofs.Common.{◌≡◌, ◌∙◌, sym, ap, ℕ, ◌+◌, ◌%◌, ◌^◌, ◌<◌, List, [], ◌++◌}
use Rattle.std.proofs.Math.Nat.{mod-eq_of_lt}
use Rattle.hx_base.specs.Memory.{le_bytes}
use Rattle.hare_typed.specs.declared.cell.Cell.{Cell}
use Rattle.hare_typed.specs.Cells.{byte_cells}
use Rattle.hare_typed.specs.Scalars.{Nullable, Pointing, Address, cells}
use Rattle.hare_typed.specs.Words.{three, size_cells}

word_cells : (n : ℕ) → n < 2 ^ 64 → size_cells n ≡ byte_cells (le_bytes 8 n)
word_cells n h = let e : n % 2 ^ 64 ≡ n = mod-eq_of_lt h in ap (λ k. byte_cells (le_bytes 8 k)) e

-- an address, and two words behind it
pub slice_given : (o n : ℕ) (none one two three_words word : List Cell) → n < 2 ^ 64 → none ≡ [] →
    word ≡ byte_cells (le_bytes 8 n) → one ≡ none ++ cells Nullable (Pointing (Address o 0)) → two ≡ one ++ word → three_words ≡ two ++ word →
    three_words ≡ three (record { data_at = Address o 0; length = n; capacity = n })
slice_given o n none one two three_words word h z b e f g =
    let w : word ≡ size_cells n = b ∙ sym (word_cells n h) in
    g ∙ ap (λ xs. xs ++ word) (f ∙ ap (λ xs. xs ++ word) (e ∙ ap (λ xs. xs ++ cells Nullable (Pointing (Address o 0))) z))
    ∙ ap (λ x. (cells Nullable (Pointing (Address o 0)) ++ x) ++ x) w
