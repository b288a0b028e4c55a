-- Cells that stand at places among undefined ones.
use Rattle.std.proofs.Common.{◌≡◌, ◌∙◌, sym, ap, subst, refl, ℕ, zero, suc, ◌+◌, ◌-◌, ◌%◌, ◌^◌, ◌<◌, ◌≤◌, arith, List, [], ◌∷◌, ◌++◌, length, append_assoc, drop}
use Rattle.std.specs.Prelude.{pos, Option, Some, None, IsSome, option_map, unwrap_or}
use Rattle.std.proofs.lemmas.List.{length-replicate, replicate-append-replicate, drop_at, length-map}
use Rattle.std.proofs.Math.Nat.{mod-eq_of_lt}
use Rattle.hx_base.specs.Memory.{le_bytes}
use Rattle.hx_base.proofs.Memory.Numbers.{length-le_bytes}
use Rattle.hare_typed.specs.declared.cell.Cell.{Cell}
use Rattle.hare_typed.specs.declared.cell.Cell.TheVariants as cell
use Rattle.hare_typed.specs.Cells.{with_cells, undefined_cells, byte_cells}
use Rattle.hare_typed.specs.Repeats.{again}
use Rattle.hare_typed.specs.Scalars.{Number, cells}
use Rattle.hare_typed.specs.Unions.{tag_shape, tag_of, payload_of, union_cells}
use Rattle.hare_types.specs.Store.{Store}
use Rattle.hare_types.specs.declared.extent.Extent.{Extent}
use Rattle.hare_types.specs.ByIds.{members_at, payload_at, size_at, align_at}
use Rattle.hare_layout.proofs.PlacesLemmas.{payload-align}
use Rattle.hare_typed.specs.Sizes.{Fits}

-- ---- undefined cells

again-one : (n : ℕ) → again n (cell.Undef ∷ []) ≡ undefined_cells n
again-one zero = refl
again-one (suc n) = ap (λ cs. cell.Undef ∷ cs) (again-one n)

-- one that is put behind cells and repeated
pub more_undefined : (cs one : List Cell) (n : ℕ) → 0 < n → one ≡ cs ++ cell.Undef ∷ [] →
    one ++ again (n - 1) (drop (length cs) one) ≡ cs ++ undefined_cells n
more_undefined cs one n h e =
    let part : drop (length cs) one ≡ cell.Undef ∷ [] = ap (drop (length cs)) e ∙ drop_at cs (cell.Undef ∷ []) (length cs) refl in
    let count : suc (n - 1) ≡ n = omega arith in
    ap (λ xs. one ++ again (n - 1) xs) part
    ∙ ap (λ xs. one ++ xs) (again-one (n - 1))
    ∙ ap (λ xs. xs ++ undefined_cells (n - 1)) e
    ∙ append_assoc cs (cell.Undef ∷ []) (undefined_cells (n - 1))
    ∙ ap (λ k. cs ++ undefined_cells k) count

-- ---- cells in the place of others

with_first : (ns ys zs : List Cell) → length ys ≡ length ns → with_cells 0 ns (ys ++ zs) ≡ ns ++ zs
with_first [] [] zs e = refl
with_first [] (y ∷ ys) zs e = absurd (omega arith)
with_first (n ∷ ns) [] zs e = absurd (omega arith)
with_first (n ∷ ns) (y ∷ ys) zs e = ap (λ xs. n ∷ xs) (with_first ns ys zs (omega arith))

pub with_later : (at : ℕ) (ns xs ys zs : List Cell) → length xs ≡ at → length ys ≡ length ns →
    with_cells at ns (xs ++ (ys ++ zs)) ≡ xs ++ (ns ++ zs)
with_later zero ns [] ys zs e f = with_first ns ys zs f
with_later zero ns (x ∷ xs) ys zs e f = absurd (omega arith)
with_later (suc at) ns [] ys zs e f = absurd (omega arith)
with_later (suc at) ns (x ∷ xs) ys zs e f = ap (λ cs. x ∷ cs) (with_later at ns xs ys zs (omega arith) f)

-- so many undefined cells as so many and so many more
pub apart : (m k n : ℕ) → m + k ≡ n → undefined_cells n ≡ undefined_cells m ++ undefined_cells k
apart m k n e = ap undefined_cells (sym e) ∙ sym (replicate-append-replicate m k cell.Undef)

payload_put : (cs : List Cell) (p n : ℕ) → p + length cs ≤ n →
    with_cells p cs (undefined_cells n) ≡ undefined_cells p ++ (cs ++ undefined_cells (n - p - length cs))
payload_put cs p n h =
    let rest : ℕ = n - p - length cs in
    let whole : undefined_cells n ≡ undefined_cells p ++ (undefined_cells (length cs) ++ undefined_cells rest) =
    apart p (length cs + rest) n (omega arith) ∙ ap (λ xs. undefined_cells p ++ xs) (apart (length cs) rest (length cs + rest) refl) in
    ap (with_cells p cs) whole
    ∙ with_later p cs (undefined_cells p) (undefined_cells (length cs)) (undefined_cells rest) (length-replicate p cell.Undef)
    (length-replicate (length cs) cell.Undef)

-- a tag, and a payload behind it
pub tag_and_payload : (tag cs : List Cell) (p n : ℕ) → length tag ≡ 4 → 4 ≤ p → p + length cs ≤ n →
    with_cells 0 tag (with_cells p cs (undefined_cells n)) ≡ ((tag ++ undefined_cells (p - 4)) ++ cs) ++ undefined_cells (n - p - length cs)
tag_and_payload tag cs p n e l h =
    let behind : List Cell = cs ++ undefined_cells (n - p - length cs) in
    ap (with_cells 0 tag) (payload_put cs p n h)
    ∙ ap (λ xs. with_cells 0 tag (xs ++ behind)) (apart 4 (p - 4) p (omega arith))
    ∙ ap (with_cells 0 tag) (append_assoc (undefined_cells 4) (undefined_cells (p - 4)) behind)
    ∙ with_first tag (undefined_cells 4) (undefined_cells (p - 4) ++ behind) (sym e)
    ∙ sym (append_assoc tag (undefined_cells (p - 4)) behind)
    ∙ sym (append_assoc (tag ++ undefined_cells (p - 4)) cs (undefined_cells (n - p - length cs)))

-- ---- tags

pub length_tag : (n : ℕ) → length (byte_cells (le_bytes 4 n)) ≡ 4
length_tag n = length-map (le_bytes 4 n) cell.Byte ∙ length-le_bytes 4 n

pub tag_cells : (n : ℕ) → n < 2 ^ 32 → cells tag_shape (Number (pos n)) ≡ byte_cells (le_bytes 4 n)
tag_cells n h = let e : n % 2 ^ 32 ≡ n = mod-eq_of_lt h in ap (λ k. byte_cells (le_bytes 4 k)) e

-- ---- a value of a union

-- what the calls gave of which it is made: its tag, the cells up to the payload, and those up to its end
pub record UnionBuilt (s : Store) (u m : ℕ) (cs tagged padded joined : List Cell) (tag p n l : ℕ) : Type 0 where
  pub named : tag_of s m ≡ tag
  pub short : tag < 2 ^ 32
  pub payload : payload_at s u ≡ Some p
  pub size : size_at s u ≡ n
  pub behind : 4 ≤ payload_of s u
  pub within : payload_of s u + length cs ≤ size_at s u
  pub first : tagged ≡ byte_cells (le_bytes 4 tag)
  pub next : padded ≡ tagged ++ undefined_cells (p - 4)
  pub last : joined ≡ padded ++ cs
  pub long : l ≡ length cs

pub union_given : (s : Store) (u m : ℕ) (cs tagged padded joined : List Cell) (tag p n l : ℕ) →
    UnionBuilt s u m cs tagged padded joined tag p n l →
    joined ++ undefined_cells (n - p - l) ≡ union_cells s u m cs
union_given s u m cs tagged padded joined tag p n l b =
    let bytes : List Cell = byte_cells (le_bytes 4 tag) in
    let start : payload_of s u ≡ p = ap (λ o. unwrap_or o 0) b.payload in
    let behind : 4 ≤ p = subst (λ k. 4 ≤ k) start b.behind in
    let room : p + length cs ≤ n = subst (λ k. p + length cs ≤ k) b.size (subst (λ k. k + length cs ≤ size_at s u) start b.within) in
    let cells_are : joined ≡ (bytes ++ undefined_cells (p - 4)) ++ cs =
    b.last ∙ ap (λ xs. xs ++ cs) b.next ∙ ap (λ xs. (xs ++ undefined_cells (p - 4)) ++ cs) b.first in
    let tag_is : cells tag_shape (Number (pos (tag_of s m))) ≡ bytes =
    ap (λ k. cells tag_shape (Number (pos k))) b.named ∙ tag_cells tag b.short in
    ap (λ k. joined ++ undefined_cells (n - p - k)) b.long
    ∙ ap (λ xs. xs ++ undefined_cells (n - p - length cs)) cells_are
    ∙ sym (tag_and_payload bytes cs p n (length_tag tag) behind room)
    ∙ ap (λ xs. with_cells 0 xs (with_cells p cs (undefined_cells n))) (sym tag_is)
    ∙ ap (λ k. with_cells 0 (cells tag_shape (Number (pos (tag_of s m)))) (with_cells k cs (undefined_cells n))) (sym start)
    ∙ ap (λ k. with_cells 0 (cells tag_shape (Number (pos (tag_of s m)))) (with_cells (payload_of s u) cs (undefined_cells k))) (sym b.size)

-- the payload begins at the alignment of the union
pub payload_aligned : (s : Store) (u n : ℕ) → Fits s u → IsSome (members_at s u) → align_at s u ≡ n → payload_at s u ≡ Some n
payload_aligned s u n h k e = by (members_at s u) refl k
  where
    align : h.extent.align ≡ n
    align = sym (ap (λ o. unwrap_or (option_map (λ (x : Extent). x.align) o) 1) h.at) ∙ e

    by : (o : Option (List ℕ)) → members_at s u ≡ o → IsSome o → payload_at s u ≡ Some n
    by None g some = absurd cc
    by (Some is) g some = payload-align s u h.extent is h.at g ∙ ap Some align
