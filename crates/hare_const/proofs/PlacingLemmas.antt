-- Cells in the place of others, one by one and behind those that are known.
use Rattle.std.proofs.Common.{◌≡◌, ◌∙◌, sym, ap, refl, ℕ, zero, suc, ◌+◌, ◌-◌, ◌≤◌, ◌<◌, arith, List, [], ◌∷◌, ◌++◌, append_assoc, length}
use Rattle.std.specs.Prelude.{slice_get, Some, None}
use Rattle.std.proofs.lemmas.List.{length-append, length-replicate}
use Rattle.hare_typed.specs.declared.cell.Cell.{Cell}
use Rattle.hare_typed.specs.declared.cell.Cell.TheVariants as cell
use Rattle.hare_typed.specs.Cells.{with_cells, undefined_cells}
use Rattle.hare_const.specs.NodeValues.{filled}
use Rattle.hare_const.specs.declared.outcome.Outcome.{Outcome}
use Rattle.hare_const.specs.declared.placing.Part.{Part}
use Rattle.hare_const.specs.Placing.{cells_in, placed, Holds}
use Rattle.hare_const.proofs.UnionLemmas.{with_later, apart}

-- ---- one by one

pub before_part : (at place : ℕ) (ns cs : List Cell) → place < at → slice_get (with_cells at ns cs) place ≡ slice_get cs place
before_part zero place ns cs h = absurd (omega arith)
before_part (suc at) place ns [] h = refl
before_part (suc at) zero ns (c ∷ cs) h = refl
before_part (suc at) (suc place) ns (c ∷ cs) h = before_part at place ns cs (omega arith)

first_part : (k : ℕ) (x : Cell) (ns cs : List Cell) → slice_get ns k ≡ Some x → k < length cs → slice_get (with_cells 0 ns cs) k ≡ Some x
first_part k x [] cs e h = cc
first_part k x (n ∷ ns) [] e h = absurd (omega arith)
first_part zero x (n ∷ ns) (c ∷ cs) e h = e
first_part (suc k) x (n ∷ ns) (c ∷ cs) e h = first_part k x ns cs e (omega arith)

past_first : (k : ℕ) (ns cs : List Cell) → slice_get ns k ≡ None → slice_get (with_cells 0 ns cs) k ≡ slice_get cs k
past_first k [] cs e = refl
past_first k (n ∷ ns) [] e = refl
past_first zero (n ∷ ns) (c ∷ cs) e = cc
past_first (suc k) (n ∷ ns) (c ∷ cs) e = past_first k ns cs e

pub within_part : (at place : ℕ) (x : Cell) (ns cs : List Cell) → at ≤ place → slice_get ns (place - at) ≡ Some x → place < length cs →
    slice_get (with_cells at ns cs) place ≡ Some x
within_part zero place x ns cs l e h =
    let same : place - 0 ≡ place = omega arith in first_part place x ns cs (ap (slice_get ns) (sym same) ∙ e) h
within_part (suc at) zero x ns cs l e h = absurd (omega arith)
within_part (suc at) (suc place) x ns [] l e h = absurd (omega arith)
within_part (suc at) (suc place) x ns (c ∷ cs) l e h =
    let same : suc place - suc at ≡ place - at = omega arith in
    within_part at place x ns cs (omega arith) (ap (slice_get ns) (sym same) ∙ e) (omega arith)

pub past_part : (at place : ℕ) (ns cs : List Cell) → at ≤ place → slice_get ns (place - at) ≡ None →
    slice_get (with_cells at ns cs) place ≡ slice_get cs place
past_part zero place ns cs l e = let same : place - 0 ≡ place = omega arith in past_first place ns cs (ap (slice_get ns) (sym same) ∙ e)
past_part (suc at) zero ns cs l e = absurd (omega arith)
past_part (suc at) (suc place) ns [] l e = refl
past_part (suc at) (suc place) ns (c ∷ cs) l e =
    let same : suc place - suc at ≡ place - at = omega arith in
    past_part at place ns cs (omega arith) (ap (slice_get ns) (sym same) ∙ e)

first_keep_length : (ns cs : List Cell) → length (with_cells 0 ns cs) ≡ length cs
first_keep_length [] cs = refl
first_keep_length (n ∷ ns) [] = refl
first_keep_length (n ∷ ns) (c ∷ cs) = omega (arith, first_keep_length ns cs)

pub parts_keep_length : (at : ℕ) (ns cs : List Cell) → length (with_cells at ns cs) ≡ length cs
parts_keep_length zero ns cs = first_keep_length ns cs
parts_keep_length (suc at) ns [] = refl
parts_keep_length (suc at) ns (c ∷ cs) = omega (arith, parts_keep_length at ns cs)

-- ---- behind what is known

pub filled_all : (n k : ℕ) (cs all : List Cell) → k ≡ length cs → all ≡ cs ++ undefined_cells (n - k) → all ≡ filled n cs
filled_all n k cs all e f = f ∙ ap (λ j. cs ++ undefined_cells (n - j)) e

length_filled : (n : ℕ) (cs : List Cell) → length cs ≤ n → length (filled n cs) ≡ n
length_filled n cs h =
    let undefined : length (undefined_cells (n - length cs)) ≡ n - length cs = length-replicate (n - length cs) cell.Undef in
    omega (arith, length-append cs (undefined_cells (n - length cs)), undefined)

length_behind : (at : ℕ) (ns cs : List Cell) → length cs ≤ at → length ((cs ++ undefined_cells (at - length cs)) ++ ns) ≡ at + length ns
length_behind at ns cs h =
    omega (arith, length-append (cs ++ undefined_cells (at - length cs)) ns, length_filled at cs h)

-- a part behind all cells that are known
pub behind_filled : (at n : ℕ) (ns cs more : List Cell) → length cs ≤ at → at + length ns ≤ n →
    more ≡ (cs ++ undefined_cells (at - length cs)) ++ ns → filled n more ≡ with_cells at ns (filled n cs)
behind_filled at n ns cs more h l e =
    let rest : ℕ = n - (at + length ns) in
    let long : length more ≡ at + length ns = ap length e ∙ length_behind at ns cs h in
    let split : undefined_cells (n - length cs) ≡
    undefined_cells (at - length cs) ++ (undefined_cells (length ns) ++ undefined_cells rest) =
    apart (at - length cs) (length ns + rest) (n - length cs) (omega arith)
    ∙ ap (λ xs. undefined_cells (at - length cs) ++ xs) (apart (length ns) rest (length ns + rest) refl) in
    let before : List Cell = cs ++ undefined_cells (at - length cs) in
    ap (λ k. more ++ undefined_cells (n - k)) long
    ∙ ap (λ xs. xs ++ undefined_cells rest) e
    ∙ append_assoc before ns (undefined_cells rest)
    ∙ sym (with_later at ns before (undefined_cells (length ns)) (undefined_cells rest) (length_filled at cs h)
    (length-replicate (length ns) cell.Undef))
    ∙ ap (with_cells at ns) (append_assoc cs (undefined_cells (at - length cs)) (undefined_cells (length ns) ++ undefined_cells rest))
    ∙ ap (λ xs. with_cells at ns (cs ++ xs)) (sym split)

-- ---- no cells

-- in the place of others they change nothing
pub with_none : (at : ℕ) (ns cs : List Cell) → length ns ≡ 0 → with_cells at ns cs ≡ cs
with_none zero [] cs e = refl
with_none zero (n ∷ ns) cs e = absurd (omega arith)
with_none (suc at) ns [] e = refl
with_none (suc at) ns (c ∷ cs) e = ap (λ ds. c ∷ ds) (with_none at ns cs e)

pub holds_none : (at : ℕ) (ns : List Cell) (place : ℕ) → length ns ≡ 0 → Holds at ns place → ⊥
holds_none at ns place e h = omega (arith, e, h.0, h.1)

-- ---- one part after another

-- the last one
pub placed_push : (os : List Outcome) (ps : List Part) (p : Part) (cs : List Cell) →
    placed os (ps ++ p ∷ []) cs ≡ with_cells p.start (cells_in os p) (placed os ps cs)
placed_push os [] p cs = refl
placed_push os (q ∷ ps) p cs = placed_push os ps p (with_cells q.start (cells_in os q) cs)
