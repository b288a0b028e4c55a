-- Facts on kids from one of them on.
use Rattle.std.proofs.Common.{◌≡◌, ℕ, zero, suc, ◌+◌, ◌<◌, ◌≤◌, List, [], ◌∷◌, length, Some, refl, ap, sym, arith, add-one}
use Rattle.std.specs.Prelude.{slice_get}
use Rattle.hare_tree.specs.Node.{Node, branch, none, more, kids_of, nodes_of}
use Rattle.hare_tree.specs.Judged.{nodes_from}

-- the kid at a place is the first from there on
get-suc : (ts : List Node) (i : ℕ) (x : Node) → slice_get ts i ≡ Some x →
    nodes_from i (nodes_of ts) ≡ more x (nodes_from (suc i) (nodes_of ts))
get-suc [] i x e = cc
get-suc (t ∷ ts) zero x e = let h : t ≡ x = cc in ap (λ y. more y (nodes_of ts)) h
get-suc (t ∷ ts) (suc i) x e = get-suc ts i x e

pub nodes_from-get : (ts : List Node) (i : ℕ) (x : Node) → slice_get ts i ≡ Some x →
    nodes_from i (nodes_of ts) ≡ more x (nodes_from (i + 1) (nodes_of ts))
nodes_from-get ts i x e = rw add-one (get-suc ts i x e)

-- there is none past the end
pub nodes_from-past : (ts : List Node) (i : ℕ) → length ts ≤ i → nodes_from i (nodes_of ts) ≡ none
nodes_from-past [] zero e = refl
nodes_from-past [] (suc i) e = refl
nodes_from-past (t ∷ ts) zero e = absurd (omega arith)
nodes_from-past (t ∷ ts) (suc i) e = nodes_from-past ts i (omega arith)

-- before the end there is one
get-before : (ts : List Node) (i : ℕ) → i < length ts → (x : Node) × (slice_get ts i ≡ Some x)
get-before [] i e = absurd (omega arith)
get-before (t ∷ ts) zero e = (t, refl)
get-before (t ∷ ts) (suc i) e = get-before ts i (omega arith)

pub nodes_from-one : (ts : List Node) (i : ℕ) → i < length ts → (x : Node) ×
    (nodes_from i (nodes_of ts) ≡ more x (nodes_from (i + 1) (nodes_of ts)))
nodes_from-one ts i e = let g = get-before ts i e in (g.0, nodes_from-get ts i g.0 g.1)

-- the kids of a tree that is open
pub kids_of-open : (h : _) (ks : List Node) (t : Node) → branch h (nodes_of ks) ≡ t → kids_of t ≡ nodes_of ks
kids_of-open h ks t e = ap kids_of (sym e)
