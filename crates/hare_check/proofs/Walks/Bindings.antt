-- Bindings are counted, and what is known of them is put behind the others.
use Rattle.std.proofs.Common.{◌≡◌, ℕ, zero, suc, ◌+◌, ◌≤◌, List, [], ◌∷◌, length, drop, refl, arith, add-one, Some}
use Rattle.std.specs.Prelude.{slice_get, sum_by}
use Rattle.std.proofs.lemmas.List.Sums.{sum_by-append}
use Rattle.hare_tree.specs.Node.{Head, Node, Nodes, branch, nodes_of}
use Rattle.hare_typed.specs.Bindings.{own_bindings}
use Rattle.hare_typed.specs.Erased.{heads, heads_each}
use Rattle.hare_whole.specs.Parts.{bindings_of}

-- how many bindings begin in some trees
abbrev pub bindings_of_each : Nodes → ℕ
bindings_of_each ts = sum_by (λ h. own_bindings h.kind) (heads_each ts)

pub bindings-node : (h : Head) (ts : Nodes) → bindings_of (branch h ts) ≡ own_bindings h.kind + bindings_of_each ts
bindings-node h ts =
    let k = sum_by-append (λ (g : Head). own_bindings g.kind) (heads_each ts) (h ∷ []) in
    omega (arith, k)

pub bindings-next : (ts : List Node) (i : ℕ) (t : Node) → slice_get ts i ≡ Some t →
    bindings_of_each (nodes_of (drop i ts)) ≡ bindings_of t + bindings_of_each (nodes_of (drop (i + 1) ts))
bindings-next [] i t e = cc
bindings-next (u ∷ ts) zero t e =
    let s : u ≡ t = cc in
    rw s (sum_by-append (λ (g : Head). own_bindings g.kind) (heads t) (heads_each (nodes_of ts)))
bindings-next (u ∷ ts) (suc i) t e = rw add-one (let k = bindings-next ts i t e in rw add-one at k)

pub bindings-none : (ts : List Node) (i : ℕ) → length ts ≤ i → bindings_of_each (nodes_of (drop i ts)) ≡ 0
bindings-none [] zero e = refl
bindings-none [] (suc i) e = refl
bindings-none (t ∷ ts) zero e = absurd (omega arith)
bindings-none (t ∷ ts) (suc i) e = bindings-none ts i (omega arith)
