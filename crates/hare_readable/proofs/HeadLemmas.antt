-- What is found of each node of a tree, kid by kid.
use Rattle.std.proofs.Common.{◌≡◌, inl, inr, ℕ, ◌+◌, ◌≤◌, List, [], ◌∷◌, ◌++◌, length, take, Some, ap, sym, ◌∙◌, subst, append_assoc, arith}
use Rattle.std.specs.Prelude.{Contains, slice_get}
use Rattle.std.proofs.lemmas.List.{append-nil, take_all}
use Rattle.std.proofs.lemmas.List.Elements.{Contains-append_cases, Contains-push_cases}
use Rattle.hare_tree.specs.Node.{Head, Node, branch, nodes_of}
use Rattle.hare_typed.specs.Erased.{heads, heads_each}
use Rattle.hare_typed.proofs.KidLemmas.{take-get}
use Rattle.hare_readable.specs.Heads.{InTree, InKids}

-- the nodes of some trees, and of one more
heads_each-push : (ts : List Node) (t : Node) → heads_each (nodes_of (ts ++ t ∷ [])) ≡ heads_each (nodes_of ts) ++ heads t
heads_each-push [] t = append-nil (heads t)
heads_each-push (u ∷ ts) t =
    ap (λ hs. heads u ++ hs) (heads_each-push ts t) ∙ sym (append_assoc (heads u) (heads_each (nodes_of ts)) (heads t))

-- no trees have no nodes
pub InKids-none : (P : Head → Type 0) → InKids P []
InKids-none P h c = absurd (omega (arith, c.1))

-- where the nodes of some trees are so, and those of one more, those of all of these are
pub InKids-push : (P : Head → Type 0) (ts : List Node) (t : Node) → InKids P ts → InTree P t → InKids P (ts ++ t ∷ [])
InKids-push P ts t all here h c =
    elim (Contains-append_cases (heads_each (nodes_of ts)) (heads t) h (subst (λ hs. Contains hs h) (heads_each-push ts t) c)) [
      | inl a ↦ all h a
      | inr b ↦ here h b
    ]

-- the first so many trees, and the one behind them
pub InKids-next : (P : Head → Type 0) (ts : List Node) (i : ℕ) (t : Node) → slice_get ts i ≡ Some t → InKids P (take i ts) → InTree P t →
    InKids P (take (i + 1) ts)
InKids-next P ts i t e all here = subst (InKids P) (sym (take-get ts i t e)) (InKids-push P (take i ts) t all here)

-- the nodes of a tree are those of its kids, and its own
pub InTree-branch : (P : Head → Type 0) (h : Head) (ts : List Node) (t : Node) → branch h (nodes_of ts) ≡ t → P h → InKids P ts → InTree P t
InTree-branch P h ts t e own all = subst (InTree P) e by
  where
    by : InTree P (branch h (nodes_of ts))
    by g c = elim (Contains-push_cases (heads_each (nodes_of ts)) h g c) [ inl a ↦ all g a | inr same ↦ subst P same own ]

-- what is so of one thing is so of another where the first implies it
pub InKids-implied : (P Q : Head → Type 0) (ts : List Node) → ((h : Head) → P h → Q h) → InKids P ts → InKids Q ts
InKids-implied P Q ts f all h c = f h (all h c)

-- as many trees as there are are all
pub InKids-all : (P : Head → Type 0) (ts : List Node) (i : ℕ) → length ts ≤ i → InKids P (take i ts) → InKids P ts
InKids-all P ts i h all = subst (InKids P) (take_all i ts h) all
