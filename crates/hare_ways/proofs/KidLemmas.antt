-- The kids of a form from one of them on.
use Rattle.std.proofs.Common.{◌≡◌, ℕ, zero, suc, ◌+◌, ◌<◌, ◌≤◌, ◌⊎◌, inl, inr, List, [], ◌∷◌, true, false, length, refl, ap, sym, ◌∙◌, arith, add-one}
use Rattle.std.proofs.Math.Dec.{leb}
use Rattle.std.proofs.lemmas.Bool.Decides.{leb_tells}
use Rattle.hare_tree.specs.Node.{Node, Nodes, none, more, nodes_of}
use Rattle.hare_tree.specs.Judged.{nodes_from}
use Rattle.hare_tree.proofs.TreeKids.KidsFrom.{nodes_from-past, nodes_from-one}
use Rattle.hare_ways.specs.Breaks.{Item, is_nil, is_one}
use Rattle.hare_ways.specs.Parts.{item_of, items_of}

next-suc : (i : ℕ) (ts : Nodes) → nodes_from (suc i) ts ≡ nodes_from 1 (nodes_from i ts)
next-suc zero ts = refl
next-suc (suc i) none = refl
next-suc (suc i) (more t ts) = next-suc i ts

-- behind one more
pub nodes_from-next : (i : ℕ) (ts : Nodes) → nodes_from (i + 1) ts ≡ nodes_from 1 (nodes_from i ts)
nodes_from-next i ts = rw add-one (next-suc i ts)

-- none is left behind none
pub nodes_from-none : (ts : List Node) (i : ℕ) → length ts ≤ i → nodes_from i (nodes_of ts) ≡ nodes_from 1 (nodes_from i (nodes_of ts))
nodes_from-none ts i e = rw (nodes_from-past ts i e) refl

-- ---- whether kids are left

nil-by : (ks : List Node) (i n : ℕ) → n ≡ length ks → ((leb n i ≡ true) × (n ≤ i)) ⊎ ((leb n i ≡ false) × (i < n))
    → leb n i ≡ is_nil (items_of (nodes_from i (nodes_of ks)))
nil-by ks i n e (inl h) = h.0 ∙ ap (λ ts. is_nil (items_of ts)) (sym (nodes_from-past ks i (omega (arith, e, h.1))))
nil-by ks i n e (inr h) = h.0 ∙ ap (λ ts. is_nil (items_of ts)) (sym ((nodes_from-one ks i (omega (arith, e, h.1))).1))

pub nil-is : (ks : List Node) (i n : ℕ) → n ≡ length ks → leb n i ≡ is_nil (items_of (nodes_from i (nodes_of ks)))
nil-is ks i n e = nil-by ks i n e (leb_tells n i)

one-behind : (u : Item) (us : List Item) → is_one (u ∷ us) ≡ is_nil us
one-behind u [] = refl
one-behind u (v ∷ us) = refl

pub one-is : (ks : List Node) (i n : ℕ) → n ≡ length ks → i < n → leb n (i + 1) ≡ is_one (items_of (nodes_from i (nodes_of ks)))
one-is ks i n e h =
    let one = nodes_from-one ks i (omega (arith, e, h)) in
    nil-is ks (i + 1) n e ∙ sym (ap (λ ts. is_one (items_of ts)) one.1
    ∙ one-behind (item_of one.0) (items_of (nodes_from (i + 1) (nodes_of ks))))

pub none-is : (ks : List Node) (i : ℕ) → length ks ≤ i → false ≡ is_one (items_of (nodes_from i (nodes_of ks)))
none-is ks i h = ap (λ ts. is_one (items_of ts)) (sym (nodes_from-past ks i h))
