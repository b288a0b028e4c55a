-- Kids of trees, by the lists that the code reads them from.
use Rattle.std.proofs.Common.{◌≡◌, ℕ, ◌≤◌, List, [], ◌∷◌, length, get_or, slice_get, Some, refl, sym, ap, ◌∙◌, suc, zero, arith}
use Rattle.hare_tree.specs.Node.{Head, Node, branch, nodes_of}
use Rattle.hare_graph.proofs.Elements.{get_or-there}
use Rattle.hare_modules.specs.Uses.{listed, kids, kid}

pub listed-nodes_of : (ts : List Node) → listed (nodes_of ts) ≡ ts
listed-nodes_of [] = refl
listed-nodes_of (t ∷ ts) = ap (λ us. t ∷ us) (listed-nodes_of ts)

pub get_or-past : {A : Type 0} (xs : List A) (i : ℕ) (d : A) → length xs ≤ i → get_or xs i d ≡ d
get_or-past [] i d h = refl
get_or-past (y ∷ ys) zero d h = absurd (omega arith)
get_or-past (y ∷ ys) (suc i) d h = get_or-past ys i d (omega arith)

-- the kids of a tree that is seen so
pub kids-seen : (h : Head) (ts : List Node) (t : Node) → branch h (nodes_of ts) ≡ t → kids t ≡ ts
kids-seen h ts t e = ap kids (sym e) ∙ listed-nodes_of ts

pub kid-there : (h : Head) (ts : List Node) (t k : Node) (i : ℕ) → branch h (nodes_of ts) ≡ t → slice_get ts i ≡ Some k → k ≡ kid t i
kid-there h ts t k i e g = sym (ap (λ us. get_or us i t) (kids-seen h ts t e) ∙ get_or-there ts i k t g)

pub kid-past : (h : Head) (ts : List Node) (t : Node) (i : ℕ) → branch h (nodes_of ts) ≡ t → length ts ≤ i → t ≡ kid t i
kid-past h ts t i e g = sym (ap (λ us. get_or us i t) (kids-seen h ts t e) ∙ get_or-past ts i t g)
