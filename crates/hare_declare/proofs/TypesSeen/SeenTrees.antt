-- What is seen of trees, by the lists that the code reads them from.
use Rattle.std.proofs.Common.{◌≡◌, ℕ, ◌+◌, List, [], ◌∷◌, ◌++◌, map, drop, Some, ap, sym, ◌∙◌, append_assoc}
use Rattle.std.specs.Prelude.{slice_get}
use Rattle.hare_tree.specs.declared.kind.Kind.TheVariants as ki
use Rattle.hare_tree.specs.declared.place.Place.{Place}
use Rattle.hare_tree.specs.declared.token.Meaning.{Meaning}
use Rattle.hare_tree.specs.Node.{Head, Node, branch, nodes_of}
use Rattle.hare_modules.proofs.ListLemmas.{drop-there}
use Rattle.hare_declare.specs.declared.outline.SizeSeen.{SizeSeen}
use Rattle.hare_declare.specs.Outlines.{seen_by, seen_in_word, seen_in_meaning, size_seen, first_seen}

first-there : (count : ℕ) (means : Place → Meaning) (ts : List Node) (m : Node) → slice_get ts 0 ≡ Some m
    → first_seen count means (nodes_of ts) ≡ size_seen count means m
first-there count means [] m e = absurd cc
first-there count means (t ∷ ts) m e = let same : t ≡ m = cc in ap (size_seen count means) same

-- an error mark says what is marked
pub marked-seen : (count : ℕ) (means : Place → Meaning) (h : Head) (ts : List Node) (t m : Node) (r : SizeSeen) → branch h (nodes_of ts) ≡ t
    → h.kind ≡ ki.TypeError → slice_get ts 0 ≡ Some m → r ≡ size_seen count means m → r ≡ size_seen count means t
marked-seen count means h ts t m r e k g q =
    q ∙ sym (first-there count means ts m g)
    ∙ sym (ap (λ z. seen_by z (seen_in_word h.text) (seen_in_meaning count (means h.place)) (first_seen count means (nodes_of ts))) k)
    ∙ ap (size_seen count means) e

-- ---- file by file

-- one declaration more has been gone over
pub one-more : {A B : Type 0} (f : A → B) (now new all : List B) (xs : List A) (i : ℕ) (x : A) (y : B) → slice_get xs i ≡ Some x → y ≡ f x
    → new ≡ now ++ y ∷ [] → now ++ map f (drop i xs) ≡ all → new ++ map f (drop (i + 1) xs) ≡ all
one-more f now new all xs i x y g e n w =
    ap (λ z. z ++ map f (drop (i + 1) xs)) (n ∙ ap (λ z. now ++ z ∷ []) e) ∙ append_assoc now (f x ∷ []) (map f (drop (i + 1) xs))
    ∙ ap (λ zs. now ++ map f zs) (sym (drop-there xs i x g)) ∙ w
