-- What the declarations of files say, file by file.
use Rattle.std.proofs.Common.{◌≡◌, ℕ, ◌+◌, ◌<◌, ◌≤◌, Bool, true, false, if◌then◌else◌, List, [], ◌∷◌, ◌++◌, length, map, drop, Some, refl, ap, sym, subst, ◌∙◌, arith, append_assoc, inl, inr, ◌⊎◌}
use Rattle.std.specs.Prelude.{slice_get, Contains, nat_lt}
use Rattle.std.proofs.lemmas.List.{append-nil, length-map}
use Rattle.std.proofs.lemmas.Bool.{ltb-true}
use Rattle.hare_tree.specs.declared.place.Place.{Place}
use Rattle.hare_tree.specs.declared.token.Meaning.{Meaning}
use Rattle.hare_tree.specs.declared.token.Meaning.TheVariants as me
use Rattle.hare_tree.specs.declared.tree.FileTree.{FileTree}
use Rattle.hare_tree.specs.Node.{Node}
use Rattle.hare_modules.proofs.ListLemmas.{drop-there, drop-past}
use Rattle.hare_graph.proofs.Elements.{Contains-none, Contains-cases}
use Rattle.hare_depends.proofs.ListLemmas.{flat_map-from}
use Rattle.hare_depends.specs.declared.said.Said.{Said}
use Rattle.hare_depends.specs.Said.{said_of, number_in, numbers_at}
use Rattle.hare_depends.specs.Circles.{AreWithin, AllWithin}
use Rattle.hare_saids.specs.Saids.{decls, saids}

-- ---- one more of a list

-- one element more has been mapped and put behind others
pub mapped-more : {A B : Type 0} (f : A → B) (now new all : List B) (xs : List A) (i : ℕ) (x : A) (y : B) → slice_get xs i ≡ Some x
    → y ≡ f x → new ≡ now ++ y ∷ []
    → now ++ map f (drop i xs) ≡ all → new ++ map f (drop (i + 1) xs) ≡ all
mapped-more f now new all xs i x y g e n w =
    ap (λ z. z ++ map f (drop (i + 1) xs)) (n ∙ ap (λ z. now ++ z ∷ []) e) ∙ append_assoc now (f x ∷ []) (map f (drop (i + 1) xs))
    ∙ ap (λ zs. now ++ map f zs) (sym (drop-there xs i x g)) ∙ w

-- all files have been gone over
pub file-done : (f : Node → Said) (now all : List Said) (fs : List FileTree) (i : ℕ) → length fs ≤ i
    → now ++ map f (decls (drop i fs)) ≡ all → now ≡ all
file-done f now all fs i l w = sym (append-nil now) ∙ ap (λ zs. now ++ map f (decls zs)) (sym (drop-past fs i l)) ∙ w

-- ---- numbers are those of declarations

below : (count n e : ℕ) (b : Bool) → nat_lt n count ≡ b → Contains (if b then n ∷ [] else []) e → e < count
below count n e true h c = of (Contains-cases n e [] c)
  where
    of : (n ≡ e) ⊎ Contains [] e → e < count
    of (inl q) = let k : n < count = ltb-true n count h in omega arith
    of (inr k) = absurd (Contains-none e k)
below count n e false h c = absurd (Contains-none e c)

number-within : (count e : ℕ) (m : Meaning) → Contains (number_in count m) e → e < count
number-within count e (me.Decl n) c = below count n e (nat_lt n count) refl c
number-within count e (me.Local n) c = absurd (Contains-none e c)
number-within count e (me.Rt n) c = absurd (Contains-none e c)
number-within count e me.None c = absurd (Contains-none e c)

numbers-within : (count e : ℕ) (means : Place → Meaning) (ps : List Place) → Contains (numbers_at count means ps) e → e < count
numbers-within count e means ps c = let s = flat_map-from (λ p. number_in count (means p)) ps e c in number-within count e (means s.0) s.2

map-from : {A B : Type 0} (f : A → B) (xs : List A) (y : B) → Contains (map f xs) y → (x : A) × (f x ≡ y)
map-from f [] y c = absurd (Contains-none y c)
map-from {A} {B} f (x ∷ xs) y c = of (λ k. map-from f xs y k) (Contains-cases (f x) y (map f xs) c)
  where
    of : (Contains (map f xs) y → (z : A) × (f z ≡ y)) → (f x ≡ y) ⊎ Contains (map f xs) y → (z : A) × (f z ≡ y)
    of r (inl q) = (x, q)
    of r (inr k) = r k

-- what declarations say they say of declarations
pub all-within : (fs : List FileTree) (means : Place → Meaning) → AllWithin (saids fs means)
all-within fs means s c =
    let count = length (decls fs) in
    let m = map-from (said_of count means) (decls fs) s c in
    let size : count ≡ length (saids fs means) = sym (length-map (decls fs) (said_of count means)) in
    subst (AreWithin (length (saids fs means))) m.1
    (subst (λ n. AreWithin n (said_of count means m.0)) size
    (record {
      needed = λ e k. numbers-within count e means _ k;
      named = λ e k. numbers-within count e means _ k;
      written = λ e k. numbers-within count e means _ k;
    }))
