-- Kids of trees that the grammar has, and what is kept of trees that have been judged.
use Rattle.std.proofs.Common.{◌≡◌, ℕ, zero, suc, ◌+◌, ◌≤◌, Bool, true, false, List, [], ◌∷◌, ◌++◌, map, take, length, Some, Option, refl}
use Rattle.std.proofs.Common.{ap, sym, ◌∙◌, subst, inl, inr, arith}
use Rattle.std.specs.Prelude.{slice_get, None, ◌&&◌}
use Rattle.std.proofs.lemmas.List.{map-append}
use Rattle.hare_tree.specs.declared.kind.Kind.{Kind}
use Rattle.hare_tree.specs.declared.kind.Kind.TheVariants as ki
use Rattle.hare_tree.specs.declared.form.Sort.{Sort}
use Rattle.hare_tree.specs.Node.{Node, Nodes, branch, none, more, kids_of, nodes_of}
use Rattle.hare_tree.specs.Levels.{sort_in, level}
use Rattle.hare_tree.specs.KidSorts.{kid_sort, IsKid}
use Rattle.hare_tree.specs.Shape.{is_shaped, is_leaf, is_absent, is_none, is_none_or_comma}
use Rattle.hare_tree.proofs.TreeKids.KidSorts.{kid_is_of_sort}
use Rattle.hare_types.specs.Store.{Store}
use Rattle.hare_typed.specs.Typed.{TypedNode, typed_nodes}
use Rattle.hare_typed.specs.Erased.{erase, erase_each}
use Rattle.hare_typed.proofs.KidLemmas.{take-get, nodes_of-map_erase}
use Rattle.hare_walk.specs.Grown.{IsGrown}
use Rattle.hare_walk.specs.Walks.{IsPart, Each}
use Rattle.hare_walk.proofs.Grows.{grown-trans}

-- ---- kids

comma_or : (k : Kind) → is_none k ≡ true → is_none_or_comma k ≡ true
comma_or ki.None e = refl
comma_or _ e = cc

and_left : (a b c : Bool) → (a ≡ true → c ≡ true) → a && b ≡ true → c && b ≡ true
and_left true b c h e = rw (h refl) e
and_left false b c h e = cc

absent-leaf : (t : Node) → is_absent t ≡ true → is_leaf is_none_or_comma t ≡ true
absent-leaf (branch h none) e = and_left _ _ _ (comma_or h.kind) e
absent-leaf (branch h (more t ts)) e = cc

kid-part : (n : ℕ) (o : Option Sort) (t : Node) → IsKid n o t → IsPart t
kid-part n (Some s) t (inl e) = inr (absent-leaf t e)
kid-part n (Some s) t (inr e) = inl (sort_in n s, e)
kid-part n None t e = inr e

leaf-kid : (t u : Node) (ts : List Node) (i : ℕ) → is_leaf is_none_or_comma t ≡ true → kids_of t ≡ nodes_of ts → slice_get ts i ≡ Some u → ⊥
leaf-kid (branch h none) u [] i e k g = cc
leaf-kid (branch h none) u (x ∷ ts) i e k g = cc
leaf-kid (branch h (more y ys)) u ts i e k g = cc

pub part-kid : (t u : Node) (ts : List Node) (i : ℕ) → IsPart t → kids_of t ≡ nodes_of ts → slice_get ts i ≡ Some u → IsPart u
part-kid (branch h us) u ts i (inl (s, e)) k g =
    let n = length ts in
    let d = subst (λ (x : Nodes). is_shaped s (branch h x) ≡ true) k e in
    kid-part (level h.kind h.text) (kid_sort h.kind n i) u (kid_is_of_sort h.kind n i (kid_sort h.kind n i) refl s h ts u refl refl d g)
part-kid t u ts i (inr e) k g = absurd (leaf-kid t u ts i e k g)

-- ---- what is kept

-- as the store grows
pub each-grown : (K : Store → TypedNode → Type 0) (s r : Store) (xs : List TypedNode) → IsGrown s r →
    Each (λ x. (q : Store) → IsGrown s q → K q x) xs → Each (λ x. (q : Store) → IsGrown r q → K q x) xs
each-grown K s r [] g k = tt
each-grown K s r (x ∷ xs) g k = (λ q h. k.0 q (grown-trans s r q g h), each-grown K s r xs g k.1)

pub each-now : (K : Store → TypedNode → Type 0) (s r : Store) (xs : List TypedNode) → IsGrown s r →
    Each (λ x. (q : Store) → IsGrown s q → K q x) xs → Each (K r) xs
each-now K s r [] g k = tt
each-now K s r (x ∷ xs) g k = (k.0 r g, each-now K s r xs g k.1)

pub each-append : (P : TypedNode → Type 0) (xs : List TypedNode) (x : TypedNode) → Each P xs → P x → Each P (xs ++ x ∷ [])
each-append P [] x k h = (h, tt)
each-append P (y ∷ ys) x k h = (k.0, each-append P ys x k.1 h)

-- ---- what is erased

pub erased-more : (xs ys : List TypedNode) (ts : List Node) (x : TypedNode) (t : Node) (i : ℕ) → map erase xs ≡ take i ts →
    slice_get ts i ≡ Some t →
    erase x ≡ t → ys ≡ xs ++ x ∷ [] → map erase ys ≡ take (i + 1) ts
erased-more xs ys ts x t i e g h k =
    ap (map erase) k ∙ map-append erase xs (x ∷ []) ∙ ap (λ l. l ++ erase x ∷ []) e ∙ ap (λ u. take i ts ++ u ∷ []) h
    ∙ sym (take-get ts i t g)

pub erased-all : (xs : List TypedNode) (ts : List Node) (i : ℕ) → map erase xs ≡ take i ts → take i ts ≡ ts →
    erase_each (typed_nodes xs) ≡ nodes_of ts
erased-all xs ts i e h = sym (nodes_of-map_erase xs) ∙ ap nodes_of (e ∙ h)

pub take_all : {A : Type 0} (ts : List A) (i : ℕ) → length ts ≤ i → take i ts ≡ ts
take_all [] zero h = refl
take_all [] (suc i) h = refl
take_all (t ∷ ts) zero h = absurd (omega arith)
take_all (t ∷ ts) (suc i) h = ap (λ us. t ∷ us) (take_all ts i (omega arith))
