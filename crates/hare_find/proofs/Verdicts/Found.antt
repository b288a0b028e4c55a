-- What a verdict comes to, as what is found of a node.
use Rattle.std.proofs.Common.{◌≡◌, ℕ, zero, suc, Bool, true, false, cond, List, [], ◌∷◌, ◌++◌, map, drop, refl, ap, sym, ◌∙◌, Option, Some, None}
use Rattle.std.specs.Prelude.{slice_get, slice_index_or, replicate}
use Rattle.hare_tree.specs.declared.kind.Kind.{Kind}
use Rattle.hare_tree.specs.declared.kind.Kind.TheVariants as ki
use Rattle.hare_types.specs.declared.coercion.Coercion.{Coercion}
use Rattle.hare_typed.specs.Typed.{TypedNode, marked, mark_of}
use Rattle.hare_typed.specs.Coats.{coat, with_coercion}
use Rattle.hare_typed.specs.Numbers.{kind_of, number_of}
use Rattle.hare_rules.specs.declared.declared.Local.{Local}
use Rattle.hare_rules.specs.declared.judged.Yielded.{Yielded}
use Rattle.hare_rules.specs.Context.{Context, store_of, kid, own_type}
use Rattle.hare_rules.specs.Settles.{same, to_type, target_of, kid_coercion, settles_from, settled_kid, settled_from}
use Rattle.hare_rules.specs.Judged.{was_hinted, hands_on}
use Rattle.hare_rules.specs.Finished.{bare}
use Rattle.hare_told.specs.Settled.{unless_hinted, listed_from, AreAsIs, HandNothingOn}
use Rattle.hare_told.proofs.Settling.{target_of-seen, kid_coercion-seen, first_left, left_within, next_left}
use Rattle.hare_told.proofs.Targets.{target_unhinted}
use Rattle.hare_told.proofs.Verdicts.{seen}
use Rattle.rule_judge.specs.Asked.{listed}
use Rattle.hare_find.specs.Listed.{listed_each, written_one, written_each, coated_one, coated_each}

-- ---- what is listed is what is written

listed_one : (b : Bool) (x : TypedNode) (r : Coercion) →
    unless_hinted b (record { node = number_of x; coercion = r }) ≡ written_one x (cond b None (Some r))
listed_one true x r = refl
listed_one false x r = refl

pub listed_same : (j : Context) (i : ℕ) (xs : List TypedNode) → listed_from j i xs ≡ written_each xs (listed_each j i xs)
listed_same j i [] = refl
listed_same j i (x ∷ xs) =
    let first = listed_one (was_hinted j i) x (kid_coercion j i) in
    let rest = listed_same j (suc i) xs in
    ap (λ ss. ss ++ listed_from j (suc i) xs) first ∙ ap (λ ss. written_one x (listed j i) ++ ss) rest

-- ---- the kids behind it

got : (cs : List Coercion) (n : ℕ) (r d : Coercion) → slice_get cs n ≡ Some r → slice_index_or cs n d ≡ r
got [] zero r d e = cc
got [] (suc n) r d e = cc
got (c ∷ cs) zero r d e = cc
got (c ∷ cs) (suc n) r d e = got cs n r d e

-- a kid that stays as it is, in hand
kept : (cs : List Coercion) (x : TypedNode) → x ≡ coat cs (bare x) → slice_get cs (number_of x) ≡ Some (same (own_type x)) →
    x ≡ with_coercion (same (own_type x)) x
kept cs (marked h m ts) e g =
    let p : m.coerce ≡ slice_index_or cs m.node (same m.ty) = ap (λ y. (mark_of y).coerce) e in
    ap (λ r. marked h (record m { coerce = r }) ts) (p ∙ got cs m.node (same m.ty) (same m.ty) g)

one_coated : (c : Context) (b : Bool) (i : ℕ) (x : TypedNode) (o : Option ℕ) (r : Coercion) (cs : List Coercion) →
    r ≡ to_type (store_of c) (own_type x) o → kid_coercion c i ≡ r → ((t : ℕ) → o ≡ Some t → b ≡ false) →
    (b ≡ false → slice_get cs (number_of x) ≡ Some (same (own_type x))) → x ≡ coat cs (bare x) →
    settled_kid c i o x ≡ coated_one x (cond b None (Some r))
one_coated c true i x None r cs p q h k g = refl
one_coated c false i x None r cs p q h k g = kept cs x g (k refl) ∙ ap (λ y. with_coercion y x) (sym p)
one_coated c true i x (Some t) r cs p q h k g = let e = h t refl in cc
one_coated c false i x (Some t) r cs p q h k g = ap (λ y. with_coercion y x) q

head_in_hand : (cs : List Coercion) (x : TypedNode) (xs : List TypedNode) → x ∷ xs ≡ map (coat cs) (map bare (x ∷ xs)) →
    x ≡ coat cs (bare x)
head_in_hand cs x xs e = cc

tail_in_hand : (cs : List Coercion) (x : TypedNode) (xs : List TypedNode) → x ∷ xs ≡ map (coat cs) (map bare (x ∷ xs)) →
    xs ≡ map (coat cs) (map bare xs)
tail_in_hand cs x xs e = cc

pub coated_from : (c : Context) (ls : List Local) (ys : List Yielded) (i : ℕ) (xs : List TypedNode) (cs : List Coercion) →
    drop i c.kids ≡ xs →
    HandNothingOn xs → AreAsIs (seen ls ys c) i xs cs → xs ≡ map (coat cs) (map bare xs) →
    settled_from c i xs ≡ coated_each xs (listed_each (seen ls ys c) i xs)
coated_from c ls ys i [] cs e h k g = refl
coated_from c ls ys i (x ∷ xs) cs e h k g =
    let j = seen ls ys c in
    let f : kid c i ≡ x = first_left c.kids xs i x e in
    let o = target_of c c.head.kind i in
    let p : kid_coercion j i ≡ to_type (store_of c) (own_type x) o =
    kid_coercion-seen ls ys c i ∙ ap (λ y. to_type (store_of c) (own_type y) o) f in
    let hands : hands_on (kind_of (kid c i)) ≡ false = ap (λ y. hands_on (kind_of y)) f ∙ h.0 in
    let one : settled_kid c i o x ≡ coated_one x (listed j i) =
    one_coated c (was_hinted j i) i x o (kid_coercion j i) cs p (sym (kid_coercion-seen ls ys c i))
    (λ t w. target_unhinted j i t (left_within c.kids xs i x e) hands (target_of-seen c.head.kind ls ys c i ∙ w))
    k.0 (head_in_hand cs x xs g) in
    let rest = coated_from c ls ys (suc i) xs cs (next_left c.kids xs i x e) h.1 k.1 (tail_in_hand cs x xs g) in
    ap (λ y. y ∷ settled_from c (suc i) xs) one ∙ ap (λ zs. coated_one x (listed j i) ∷ zs) rest

-- ---- nodes that settle nothing of their kids

abbrev Settles : Kind → Type 0
Settles k = (c : Context) (i : ℕ) → target_of c k i ≡ None

pub no_yield_target : (k : Kind) → k ≡ ki.Yield → Settles k
no_yield_target k e c i = rw e refl

pub no_case_target : (k : Kind) → k ≡ ki.SwitchCase → Settles k
no_case_target k e c i = rw e refl

pub none_settled : (c : Context) (i : ℕ) (xs : List TypedNode) → Settles c.head.kind → settles_from c i xs ≡ []
none_settled c i [] n = refl
none_settled c i (x ∷ xs) n = rw (n c i, none_settled c (suc i) xs n) refl

pub none_moved : (c : Context) (i : ℕ) (xs : List TypedNode) → Settles c.head.kind → settled_from c i xs ≡ xs
none_moved c i [] n = refl
none_moved c i (x ∷ xs) n = rw (n c i, none_moved c (suc i) xs n) refl

pub nones_written : (n : ℕ) (xs : List TypedNode) → written_each xs (replicate n None) ≡ []
nones_written zero [] = refl
nones_written zero (x ∷ xs) = refl
nones_written (suc n) [] = refl
nones_written (suc n) (x ∷ xs) = nones_written n xs

pub nones_coated : (n : ℕ) (xs : List TypedNode) → coated_each xs (replicate n None) ≡ xs
nones_coated zero [] = refl
nones_coated zero (x ∷ xs) = refl
nones_coated (suc n) [] = refl
nones_coated (suc n) (x ∷ xs) = ap (λ ys. x ∷ ys) (nones_coated n xs)

-- ---- coercions behind those that were settled

got-more : (cs ds : List Coercion) (n : ℕ) (r : Coercion) → slice_get cs n ≡ Some r → slice_get (cs ++ ds) n ≡ Some r
got-more [] ds zero r e = cc
got-more [] ds (suc n) r e = cc
got-more (c ∷ cs) ds zero r e = e
got-more (c ∷ cs) ds (suc n) r e = got-more cs ds n r e

pub as_is-more : (j : Context) (i : ℕ) (xs : List TypedNode) (cs ds : List Coercion) → AreAsIs j i xs cs → AreAsIs j i xs (cs ++ ds)
as_is-more j i [] cs ds k = tt
as_is-more j i (x ∷ xs) cs ds k =
    (λ e. got-more cs ds (number_of x) (same (own_type x)) (k.0 e), as_is-more j (suc i) xs cs ds k.1)
