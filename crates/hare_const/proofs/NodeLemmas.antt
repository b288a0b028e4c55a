-- The kids of a node by their places.
use Rattle.std.proofs.Common.{◌≡◌, ◌∙◌, sym, ap, refl, ℕ, zero, suc, ◌≤◌, arith, List, [], ◌∷◌, length, get_or}
use Rattle.std.specs.Prelude.{◌+◌, ◌++◌, ◌<◌, Some, slice_get}
use Rattle.std.proofs.lemmas.List.{length-append}
use Rattle.hare_tree.specs.Node.{Head}
use Rattle.hare_typed.specs.Typed.{TypedNode, TypedNodes, Mark, marked, typed_none, typed_more, typed_nodes, listed_nodes, mark_of, kids_of}
use Rattle.hare_typed.specs.Order.{tree_from_front, kid_from_front, kid_from_end, backwards, missing}
use Rattle.hare_const.specs.declared.outcome.Outcome.{Outcome}
use Rattle.hare_const.specs.declared.outcome.Outcome.TheVariants.{Known}
use Rattle.hare_const.specs.NodeValues.{kid_at}
use Rattle.hare_typed.specs.Given.{given, first_given}
use Rattle.hare_typed.specs.Weight.{count}
use Rattle.hare_typed.specs.Constants.{own_kind}
use Rattle.hare_typed.specs.Constancy.{is_global_path, begins_with_global}
use Rattle.hare_typed.specs.ConstantForms.{type_of_kid}

pub kid-found : (ts : List TypedNode) (i : ℕ) (x : TypedNode) → slice_get ts i ≡ Some x →
    tree_from_front i (listed_nodes (typed_nodes ts)) ≡ x
kid-found [] i x e = cc
kid-found (t ∷ ts) zero x e = cc
kid-found (t ∷ ts) (suc i) x e = kid-found ts i x e

pub kid-missing : (ts : List TypedNode) (i : ℕ) → length ts ≤ i → tree_from_front i (listed_nodes (typed_nodes ts)) ≡ missing
kid-missing [] i e = refl
kid-missing (t ∷ ts) zero e = absurd (omega arith)
kid-missing (t ∷ ts) (suc i) e = kid-missing ts i (omega arith)

pub type-found : (t x : TypedNode) (h hx : Head) (m mx : Mark) (ts : List TypedNode) (us : TypedNodes) (i : ℕ) →
    marked h m (typed_nodes ts) ≡ t →
    marked hx mx us ≡ x → slice_get ts i ≡ Some x → mx.coerce.to ≡ type_of_kid i t
type-found t x h hx m mx ts us i e f g =
    ap given f ∙ sym (ap given (kid-found ts i x g)) ∙ ap (type_of_kid i) e

pub first-given : (t : TypedNode) → type_of_kid 0 t ≡ first_given (kids_of t)
first-given (marked h m typed_none) = refl
first-given (marked h m (typed_more t ts)) = refl

pub type-missing : (t : TypedNode) (h : Head) (m : Mark) (ts : List TypedNode) (i : ℕ) → marked h m (typed_nodes ts) ≡ t → length ts ≤ i →
    given missing ≡ type_of_kid i t
type-missing t h m ts i e l = sym (ap given (kid-missing ts i l)) ∙ ap (type_of_kid i) e

pub meaning-found : (t x : TypedNode) (h hx : Head) (m mx : Mark) (ts : List TypedNode) (us : TypedNodes) (i : ℕ) →
    marked h m (typed_nodes ts) ≡ t →
    marked hx mx us ≡ x → slice_get ts i ≡ Some x → mx.meaning ≡ (mark_of (kid_from_front i t)).meaning
meaning-found t x h hx m mx ts us i e f g =
    ap (λ y. (mark_of y).meaning) f ∙ sym (ap (λ y. (mark_of y).meaning) (kid-found ts i x g)) ∙ ap
    (λ y. (mark_of (kid_from_front i y)).meaning) e

pub meaning-missing : (t : TypedNode) (h : Head) (m : Mark) (ts : List TypedNode) (i : ℕ) → marked h m (typed_nodes ts) ≡ t →
    length ts ≤ i →
    (mark_of missing).meaning ≡ (mark_of (kid_from_front i t)).meaning
meaning-missing t h m ts i e l = sym (ap (λ y. (mark_of y).meaning) (kid-missing ts i l)) ∙ ap (λ y. (mark_of (kid_from_front i y)).meaning)
    e

-- ---- kids from the end

front-of : (xs ys : List TypedNode) (n : ℕ) → n < length xs → tree_from_front n (xs ++ ys) ≡ tree_from_front n xs
front-of [] ys n l = absurd (omega arith)
front-of (x ∷ xs) ys zero l = refl
front-of (x ∷ xs) ys (suc n) l = front-of xs ys n (omega arith)

behind-front : (xs : List TypedNode) (y : TypedNode) → tree_from_front (length xs) (xs ++ y ∷ []) ≡ y
behind-front [] y = refl
behind-front (x ∷ xs) y = behind-front xs y

past-front : (xs : List TypedNode) (n : ℕ) → length xs ≤ n → tree_from_front n xs ≡ missing
past-front [] n l = refl
past-front (x ∷ xs) zero l = absurd (omega arith)
past-front (x ∷ xs) (suc n) l = past-front xs n (omega arith)

length-backwards : (ts : List TypedNode) → length (backwards (listed_nodes (typed_nodes ts))) ≡ length ts
length-backwards [] = refl
length-backwards (t ∷ ts) = omega (arith, length-append (backwards (listed_nodes (typed_nodes ts))) (t ∷ []), length-backwards ts)

-- the kid with so many behind it
from-end : (ts : List TypedNode) (i n : ℕ) (x : TypedNode) → slice_get ts i ≡ Some x → i + suc n ≡ length ts →
    tree_from_front n (backwards (listed_nodes (typed_nodes ts))) ≡ x
from-end [] i n x e l = cc
from-end (t ∷ ts) zero n x e l =
    let f : t ≡ x = cc in
    let m : n ≡ length (backwards (listed_nodes (typed_nodes ts))) = omega (arith, length-backwards ts) in
    ap (λ k. tree_from_front k (backwards (listed_nodes (typed_nodes ts)) ++ t ∷ [])) m
    ∙ behind-front (backwards (listed_nodes (typed_nodes ts))) t ∙ f
from-end (t ∷ ts) (suc i) n x e l =
    front-of (backwards (listed_nodes (typed_nodes ts))) (t ∷ []) n (omega (arith, length-backwards ts)) ∙ from-end ts i n x e (omega arith)

pub kid-from-end : (t x : TypedNode) (h : Head) (m : Mark) (ts : List TypedNode) (i n : ℕ) → marked h m (typed_nodes ts) ≡ t →
    slice_get ts i ≡ Some x →
    i + suc n ≡ length ts → kid_from_end n t ≡ x
kid-from-end t x h m ts i n e f l = sym (ap (kid_from_end n) e) ∙ from-end ts i n x f l

pub kid-before-first : (t : TypedNode) (h : Head) (m : Mark) (ts : List TypedNode) (n : ℕ) → marked h m (typed_nodes ts) ≡ t →
    length ts ≤ n →
    kid_from_end n t ≡ missing
kid-before-first t h m ts n e l =
    sym (ap (kid_from_end n) e) ∙ past-front (backwards (listed_nodes (typed_nodes ts))) n (omega (arith, length-backwards ts))

-- ---- the values of kids

pub outcome-found : (os : List Outcome) (i : ℕ) (o : Outcome) → i < length os → o ≡ get_or os i o → o ≡ kid_at i os
outcome-found [] i o l e = absurd (omega arith)
outcome-found (x ∷ os) zero o l e = e
outcome-found (x ∷ os) (suc i) o l e = outcome-found os i o (omega arith) e

pub outcome-missing : (os : List Outcome) (i : ℕ) → length os ≤ i → Known [] ≡ kid_at i os
outcome-missing [] i l = refl
outcome-missing (x ∷ os) zero l = absurd (omega arith)
outcome-missing (x ∷ os) (suc i) l = outcome-missing os i (omega arith)

-- ---- items

pub count-kids : (t : TypedNode) (h : Head) (m : Mark) (ts : List TypedNode) → marked h m (typed_nodes ts) ≡ t →
    length ts ≡ count (kids_of t)
count-kids t h m ts e = sym (each ts) ∙ ap (λ y. count (kids_of y)) e
  where
    each : (us : List TypedNode) → count (typed_nodes us) ≡ length us
    each [] = refl
    each (u ∷ us) = omega (arith, each us)

-- ---- the path whose address is taken

begins-at : (ts : List TypedNode) (x : TypedNode) → slice_get ts 0 ≡ Some x →
    is_global_path (own_kind x) (mark_of x) ≡ begins_with_global (typed_nodes ts)
begins-at [] x g = absurd cc
begins-at (marked h m us ∷ ts) x g =
    let f : marked h m us ≡ x = cc in
    sym (ap (λ y. is_global_path (own_kind y) (mark_of y)) f)

pub begins-found : (t x : TypedNode) (h : Head) (m : Mark) (ts : List TypedNode) → marked h m (typed_nodes ts) ≡ t →
    slice_get ts 0 ≡ Some x →
    is_global_path (own_kind x) (mark_of x) ≡ begins_with_global (kids_of t)
begins-found t x h m ts e g = begins-at ts x g ∙ ap (λ y. begins_with_global (kids_of y)) e
