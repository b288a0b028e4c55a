-- What nodes give, and the bases of their types, as calls tell them.
use Rattle.std.proofs.Common.{◌≡◌, ℕ, suc, ◌+◌, ◌-◌, ◌<◌, List, [], ◌∷◌, length, Some, refl, ap, sym, ◌∙◌, ◌⊎◌, inl, inr, arith}
use Rattle.std.specs.Prelude.{slice_get}
use Rattle.std.proofs.lemmas.Option.{slice_get_within}
use Rattle.hare_tree.specs.declared.kind.Kind.{Kind}
use Rattle.hare_tree.specs.declared.kind.Kind.TheVariants as kind
use Rattle.hare_types.specs.declared.coercion.Ty.{Ty}
use Rattle.hare_types.specs.declared.coercion.Ty.TheVariants as ty
use Rattle.hare_types.specs.Store.{Store}
use Rattle.hare_types.specs.Bases.{IsBaseOf}
use Rattle.hare_types.specs.Bases.{IsBaseOf}
use Rattle.hare_types.proofs.IdLemmas.{row_of_tree}
use Rattle.hare_typed.specs.Typed.{TypedNode, typed_nodes}
use Rattle.hare_typed.specs.Given.{given, first_given, pointee, one_more, followed_within}
use Rattle.hare_typed.specs.Weight.{count, items_of}

-- ---- kids

pub first_given-get : (ts : List TypedNode) (x t : TypedNode) → slice_get ts 0 ≡ Some t → x ≡ t → given x ≡ first_given (typed_nodes ts)
first_given-get [] x t e h = cc
first_given-get (u ∷ us) x t e h = let k : u ≡ t = cc in ap given (h ∙ sym k)

pub count-typed_nodes : (ts : List TypedNode) → count (typed_nodes ts) ≡ length ts
count-typed_nodes [] = refl
count-typed_nodes (t ∷ ts) = omega (arith, count-typed_nodes ts)

-- ---- bases

-- a base is in the store
pub base_within : (s : Store) (t b : ℕ) → IsBaseOf s t b → b < length s.rows
base_within s t b is = let row = row_of_tree s b is.1 is.3 in slice_get_within s.rows b row.0 row.1

-- ---- pointers

pub followed-step : (n m : ℕ) (s : Store) (t : Ty) (i : ℕ) → n ≡ suc m → pointee s t ≡ Some i →
    followed_within n s t ≡ 1 + followed_within m s (ty.Of i)
followed-step n m s t i h e = ap (λ k. followed_within k s t) h ∙ ap (one_more (followed_within m s)) e ∙ omega arith

-- one pointer more has been followed
pub followed-more : (p : ℕ) (s : Store) (t : Ty) (i all : ℕ) → p < 16 → pointee s t ≡ Some i → p + followed_within (16 - p) s t ≡ all →
    p + 1 + followed_within (16 - (p + 1)) s (ty.Of i) ≡ all
followed-more p s t i all h e k =
    let left : 16 - p ≡ suc (16 - (p + 1)) = omega arith in
    let step : followed_within (16 - p) s t ≡ 1 + followed_within (16 - (p + 1)) s (ty.Of i) =
    followed-step (16 - p) (16 - (p + 1)) s t i left e in
    omega arith

-- ---- items

pub items_of-two : (k : Kind) (ts : List TypedNode) → (k ≡ kind.StructLit) ⊎ (k ≡ kind.Array) → items_of k (typed_nodes ts) ≡ length ts - 2
items_of-two k ts (inl e) = ap (λ j. items_of j (typed_nodes ts)) e ∙ ap (λ n. n - 2) (count-typed_nodes ts)
items_of-two k ts (inr e) = ap (λ j. items_of j (typed_nodes ts)) e ∙ ap (λ n. n - 2) (count-typed_nodes ts)

pub items_of-one : (k : Kind) (ts : List TypedNode) → k ≡ kind.Tuple → items_of k (typed_nodes ts) ≡ length ts - 1
items_of-one k ts e = ap (λ j. items_of j (typed_nodes ts)) e ∙ ap (λ n. n - 1) (count-typed_nodes ts)
