-- What several judges show of lists of parts: the parts but the last, the kids of a tree, and bases that stay as the store grows.
use Rattle.std.proofs.Common.{◌≡◌, ℕ, zero, suc, ◌+◌, ◌-◌, ◌<◌, ◌≤◌, List, [], ◌∷◌, length, drop, Some, refl, ap, sym, ◌∙◌, arith, add-one, length-drop}
use Rattle.std.specs.Prelude.{slice_get}
use Rattle.hare_types.specs.declared.coercion.Ty.{Ty}
use Rattle.hare_types.specs.declared.coercion.Ty.TheVariants as ty
use Rattle.hare_types.specs.Store.{Store}
use Rattle.hare_types.specs.Sound.{IsStore}
use Rattle.hare_types.specs.Later.{IsLater}
use Rattle.hare_types.proofs.LaterLemmas.{later_here}
use Rattle.hare_typed.specs.Typed.{TypedNode, typed_nodes, listed_nodes}
use Rattle.hare_typed.specs.Given.{base_row}
use Rattle.hare_rules.specs.Aggregates.{but_last}
use Rattle.rule_judge.specs.Defined.{IsDefinedTy}
use Rattle.rule_judge.proofs.DefinedLemmas.{row_of}
use Rattle.rule_judge.proofs.NameLemmas.{base_known}
use Rattle.rule_judge.proofs.BaseLemmas.{base_row_is, base_defined}

-- the list of the kids of a tree with these kids
pub listed-typed : (ts : List TypedNode) → listed_nodes (typed_nodes ts) ≡ ts
listed-typed [] = refl
listed-typed (t ∷ ts) = ap (λ us. t ∷ us) (listed-typed ts)

-- ---- the parts but the last

but_last-suc : {A : Type 0} (xs : List A) (i : ℕ) (x : A) → slice_get xs i ≡ Some x → suc i < length xs →
    but_last (drop i xs) ≡ x ∷ but_last (drop (suc i) xs)
but_last-suc [] i x e h = absurd (omega arith)
but_last-suc (y ∷ []) zero x e h = absurd (omega arith)
but_last-suc (y ∷ z ∷ zs) zero x e h = let same : y ≡ x = cc in ap (λ w. w ∷ but_last (z ∷ zs)) same
but_last-suc (y ∷ ys) (suc i) x e h = but_last-suc ys i x e (omega arith)

-- the first of those that are left, where it is not the last
pub but_last-drop : {A : Type 0} (xs : List A) (i : ℕ) (x : A) → slice_get xs i ≡ Some x → i < length xs - 1 →
    but_last (drop i xs) ≡ x ∷ but_last (drop (i + 1) xs)
but_last-drop xs i x e h = rw add-one (but_last-suc xs i x e (omega arith))

but_last-few : {A : Type 0} (xs : List A) → length xs ≤ 1 → but_last xs ≡ []
but_last-few [] h = refl
but_last-few (x ∷ []) h = refl
but_last-few (x ∷ y ∷ ys) h = absurd (omega arith)

length-drop_few : {A : Type 0} (xs : List A) (i : ℕ) → length xs ≤ suc i → length (drop i xs) ≤ 1
length-drop_few xs i h = omega (arith, length-drop i xs)

-- of the last nothing is left
pub but_last-end : {A : Type 0} (xs : List A) (i : ℕ) → length xs - 1 ≤ i → but_last (drop i xs) ≡ []
but_last-end xs i h = but_last-few (drop i xs) (length-drop_few xs i (omega arith))

-- ---- bases

-- the base of a type is the same in each later store
pub base_row_stays : (s f : Store) → IsStore s → IsLater s f → (a : Ty) → IsDefinedTy s a → base_row s a ≡ base_row f a
base_row_stays s f v l (ty.Of t) d =
    let b = base_known s v t d in
    let r = row_of s b.0 (base_defined s v t b.0 d b.1).within in
    base_row_is s s v (later_here s v) (ty.Of t) t b.0 r.0 refl b.1 r.1 ∙ sym (base_row_is s f v l (ty.Of t) t b.0 r.0 refl b.1 r.1)
base_row_stays s f v l (ty.Iconst n) d = refl
base_row_stays s f v l ty.Null d = refl
base_row_stays s f v l ty.Empty d = refl
