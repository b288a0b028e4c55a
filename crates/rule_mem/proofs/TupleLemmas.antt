-- Components of tuples, one by one.
use Rattle.std.proofs.Common.{◌≡◌, ℕ, zero, suc, ◌+◌, ◌-◌, ◌*◌, ◌<◌, ◌≤◌, Bool, true, false, List, [], ◌∷◌, ◌++◌, length, drop, Option, Some, None, refl, ap, ap₂, sym, ◌∙◌, subst, arith, append_assoc}
use Rattle.std.specs.Prelude.{slice_get, Contains, option_map, option_and_then}
use Rattle.std.proofs.lemmas.List.{append-nil}
use Rattle.hare_types.specs.declared.extent.Extent.{Extent}
use Rattle.hare_types.specs.declared.row.Row.TheVariants as row
use Rattle.hare_types.specs.Store.{Store}
use Rattle.hare_types.specs.Sound.{IsStore}
use Rattle.hare_types.specs.Layout.{fields_extent}
use Rattle.hare_types.specs.Kept.{all_known}
use Rattle.hare_types.specs.ByIds.{extent_at}
use Rattle.hare_types.specs.Unions.{id_of}
use Rattle.hare_types.proofs.IdLemmas.{extent-row, id_tells}
use Rattle.hare_types.specs.declared.coercion.Ty.{Ty}
use Rattle.hare_typed.specs.Typed.{TypedNode}
use Rattle.hare_typed.specs.Order.{tree_from_front}
use Rattle.hare_rules.specs.Context.{own_type}
use Rattle.hare_rules.specs.Words.{default_in}
use Rattle.hare_rules.specs.declared.hint.Hint.{Hint}
use Rattle.hare_rules.specs.Aggregates.{but_last, with_id, defaults, or_defaults, hinted_components, is_small, fields_small, array_small}
use Rattle.rule_mem.proofs.FillLemmas.{but_last-drop, but_last-end}

pub slice_get-front : (xs : List TypedNode) (i : ℕ) → i < length xs → slice_get xs i ≡ Some (tree_from_front i xs)
slice_get-front [] i h = absurd (omega arith)
slice_get-front (x ∷ xs) zero h = refl
slice_get-front (x ∷ xs) (suc i) h = slice_get-front xs i (omega arith)

joined-id : (ts : List ℕ) (d : ℕ) (o : Option (List ℕ)) →
    option_map (λ us. ts ++ us) (with_id (Some d) o) ≡ option_map (λ us. (ts ++ d ∷ []) ++ us) o
joined-id ts d None = refl
joined-id ts d (Some us) = ap Some (sym (append_assoc ts (d ∷ []) us))

defaults-left : (f : Store) (xs : List TypedNode) (i : ℕ) (a : Ty) → i < length xs - 1 → a ≡ own_type (tree_from_front i xs)
    → defaults f (but_last (drop i xs)) ≡ with_id (default_in f a) (defaults f (but_last (drop (i + 1) xs)))
defaults-left f xs i a h e =
    ap (defaults f) (but_last-drop xs i (tree_from_front i xs) (slice_get-front xs i (omega arith)) h)
    ∙ sym (ap (λ b. with_id (default_in f b) (defaults f (but_last (drop (i + 1) xs)))) e)

-- one default more
pub defaults-more : (f : Store) (xs : List TypedNode) (ts us : List ℕ) (i d : ℕ) (a : Ty) (all : Option (List ℕ)) → i < length xs - 1
    → a ≡ own_type (tree_from_front i xs) → Some d ≡ default_in f a → us ≡ ts ++ d ∷ []
    → option_map (λ vs. ts ++ vs) (defaults f (but_last (drop i xs))) ≡ all
    → option_map (λ vs. us ++ vs) (defaults f (but_last (drop (i + 1) xs))) ≡ all
defaults-more f xs ts us i d a all h e k n g =
    ap (λ ws. option_map (λ vs. ws ++ vs) (defaults f (but_last (drop (i + 1) xs)))) n
    ∙ sym (joined-id ts d (defaults f (but_last (drop (i + 1) xs))))
    ∙ ap (λ o. option_map (λ vs. ts ++ vs) (with_id o (defaults f (but_last (drop (i + 1) xs))))) k
    ∙ sym (ap (option_map (λ vs. ts ++ vs)) (defaults-left f xs i a h e)) ∙ g

no_id : (o : Option (List ℕ)) → with_id None o ≡ None
no_id None = refl
no_id (Some ts) = refl

-- there is none
pub defaults-none : (f : Store) (xs : List TypedNode) (ts : List ℕ) (i : ℕ) (a : Ty) (all : Option (List ℕ)) → i < length xs - 1
    → a ≡ own_type (tree_from_front i xs) → None ≡ default_in f a
    → option_map (λ vs. ts ++ vs) (defaults f (but_last (drop i xs))) ≡ all → None ≡ all
defaults-none f xs ts i a all h e k g =
    ap (option_map (λ vs. ts ++ vs)) (sym (no_id (defaults f (but_last (drop (i + 1) xs)))) ∙ ap
    (λ o. with_id o (defaults f (but_last (drop (i + 1) xs)))) k ∙ sym (defaults-left f xs i a h e)) ∙ g

-- all have one
pub defaults-end : (f : Store) (xs : List TypedNode) (ts : List ℕ) (i : ℕ) (all : Option (List ℕ)) → length xs - 1 ≤ i
    → option_map (λ vs. ts ++ vs) (defaults f (but_last (drop i xs))) ≡ all → Some ts ≡ all
defaults-end f xs ts i all h g =
    ap Some (sym (append-nil ts)) ∙ sym (ap (λ ys. option_map (λ vs. ts ++ vs) (defaults f ys)) (but_last-end xs i h)) ∙ g

-- each of some and one more
pub each-more : (P : ℕ → Type 0) (ts us : List ℕ) (d : ℕ) → us ≡ ts ++ d ∷ [] → ((i : ℕ) → Contains ts i → P i) → P d → (i : ℕ) →
    Contains us i → P i
each-more P ts us d e h k i c = by ts h (subst (λ xs. Contains xs i) e c)
  where
    none : (i : ℕ) → Contains (d ∷ []) i → P i
    none i (zero, l, e) = subst P e k
    none i (suc n, l, e) = absurd (omega arith)

    by : (xs : List ℕ) → ((i : ℕ) → Contains xs i → P i) → Contains (xs ++ d ∷ []) i → P i
    by [] h c = none i c
    by (x ∷ xs) h (zero, l, e) = subst P e (h x (0, omega arith, refl))
    by (x ∷ xs) h (suc n, l, e) = by xs (λ j c. h j (suc c.0, omega (arith, c.1), c.2)) (n, omega (arith, l), e)

-- ---- by a hint or by the items

pub components-hinted : (f : Store) (h : Hint) (xs : List TypedNode) (n : ℕ) (ts us : List ℕ) → Some ts ≡ hinted_components f h n →
    n ≡ length xs → us ≡ ts
    → Some us ≡ or_defaults f xs (hinted_components f h (length xs))
components-hinted f h xs n ts us e k m =
    ap Some m ∙ ap (or_defaults f xs) (e ∙ ap (hinted_components f h) k)

pub components-own : (f : Store) (h : Hint) (xs : List TypedNode) (n : ℕ) (o : Option (List ℕ)) → None ≡ hinted_components f h n →
    n ≡ length xs → o ≡ defaults f xs
    → o ≡ or_defaults f xs (hinted_components f h (length xs))
components-own f h xs n o e k m = m ∙ ap (or_defaults f xs) (e ∙ ap (hinted_components f h) k)

-- the size of a tuple is that of the type which it is
pub tuple_small : (f : Store) → IsStore f → (ts : List ℕ) (u : ℕ) → id_of f (row.Tuple ts) ≡ Some u
    → is_small (option_map (λ x. x.size) (extent_at f u)) ≡ fields_small f ts
tuple_small f v ts u e =
    ap (λ o. is_small (option_map (λ x. x.size) o)) (extent-row f u (row.Tuple ts) ((id_tells f v (row.Tuple ts) u).0 e)) ∙ by
    (all_known (extent_at f) ts)
  where
    by : (o : Option (List Extent)) → is_small (option_map (λ x. x.size) (option_map fields_extent o)) ≡
        is_small (option_map (λ xs. (fields_extent xs).size) o)
    by None = refl
    by (Some xs) = refl

-- the size of an array too
pub array_fits : (f : Store) → IsStore f → (n t u : ℕ) → id_of f (row.Array n t) ≡ Some u
    → is_small (option_map (λ x. x.size) (extent_at f u)) ≡ array_small f n t
array_fits f v n t u e =
    ap (λ o. is_small (option_map (λ x. x.size) o)) (extent-row f u (row.Array n t) ((id_tells f v (row.Array n t) u).0 e)) ∙ by
    (extent_at f t)
  where
    by : (o : Option Extent) → is_small (option_map (λ x. x.size)
        (option_map (λ x. let y : Extent = record { size = n * x.size; align = x.align } in y) o)) ≡
        is_small (option_map (λ x. n * x.size) o)
    by None = refl
    by (Some x) = refl
