-- What hints ask of allocations.
use Rattle.std.proofs.Common.{◌≡◌, ℕ, suc, ◌+◌, ◌<◌, Bool, true, false, cond, List, [], ◌∷◌, length, drop, filter, get_or, Option, Some, None, refl, ap, sym, ◌∙◌, subst, add-one, drop-cons}
use Rattle.std.specs.Prelude.{Contains}
use Rattle.hare_types.specs.declared.row.Row.{Row}
use Rattle.hare_types.specs.declared.row.Row.TheVariants as row
use Rattle.hare_types.specs.Store.{Store}
use Rattle.hare_rules.specs.Words.{only_one}
use Rattle.rule_judge.specs.Defined.{IsDefined, HoldsDefined}

-- the one of these, where one was found before them or none
abbrev pub one_with : Option ℕ → List ℕ → Option ℕ
one_with None ts = only_one ts
one_with (Some t) [] = Some t
one_with (Some t) (u ∷ us) = None

one_with-first : (t : ℕ) (ts : List ℕ) → only_one (t ∷ ts) ≡ one_with (Some t) ts
one_with-first t [] = refl
one_with-first t (u ∷ us) = refl

filter-drop : (p : ℕ → Bool) (ts : List ℕ) (i t : ℕ) → i < length ts → t ≡ get_or ts i t →
    filter p (drop i ts) ≡ cond (p t) (t ∷ filter p (drop (i + 1) ts)) (filter p (drop (i + 1) ts))
filter-drop p ts i t h e =
    rw add-one (ap (filter p) (drop-cons ts i t h ∙ ap (λ u. u ∷ drop (suc i) ts) (sym e)))

-- the first that is found
pub one_with-found : (p : ℕ → Bool) (ts : List ℕ) (i t : ℕ) (o q all : Option ℕ) → i < length ts → t ≡ get_or ts i t → true ≡ p t →
    o ≡ None → q ≡ Some t
    → all ≡ one_with o (filter p (drop i ts)) → all ≡ one_with q (filter p (drop (i + 1) ts))
one_with-found p ts i t o q all h e k m n g =
    g ∙ ap (λ x. one_with x (filter p (drop i ts))) m
    ∙ ap only_one (filter-drop p ts i t h e ∙ ap (λ b. cond b (t ∷ filter p (drop (i + 1) ts)) (filter p (drop (i + 1) ts))) (sym k))
    ∙ one_with-first t (filter p (drop (i + 1) ts)) ∙ sym (ap (λ x. one_with x (filter p (drop (i + 1) ts))) n)

-- a second one
pub one_with-second : (p : ℕ → Bool) (ts : List ℕ) (i t u : ℕ) (o all : Option ℕ) → i < length ts → t ≡ get_or ts i t → true ≡ p t →
    o ≡ Some u
    → all ≡ one_with o (filter p (drop i ts)) → None ≡ all
one_with-second p ts i t u o all h e k m g =
    sym (g ∙ ap (λ x. one_with x (filter p (drop i ts))) m
    ∙ ap (one_with (Some u)) (filter-drop p ts i t h e ∙ ap (λ b. cond b (t ∷ filter p (drop (i + 1) ts)) (filter p (drop (i + 1) ts)))
    (sym k)))

-- one that is passed over
pub one_with-other : (p : ℕ → Bool) (ts : List ℕ) (i t : ℕ) (o q all : Option ℕ) → i < length ts → t ≡ get_or ts i t → false ≡ p t → q ≡ o
    → all ≡ one_with o (filter p (drop i ts)) → all ≡ one_with q (filter p (drop (i + 1) ts))
one_with-other p ts i t o q all h e k n g =
    g ∙ ap (one_with o) (filter-drop p ts i t h e ∙ ap (λ b. cond b (t ∷ filter p (drop (i + 1) ts)) (filter p (drop (i + 1) ts))) (sym k))
    ∙ sym (ap (λ x. one_with x (filter p (drop (i + 1) ts))) n)

-- the types in a tuple
pub held_each : (s : Store) (r : Row) (ts us : List ℕ) → HoldsDefined s r → r ≡ row.Tuple ts → us ≡ ts → (i : ℕ) → Contains us i →
    IsDefined s i
held_each s r ts us h e k i c = (subst (HoldsDefined s) e h) i (subst (λ xs. Contains xs i) k c)

-- the members of a union
pub held_members : (s : Store) (r : Row) (ts us : List ℕ) → HoldsDefined s r → r ≡ row.Union ts → us ≡ ts → (i : ℕ) → Contains us i →
    IsDefined s i
held_members s r ts us h e k i c = (subst (HoldsDefined s) e h) i (subst (λ xs. Contains xs i) k c)
