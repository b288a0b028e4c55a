-- The members of the union that is the base of a type, one by one.
use Rattle.std.proofs.Common.{◌≡◌, ℕ, zero, suc, ◌<◌, ◌≤◌, Bool, true, false, cond, not, List, [], ◌∷◌, length, filter, get_or, Option, Some, None, refl, ap, sym, ◌∙◌, subst, arith}
use Rattle.std.specs.Prelude.{Contains, option_and_then, option_map}
use Rattle.hare_types.specs.declared.coercion.Ty.{Ty}
use Rattle.hare_types.specs.declared.coercion.Ty.TheVariants as ty
use Rattle.hare_types.specs.declared.row.Row.{Row}
use Rattle.hare_types.specs.declared.row.Row.TheVariants as row
use Rattle.hare_types.specs.Rows.{AllAbove, Ascends, AreMembers}
use Rattle.hare_types.specs.Store.{Store}
use Rattle.hare_types.specs.Sound.{IsStore}
use Rattle.hare_types.specs.ByIds.{row_at, base_at, members_of, is_error_at}
use Rattle.hare_types.specs.Unions.{joined_or_never, without_errors}
use Rattle.hare_typed.specs.Given.{base_row}
use Rattle.hare_rules.specs.Words.{id_in, members_in}
use Rattle.rule_judge.specs.Defined.{IsDefined}

-- members by the row of the base
by_base : (s : Store) (t : ℕ) (o : Option ℕ) →
    option_and_then (λ b. option_and_then members_of (row_at s b)) o ≡ option_and_then members_of (option_and_then (row_at s) o)
by_base s t None = refl
by_base s t (Some b) = refl

pub members_row : (s : Store) (a : Ty) → members_in s a ≡ option_and_then members_of (base_row s a)
members_row s (ty.Of t) = by_base s t (base_at s t)
members_row s (ty.Iconst n) = refl
members_row s ty.Null = refl
members_row s ty.Empty = refl

pub held_member : (s : Store) (is : List ℕ) (i m d : ℕ) → ((j : ℕ) → Contains is j → IsDefined s j) → i < length is → m ≡ get_or is i d →
    IsDefined s m
held_member s [] i m d h l e = absurd (omega arith)
held_member s (j ∷ is) zero m d h l e = subst (IsDefined s) (sym e) (h j (0, omega arith, refl))
held_member s (j ∷ is) (suc i) m d h l e = held_member s is i m d (λ k c. h k (suc c.0, omega (arith, c.1), c.2)) (omega arith) e

-- the members of a union of the store are those of a reduced one
pub union_reduced : (s : Store) → IsStore s → (a : Ty) (is : List ℕ) → base_row s a ≡ Some (row.Union is) → AreMembers s.rows is
union_reduced s v (ty.Of t) is e = by (base_at s t) e
  where
    by : (o : Option ℕ) → option_and_then (row_at s) o ≡ Some (row.Union is) → AreMembers s.rows is
    by None k = cc
    by (Some b) k = v.rows_sound.reduced b (row.Union is) k
union_reduced s v (ty.Iconst n) is e = cc
union_reduced s v ty.Null is e = cc
union_reduced s v ty.Empty is e = cc

-- ---- what a filter leaves

filter-contains : (p : ℕ → Bool) (is : List ℕ) (i : ℕ) → Contains (filter p is) i → Contains is i
filter-contains p [] i c = c
filter-contains p (j ∷ is) i c = by (filter-contains p is i) (p j) c
  where
    later : Contains is i → Contains (j ∷ is) i
    later (n, l, e) = (suc n, omega (arith, l), e)

    by : (Contains (filter p is) i → Contains is i) → (b : Bool) → Contains (cond b (j ∷ filter p is) (filter p is)) i → Contains (j ∷ is) i
    by ih true (zero, l, e) = (0, omega arith, e)
    by ih true (suc n, l, e) = later (ih (n, omega (arith, l), e))
    by ih false k = later (ih k)

filter-above : (p : ℕ → Bool) (i : ℕ) (is : List ℕ) → AllAbove i is → AllAbove i (filter p is)
filter-above p i [] h = tt
filter-above p i (j ∷ is) h = by (filter-above p i is h.1) (p j)
  where
    by : AllAbove i (filter p is) → (b : Bool) → AllAbove i (cond b (j ∷ filter p is) (filter p is))
    by ih true = (h.0, ih)
    by ih false = ih

filter-ascends : (p : ℕ → Bool) (is : List ℕ) → Ascends is → Ascends (filter p is)
filter-ascends p [] h = tt
filter-ascends p (j ∷ is) h = by (filter-ascends p is h.1) (p j)
  where
    by : Ascends (filter p is) → (b : Bool) → Ascends (cond b (j ∷ filter p is) (filter p is))
    by ih true = (filter-above p j is h.0, ih)
    by ih false = ih

-- several of the members of a union are members of another
pub filter-members : (p : ℕ → Bool) (rows : List Row) (is : List ℕ) → AreMembers rows is → 2 ≤ length (filter p is) →
    AreMembers rows (filter p is)
filter-members p rows is h several = record {
  several = several;
  ascend = filter-ascends p is h.ascend;
  not_never = λ i c. h.not_never i (filter-contains p is i c);
  not_union = λ i js c. h.not_union i js (filter-contains p is i c);
}

pub filter-held : (s : Store) (p : ℕ → Bool) (is : List ℕ) → ((i : ℕ) → Contains is i → IsDefined s i) → (i : ℕ) →
    Contains (filter p is) i → IsDefined s i
filter-held s p is h i c = h i (filter-contains p is i c)

-- the type of what is left
pub left_over : (f : Store) (a : Ty) (is left : List ℕ) (t : ℕ) → Some is ≡ members_in f a → left ≡ filter (λ i. not (is_error_at f i)) is →
    joined_or_never f left ≡ Some t
    → option_and_then (without_errors f) (id_in a) ≡ Some t
left_over f (ty.Of u) is left t e g h = ap (λ o. option_and_then (joined_or_never f) (option_map (filter (λ i. not (is_error_at f i))) o))
    (sym e) ∙ ap (joined_or_never f) (sym g) ∙ h
left_over f (ty.Iconst v) is left t e g h = cc
left_over f ty.Null is left t e g h = cc
left_over f ty.Empty is left t e g h = cc
