-- What tests of a union say of it.
use Rattle.std.proofs.Common.{◌≡◌, ◌≢◌, ◌∙◌, sym, ap, subst, refl, ℕ, zero, suc, ◌+◌, ◌<◌, ◌≤◌, arith, List, [], ◌∷◌, length, drop, get_or, Option, Some, None, IsSome, false}
use Rattle.std.specs.Prelude.{is_some, option_and_then}
use Rattle.hare_types.specs.declared.coercion.Ty.{Ty}
use Rattle.hare_types.specs.declared.coercion.Ty.TheVariants as ty
use Rattle.hare_types.specs.Store.{Store}
use Rattle.hare_types.specs.declared.row.Row.{Row}
use Rattle.hare_types.specs.declared.row.Row.TheVariants as row
use Rattle.hare_types.specs.ByIds.{row_at, base_at, members_of, members_at}
use Rattle.hare_typed.specs.Given.{base_row}
use Rattle.hare_assign.specs.Chosen.{first_choice}
use Rattle.hare_typed.specs.Joined.{AreTold, IsToldUnion, HasToldUnion, IsJoined}
use Rattle.hare_typed.specs.Sizes.{Fits}
use Rattle.hare_const.proofs.JoinedLemmas.{chosen_choice}

drop-next : (ts : List ℕ) (k x : ℕ) → k < length ts → x ≡ get_or ts k x → drop k ts ≡ x ∷ drop (suc k) ts
drop-next [] k x h e = absurd (omega arith)
drop-next (t ∷ ts) zero x h e = ap (λ y. y ∷ ts) (sym e)
drop-next (t ∷ ts) (suc k) x h e = drop-next ts k x (omega arith) e

-- the types from one on, where it is told and those behind it are
pub told_more : (s : Store) (ts : List ℕ) (k x : ℕ) (G : Type 0) → k < length ts → x ≡ get_or ts k x → IsSome (base_at s x) → Fits s x →
    (AreTold s (drop k ts) → G) → AreTold s (drop (k + 1) ts) → G
told_more s ts k x G h e b f go rest =
    let next : k + 1 ≡ suc k = omega arith in
    let behind : AreTold s (drop (suc k) ts) = subst (λ i. AreTold s (drop i ts)) next rest in
    go (subst (AreTold s) (sym (drop-next ts k x h e)) (b, f, behind))

drop-past : (ts : List ℕ) (k : ℕ) → length ts ≤ k → drop k ts ≡ []
drop-past [] zero h = refl
drop-past [] (suc k) h = refl
drop-past (t ∷ ts) zero h = absurd (omega arith)
drop-past (t ∷ ts) (suc k) h = drop-past ts k (omega arith)

pub told_all : (s : Store) (ts : List ℕ) (k : ℕ) (G : Type 0) → length ts ≤ k → (AreTold s (drop k ts) → G) → G
told_all s ts k G h go = go (subst (AreTold s) (sym (drop-past ts k h)) tt)

-- a member is found, or the value is of a union that is told
pub joined_found : (s : Store) (f : Ty) (u : ℕ) (o : Option ℕ) → IsToldUnion s u → o ≡ first_choice s f u → IsSome o → IsJoined s f u
joined_found s f u None k e h = absurd cc
joined_found s f u (Some m) k e h = record {
  union = k;
  own = λ g. let both : None ≡ Some m = sym g ∙ chosen_choice s f u ∙ sym e in absurd cc;
}

pub joined_own : (s : Store) (f : Ty) (u : ℕ) → IsToldUnion s u → HasToldUnion s f → IsJoined s f u
joined_own s f u k h = record { union = k; own = λ g. h }

-- ---- what is not told

-- the first of those that are left
pub told_here : (s : Store) (ts : List ℕ) (k x : ℕ) → k < length ts → x ≡ get_or ts k x → AreTold s (drop k ts) →
    IsSome (base_at s x) × Fits s x × AreTold s (drop (k + 1) ts)
told_here s ts k x h e p =
    let next : suc k ≡ k + 1 = omega arith in
    let q : AreTold s (x ∷ drop (suc k) ts) = subst (AreTold s) (drop-next ts k x h e) p in
    (q.0, q.1, subst (λ i. AreTold s (drop i ts)) next q.2)

-- the members of a type with this base
members_by : (s : Store) (t : ℕ) (r : Row) → base_row s (ty.Of t) ≡ Some r → members_at s t ≡ members_of r
members_by s t r e = by (base_at s t) refl e
  where
    by : (o : Option ℕ) → base_at s t ≡ o → option_and_then (row_at s) o ≡ Some r → members_at s t ≡ members_of r
    by None f g = absurd cc
    by (Some b) f g =
        ap (option_and_then (λ c. option_and_then members_of (row_at s c))) f ∙ ap (option_and_then members_of) g

pub union_told : (s : Store) (t : ℕ) (ms : List ℕ) → base_row s (ty.Of t) ≡ Some (row.Union ms) → IsToldUnion s t → Fits s t × AreTold s ms
union_told s t ms e u =
    let both : Some u.members ≡ Some ms = sym u.union ∙ members_by s t (row.Union ms) e in
    let same : u.members ≡ ms = cc in
    (u.fits, subst (AreTold s) same u.told)

-- a type of another base, or of none, is no union
pub no_union : (s : Store) (t : ℕ) (o : Option Row) → base_row s (ty.Of t) ≡ o → ((ms : List ℕ) → o ≢ Some (row.Union ms)) →
    IsToldUnion s t → ⊥
no_union s t None e h u = by (base_at s t) refl e
  where
    by : (o : Option ℕ) → base_at s t ≡ o → option_and_then (row_at s) o ≡ None → ⊥
    by None f g =
        let both : None ≡ Some u.members = sym (ap (option_and_then (λ c. option_and_then members_of (row_at s c))) f) ∙ u.union in
        absurd cc
    by (Some b) f g =
        let none : members_at s t ≡ None =
        ap (option_and_then (λ c. option_and_then members_of (row_at s c))) f ∙ ap (option_and_then members_of) g in
        let both : None ≡ Some u.members = sym none ∙ u.union in
        absurd cc
no_union s t (Some r) e h u = by r refl (sym (members_by s t r e) ∙ u.union)
  where
    by : (q : Row) → r ≡ q → members_of q ≡ Some u.members → ⊥
    by (row.Union ms) f g = h ms (ap Some f)
    by (row.Scalar k) f g = absurd cc
    by (row.Pointer i) f g = absurd cc
    by (row.Nullable i) f g = absurd cc
    by (row.Slice i) f g = absurd cc
    by (row.Array n i) f g = absurd cc
    by (row.Struct fs) f g = absurd cc
    by (row.Tuple is) f g = absurd cc
    by (row.Error i) f g = absurd cc
    by (row.Named d) f g = absurd cc

-- where no member is found
pub own_union : (s : Store) (f : Ty) (u : ℕ) (o : Option ℕ) → o ≡ first_choice s f u → is_some o ≡ false → IsJoined s f u → HasToldUnion s f
own_union s f u None e h j = j.own (chosen_choice s f u ∙ sym e)
own_union s f u (Some m) e h j = absurd cc
