-- Members of written unions, one by one, in later stores.
use Rattle.std.proofs.Common.{◌≡◌, ℕ, zero, suc, ◌+◌, ◌≤◌, Bool, true, false, ◌||◌, cond, List, [], ◌∷◌, ◌++◌, length, drop, Option, Some, None, IsSome, refl, ap, sym, ◌∙◌, subst, arith, add-one, append_assoc}
use Rattle.std.specs.Prelude.{slice_get, find, option_and_then}
use Rattle.std.specs.List.{list_any}
use Rattle.std.proofs.lemmas.List.{append-nil}
use Rattle.hare_types.specs.declared.row.Row.{Row}
use Rattle.hare_types.specs.declared.row.Row.TheVariants as row
use Rattle.hare_types.specs.Store.{Store}
use Rattle.hare_types.specs.Sound.{IsStore}
use Rattle.hare_types.specs.ByIds.{row_at, base_at, members_of, members_at}
use Rattle.hare_types.specs.Later.{IsLater}
use Rattle.hare_types.proofs.LaterLemmas.{types_stay}
use Rattle.hare_typed.specs.Typed.{TypedNode}
use Rattle.hare_rules.specs.Written.{brought, all_brought}
use Rattle.rule_types.specs.Known.{IsBased}
use Rattle.rule_types.specs.Members.{IsMemberKnown, AreMembersKnown}

pub is_based : (s : Store) (t : ℕ) → IsBased s t → base_at s t ≡ None → ⊥
is_based s t h e = let k = subst IsSome e h.based in cc

not_union : (r : Row) → ((is : List ℕ) → ¬ (r ≡ row.Union is)) → members_of r ≡ None
not_union (row.Union is) h = absurd (h is refl)
not_union (row.Scalar k) h = refl
not_union (row.Pointer i) h = refl
not_union (row.Nullable i) h = refl
not_union (row.Slice i) h = refl
not_union (row.Array n i) h = refl
not_union (row.Struct fs) h = refl
not_union (row.Tuple is) h = refl
not_union (row.Error i) h = refl
not_union (row.Named d) h = refl

module _ (now later : Store) (v : IsStore now) (l : IsLater now later) (t b : ℕ) (r : Row) where
  members_by : base_at now t ≡ Some b → row_at now b ≡ Some r → members_at later t ≡ members_of r
  members_by e h =
      let keeps = types_stay now later v l in
      ap (option_and_then (λ (j : ℕ). option_and_then members_of (row_at later j))) (keeps.base t b e) ∙ ap (option_and_then members_of)
      (keeps.row b r h)

  pub no_members : base_at now t ≡ Some b → row_at now b ≡ Some r → ((is : List ℕ) → ¬ (r ≡ row.Union is)) → None ≡ members_at later t
  no_members e h k = sym (members_by e h ∙ not_union r k)

module _ (now later : Store) (v : IsStore now) (l : IsLater now later) (t b : ℕ) (r : Row) (is : List ℕ) where
  pub members_union : base_at now t ≡ Some b → row_at now b ≡ Some r → r ≡ row.Union is → Some is ≡ members_at later t
  members_union e h k = sym (members_by now later v l t b r e h ∙ ap members_of k)

-- ---- lists, kid by kid

drop_suc : {A : Type 0} (xs : List A) (i : ℕ) (x : A) → slice_get xs i ≡ Some x → drop i xs ≡ x ∷ drop (suc i) xs
drop_suc [] i x e = cc
drop_suc (y ∷ ys) zero x e = let same : y ≡ x = cc in ap (λ z. z ∷ ys) same
drop_suc (y ∷ ys) (suc i) x e = drop_suc ys i x e

pub drop_get : {A : Type 0} (xs : List A) (i : ℕ) (x : A) → slice_get xs i ≡ Some x → drop i xs ≡ x ∷ drop (i + 1) xs
drop_get xs i x e = rw add-one (drop_suc xs i x e)

pub drop_none : {A : Type 0} (xs : List A) (i : ℕ) → length xs ≤ i → drop i xs ≡ []
drop_none [] zero h = refl
drop_none [] (suc i) h = refl
drop_none (x ∷ xs) zero h = absurd (omega arith)
drop_none (x ∷ xs) (suc i) h = drop_none xs i (omega arith)

module _ {A : Type 0} (p : A → Bool) (xs : List A) (i : ℕ) where
  pub find_passed : (x : A) (all : Option A) → slice_get xs i ≡ Some x → p x ≡ false → find p (drop i xs) ≡ all →
      find p (drop (i + 1) xs) ≡ all
  find_passed x all e h g = sym (ap (find p) (drop_get xs i x e) ∙ ap (λ b. cond b (Some x) (find p (drop (i + 1) xs))) h) ∙ g

  pub find_here : (x : A) (all : Option A) → slice_get xs i ≡ Some x → p x ≡ true → find p (drop i xs) ≡ all → Some x ≡ all
  find_here x all e h g = sym (ap (find p) (drop_get xs i x e) ∙ ap (λ b. cond b (Some x) (find p (drop (i + 1) xs))) h) ∙ g

  pub find_end : (all : Option A) → length xs ≤ i → find p (drop i xs) ≡ all → None ≡ all
  find_end all h g = sym (ap (find p) (drop_none xs i h)) ∙ g

  pub any_passed : (x : A) (all : Bool) → slice_get xs i ≡ Some x → p x ≡ false → list_any p (drop i xs) ≡ all →
      list_any p (drop (i + 1) xs) ≡ all
  any_passed x all e h g = sym (ap (list_any p) (drop_get xs i x e) ∙ ap (λ b. b || list_any p (drop (i + 1) xs)) h) ∙ g

  pub any_here : (x : A) (all : Bool) → slice_get xs i ≡ Some x → p x ≡ true → list_any p (drop i xs) ≡ all → true ≡ all
  any_here x all e h g = sym (ap (list_any p) (drop_get xs i x e) ∙ ap (λ b. b || list_any p (drop (i + 1) xs)) h) ∙ g

  pub any_end : (all : Bool) → length xs ≤ i → list_any p (drop i xs) ≡ all → false ≡ all
  any_end all h g = sym (ap (list_any p) (drop_none xs i h)) ∙ g

-- ---- members

pub member_at : (s : Store) (xs : List TypedNode) (i : ℕ) (x : TypedNode) → AreMembersKnown s xs → slice_get xs i ≡ Some x →
    IsMemberKnown s x
member_at s [] i x k e = cc
member_at s (y ∷ ys) zero x k e = let same : y ≡ x = cc in subst (IsMemberKnown s) same k.0
member_at s (y ∷ ys) (suc i) x k e = member_at s ys i x k.1 e

pub brought_next : (f : Store) (xs : List TypedNode) (i : ℕ) (x : TypedNode) (ids new all : List ℕ) → slice_get xs i ≡ Some x →
    new ≡ ids ++ brought f x
    → ids ++ all_brought f (drop i xs) ≡ all → new ++ all_brought f (drop (i + 1) xs) ≡ all
brought_next f xs i x ids new all e h g =
    ap (λ (js : List ℕ). js ++ all_brought f (drop (i + 1) xs)) h
    ∙ append_assoc ids (brought f x) (all_brought f (drop (i + 1) xs)) ∙ sym (ap (λ ys. ids ++ all_brought f ys) (drop_get xs i x e)) ∙ g

pub brought_end : (f : Store) (xs : List TypedNode) (i : ℕ) (ids all : List ℕ) → length xs ≤ i → ids ++ all_brought f (drop i xs) ≡ all →
    ids ≡ all
brought_end f xs i ids all h g = sym (append-nil ids) ∙ sym (ap (λ ys. ids ++ all_brought f ys) (drop_none xs i h)) ∙ g
