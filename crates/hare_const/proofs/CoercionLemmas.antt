-- What becomes of a value by its coercion, where types have tags by their ids.
use Rattle.std.proofs.Common.{◌≡◌, ◌∙◌, sym, ap, ap₂, subst, refl, ℕ, Bool, true, false, List, [], ◌++◌, Option, Some, None, append-nil, IsSome}
use Rattle.std.proofs.Common.{Result, Ok, Err}
use Rattle.std.specs.declared.alloc.AllocError.{AllocError}
use Rattle.std.proofs.Common.{arith}
use Rattle.std.proofs.lemmas.Bool.Decides.{nat_tests}
use Rattle.hare_typed.specs.declared.constant.ConstObject.{ConstObject}
use Rattle.std.specs.Prelude.{nat_eq, IfOk, OnOk}
use Rattle.hare_types.specs.declared.coercion.Coercion.{Coercion}
use Rattle.hare_types.specs.declared.coercion.Ty.{Ty}
use Rattle.hare_types.specs.declared.coercion.Ty.TheVariants as ty
use Rattle.hare_types.specs.Store.{Store}
use Rattle.hare_types.specs.Sound.{IsStore}
use Rattle.hare_types.specs.Assign.{coercion}
use Rattle.hare_types.specs.ByIds.{base_at}
use Rattle.hare_typed.specs.declared.cell.Cell.{Cell}
use Rattle.hare_typed.specs.Answers.{Gives}
use Rattle.hare_typed.specs.Typed.{TypedNode, mark_of}
use Rattle.hare_typed.specs.Folded.{tagged_by_id}
use Rattle.hare_typed.specs.Unions.{union_members, union_cells}
use Rattle.hare_typed.specs.Coercions.{chosen_member, row_to, coerced_by, coerced_into, element_by, union_to_union}
use Rattle.hare_const.specs.declared.outcome.Outcome.{Outcome}
use Rattle.hare_const.specs.declared.outcome.Outcome.TheVariants.{Known}
use Rattle.hare_const.specs.NodeValues.{on_answer, coerced_value}
use Rattle.hare_const.specs.Made.{own_object}
use Rattle.hare_typed.specs.Joined.{IsJoined, Joins}
use Rattle.hare_const.specs.Coerced.{sliced_or, object_or, value_by_row, object_by_row, sliced_as, joined_as, joined_value, joined_object}
use Rattle.hare_typed.specs.Settled.{HasBase}
use Rattle.hare_const.proofs.LaterTypes.{length_same}
use Rattle.hare_const.proofs.JoinedLemmas.{row_in, row_coerced, told_chosen}
use Rattle.hare_const.proofs.LaterUnions.{by_row_same, element_same, chosen_same, row_same}
use Rattle.hare_const.proofs.LaterCoercions.{sliced_by, into-plain, sliced-plain}
use Rattle.hare_const.proofs.Tagged.{tagged_later}

module _ (s : Store) (v : IsStore s) (own : ℕ) (t : TypedNode) (cs : List Cell) where
  abbrev there : Store
  there = tagged_by_id s

  abbrev f : Ty
  f = (mark_of t).ty

  sliced_later : HasBase s f → (o : Option ℕ) → sliced_or there own t cs o ≡ sliced_or s own t cs o
  sliced_later h None = refl
  sliced_later h (Some x) = ap (λ n. sliced_or s own t cs (Some x)) (length_same s there v (tagged_later s v) f h)

  -- ---- rows but that to unions

  by_row_there : (r u : ℕ) → HasBase s f → IsSome (base_at s u) → value_by_row there own t r u cs ≡ value_by_row s own t r u cs
  by_row_there r u h k =
      ap (λ o. coerced_by there f r u (sliced_or there own t cs o)) (element_same s there v (tagged_later s v) r u k)
      ∙ ap (coerced_by there f r u) (sliced_later h (element_by s r (ty.Of u)))
      ∙ by_row_same s there v (tagged_later s v) f r u (sliced_or s own t cs (element_by s r (ty.Of u))) h k

  object_there : (r u : ℕ) → IsSome (base_at s u) → object_by_row there own t r u cs ≡ object_by_row s own t r u cs
  object_there r u k = ap (object_or own t cs) (element_same s there v (tagged_later s v) r u k)

  -- as the node has it
  abbrev valued : Store → ℕ → Ty → Outcome
  valued x r to = on_answer (coerced_into x f r to (sliced_or x own t cs (sliced_by x f r to))) Known

  pub plain_value : (r u : ℕ) → (mark_of t).coerce.row ≡ r → (mark_of t).coerce.to ≡ ty.Of u → nat_eq r 9 ≡ false → HasBase s f →
      HasBase s (ty.Of u) →
      Known (value_by_row s own t r u cs) ≡ coerced_value there own t cs
  plain_value r u e g n h k =
      ap Known (sym (by_row_there r u h k))
      ∙ sym (ap (λ o. on_answer o Known) (into-plain there f r u (sliced_or there own t cs (element_by there r (ty.Of u))) n))
      ∙ sym (ap (λ o. on_answer (coerced_into there f r (ty.Of u) (sliced_or there own t cs o)) Known) (sliced-plain there f r u n))
      ∙ sym (ap₂ (valued there) e g)

  pub plain_object : (r u : ℕ) → (mark_of t).coerce.row ≡ r → (mark_of t).coerce.to ≡ ty.Of u → nat_eq r 9 ≡ false → HasBase s (ty.Of u) →
      object_by_row s own t r u cs ≡ own_object there own t cs
  plain_object r u e g n k =
      sym (object_there r u k) ∙ sym (ap (object_or own t cs) (sliced-plain there f r u n))
      ∙ sym (ap₂ (λ x y. object_or own t cs (sliced_by there f x y)) e g)

  -- a value that goes to no type of the store stays as it is
  pub other_value : (to : Ty) → (mark_of t).coerce.to ≡ to → ((u : ℕ) → ¬ (to ≡ ty.Of u)) → Known cs ≡ coerced_value there own t cs
  other_value (ty.Of u) g n = absurd (n u refl)
  other_value (ty.Iconst x) g n = sym (ap (valued there (mark_of t).coerce.row) g)
  other_value ty.Null g n = sym (ap (valued there (mark_of t).coerce.row) g)
  other_value ty.Empty g n = sym (ap (valued there (mark_of t).coerce.row) g)

  pub other_object : (to : Ty) → (mark_of t).coerce.to ≡ to → ((u : ℕ) → ¬ (to ≡ ty.Of u)) → [] ≡ own_object there own t cs
  other_object (ty.Of u) g n = absurd (n u refl)
  other_object (ty.Iconst x) g n = sym (ap (λ y. object_or own t cs (sliced_by there f (mark_of t).coerce.row y)) g)
  other_object ty.Null g n = sym (ap (λ y. object_or own t cs (sliced_by there f (mark_of t).coerce.row y)) g)
  other_object ty.Empty g n = sym (ap (λ y. object_or own t cs (sliced_by there f (mark_of t).coerce.row y)) g)

  -- ---- the row to unions

  pub union_value : (u : ℕ) → (mark_of t).coerce.row ≡ 9 → (mark_of t).coerce.to ≡ ty.Of u →
      joined_value there own t u cs ≡ coerced_value there own t cs
  union_value u e g = sym (ap₂ (valued there) e g)

  pub union_object : (u : ℕ) → (mark_of t).coerce.row ≡ 9 → (mark_of t).coerce.to ≡ ty.Of u →
      joined_object there own t u cs ≡ own_object there own t cs
  union_object u e g = sym (ap₂ (λ x y. object_or own t cs (sliced_by there f x y)) e g)

  module _ (u : ℕ) (h : HasBase s f) (k : HasBase s (ty.Of u)) (j : IsJoined s f u) where
    member_there : (o : Option ℕ) → chosen_member s f (union_members s u) ≡ o → chosen_member there f (union_members there u) ≡ o
    member_there o e = chosen_same s there v (tagged_later s v) f u h k j.union ∙ e

    module _ (m : ℕ) (e : chosen_member s f (union_members s u) ≡ Some m) (c : Coercion) (g : coercion s f m ≡ Some c) where
      row_is : row_to there f m ≡ c.row
      row_is =
          row_same s there v (tagged_later s v) f u h k j.union m e ∙ row_coerced s f m
          ∙ ap row_in g

      pub member_value : Known (union_cells there u m (value_by_row s own t c.row m cs)) ≡ joined_value there own t u cs
      member_value =
          sym (ap (λ ds. Known (union_cells there u m ds)) (by_row_there c.row m h (told_chosen s f u m j.union e).0))
          ∙ sym (ap (λ r. Known (union_cells there u m (value_by_row there own t r m cs))) row_is)
          ∙ sym (ap (λ o. on_answer (joined_as there own t u cs o) Known) (member_there (Some m) e))

      pub member_object : object_by_row s own t c.row m cs ≡ joined_object there own t u cs
      member_object =
          sym (object_there c.row m (told_chosen s f u m j.union e).0)
          ∙ sym (ap (λ r. object_by_row there own t r m cs) row_is)
          ∙ sym (ap (λ o. object_or own t cs (sliced_as there t u o)) (member_there (Some m) e))

    module _ (e : chosen_member s f (union_members s u) ≡ None) where
      pub wider_value : (ds : List Cell) → Gives ds ≡ union_to_union there f u cs → Known ds ≡ joined_value there own t u cs
      wider_value ds g =
          ap (λ o. on_answer o Known) g ∙ sym (ap (λ o. on_answer (joined_as there own t u cs o) Known) (member_there None e))

      pub wider_object : [] ≡ joined_object there own t u cs
      wider_object = sym (ap (λ o. object_or own t cs (sliced_as there t u o)) (member_there None e))

-- what a call gave that made the cells of a union
pub member_result : (s : Store) (v : IsStore s) (own : ℕ) (t : TypedNode) (cs : List Cell) (u : ℕ) → HasBase s (mark_of t).ty →
    HasBase s (ty.Of u) →
    IsJoined s (mark_of t).ty u → (m : ℕ) → chosen_member s (mark_of t).ty (union_members s u) ≡ Some m → (c : Coercion) →
    coercion s (mark_of t).ty m ≡ Some c →
    (r : Result (List Cell) AllocError) (ds : List Cell) → ds ≡ value_by_row s own t c.row m cs →
    IfOk r (λ w. w ≡ union_cells (tagged_by_id s) u m ds) →
    IfOk r (λ w. Known w ≡ joined_value (tagged_by_id s) own t u cs)
member_result s v own t cs u h k j m e c g (Err x) ds d i = tt
member_result s v own t cs u h k j m e c g (Ok w) ds d i =
    ap Known (i ∙ ap (union_cells (tagged_by_id s) u m) d) ∙ member_value s v own t cs u h k j m e c g

pub wider_result : (s : Store) (v : IsStore s) (own : ℕ) (t : TypedNode) (cs : List Cell) (u : ℕ) → HasBase s (mark_of t).ty →
    HasBase s (ty.Of u) →
    IsJoined s (mark_of t).ty u → chosen_member s (mark_of t).ty (union_members s u) ≡ None →
    (r : Result (List Cell) AllocError) (g : Ty) (ds : List Cell) → g ≡ (mark_of t).ty → ds ≡ cs →
    IfOk r (λ w. Gives w ≡ union_to_union (tagged_by_id s) g u ds) →
    IfOk r (λ w. Known w ≡ joined_value (tagged_by_id s) own t u cs)
wider_result s v own t cs u h k j e (Err x) g ds a b i = tt
wider_result s v own t cs u h k j e (Ok w) g ds a b i =
    wider_value s v own t cs u h k j e w (i ∙ ap₂ (λ x y. union_to_union (tagged_by_id s) x u y) a b)

pub wider_made : (s : Store) (v : IsStore s) (own : ℕ) (t : TypedNode) (cs : List Cell) (u : ℕ) → HasBase s (mark_of t).ty →
    HasBase s (ty.Of u) →
    IsJoined s (mark_of t).ty u → chosen_member s (mark_of t).ty (union_members s u) ≡ None →
    (r : Result (List Cell) AllocError) (made : List ConstObject) → OnOk r (made ≡ made ++ joined_object (tagged_by_id s) own t u cs)
wider_made s v own t cs u h k j e (Err x) made = tt
wider_made s v own t cs u h k j e (Ok w) made = sym (append-nil made) ∙ ap (λ l. made ++ l) (wider_object s v own t cs u h k j e)

pub row_result : (s : Store) (v : IsStore s) (own : ℕ) (t : TypedNode) (cs : List Cell) (r u : ℕ) → (mark_of t).coerce.row ≡ r →
    (mark_of t).coerce.to ≡ ty.Of u →
    nat_eq r 9 ≡ false → HasBase s (mark_of t).ty → HasBase s (ty.Of u) →
    (x : Result (List Cell) AllocError) → IfOk x (λ w. w ≡ value_by_row s own t r u cs) →
    IfOk x (λ w. Known w ≡ coerced_value (tagged_by_id s) own t cs)
row_result s v own t cs r u e g n h k (Err y) i = tt
row_result s v own t cs r u e g n h k (Ok w) i = ap Known i ∙ plain_value s v own t cs r u e g n h k

-- ---- the row and the type of a coercion

pub joined_by_row : (s : Store) (f to : Ty) (r u : ℕ) → Joins s f r to → to ≡ ty.Of u → r ≡ 9 → IsJoined s f u
joined_by_row s f to r u j e g = subst (λ x. Joins s f r x) e j g

pub row_other : (r : ℕ) → ¬ (r ≡ 9) → nat_eq r 9 ≡ false
row_other r h = by (nat_eq r 9) refl
  where
    by : (b : Bool) → nat_eq r 9 ≡ b → nat_eq r 9 ≡ false
    by true e = absurd (h (grind (arith, nat_tests, e)))
    by false e = e

pub value_as : (r : Result (List Cell) AllocError) (x y : Outcome) → x ≡ y → IfOk r (λ w. Known w ≡ x) → IfOk r (λ w. Known w ≡ y)
value_as (Err a) x y e h = tt
value_as (Ok w) x y e h = h ∙ e
