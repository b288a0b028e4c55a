-- The member that a value becomes, and the row by which it goes there, stay in later stores.
use Rattle.std.proofs.Common.{◌≡◌, ℕ, zero, suc, ◌<◌, Bool, true, false, ◌==◌, cond, List, [], ◌∷◌, ◌++◌, length, Option, Some, None, IsSome, refl, ap, ap₂, sym, ◌∙◌, subst, inl, inr, arith}
use Rattle.std.specs.Prelude.{slice_get, option_map, option_and_then, if◌then◌else◌}
use Rattle.std.specs.Option.{option_or}
use Rattle.hare_types.specs.declared.coercion.Ty.{Ty}
use Rattle.hare_types.specs.declared.coercion.Ty.TheVariants as ty
use Rattle.hare_types.specs.Trees.{Tree, EachTree, more}
use Rattle.hare_types.specs.Rows.{AllBelow}
use Rattle.hare_types.specs.Store.{Store}
use Rattle.hare_types.specs.Sound.{IsStore}
use Rattle.hare_types.specs.Later.{IsLater, KeepsTypes}
use Rattle.hare_types.specs.ByIds.{row_at, base_at, members_of, members_at}
use Rattle.hare_types.specs.Assign.{Value, IsIn, type_at, value_at, base, how_many, is_same, is_never, is_const, is_wider, is_pointer, is_null, is_slice, is_name, is_union, is_lone, first_from, table, first_row, coercion}
use Rattle.hare_types.proofs.IdLemmas.{base_tells}
use Rattle.hare_types.proofs.LaterLemmas as laters
use Rattle.hare_types.proofs.MeaningsLemmas.{ids_mean_trees}
use Rattle.hare_layout.proofs.AscendingLemmas.{In}
use Rattle.hare_assign.specs.Shapes.{types_at}
use Rattle.hare_assign.specs.Chosen.{is_its_default, first_of, only_of, member_for, first_member, first_choice, chosen}
use Rattle.hare_assign.specs.Growth.{HasBase, IsKnown, AreKnown, ChoicesStay, IsOneFirst, FirstsStay}
use Rattle.hare_assign.proofs.ChosenLemmas.{Goes, is_for, first_for, base_none, union_base, members_below}
use Rattle.hare_assign.proofs.GrowthLemmas as growth

-- ---- rows before that of unions

-- what comes behind a row that admits does not count
first_from-front : (n : ℕ) (xs ys zs : List Bool) (k : ℕ) → slice_get xs k ≡ Some true → first_from n (xs ++ ys) ≡ first_from n (xs ++ zs)
first_from-front n [] ys zs k e = absurd cc
first_from-front n (true ∷ xs) ys zs k e = refl
first_from-front n (false ∷ xs) ys zs zero e = absurd cc
first_from-front n (false ∷ xs) ys zs (suc k) e = first_from-front (suc n) xs ys zs k e

-- the rows but the last
abbrev front : Store → Value → Tree → List Bool
front s f t = is_same f t ∷ is_never f ∷ is_const s f t ∷ is_wider f t ∷ is_pointer f t ∷ is_null s f t ∷ is_slice s f t ∷ is_name s f t ∷
    []

front_get : (s : Store) (f : Value) (t : Tree) (k : ℕ) → k < 8 → slice_get (table s f t) k ≡ Some true
    → slice_get (front s f t) k ≡ Some true
front_get s f t zero l e = e
front_get s f t (suc zero) l e = e
front_get s f t (suc (suc zero)) l e = e
front_get s f t (suc (suc (suc zero))) l e = e
front_get s f t (suc (suc (suc (suc zero)))) l e = e
front_get s f t (suc (suc (suc (suc (suc zero))))) l e = e
front_get s f t (suc (suc (suc (suc (suc (suc zero)))))) l e = e
front_get s f t (suc (suc (suc (suc (suc (suc (suc zero))))))) l e = e
front_get s f t (suc (suc (suc (suc (suc (suc (suc (suc k)))))))) l e = absurd (omega arith)

module _ (now later : Store) (v : IsStore now) (l : IsLater now later) where
  keeps : KeepsTypes now later
  keeps = laters.types_stay now later v l

  front_stays : (f : Value) (t : Tree) → IsKnown now f → HasBase now t → front later f t ≡ front now f t
  front_stays f t k h =
      let e = growth.base_stays now later l.sound l.grows t h in
      let consts = growth.const_stays now later l.sound l.grows f t e in
      let nulls = growth.null_stays now later l.sound l.grows f t e in
      let slices = growth.slice_stays now later l.sound l.grows f t e in
      let names = growth.name_stays now later l.sound l.grows f t k e in
      cc

  row_stays : (f : Value) (t : Tree) → IsKnown now f → HasBase now t → Goes now f t → first_row later f t ≡ first_row now f t
  row_stays f t k h g =
      ap (λ xs. first_from 1 (xs ++ is_union later f t ∷ [])) (front_stays f t k h)
      ∙ first_from-front 1 (front now f t) (is_union later f t ∷ []) (is_union now f t ∷ []) g.0 (front_get now f t g.0 g.1 g.2)

  -- ---- members

  members_stay : (t : ℕ) → t < length now.rows → HasBase now (type_at now t) → members_at later t ≡ members_at now t
  members_stay t w h = by (base_at now t) refl
    where
      by : (o : Option ℕ) → base_at now t ≡ o → members_at later t ≡ members_at now t
      by None g =
          let no = subst IsSome (base_none now v t w g) h in
          absurd cc
      by (Some b) g =
          let base = (base_tells now v t b).0 g in
          let here = (ids_mean_trees now v).there b base.1 base.3 in
          ap (option_and_then (λ i. option_and_then members_of (row_at later i))) (keeps.base t b g) ∙ ap (option_and_then members_of)
          (keeps.row b here.0 here.1)
          ∙ sym (ap (option_and_then (λ i. option_and_then members_of (row_at now i))) g ∙ ap (option_and_then members_of) here.1)

  module _ (f : Value) (known : IsKnown now f) where
    first_stays : (p q : Tree → Bool) → ((t : Tree) → HasBase now t → p t ≡ q t) → (is : List ℕ) → AllBelow (length now.rows) is
        → EachTree (HasBase now) (types_at now is)
        → first_of later p is ≡ first_of now q is
    first_stays p q same [] below h = refl
    first_stays p q same (i ∷ is) below h =
        ap₂ (λ b o. cond b (Some i) o) (ap p (growth.type_stays now later l.sound l.grows i below.0) ∙ same (type_at now i) h.0)
        (first_stays p q same is below.1 h.1)

    types_stay : (is : List ℕ) → AllBelow (length now.rows) is → types_at later is ≡ types_at now is
    types_stay [] below = refl
    types_stay (i ∷ is) below = ap₂ (λ t ts. more t ts) (growth.type_stays now later l.sound l.grows i below.0) (types_stay is below.1)

    only_stays : (p q : Tree → Bool) → ((t : Tree) → base later t ≡ base now t → p t ≡ q t) → (is : List ℕ) → AllBelow (length now.rows) is
        → EachTree (HasBase now) (types_at now is)
        → only_of later p is ≡ only_of now q is
    only_stays p q same is below h =
        ap₂ (λ n o. if (n == 1) then o else None)
        (ap (how_many p) (types_stay is below) ∙ growth.count_stays now later l.sound l.grows p q same (types_at now is) h)
        (first_stays p q (λ t b. same t (growth.base_stays now later l.sound l.grows t b)) is below h)

    member_stays : (is : List ℕ) → AllBelow (length now.rows) is → EachTree (HasBase now) (types_at now is)
        → member_for later f is ≡ member_for now f is
    member_stays is below h =
        let own = first_stays (is_same f) (is_same f) (λ t b. refl) is below h in
        let default = first_stays (is_its_default f) (is_its_default f) (λ t b. refl) is below h in
        let numbers = only_stays (is_const later f) (is_const now f) (growth.const_stays now later l.sound l.grows f) is below h in
        let lones = only_stays (is_lone later f) (is_lone now f) (growth.lone_stays now later l.sound l.grows f) is below h in
        ap₂ option_or own (ap₂ option_or default (ap₂ option_or numbers lones))

    first_member_stays : (is : List ℕ) → AllBelow (length now.rows) is → EachTree (HasBase now) (types_at now is)
        → first_member later f is ≡ first_member now f is
    first_member_stays is below h =
        let same : (p q : Tree → Bool) → ((t : Tree) → base later t ≡ base now t → p t ≡ q t) → first_of later p is ≡ first_of now q is
        = λ p q k. first_stays p q (λ t b. k t (growth.base_stays now later l.sound l.grows t b)) is below h in
        ap₂ option_or (same (is_same f) (is_same f) (λ t b. refl))
        (ap₂ option_or (same (is_its_default f) (is_its_default f) (λ t b. refl))
        (ap₂ option_or (same (is_const later f) (is_const now f) (growth.const_stays now later l.sound l.grows f))
        (same (is_lone later f) (is_lone now f) (growth.lone_stays now later l.sound l.grows f))))

  based : (is : List ℕ) (m : ℕ) → EachTree (HasBase now) (types_at now is) → In m is → HasBase now (type_at now m)
  based [] m h k = absurd k
  based (i ∷ is) m h (inl e) = subst (λ j. HasBase now (type_at now j)) e h.0
  based (i ∷ is) m h (inr k) = based is m h.1 k

  within : (is : List ℕ) (m : ℕ) → AllBelow (length now.rows) is → In m is → m < length now.rows
  within [] m h k = absurd k
  within (i ∷ is) m h (inl e) = subst (λ j. j < length now.rows) e h.0
  within (i ∷ is) m h (inr k) = within is m h.1 k

  -- ---- the coercion to the member

  choice : (from : Ty) (to : ℕ) → IsIn now from → to < length now.rows → AreKnown now (value_at now from) (type_at now to)
      → chosen later from to ≡ chosen now from to
  choice from to here w known =
      ap (λ f. option_and_then (coercion later from) (option_and_then (member_for later f) (members_at later to))) value
      ∙ ap (λ o. option_and_then (coercion later from) (option_and_then (member_for later f) o)) (members_stay to w known.type) ∙ by
      (members_at now to) refl
    where
      f : Value
      f = value_at now from

      value : value_at later from ≡ f
      value = growth.value_stays now later l.sound l.grows from here

      to_member : (is : List ℕ) → EachTree (HasBase now) (types_at now is) → AllBelow (length now.rows) is → (o : Option ℕ)
          → member_for now f is ≡ o
          → option_and_then (coercion later from) o ≡ option_and_then (coercion now from) o
      to_member is h below None e = refl
      to_member is h below (Some m) e =
          let k = is_for now f is m e in
          let type = growth.type_stays now later l.sound l.grows m (within is m below k.among) in
          ap (option_map (λ n. record { row = n; to = ty.Of m }))
          (ap₂ (first_row later) value type ∙ row_stays f (type_at now m) known.value (based is m h k.among) k.goes)

      by : (o : Option (List ℕ)) → members_at now to ≡ o
          → option_and_then (coercion later from) (option_and_then (member_for later f) o) ≡
          option_and_then (coercion now from) (option_and_then (member_for now f) o)
      by None e = refl
      by (Some is) e =
          let bases = known.members (types_at now is) (union_base now v to w is e) in
          let below = members_below now v to is e in
          ap (option_and_then (coercion later from)) (member_stays f known.value is below bases) ∙ to_member is bases below
          (member_for now f is) refl

  -- ---- the first member

  first : (from : Ty) (to : ℕ) → IsIn now from → to < length now.rows → AreKnown now (value_at now from) (type_at now to)
      → IsOneFirst now later from to
  first from to here w known = by (members_at now to) refl
    where
      f : Value
      f = value_at now from

      value : value_at later from ≡ f
      value = growth.value_stays now later l.sound l.grows from here

      found : first_choice later from to ≡ option_and_then (first_member later f) (members_at now to)
      found =
          ap (λ g. option_and_then (first_member later g) (members_at later to)) value
          ∙ ap (option_and_then (first_member later f)) (members_stay to w known.type)

      by : (o : Option (List ℕ)) → members_at now to ≡ o → IsOneFirst now later from to
      by None e =
          let no : first_choice now from to ≡ None = ap (option_and_then (first_member now f)) e in
          record {
            member = found ∙ ap (option_and_then (first_member later f)) e ∙ sym no;
            goes = λ m g. let both : None ≡ Some m = sym no ∙ g in absurd cc;
          }
      by (Some is) e =
          let bases = known.members (types_at now is) (union_base now v to w is e) in
          let below = members_below now v to is e in
          let here : first_choice now from to ≡ first_member now f is = ap (option_and_then (first_member now f)) e in
          record {
            member =
                found ∙ ap (option_and_then (first_member later f)) e ∙ first_member_stays f known.value is below bases ∙ sym here;
            goes = λ m g.
                let k = first_for now f is m (sym here ∙ g) in
                let type = growth.type_stays now later l.sound l.grows m (within is m below k.among) in
                ap (option_map (λ n. record { row = n; to = ty.Of m }))
                (ap₂ (first_row later) value type ∙ row_stays f (type_at now m) known.value (based is m bases k.among) k.goes);
          }

pub choices_stay : ChoicesStay
choices_stay now later v l from to here w known = choice now later v l from to here w known

pub firsts_stay : FirstsStay
firsts_stay now later v l from to here w known = first now later v l from to here w known
