-- What values of unions are made of is in each later store the same.
use Rattle.std.proofs.Common.{◌≡◌, ◌∙◌, sym, ap, ap₂, subst, refl, ℕ, ◌<◌, cond, List, [], ◌∷◌, length, Option, Some, None, IsSome}
use Rattle.std.specs.Prelude.{pos, nat_eq, ◌||◌, find, option_and_then, unwrap_or, if◌then◌else◌}
use Rattle.hare_types.specs.declared.coercion.Ty.{Ty}
use Rattle.hare_types.specs.declared.coercion.Ty.TheVariants as ty
use Rattle.hare_types.specs.declared.coercion.Coercion.{Coercion}
use Rattle.hare_types.specs.Store.{Store}
use Rattle.hare_types.specs.Sound.{IsStore}
use Rattle.hare_types.specs.Later.{IsLater}
use Rattle.hare_types.specs.ByIds.{base_at, size_at, payload_at, tag_at}
use Rattle.hare_layout.proofs.PlacesLemmas.{payload-align}
use Rattle.hare_typed.specs.declared.cell.Cell.{Cell}
use Rattle.hare_typed.specs.Answers.{Answer, Gives, Aborts as aborts, IsUndefined, or_undefined, ◌then◌}
use Rattle.hare_typed.specs.Cells.{cells_within, with_cells, undefined_cells}
use Rattle.hare_typed.specs.Scalars.{Scalar, Number, Pointing, Null, Nullable, cells}
use Rattle.hare_typed.specs.Shapes.{shape_of_row, shape_at}
use Rattle.hare_typed.specs.Objects.{scalar_of}
use Rattle.hare_typed.specs.Words.{number_in, natural_of}
use Rattle.hare_typed.specs.Unions.{tag_shape, union_members, payload_of, tag_of, is_number, has_tag, member_tagged, checked_by, payload, union_cells}
use Rattle.hare_typed.specs.Coercions.{number_of_value, number_cells, chosen_member, row_to, inner_as, inner_to, element_of_slice, element_by, coerced_by, union_to_union, coerced_as, coerced_to_union}
use Rattle.hare_assign.proofs.ChoiceLemmas.{firsts_stay}
use Rattle.hare_assign.specs.Growth.{IsOneFirst}
use Rattle.hare_typed.specs.Sizes.{Fits}
use Rattle.hare_typed.specs.Joined.{AreTold, IsToldUnion, HasToldUnion, IsJoined, Joins}
use Rattle.hare_typed.specs.Settled.{HasBase}
use Rattle.hare_const.proofs.LaterTypes.{keeps, in_store, has_base, base_row_same, number_same, cells_same, fits}
use Rattle.hare_const.proofs.JoinedLemmas.{chosen_choice, row_in, row_coerced, told_found, told_chosen, known}

-- the types of the first store have in both the same tags
pub record SameTags (s l : Store) : Type 0 where
  pub tags : (t : ℕ) → t < length s.rows → tag_at l t ≡ tag_at s t

-- ---- what goes on from the same goes on alike

then_same : {A B : Type 0} (a : Answer A) (f g : A → Answer B) → ((x : A) → f x ≡ g x) → a then f ≡ a then g
then_same (Gives x) f g h = h x
then_same (aborts r) f g h = refl
then_same (IsUndefined u) f g h = refl

found_same : {B : Type 0} (o : Option ℕ) (f g : ℕ → Answer B) → ((m : ℕ) → o ≡ Some m → f m ≡ g m) →
    or_undefined 8 o then f ≡ or_undefined 8 o then g
found_same None f g h = refl
found_same (Some m) f g h = h m refl

-- the payload of a union that is told is
pub payload_told : (s : Store) (u : ℕ) → (k : IsToldUnion s u) → payload_at s u ≡ Some k.fits.extent.align
payload_told s u k = payload-align s u k.fits.extent k.members k.fits.at k.union

module _ (s l : Store) (v : IsStore s) (later : IsLater s l) where
  -- ---- what is told

  told_stays : (ms : List ℕ) → AreTold s ms → AreTold l ms
  told_stays [] h = tt
  told_stays (m ∷ ms) h = (has_base s l v later (ty.Of m) h.0, fits s l v later m h.1, told_stays ms h.2)

  union_stays : (t : ℕ) → IsToldUnion s t → IsToldUnion l t
  union_stays t k = record {
    fits = fits s l v later t k.fits;
    members = k.members;
    union = (keeps s l v later).members t k.members k.union;
    told = told_stays k.members k.told;
  }

  pub members_same : (t : ℕ) → IsToldUnion s t → union_members l t ≡ union_members s t
  members_same t k = ap (λ o. unwrap_or o []) ((keeps s l v later).members t k.members k.union ∙ sym k.union)

  pub payload_same : (t : ℕ) → IsToldUnion s t → payload_of l t ≡ payload_of s t
  payload_same t k =
      ap (λ o. unwrap_or o 0) ((keeps s l v later).payload t k.fits.extent.align (payload_told s t k) ∙ sym (payload_told s t k))

  pub size_same : (t : ℕ) → Fits s t → size_at l t ≡ size_at s t
  size_same t h = (keeps s l v later).size t (subst IsSome (sym h.at) refl)

  shape_same : (t : ℕ) → IsSome (base_at s t) → shape_at l t ≡ shape_at s t
  shape_same t h = ap (option_and_then shape_of_row) (base_row_same s l v later (ty.Of t) h)

  -- ---- the member that a value becomes

  module _ (f : Ty) (u : ℕ) (h : HasBase s f) (g : HasBase s (ty.Of u)) (k : IsToldUnion s u) where
    firsts : IsOneFirst s l f u
    firsts = firsts_stay s l v later f u (in_store s f h) (in_store s (ty.Of u) g) (known s v f u h g k)

    pub chosen_same : chosen_member l f (union_members l u) ≡ chosen_member s f (union_members s u)
    chosen_same = chosen_choice l f u ∙ firsts.member ∙ sym (chosen_choice s f u)

    pub row_same : (m : ℕ) → chosen_member s f (union_members s u) ≡ Some m → row_to l f m ≡ row_to s f m
    row_same m e =
        row_coerced l f m ∙ ap row_in (firsts.goes m (sym (chosen_choice s f u) ∙ e))
        ∙ sym (row_coerced s f m)

  own_stays : (f : Ty) → HasToldUnion s f → HasToldUnion l f
  own_stays (ty.Of t) k = union_stays t k
  own_stays (ty.Iconst n) k = absurd k
  own_stays ty.Null k = absurd k
  own_stays ty.Empty k = absurd k

  joined_stays : (f : Ty) (u : ℕ) → HasBase s f → HasBase s (ty.Of u) → IsJoined s f u → IsJoined l f u
  joined_stays f u h g j = record {
    union = union_stays u j.union;
    own = λ e. own_stays f (j.own (sym (chosen_same f u h g j.union) ∙ e));
  }

  pub joins_stay : (f : Ty) (r : ℕ) (to : Ty) → HasBase s f → HasBase s to → Joins s f r to → Joins l f r to
  joins_stay f r (ty.Of u) h g j = λ e. joined_stays f u h g (j e)
  joins_stay f r (ty.Iconst n) h g j = tt
  joins_stay f r ty.Null h g j = tt
  joins_stay f r ty.Empty h g j = tt

  -- ---- rows but that to unions

  pub by_row_same : (f : Ty) (r t : ℕ) (cs : List Cell) → HasBase s f → IsSome (base_at s t) → coerced_by l f r t cs ≡ coerced_by s f r t cs
  by_row_same f r t cs h k =
      ap (λ n. if nat_eq r 3 || nat_eq r 4 then n else (if nat_eq r 6 then cells Nullable (Pointing Null) else cs))
      (cells_same s l v later (ty.Of t) (number_of_value l f cs) k ∙ ap (number_cells s (ty.Of t)) (number_same s l v later f cs h))

  pub element_same : (r t : ℕ) → IsSome (base_at s t) → element_by l r (ty.Of t) ≡ element_by s r (ty.Of t)
  element_same r t k = ap (λ o. if nat_eq r 7 then element_of_slice o else None) (base_row_same s l v later (ty.Of t) k)

  -- what a coercion to a union makes a slice of
  abbrev sliced_in : Store → Ty → ℕ → Option ℕ → Option ℕ
  sliced_in x f u o = let i : Coercion = inner_as x f u o in element_by x i.row i.to

  pub union_sliced : (f : Ty) (u : ℕ) → HasBase s f → HasBase s (ty.Of u) → IsJoined s f u →
      (let i : Coercion = inner_to l f u in element_by l i.row i.to) ≡ (let i : Coercion = inner_to s f u in element_by s i.row i.to)
  union_sliced f u h g j = ap (sliced_in l f u) (chosen_same f u h g j.union) ∙ by (chosen_member s f (union_members s u)) refl
    where
      by : (o : Option ℕ) → chosen_member s f (union_members s u) ≡ o → sliced_in l f u o ≡ sliced_in s f u o
      by None e = refl
      by (Some m) e =
          ap (λ r. element_by l r (ty.Of m)) (row_same f u h g j.union m e)
          ∙ element_same (row_to s f m) m (told_chosen s f u m j.union e).0

  pub payload_cells : (f m : ℕ) (cs : List Cell) → IsToldUnion s f → IsSome (base_at s m) × Fits s m → payload l f m cs ≡ payload s f m cs
  payload_cells f m cs k h =
      ap (λ x. checked_by x (cells_within (payload_of l f) (size_at l m) cs)) (shape_same m h.0)
      ∙ ap₂ (λ p n. checked_by (shape_at s m) (cells_within p n cs)) (payload_same f k) (size_same m h.1)

  -- ---- values of unions

  module _ (same : SameTags s l) where
    tag_same : (m : ℕ) → IsSome (base_at s m) → tag_at l m ≡ tag_at s m
    tag_same m h = same.tags m (in_store s (ty.Of m) h)

    cells_of_union : (u m : ℕ) (cs : List Cell) → IsToldUnion s u → IsSome (base_at s m) → union_cells l u m cs ≡ union_cells s u m cs
    cells_of_union u m cs k h =
        ap (λ o. with_cells 0 (cells tag_shape (Number (pos (unwrap_or o 0))))
        (with_cells (payload_of l u) cs (undefined_cells (size_at l u))))
        (tag_same m h)
        ∙ ap₂ (λ p n. with_cells 0 (cells tag_shape (Number (pos (tag_of s m)))) (with_cells p cs (undefined_cells n)))
        (payload_same u k) (size_same u k.fits)

    tagged_same : (n : ℕ) (ms : List ℕ) → AreTold s ms → find (has_tag l n) ms ≡ find (has_tag s n) ms
    tagged_same n [] h = refl
    tagged_same n (m ∷ ms) h = ap₂ (λ o r. cond (is_number n o) (Some m) r) (tag_same m h.0) (tagged_same n ms h.2)

    -- a value of a union once its member is known
    abbrev as_member : Store → (f u : ℕ) → List Cell → ℕ → Answer (List Cell)
    as_member x f u cs m = payload x f m cs then λ d. Gives (union_cells x u m d)

    member_same : (f u m : ℕ) (cs : List Cell) → IsToldUnion s f → IsToldUnion s u → IsSome (base_at s m) × Fits s m →
        as_member l f u cs m ≡ as_member s f u cs m
    member_same f u m cs k j h =
        ap (λ a. a then λ d. Gives (union_cells l u m d)) (payload_cells f m cs k h)
        ∙ then_same (payload s f m cs) (λ d. Gives (union_cells l u m d)) (λ d. Gives (union_cells s u m d))
        (λ d. ap Gives (cells_of_union u m d j h.0))

    by_tag : (f u n : ℕ) (cs : List Cell) → IsToldUnion s f → IsToldUnion s u →
        member_tagged l (union_members l f) n then as_member l f u cs ≡ member_tagged s (union_members s f) n then as_member s f u cs
    by_tag f u n cs k j =
        let ms : union_members s f ≡ k.members = ap (λ o. unwrap_or o []) k.union in
        ap (λ js. or_undefined 8 (find (has_tag l n) js) then as_member l f u cs) (members_same f k ∙ ms)
        ∙ ap (λ o. or_undefined 8 o then as_member l f u cs) (tagged_same n k.members k.told)
        ∙ found_same (find (has_tag s n) k.members) (as_member l f u cs) (as_member s f u cs)
        (λ m e. member_same f u m cs k j (told_found s (has_tag s n) k.members m k.told e))
        ∙ sym (ap (λ js. or_undefined 8 (find (has_tag s n) js) then as_member s f u cs) ms)

    by_scalar : (f u : ℕ) (cs : List Cell) (a : Answer Scalar) → IsToldUnion s f → IsToldUnion s u →
        (a then λ x. member_tagged l (union_members l f) (natural_of (number_in x))) then as_member l f u cs
        ≡ (a then λ x. member_tagged s (union_members s f) (natural_of (number_in x))) then as_member s f u cs
    by_scalar f u cs (Gives x) k j = by_tag f u (natural_of (number_in x)) cs k j
    by_scalar f u cs (aborts r) k j = refl
    by_scalar f u cs (IsUndefined n) k j = refl

    wider_same : (f : Ty) (u : ℕ) (cs : List Cell) → HasToldUnion s f → IsToldUnion s u → union_to_union l f u cs ≡ union_to_union s f u cs
    wider_same (ty.Of f) u cs k j = by_scalar f u cs (scalar_of tag_shape (cells_within 0 4 cs)) k j
    wider_same (ty.Iconst n) u cs k j = absurd k
    wider_same ty.Null u cs k j = absurd k
    wider_same ty.Empty u cs k j = absurd k

    pub union_same : (f : Ty) (u : ℕ) (cs : List Cell) → HasBase s f → HasBase s (ty.Of u) → IsJoined s f u →
        coerced_to_union l f u cs ≡ coerced_to_union s f u cs
    union_same f u cs h g j = ap (coerced_as l f u cs) (chosen_same f u h g j.union) ∙ by (chosen_member s f (union_members s u)) refl
      where
        by : (o : Option ℕ) → chosen_member s f (union_members s u) ≡ o → coerced_as l f u cs o ≡ coerced_as s f u cs o
        by None e = wider_same f u cs (j.own e) j.union
        by (Some m) e =
            let told = told_chosen s f u m j.union e in
            ap (λ r. Gives (union_cells l u m (coerced_by l f r m cs))) (row_same f u h g j.union m e)
            ∙ ap (λ ds. Gives (union_cells l u m ds)) (by_row_same f (row_to s f m) m cs h told.0)
            ∙ ap Gives (cells_of_union u m (coerced_by s f (row_to s f m) m cs) j.union told.0)
