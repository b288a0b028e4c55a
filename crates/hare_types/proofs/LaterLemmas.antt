-- What later stores say too.
use Rattle.std.proofs.Common.{◌≡◌, ℕ, suc, ◌<◌, Bool, false, not, cond, List, [], ◌∷◌, ◌++◌, length, Option, Some, None, IsSome, refl, ap, ap₂, sym, ◌∙◌, subst, arith}
use Rattle.std.specs.Prelude.{Contains, filter, flat_map, slice_index_or, option_map, option_and_then}
use Rattle.std.specs.Option.{unwrap_or}
use Rattle.std.proofs.lemmas.Option.{slice_get-get_or}
use Rattle.hare_types.specs.declared.extent.Extent.{Extent}
use Rattle.hare_types.specs.declared.row.Row.{Row}
use Rattle.hare_types.specs.declared.row.Row.TheVariants as row
use Rattle.hare_types.specs.declared.row.Scalar.TheVariants as keyword
use Rattle.hare_types.specs.Rows.{AllBelow}
use Rattle.hare_types.specs.Store.{Store, sized_of, definition_of, Extends}
use Rattle.hare_types.specs.Sound.{IsStore}
use Rattle.hare_types.specs.Layout.{field_start, payload_start}
use Rattle.hare_types.specs.Kept.{parts_of, all_known}
use Rattle.hare_types.specs.Bases.{base_over}
use Rattle.hare_types.specs.ByIds.{row_at, base_at, error_over, marked_at, is_error_at, sized_over, sized_at, bytes_over, extent_at, field_in, fields_of, fields_at, members_of, members_at}
use Rattle.hare_types.specs.Unions.{id_of, joined, ascending, brought_by, brought_at, left_of, values_at, joined_or_never}
use Rattle.hare_types.specs.Later.{IsLater, AreMarksKnown, KeepsTypes}
use Rattle.hare_types.proofs.CallerLemmas.{Extends-refl, Extends-trans, tree_at-Extends}
use Rattle.hare_types.proofs.GrowthLemmas.{option_map-more, option_and_then-more}
use Rattle.hare_types.proofs.FollowLemmas.{row-continued, found-more}
use Rattle.hare_types.proofs.IdLemmas.{base_over-grows, error_over-grows, sized_over-grows, bytes_over-grows, all_known-grows, id_tells}

-- ---- which stores are later

pub later_here : (s : Store) → IsStore s → IsLater s s
later_here s h =
    record { grows = record { names = e.names; rows = e.rows; listed = (s.listed, refl); sized = e.sized; defined = e.defined }; sound = h }
  where
    e : Extends s s
    e = Extends-refl s

pub later_grown : (a b : Store) → Extends a b → IsStore b → IsLater a b
later_grown a b e h =
    record { grows = record { names = e.names; rows = e.rows; listed = (b.listed, refl); sized = e.sized; defined = e.defined }; sound = h }

-- the list of types that have tags is emptied
pub later_untagged : (a b : Store) → b ≡ record a { listed = [] } → IsStore b → IsLater a b
later_untagged a b e h =
    record { grows = subst (Extends (record a { listed = [] })) (sym e) (Extends-refl (record a { listed = [] })); sound = h }

pub later_trans : (a b c : Store) → IsLater a b → IsLater b c → IsLater a c
later_trans a b c h k =
    record { grows = Extends-trans (record a { listed = [] }) (record b { listed = [] }) c untagged k.grows; sound = k.sound }
  where
    untagged : Extends (record a { listed = [] }) (record b { listed = [] })
    untagged = record { names = h.grows.names; rows = h.grows.rows; listed = ([], refl); sized = h.grows.sized; defined = h.grows.defined }

-- ---- what they say

unwrapped : {A : Type 0} (d : A) (o p : Option A) → IsSome o → ((a : A) → o ≡ Some a → p ≡ Some a) → unwrap_or p d ≡ unwrap_or o d
unwrapped d None p s h = absurd cc
unwrapped d (Some a) p s h = ap (λ q. unwrap_or q d) (h a refl)

some_mapped : {A B : Type 0} (f : A → B) (o : Option A) → IsSome o → IsSome (option_map f o)
some_mapped f None s = s
some_mapped f (Some a) s = refl

module _ (now later : Store) (v : IsStore now) (l : IsLater now later) where
  row_stays : (t : ℕ) (r : Row) → row_at now t ≡ Some r → row_at later t ≡ Some r
  row_stays = row-continued now later l.grows.rows

  -- all that a row tells of itself
  of_row : {A : Type 0} (f : Row → Option A) (t : ℕ) (a : A) → option_and_then f (row_at now t) ≡ Some a
      → option_and_then f (row_at later t) ≡ Some a
  of_row f t a e = option_and_then-more f f (λ r b h. h) (row_at now t) (row_at later t) (row_stays t) a e

  row_here : (t : ℕ) → t < length now.rows → row_at later t ≡ row_at now t
  row_here t h =
      let r = slice_index_or now.rows t (row.Scalar keyword.Void) in
      let e : row_at now t ≡ Some r = slice_get-get_or now.rows t (row.Scalar keyword.Void) h in
      row_stays t r e ∙ sym e

  base_stays : (t b : ℕ) → base_at now t ≡ Some b → base_at later t ≡ Some b
  base_stays = found-more now later l.grows.rows (base_over (definition_of now)) (base_over (definition_of later))
      (base_over-grows (definition_of now) (definition_of later) l.grows.defined)

  marked_stays : (t : ℕ) (b : Bool) → marked_at now t ≡ Some b → marked_at later t ≡ Some b
  marked_stays = found-more now later l.grows.rows (error_over (definition_of now)) (error_over (definition_of later))
      (error_over-grows (definition_of now) (definition_of later) l.grows.defined)

  sized_stays : (t : ℕ) (b : Bool) → sized_at now t ≡ Some b → sized_at later t ≡ Some b
  sized_stays = found-more now later l.grows.rows (sized_over (sized_of now)) (sized_over (sized_of later))
      (sized_over-grows (sized_of now) (sized_of later) l.grows.sized)

  extent_stays : (t : ℕ) (x : Extent) → extent_at now t ≡ Some x → extent_at later t ≡ Some x
  extent_stays = found-more now later l.grows.rows (bytes_over (definition_of now)) (bytes_over (definition_of later))
      (bytes_over-grows (definition_of now) (definition_of later) l.grows.defined)

  fields_stay : (t : ℕ) (is : List ℕ) → fields_at now t ≡ Some is → fields_at later t ≡ Some is
  fields_stay t is e =
      option_and_then-more (λ b. option_and_then fields_of (row_at now b)) (λ b. option_and_then fields_of (row_at later b))
      (of_row fields_of) (base_at now t) (base_at later t) (base_stays t) is e

  members_stay : (t : ℕ) (is : List ℕ) → members_at now t ≡ Some is → members_at later t ≡ Some is
  members_stay t is e =
      option_and_then-more (λ b. option_and_then members_of (row_at now b)) (λ b. option_and_then members_of (row_at later b))
      (of_row members_of) (base_at now t) (base_at later t) (base_stays t) is e

  -- the extents of some types, where of each there is one
  extents_stay : (o p : Option (List ℕ)) → ((is : List ℕ) → o ≡ Some is → p ≡ Some is) → (xs : List Extent)
      → option_and_then (all_known (extent_at now)) o ≡ Some xs
      → option_and_then (all_known (extent_at later)) p ≡ Some xs
  extents_stay o p h xs e = option_and_then-more (all_known (extent_at now)) (all_known (extent_at later))
      (all_known-grows (extent_at now) (extent_at later) extent_stays) o p h xs e

  id_stays : (r : Row) (t : ℕ) → id_of now r ≡ Some t → id_of later r ≡ Some t
  id_stays r t e = (id_tells later l.sound r t).1 (row_stays t r ((id_tells now v r t).0 e))

  joined_stays : (is : List ℕ) (t : ℕ) → joined now is ≡ Some t → joined later is ≡ Some t
  joined_stays [] t e = e
  joined_stays (i ∷ []) t e = e
  joined_stays (i ∷ j ∷ is) t e = id_stays (row.Union (i ∷ j ∷ is)) t e

  brought_stays : (is : List ℕ) → AllBelow (length now.rows) is → flat_map (brought_at later) is ≡ flat_map (brought_at now) is
  brought_stays [] h = refl
  brought_stays (i ∷ is) h =
      ap₂ (λ xs ys. xs ++ ys) (ap (λ o. unwrap_or (option_map (brought_by i) o) []) (row_here i h.0)) (brought_stays is h.1)

  left_stays : (is : List ℕ) → AllBelow (length now.rows) is → left_of later is ≡ left_of now is
  left_stays is h = ap ascending (brought_stays is h)

  error_stays : (t : ℕ) → IsSome (marked_at now t) → is_error_at later t ≡ is_error_at now t
  error_stays t s = unwrapped false (marked_at now t) (marked_at later t) s (marked_stays t)

  -- of members whose error marks are known the same are left
  left_values : (is : List ℕ) → ((i : ℕ) → Contains is i → IsSome (marked_at now i))
      → filter (λ i. not (is_error_at later i)) is ≡ filter (λ i. not (is_error_at now i)) is
  left_values [] h = refl
  left_values (i ∷ is) h =
      let first = error_stays i (h i (0, omega arith, refl)) in
      let rest = left_values is (λ j c. h j (suc c.0, omega (arith, c.1), c.2)) in
      ap₂ (λ b js. cond (not b) (i ∷ js) js) first rest

  values_stay : (t : ℕ) (is : List ℕ) → AreMarksKnown now t → values_at now t ≡ Some is → values_at later t ≡ Some is
  values_stay t is k e = by (members_at now t) refl e
    where
      by : (o : Option (List ℕ)) → members_at now t ≡ o → option_map (filter (λ i. not (is_error_at now i))) o ≡ Some is
          → values_at later t ≡ Some is
      by None f g = absurd cc
      by (Some ms) f g = ap (option_map (filter (λ i. not (is_error_at later i)))) (members_stay t ms f)
          ∙ ap Some (left_values ms (λ i c. k ms i f c)) ∙ g

  never_stays : (is : List ℕ) (t : ℕ) → joined_or_never now is ≡ Some t → joined_or_never later is ≡ Some t
  never_stays [] t e = id_stays (row.Scalar keyword.Never) t e
  never_stays (i ∷ is) t e = joined_stays (i ∷ is) t e

  pub types_stay : KeepsTypes now later
  types_stay = record {
    row = row_stays;
    tree = tree_at-Extends (record now { listed = [] }) later l.grows;
    base = base_stays;
    marked = marked_stays;
    error = error_stays;
    sized = sized_stays;
    has_size = λ t s. unwrapped false (sized_at now t) (sized_at later t) s (sized_stays t);
    extent = extent_stays;
    size = λ t s. unwrapped 0 (option_map (λ x. x.size) (extent_at now t)) (option_map (λ x. x.size) (extent_at later t))
        (some_mapped (λ x. x.size) (extent_at now t) s)
        (option_map-more (λ x. x.size) (extent_at now t) (extent_at later t) (extent_stays t));
    align = λ t s. unwrapped 1 (option_map (λ x. x.align) (extent_at now t)) (option_map (λ x. x.align) (extent_at later t))
        (some_mapped (λ x. x.align) (extent_at now t) s)
        (option_map-more (λ x. x.align) (extent_at now t) (extent_at later t) (extent_stays t));
    parts = λ t h. ap (λ o. unwrap_or (option_map parts_of o) []) (row_here t h);
    field = λ t name h. ap (option_and_then (field_in name)) (row_here t h);
    fields = fields_stay;
    members = members_stay;
    offset = λ t k o e.
        option_and_then-more (λ xs. field_start 0 xs k) (λ xs. field_start 0 xs k) (λ xs a h. h)
        (option_and_then (all_known (extent_at now)) (fields_at now t)) (option_and_then (all_known (extent_at later)) (fields_at later t))
        (extents_stay (fields_at now t) (fields_at later t) (fields_stay t)) o e;
    payload = λ t p e.
        option_map-more payload_start (option_and_then (all_known (extent_at now)) (members_at now t))
        (option_and_then (all_known (extent_at later)) (members_at later t))
        (extents_stay (members_at now t) (members_at later t) (members_stay t)) p e;
    id = id_stays;
    union = λ is t e. id_stays (row.Union (ascending is)) t e;
    left = left_stays;
    reduced = λ is t h e. ap (joined later) (left_stays is h) ∙ joined_stays (left_of now is) t e;
    values = values_stay;
    without = λ t u k e.
        option_and_then-more (joined_or_never now) (joined_or_never later) never_stays (values_at now t) (values_at later t)
        (λ is h. values_stay t is k h) u e;
  }
