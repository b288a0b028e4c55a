-- What is said of values and types stays in later stores.
use Rattle.std.proofs.Common.{◌≡◌, ℕ, ◌<◌, Bool, ◌&&◌, ◌||◌, ◌==◌, [], length, Option, Some, None, IsSome, refl, ap, ap₂, sym, ◌∙◌}
use Rattle.std.specs.Prelude.{is_some, option_map}
use Rattle.hare_types.specs.declared.coercion.Ty.{Ty}
use Rattle.hare_types.specs.declared.coercion.Ty.TheVariants as ty
use Rattle.hare_types.specs.Trees.{Tree, Trees, Scalar, Pointer, Nullable, Slice, Array, Struct, Tuple, Union, Error, Named, none, more, EachTree}
use Rattle.hare_types.specs.Store.{Store, meaning_of, Extends}
use Rattle.hare_types.specs.Sound.{IsStore}
use Rattle.hare_types.specs.Layout.{base_with}
use Rattle.hare_types.specs.Assign.{Value, Of, Iconst, Null, Empty, IsIn, type_at, value_at, base, holds_of, how_many, tree_holds, is_const, is_nullable, is_null, items_fit, is_slice, is_name, is_pointer, members_among, is_part, is_member, is_default, is_lone, joins, is_union, same, table, first_from, is_number, is_numeric, recasts, is_castable}
use Rattle.hare_types.proofs.CallerLemmas.{tree_at-Extends, meaning_of-Extends}
use Rattle.hare_types.proofs.GrowthLemmas.{following-more, base_with-more}
use Rattle.hare_layout.proofs.SpreadLemmas.{tree_at-id, id-tree_at}
use Rattle.hare_assign.specs.Growth.{HasBase, IsKnown, AreKnown, IsOneVerdict, VerdictsStay}
use Rattle.hare_assign.proofs.NamesLemmas.{base_only}

module _ (old new : Store) (v : IsStore new) (grows : Extends (record old { listed = [] }) new) where
  -- the store without its list of types that have tags
  abbrev before : Store
  before = record old { listed = [] }

  -- ---- what stays

  base_found : (t b : Tree) → base old t ≡ Some b → base new t ≡ Some b
  base_found t b e =
      let more = following-more base_with base_with-more (meaning_of old) (meaning_of new) (meaning_of-Extends before new grows) in
      base_only new v t b (length old.declared, more (length old.declared) t b e)

  pub base_stays : (t : Tree) → HasBase old t → base new t ≡ base old t
  base_stays t h = by (base old t) refl h
    where
      by : (o : Option Tree) → base old t ≡ o → IsSome o → base new t ≡ base old t
      by None e g = absurd cc
      by (Some b) e g = base_found t b e ∙ sym e

  pub type_stays : (i : ℕ) → i < length old.rows → type_at new i ≡ type_at old i
  type_stays i h = (id-tree_at new i (type_at old i) (tree_at-Extends before new grows i (type_at old i) (tree_at-id old i h))).1

  pub value_stays : (f : Ty) → IsIn old f → value_at new f ≡ value_at old f
  value_stays (ty.Of i) h = ap Of (type_stays i h)
  value_stays (ty.Iconst n) h = refl
  value_stays ty.Null h = refl
  value_stays ty.Empty h = refl

  -- ---- one row of the table after another

  pub const_stays : (f : Value) (t : Tree) → base new t ≡ base old t → is_const new f t ≡ is_const old f t
  const_stays (Iconst n) t e = ap (holds_of (λ u. tree_holds u n)) e
  const_stays (Of g) t e = refl
  const_stays Null t e = refl
  const_stays Empty t e = refl

  pub null_stays : (f : Value) (t : Tree) → base new t ≡ base old t → is_null new f t ≡ is_null old f t
  null_stays Null t e = ap (holds_of is_nullable) e
  null_stays (Of g) t e = refl
  null_stays (Iconst n) t e = refl
  null_stays Empty t e = refl

  pub slice_stays : (f : Value) (t : Tree) → base new t ≡ base old t → is_slice new f t ≡ is_slice old f t
  slice_stays f t e = ap (holds_of (items_fit f)) e

  pub name_stays : (f : Value) (t : Tree) → IsKnown old f → base new t ≡ base old t → is_name new f t ≡ is_name old f t
  name_stays (Of g) t k e = ap₂ (λ a b. holds_of (λ u. holds_of (same u) a) b) e (base_stays g k)
  name_stays (Iconst n) t k e = refl
  name_stays Null t k e = refl
  name_stays Empty t k e = refl

  pub lone_stays : (f : Value) (t : Tree) → base new t ≡ base old t → is_lone new f t ≡ is_lone old f t
  lone_stays f t e = ap₂ (λ a b. is_pointer f t || a || b) (null_stays f t e) (slice_stays f t e)

  part_stays : (f : Value) (ms : Trees) → IsKnown old f → is_part new f ms ≡ is_part old f ms
  part_stays (Of g) ms k = ap (holds_of (members_among ms)) (base_stays g k)
  part_stays (Iconst n) ms k = refl
  part_stays Null ms k = refl
  part_stays Empty ms k = refl

  -- ---- the members of a union

  pub count_stays : (p q : Tree → Bool) → ((t : Tree) → base new t ≡ base old t → p t ≡ q t) → (ms : Trees) → EachTree (HasBase old) ms →
      how_many p ms ≡ how_many q ms
  count_stays p q h none k = refl
  count_stays p q h (more m ms) k =
      let first = h m (base_stays m k.0) in
      let others = count_stays p q h ms k.1 in
      cc

  joins_union : (f : Value) (ms : Trees) → IsKnown old f → EachTree (HasBase old) ms → joins new f (Union ms) ≡ joins old f (Union ms)
  joins_union f ms k h =
      let part = part_stays f ms k in
      let consts = count_stays (is_const new f) (is_const old f) (const_stays f) ms h in
      let lones = count_stays (is_lone new f) (is_lone old f) (lone_stays f) ms h in
      ap₂ (λ a n. a || (n == 1)) (ap₂ (λ a n. is_member f ms || a || is_default f ms || (n == 1)) part consts) lones

  joins_stays : (f : Value) (b : Tree) → IsKnown old f → ((ms : Trees) → b ≡ Union ms → EachTree (HasBase old) ms) →
      joins new f b ≡ joins old f b
  joins_stays f (Union ms) k h = joins_union f ms k (h ms refl)
  joins_stays f (Scalar w) k h = refl
  joins_stays f (Pointer t) k h = refl
  joins_stays f (Nullable t) k h = refl
  joins_stays f (Slice t) k h = refl
  joins_stays f (Array n t) k h = refl
  joins_stays f (Struct ns ts) k h = refl
  joins_stays f (Tuple ts) k h = refl
  joins_stays f (Error t) k h = refl
  joins_stays f (Named d) k h = refl

  union_stays : (f : Value) (t : Tree) → AreKnown old f t → is_union new f t ≡ is_union old f t
  union_stays f t k = ap (holds_of (joins new f)) (base_stays t k.type) ∙ by (base old t) refl
    where
      by : (o : Option Tree) → base old t ≡ o → holds_of (joins new f) o ≡ holds_of (joins old f) o
      by None e = refl
      by (Some b) e = joins_stays f b k.value (λ ms g. k.members ms (e ∙ ap Some g))

  -- ---- the table, and casts

  table_stays : (f : Value) (t : Tree) → AreKnown old f t → table new f t ≡ table old f t
  table_stays f t k =
      let e = base_stays t k.type in
      let consts = const_stays f t e in
      let nulls = null_stays f t e in
      let slices = slice_stays f t e in
      let names = name_stays f t k.value e in
      let unions = union_stays f t k in
      cc

  numeric_stays : (f : Value) → IsKnown old f → is_numeric new f ≡ is_numeric old f
  numeric_stays (Of t) k = ap (holds_of is_number) (base_stays t k)
  numeric_stays (Iconst n) k = refl
  numeric_stays Null k = refl
  numeric_stays Empty k = refl

  cast_stays : (f : Value) (t : Tree) → AreKnown old f t → is_castable new f t ≡ is_castable old f t
  cast_stays f t k =
      let rows = ap (λ l. is_some (first_from 1 l)) (table_stays f t k) in
      let from = numeric_stays f k.value in
      let to = numeric_stays (Of t) k.type in
      ap₂ (λ a b. a || b || recasts f t) rows (ap₂ (λ a b. a && b) from to)

  one_verdict : (from : Ty) (to : ℕ) → IsIn old from → to < length old.rows → AreKnown old (value_at old from) (type_at old to) →
      IsOneVerdict old new from to
  one_verdict from to in_old within k =
      let value = value_stays from in_old in
      let type = type_stays to within in
      let rows = ap₂ (table new) value type ∙ table_stays (value_at old from) (type_at old to) k in
      record {
        table = rows;
        coercion = ap (λ l. option_map (λ n. record { row = n; to = ty.Of to }) (first_from 1 l)) rows;
        cast = ap₂ (is_castable new) value type ∙ cast_stays (value_at old from) (type_at old to) k;
      }

pub verdicts_stay : VerdictsStay
verdicts_stay now later l from to in_now within k = one_verdict now later l.sound l.grows from to in_now within k
