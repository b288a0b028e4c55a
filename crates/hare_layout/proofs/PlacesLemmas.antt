-- Fields, components and payloads lie within the whole, in order and without overlap.
use Rattle.std.proofs.Common.{◌≡◌, ℕ, zero, suc, ◌+◌, ◌-◌, ◌%◌, ◌<◌, ◌≤◌, max, List, [], ◌∷◌, length, map, Option, Some, None, refl, ap, sym, ◌∙◌, subst, arith, inl, inr}
use Rattle.std.specs.Prelude.{slice_get, option_map, option_and_then, Contains}
use Rattle.std.proofs.Math.Nat.{mod-lt}
use Rattle.std.proofs.lemmas.Nat.{div-add-mod'}
use Rattle.hare_types.specs.declared.extent.Extent.{Extent}
use Rattle.hare_types.specs.declared.row.Row.{Row}
use Rattle.hare_types.specs.declared.row.Row.TheVariants as row
use Rattle.hare_types.specs.Bases.{base_over}
use Rattle.hare_types.specs.Kept.{all_known}
use Rattle.hare_types.specs.Layout.{round_up, greatest_size, greatest_align, fields_end, field_start, payload_start, fields_extent, union_extent}
use Rattle.hare_types.specs.Store.{Store, definition_of}
use Rattle.hare_types.specs.ByIds.{row_at, found_within, bytes_over, base_at, extent_at, fields_of, members_of, fields_at, members_at, offset_at, payload_at}
use Rattle.hare_types.proofs.IdLemmas.{extent-row}
use Rattle.hare_layout.specs.Whole.{IsMultiple, IsAlignment, IsAligned, HasField, FieldsLieIn, PayloadLiesIn}
use Rattle.hare_layout.proofs.AlignLemmas.{mapped, AreAligned, low, divides, through, rounded, greater, four, greatest_align-alignment, all_aligned, types_are_aligned}
use Rattle.hare_layout.proofs.AscendingLemmas.{In, In-from}

-- ---- sums

pub round_up-le : (n a : ℕ) → 1 ≤ a → n ≤ round_up n a
round_up-le n a low =
    let whole = div-add-mod' (n + (a - 1)) a in
    let part : (n + (a - 1)) % a < a = mod-lt (n + (a - 1)) (omega arith) in
    omega arith

-- the fields end behind where they begin
end-le : (at : ℕ) (xs : List Extent) → AreAligned xs → at ≤ fields_end at xs
end-le at [] h = omega arith
end-le at (x ∷ xs) h = omega (arith, round_up-le at x.align (low x.align h.0.align), end-le (round_up at x.align + x.size) xs h.1)

start-le : (at : ℕ) (xs : List Extent) (k o : ℕ) → AreAligned xs → field_start at xs k ≡ Some o → at ≤ o
start-le at [] k o h e = absurd cc
start-le at (x ∷ xs) zero o h e =
    let same : round_up at x.align ≡ o = cc in
    omega (arith, round_up-le at x.align (low x.align h.0.align), same)
start-le at (x ∷ xs) (suc k) o h e = omega (
  arith,
  round_up-le at x.align (low x.align h.0.align),
  start-le (round_up at x.align + x.size)
      xs k o h.1 e,
)

pub start-within : (at : ℕ) (xs : List Extent) (k o : ℕ) (x : Extent) → AreAligned xs → field_start at xs k ≡ Some o →
    slice_get xs k ≡ Some x
    → o + x.size ≤ fields_end at xs
start-within at [] k o x h e g = absurd cc
start-within at (y ∷ ys) zero o x h e g =
    let start : round_up at y.align ≡ o = cc in
    let same : y ≡ x = cc in
    let size = ap (λ z. z.size) same in
    omega (arith, end-le (round_up at y.align + y.size) ys h.1, start, size)
start-within at (y ∷ ys) (suc k) o x h e g = start-within (round_up at y.align + y.size) ys k o x h.1 e g

start-multiple : (at : ℕ) (xs : List Extent) (k o : ℕ) (x : Extent) → field_start at xs k ≡ Some o → slice_get xs k ≡ Some x
    → IsMultiple o x.align
start-multiple at [] k o x e g = absurd cc
start-multiple at (y ∷ ys) zero o x e g =
    let start : round_up at y.align ≡ o = cc in
    let same : y ≡ x = cc in
    subst (λ z. IsMultiple o z.align) same (subst (λ n. IsMultiple n y.align) start (rounded at y.align))
start-multiple at (y ∷ ys) (suc k) o x e g = start-multiple (round_up at y.align + y.size) ys k o x e g

starts-ordered : (at : ℕ) (xs : List Extent) (j k a b : ℕ) (x : Extent) → AreAligned xs → j < k → field_start at xs j ≡ Some a
    → slice_get xs j ≡ Some x → field_start at xs k ≡ Some b → a + x.size ≤ b
starts-ordered at [] j k a b x h l e g f = absurd cc
starts-ordered at (y ∷ ys) zero zero a b x h l e g f = absurd (omega arith)
starts-ordered at (y ∷ ys) zero (suc k) a b x h l e g f =
    let start : round_up at y.align ≡ a = cc in
    let same : y ≡ x = cc in
    let size = ap (λ z. z.size) same in
    omega (arith, start-le (round_up at y.align + y.size) ys k b h.1 f, start, size)
starts-ordered at (y ∷ ys) (suc j) zero a b x h l e g f = absurd (omega arith)
starts-ordered at (y ∷ ys) (suc j) (suc k) a b x h l e g f =
    starts-ordered (round_up at y.align + y.size) ys j k a b x h.1 (omega arith) e g f

pub some_start : (at : ℕ) (xs : List Extent) (k : ℕ) → k < length xs → (o : ℕ) × (field_start at xs k ≡ Some o)
some_start at [] k l = absurd (omega arith)
some_start at (x ∷ xs) zero l = (round_up at x.align, refl)
some_start at (x ∷ xs) (suc k) l = some_start (round_up at x.align + x.size) xs k (omega arith)

pub size-le : (xs : List Extent) (k : ℕ) (x : Extent) → slice_get xs k ≡ Some x → x.size ≤ greatest_size xs
size-le [] k x e = absurd cc
size-le (y ∷ ys) zero x e =
    let same : y ≡ x = cc in
    let size = ap (λ z. z.size) same in
    omega arith
size-le (y ∷ ys) (suc k) x e = omega (arith, size-le ys k x e)

align-le : (xs : List Extent) (k : ℕ) (x : Extent) → slice_get xs k ≡ Some x → x.align ≤ greatest_align xs
align-le [] k x e = absurd cc
align-le (y ∷ ys) zero x e =
    let same : y ≡ x = cc in
    let align = ap (λ z. z.align) same in
    omega arith
align-le (y ∷ ys) (suc k) x e = omega (arith, align-le ys k x e)

aligned-get : (xs : List Extent) (k : ℕ) (x : Extent) → AreAligned xs → slice_get xs k ≡ Some x → IsAligned x
aligned-get [] k x h e = absurd cc
aligned-get (y ∷ ys) zero x h e =
    let same : y ≡ x = cc in
    subst IsAligned same h.0
aligned-get (y ∷ ys) (suc k) x h e = aligned-get ys k x h.1 e

-- the greatest alignment is a multiple of each
greatest-multiple : (xs : List Extent) (k : ℕ) (x : Extent) → AreAligned xs → slice_get xs k ≡ Some x
    → IsMultiple (greatest_align xs) x.align
greatest-multiple xs k x h e = divides x.align (greatest_align xs) (aligned-get xs k x h e).align (greatest_align-alignment xs h)
    (align-le xs k x e)

-- ---- parts

module _ (ks : ℕ → Option Extent) where
  -- of as many types, each has its extent
  pub known-get : (is : List ℕ) (xs : List Extent) (k i : ℕ) → all_known ks is ≡ Some xs → slice_get is k ≡ Some i
      → (x : Extent) × (ks i ≡ Some x) × (slice_get xs k ≡ Some x)
  known-get [] xs k i e g = absurd cc
  known-get (j ∷ js) xs k i e g = by k g (ks j) refl (all_known ks js) refl e (known-get js)
    where
      by : (k : ℕ) → slice_get (j ∷ js) k ≡ Some i → (o : Option Extent) → ks j ≡ o → (p : Option (List Extent)) → all_known ks js ≡ p
          → option_and_then (λ x. option_map (λ ys. x ∷ ys) p) o ≡ Some xs
          → ((ys : List Extent) (k i : ℕ) → all_known ks js ≡ Some ys → slice_get js k ≡ Some i → (x : Extent) × (ks i ≡ Some x) ×
          (slice_get ys k ≡ Some x))
          → (x : Extent) × (ks i ≡ Some x) × (slice_get xs k ≡ Some x)
      by k g None f p q h ih = absurd cc
      by k g (Some x) f None q h ih = absurd cc
      by zero g (Some x) f (Some ys) q h ih =
          let here : j ≡ i = cc in
          let same : x ∷ ys ≡ xs = cc in
          (x, subst (λ n. ks n ≡ Some x) here f, ap (λ l. slice_get l 0) (sym same))
      by (suc k) g (Some x) f (Some ys) q h ih =
          let same : x ∷ ys ≡ xs = cc in
          let later = ih ys k i q g in
          (later.0, later.1, ap (λ l. slice_get l (suc k)) (sym same) ∙ later.2)

  pub known-length : (is : List ℕ) (xs : List Extent) → all_known ks is ≡ Some xs → length xs ≡ length is
  known-length [] xs e =
      let same : [] ≡ xs = cc in
      ap length (sym same)
  known-length (j ∷ js) xs e = by (ks j) (all_known ks js) refl e (known-length js)
    where
      by : (o : Option Extent) (p : Option (List Extent)) → all_known ks js ≡ p
          → option_and_then (λ x. option_map (λ ys. x ∷ ys) p) o ≡ Some xs
          → ((ys : List Extent) → all_known ks js ≡ Some ys → length ys ≡ length js) → length xs ≡ suc (length js)
      by None p q h ih = absurd cc
      by (Some x) None q h ih = absurd cc
      by (Some x) (Some ys) q h ih =
          let same : x ∷ ys ≡ xs = cc in
          ap length (sym same) ∙ ap suc (ih ys q)

in-get : (i : ℕ) (is : List ℕ) → In i is → (k : ℕ) × (slice_get is k ≡ Some i)
in-get i [] h = absurd h
in-get i (j ∷ js) (inl e) = (0, ap Some e)
in-get i (j ∷ js) (inr h) =
    let k = in-get i js h in
    (suc k.0, k.1)

get_some : (is : List ℕ) (k : ℕ) → k < length is → (i : ℕ) × (slice_get is k ≡ Some i)
get_some [] k l = absurd (omega arith)
get_some (j ∷ js) zero l = (j, refl)
get_some (j ∷ js) (suc k) l = get_some js k (omega arith)

-- ---- the base has the extent of the type

pub then : {A B : Type 0} (f : A → Option B) (o : Option A) (b : B) → option_and_then f o ≡ Some b → (a : A) × (o ≡ Some a) × (f a ≡ Some b)
then f None b e = absurd cc
then f (Some a) b e = (a, refl, e)

module _ (s : Store) where
  base_extent-within : (n t b : ℕ) → found_within s (base_over (definition_of s)) n t ≡ Some b → extent_at s t ≡ extent_at s b
  base_extent-within zero t b e = absurd cc
  base_extent-within (suc n) t b e =
      let here = then (base_over (definition_of s) (found_within s (base_over (definition_of s)) n) t) (row_at s t) b e in
      by here.0 here.1 here.2 (base_extent-within n)
    where
      itself : Some t ≡ Some b → extent_at s t ≡ extent_at s b
      itself g =
          let same : t ≡ b = cc in
          ap (extent_at s) same

      by : (r : Row) → row_at s t ≡ Some r → base_over (definition_of s) (found_within s (base_over (definition_of s)) n) t r ≡ Some b
          → ((i c : ℕ) → found_within s (base_over (definition_of s)) n i ≡ Some c → extent_at s i ≡ extent_at s c)
          → extent_at s t ≡ extent_at s b
      by (row.Scalar k) f g ih = itself g
      by (row.Pointer i) f g ih = itself g
      by (row.Nullable i) f g ih = itself g
      by (row.Slice i) f g ih = itself g
      by (row.Array m i) f g ih = itself g
      by (row.Struct fs) f g ih = itself g
      by (row.Tuple is) f g ih = itself g
      by (row.Union is) f g ih = itself g
      by (row.Error i) f g ih = extent-row s t (row.Error i) f ∙ ih i b g
      by (row.Named d) f g ih =
          let meaning = then (found_within s (base_over (definition_of s)) n) (definition_of s d) b g in
          extent-row s t (row.Named d) f ∙ ap (option_and_then (extent_at s)) meaning.1 ∙ ih meaning.0 b meaning.2

  pub base_extent : (t b : ℕ) → base_at s t ≡ Some b → extent_at s t ≡ extent_at s b
  base_extent t b e = base_extent-within (length s.rows) t b e

  -- ---- fields and components

  -- the extents of the fields of a type of this extent
  pub fields-known : (t : ℕ) (whole : Extent) (is : List ℕ) → extent_at s t ≡ Some whole → fields_at s t ≡ Some is
      → (xs : List Extent) × (all_known (extent_at s) is ≡ Some xs) × (fields_extent xs ≡ whole)
  fields-known t whole is e f =
      let base = then (λ b. option_and_then fields_of (row_at s b)) (base_at s t) is f in
      let here = then fields_of (row_at s base.0) is base.2 in
      by base.0 here.0 here.2 (sym (extent-row s base.0 here.0 here.1) ∙ sym (base_extent t base.0 base.1) ∙ e)
    where
      of_parts : (js : List ℕ) → js ≡ is → option_map fields_extent (all_known (extent_at s) js) ≡ Some whole
          → (xs : List Extent) × (all_known (extent_at s) is ≡ Some xs) × (fields_extent xs ≡ whole)
      of_parts js same h = subst (λ ks. (xs : List Extent) × (all_known (extent_at s) ks ≡ Some xs) × (fields_extent xs ≡ whole)) same
          (mapped fields_extent (all_known (extent_at s) js) whole h)

      by : (b : ℕ) (r : Row) → fields_of r ≡ Some is → bytes_over (definition_of s) (extent_at s) b r ≡ Some whole
          → (xs : List Extent) × (all_known (extent_at s) is ≡ Some xs) × (fields_extent xs ≡ whole)
      by b (row.Struct fs) g h = of_parts (map (λ f. f.ty) fs) (cc) h
      by b (row.Tuple js) g h = of_parts js (cc) h
      by b (row.Scalar k) g h = absurd cc
      by b (row.Pointer i) g h = absurd cc
      by b (row.Nullable i) g h = absurd cc
      by b (row.Slice i) g h = absurd cc
      by b (row.Array n i) g h = absurd cc
      by b (row.Union js) g h = absurd cc
      by b (row.Error i) g h = absurd cc
      by b (row.Named d) g h = absurd cc

  -- and their offsets are where fields of these extents begin
  pub fields-start : (t k : ℕ) (is : List ℕ) (xs : List Extent) → fields_at s t ≡ Some is → all_known (extent_at s) is ≡ Some xs
      → offset_at s t k ≡ field_start 0 xs k
  fields-start t k is xs f g = ap (λ o. option_and_then (λ ys. field_start 0 ys k) (option_and_then (all_known (extent_at s)) o)) f
      ∙ ap (option_and_then (λ ys. field_start 0 ys k)) g

  module _ (t : ℕ) (whole : Extent) (e : extent_at s t ≡ Some whole) where
    -- the extents of all fields, of which this is one
    pub record Placed (k start : ℕ) (x : Extent) : Type 0 where
      pub types : List ℕ
      pub extents : List Extent
      pub fields : fields_at s t ≡ Some types
      pub known : all_known (extent_at s) types ≡ Some extents
      pub aligned : AreAligned extents
      pub makes : fields_extent extents ≡ whole
      pub field : slice_get extents k ≡ Some x
      pub begins : field_start 0 extents k ≡ Some start

    placed : (k start : ℕ) (x : Extent) → HasField s t k start x → Placed k start x
    placed k start x h =
        let parts = fields-known t whole h.types e h.fields in
        let here = known-get (extent_at s) h.types parts.0 k h.type parts.1 h.field in
        let both = sym here.1 ∙ h.extent in
        let same : here.0 ≡ x = cc in
        record {
          types = h.types;
          extents = parts.0;
          fields = h.fields;
          known = parts.1;
          aligned = all_aligned (extent_at s) (types_are_aligned s) h.types parts.0 parts.1;
          makes = parts.2;
          field = here.2 ∙ ap Some same;
          begins = sym (fields-start t k h.types parts.0 h.fields parts.1) ∙ h.begins;
        }

    each_placed : (is : List ℕ) (k : ℕ) → fields_at s t ≡ Some is → k < length is → (start : ℕ) × (x : Extent) × HasField s t k start x
    each_placed is k f l =
        let parts = fields-known t whole is e f in
        let type = get_some is k l in
        let here = known-get (extent_at s) is parts.0 k type.0 parts.1 type.1 in
        let start = some_start 0 parts.0 k (omega (arith, known-length (extent_at s) is parts.0 parts.1)) in
        let begins = fields-start t k is parts.0 f parts.1 ∙ start.1 in
        (start.0, here.0, record { types = is; type = type.0; fields = f; field = type.1; extent = here.1; begins = begins })

    field_within : (k start : ℕ) (x : Extent) → HasField s t k start x → start + x.size ≤ whole.size
    field_within k start x h =
        let p = placed k start x h in
        let size = ap (λ y. y.size) p.makes in
        let end = start-within 0 p.extents k start x p.aligned p.begins p.field in
        let round = round_up-le (fields_end 0 p.extents) (greatest_align p.extents)
        (low (greatest_align p.extents) (greatest_align-alignment p.extents p.aligned)) in
        omega arith

    field_aligned : (k start : ℕ) (x : Extent) → HasField s t k start x → IsMultiple start x.align × IsMultiple whole.align x.align
    field_aligned k start x h =
        let p = placed k start x h in (
          start-multiple 0 p.extents k start x p.begins p.field,
          subst (λ y. IsMultiple y.align x.align) p.makes
              (greatest-multiple p.extents k x p.aligned p.field),
        )

    fields_ordered : (j k first later : ℕ) (x y : Extent) → j < k → HasField s t j first x → HasField s t k later y → first + x.size ≤ later
    fields_ordered j k first later x y l h g =
        let p = placed j first x h in
        starts-ordered 0 p.extents j k first later x p.aligned l p.begins p.field
        (sym (fields-start t k p.types p.extents p.fields p.known) ∙ g.begins)

    pub fields_lie_in : FieldsLieIn s t whole
    fields_lie_in = record { placed = each_placed; within = field_within; aligned = field_aligned; ordered = fields_ordered }

  -- ---- payloads

  -- the extents of the members of a type of this extent
  members-known : (t : ℕ) (whole : Extent) (is : List ℕ) → extent_at s t ≡ Some whole → members_at s t ≡ Some is
      → (xs : List Extent) × (all_known (extent_at s) is ≡ Some xs) × (union_extent xs ≡ whole)
  members-known t whole is e f =
      let base = then (λ b. option_and_then members_of (row_at s b)) (base_at s t) is f in
      let here = then members_of (row_at s base.0) is base.2 in
      by base.0 here.0 here.2 (sym (extent-row s base.0 here.0 here.1) ∙ sym (base_extent t base.0 base.1) ∙ e)
    where
      of_parts : (js : List ℕ) → js ≡ is → option_map union_extent (all_known (extent_at s) js) ≡ Some whole
          → (xs : List Extent) × (all_known (extent_at s) is ≡ Some xs) × (union_extent xs ≡ whole)
      of_parts js same h = subst (λ ks. (xs : List Extent) × (all_known (extent_at s) ks ≡ Some xs) × (union_extent xs ≡ whole)) same
          (mapped union_extent (all_known (extent_at s) js) whole h)

      by : (b : ℕ) (r : Row) → members_of r ≡ Some is → bytes_over (definition_of s) (extent_at s) b r ≡ Some whole
          → (xs : List Extent) × (all_known (extent_at s) is ≡ Some xs) × (union_extent xs ≡ whole)
      by b (row.Union js) g h = of_parts js (cc) h
      by b (row.Scalar k) g h = absurd cc
      by b (row.Pointer i) g h = absurd cc
      by b (row.Nullable i) g h = absurd cc
      by b (row.Slice i) g h = absurd cc
      by b (row.Array n i) g h = absurd cc
      by b (row.Struct fs) g h = absurd cc
      by b (row.Tuple js) g h = absurd cc
      by b (row.Error i) g h = absurd cc
      by b (row.Named d) g h = absurd cc

  pub payload_lies_in : (t : ℕ) (whole : Extent) (is : List ℕ) → extent_at s t ≡ Some whole → members_at s t ≡ Some is
      → PayloadLiesIn s t whole is
  payload_lies_in t whole is e f = record {
    start = payload_start xs;
    begins = ap (λ o. option_map payload_start (option_and_then (all_known (extent_at s)) o)) f ∙ ap (option_map payload_start) known;
    behind = round_up-le 4 (greatest_align xs) (low (greatest_align xs) (greatest_align-alignment xs aligned));
    within = omega (arith, room, size);
    member = member;
  }
    where
      parts : (xs : List Extent) × (all_known (extent_at s) is ≡ Some xs) × (union_extent xs ≡ whole)
      parts = members-known t whole is e f

      xs : List Extent
      xs = parts.0

      known : all_known (extent_at s) is ≡ Some xs
      known = parts.1

      size : (union_extent xs).size ≡ whole.size
      size = ap (λ y. y.size) parts.2

      aligned : AreAligned xs
      aligned = all_aligned (extent_at s) (types_are_aligned s) is xs known

      alignment : IsAlignment (max 4 (greatest_align xs))
      alignment = greater 4 (greatest_align xs) four (greatest_align-alignment xs aligned)

      room : payload_start xs + greatest_size xs ≤ (union_extent xs).size
      room = round_up-le (payload_start xs + greatest_size xs) (max 4 (greatest_align xs)) (low (max 4 (greatest_align xs)) alignment)

      member : (i : ℕ) → Contains is i
          → (x : Extent) × (extent_at s i ≡ Some x) × (payload_start xs + x.size ≤ whole.size) × IsMultiple (payload_start xs) x.align ×
          IsMultiple whole.align x.align
      member i h =
          let k = in-get i is (In-from i is h) in
          let here = known-get (extent_at s) is xs k.0 i known k.1 in
          let greatest = greatest-multiple xs k.0 here.0 aligned here.2 in
          let whole_align = divides (greatest_align xs) (max 4 (greatest_align xs)) (greatest_align-alignment xs aligned) alignment
          (omega arith) in
          let align = ap (λ y. y.align) parts.2 in (
            here.0,
            here.1,
            omega (arith, room, size, size-le xs k.0 here.0 here.2),
            through (payload_start xs) here.0.align (greatest_align xs) (rounded 4 (greatest_align xs)) greatest,
            subst (λ n. IsMultiple n here.0.align) align
                (through (max 4 (greatest_align xs)) here.0.align (greatest_align xs) whole_align greatest),
          )

-- ---- where payloads begin

payload_of-align : (a : ℕ) → IsAlignment a → round_up 4 a ≡ max 4 a
payload_of-align a (inl e) = ap (round_up 4) e ∙ sym (ap (max 4) e)
payload_of-align a (inr (inl e)) = ap (round_up 4) e ∙ sym (ap (max 4) e)
payload_of-align a (inr (inr (inl e))) = ap (round_up 4) e ∙ sym (ap (max 4) e)
payload_of-align a (inr (inr (inr e))) = ap (round_up 4) e ∙ sym (ap (max 4) e)

-- the payload is at the alignment of the union
pub payload-align : (s : Store) (t : ℕ) (whole : Extent) (is : List ℕ) → extent_at s t ≡ Some whole → members_at s t ≡ Some is
    → payload_at s t ≡ Some whole.align
payload-align s t whole is e f =
    let parts = members-known s t whole is e f in
    let aligned = all_aligned (extent_at s) (types_are_aligned s) is parts.0 parts.1 in
    ap (λ o. option_map payload_start (option_and_then (all_known (extent_at s)) o)) f ∙ ap (option_map payload_start) parts.1
    ∙ ap Some (payload_of-align (greatest_align parts.0) (greatest_align-alignment parts.0 aligned) ∙ ap (λ y. y.align) parts.2)
