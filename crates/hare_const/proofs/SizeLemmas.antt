-- Where the parts of a type begin whose size can be told.
use Rattle.std.proofs.Common.{◌≡◌, ◌∙◌, sym, ap, subst, refl, ℕ, zero, suc, ◌+◌, ◌-◌, ◌<◌, ◌≤◌, arith, List, [], ◌∷◌, ◌++◌, append_assoc, append-nil, length, drop, get_or, Option, Some, None, IsSome}
use Rattle.std.specs.Prelude.{slice_get, min, option_map, option_and_then, unwrap_or}
use Rattle.std.proofs.lemmas.List.{drop_all}
use Rattle.std.proofs.lemmas.Option.{slice_get_within, slice_get-get_or}
use Rattle.hare_types.specs.declared.extent.Extent.{Extent}
use Rattle.hare_types.specs.declared.row.Row.{Row}
use Rattle.hare_types.specs.declared.coercion.Ty.TheVariants as ty
use Rattle.hare_types.specs.Store.{Store}
use Rattle.hare_types.specs.Kept.{told, all_known, IsBounded}
use Rattle.hare_types.specs.Layout.{round_up, field_start}
use Rattle.hare_types.specs.ByIds.{row_at, base_at, extent_at, fields_of, fields_at, offset_at}
use Rattle.hare_layout.specs.Whole.{FieldsLieIn}
use Rattle.hare_layout.proofs.PlacesLemmas.{fields_lie_in}
use Rattle.hare_typed.specs.Given.{base_row}
use Rattle.hare_typed.specs.ConstantForms.{offset_in}
use Rattle.hare_typed.specs.Sizes.{Fits, HasPart, parts_in, IsFew, AreFew, IsModest}

-- ---- what is told of an extent

told_few : (x : Extent) → x.size ≤ 67108864 → told x ≡ x
told_few x h = let e : min x.size 1099511627777 ≡ x.size = omega arith in ap (λ n. record { size = n; align = x.align }) e

-- a type that is told to have few bytes has so few
pub told_fits : (s : Store) (t : ℕ) (x : Extent) (o : Option Extent) → extent_at s t ≡ o → Some x ≡ option_map told o →
    x.size ≤ 67108864 → Fits s t
told_fits s t x None e f h = absurd cc
told_fits s t x (Some y) e f h =
    let same : x ≡ told y = cc in
    let size : x.size ≡ min y.size 1099511627777 = ap (λ z. z.size) same in
    record { extent = y; at = e; few = omega arith }

pub told_same : (s : Store) (t : ℕ) (o : Option Extent) → extent_at s t ≡ o → IsFew s t → option_map told o ≡ o
told_same s t None e h = refl
told_same s t (Some x) e h = ap Some (told_few x (h x e))

pub modest : (s : Store) (t : ℕ) (x : Extent) → IsFew s t → extent_at s t ≡ Some x → IsBounded x → IsModest x
modest s t x h e b = record { size = h x e; low = b.low; high = b.high }

pub few_from_fits : (s : Store) (t : ℕ) → Fits s t → IsFew s t
few_from_fits s t h x e = let same : h.extent ≡ x = let both = sym h.at ∙ e in cc in subst (λ y. y.size ≤ 67108864) same h.few

-- ---- parts

first_some : {A B : Type 0} (o : Option A) (f : A → Option B) (b : B) → option_and_then f o ≡ Some b →
    (a : A) × (o ≡ Some a) × (f a ≡ Some b)
first_some None f b e = absurd cc
first_some (Some a) f b e = (a, refl, e)

rest_some : (x : Extent) (o : Option (List Extent)) (ys : List Extent) → option_map (λ xs. x ∷ xs) o ≡ Some ys →
    (zs : List Extent) × (o ≡ Some zs) × (ys ≡ x ∷ zs)
rest_some x None ys e = absurd cc
rest_some x (Some zs) ys e = (zs, refl, cc)

known_first : (f : ℕ → Option Extent) (ps : List ℕ) (k p : ℕ) (ys : List Extent) → slice_get ps k ≡ Some p →
    all_known f (drop k ps) ≡ Some ys →
    (x : Extent) × (zs : List Extent) × (f p ≡ Some x) × (all_known f (drop (suc k) ps) ≡ Some zs) × (ys ≡ x ∷ zs)
known_first f [] k p ys e h = absurd cc
known_first f (q ∷ ps) zero p ys e h =
    let same : q ≡ p = cc in
    let first = first_some (f q) (λ x. option_map (λ xs. x ∷ xs) (all_known f ps)) ys h in
    let rest = rest_some first.0 (all_known f ps) ys first.2 in
    (first.0, rest.0, subst (λ r. f r ≡ Some first.0) same first.1, rest.1, rest.2)
known_first f (q ∷ ps) (suc k) p ys e h = known_first f ps k p ys e h

-- the extents from a part on are its own and the later ones'
pub known_next : (f : ℕ → Option Extent) (ps : List ℕ) (k p : ℕ) (ys : List Extent) → slice_get ps k ≡ Some p →
    all_known f (drop k ps) ≡ Some ys →
    (x : Extent) × (zs : List Extent) × (f p ≡ Some x) × (all_known f (drop (k + 1) ps) ≡ Some zs) × (ys ≡ x ∷ zs)
known_next f ps k p ys e h =
    let first = known_first f ps k p ys e h in
    let next : suc k ≡ k + 1 = omega arith in
    (first.0, first.1, first.2, subst (λ j. all_known f (drop j ps) ≡ Some first.1) next first.3, first.4)

started_within : (at : ℕ) (xs : List Extent) (k o : ℕ) → field_start at xs k ≡ Some o → k < length xs
started_within at [] k o e = absurd cc
started_within at (x ∷ xs) zero o e = omega arith
started_within at (x ∷ xs) (suc k) o e = omega (arith, started_within (round_up at x.align + x.size) xs k o e)

length_known : (f : ℕ → Option Extent) (ps : List ℕ) (xs : List Extent) → all_known f ps ≡ Some xs → length xs ≡ length ps
length_known f [] xs e = let same : [] ≡ xs = cc in sym (ap length same)
length_known f (p ∷ ps) xs e =
    let first = first_some (f p) (λ x. option_map (λ ys. x ∷ ys) (all_known f ps)) xs e in
    let rest = rest_some first.0 (all_known f ps) xs first.2 in
    ap length rest.2 ∙ ap suc (length_known f ps rest.0 rest.1)

pub start_next : (at : ℕ) (x : Extent) (zs : List Extent) (k i : ℕ) → i < k →
    field_start at (x ∷ zs) (k - i) ≡ field_start (round_up at x.align + x.size) zs (k - (i + 1))
start_next at x zs k i h =
    let next : k - i ≡ suc (k - (i + 1)) = omega arith in
    ap (field_start at (x ∷ zs)) next

pub start_here : (at : ℕ) (x : Extent) (zs : List Extent) (k i : ℕ) → k ≤ i → field_start at (x ∷ zs) (k - i) ≡ Some (round_up at x.align)
start_here at x zs k i h =
    let none : k - i ≡ 0 = omega arith in
    ap (field_start at (x ∷ zs)) none

-- ---- where a part begins

-- the row of a type that has a part, and where this begins
pub record Starts (s : Store) (t k : ℕ) : Type 0 where
  pub row : Row
  pub here : base_row s (ty.Of t) ≡ Some row
  pub extents : List Extent
  pub known : all_known (extent_at s) (parts_in row) ≡ Some extents
  pub start : ℕ
  pub begins : field_start 0 extents k ≡ Some start
  pub at : offset_at s t k ≡ Some start
  pub part : k < length (parts_in row)
  pub within : start ≤ 67108864
  pub few : AreFew s row

-- the parts of a type that fits are few
few_parts : (s : Store) (t : ℕ) (h : Fits s t) (types : List ℕ) → fields_at s t ≡ Some types → (i p : ℕ) → slice_get types i ≡ Some p →
    IsFew s p
few_parts s t h types e i p g x f =
    let lie : FieldsLieIn s t h.extent = fields_lie_in s t h.extent h.at in
    let found = lie.placed types i e (slice_get_within types i p g) in
    let has = found.2 in
    let same_types : has.types ≡ types = let both = sym has.fields ∙ e in cc in
    let same_part : has.type ≡ p = let both = sym (subst (λ l. slice_get l i ≡ Some has.type) same_types has.field) ∙ g in cc in
    let same : found.1 ≡ x = let both = sym (subst (λ q. extent_at s q ≡ Some found.1) same_part has.extent) ∙ f in cc in
    let size : found.1.size ≡ x.size = ap (λ y. y.size) same in
    omega (arith, lie.within i found.0 found.1 has, h.few)

pub starts : (s : Store) (t k : ℕ) → Fits s t → HasPart s t k → Starts s t k
starts s t k h p = by (offset_at s t k) refl p
  where
    by : (o : Option ℕ) → offset_at s t k ≡ o → IsSome o → Starts s t k
    by None e q = absurd cc
    by (Some start) e q =
        let all = first_some (option_and_then (all_known (extent_at s)) (fields_at s t)) (λ xs. field_start 0 xs k) start e in
        let each = first_some (fields_at s t) (all_known (extent_at s)) all.0 all.1 in
        let base = first_some (base_at s t) (λ b. option_and_then fields_of (row_at s b)) each.0 each.1 in
        let row = first_some (row_at s base.0) fields_of each.0 base.2 in
        let same : parts_in row.0 ≡ each.0 = ap (λ o. unwrap_or o []) row.2 in
        let count = length_known (extent_at s) each.0 all.0 each.2 in
        let part : k < length each.0 = omega (arith, started_within 0 all.0 k start all.2, count) in
        let lie : FieldsLieIn s t h.extent = fields_lie_in s t h.extent h.at in
        let found = lie.placed each.0 k each.1 part in
        let begin : found.0 ≡ start = let both = sym found.2.begins ∙ e in cc in
        record {
          row = row.0;
          here = ap (option_and_then (row_at s)) base.1 ∙ row.1;
          extents = all.0;
          known = subst (λ l. all_known (extent_at s) l ≡ Some all.0) (sym same) each.2;
          start = start;
          begins = all.2;
          at = e;
          part = subst (λ l. k < length l) (sym same) part;
          within = omega (arith, lie.within k found.0 found.1 found.2, h.few, begin);
          few = λ i p g. few_parts s t h each.0 each.1 i p (subst (λ l. slice_get l i ≡ Some p) same g);
        }

-- a part that its row has is one of the type
pub has_part : (s : Store) (t k : ℕ) (r : Row) → Fits s t → base_row s (ty.Of t) ≡ Some r → k < length (parts_in r) → HasPart s t k
has_part s t k r h e l = by (fields_of r) refl l
  where
    by : (o : Option (List ℕ)) → fields_of r ≡ o → k < length (unwrap_or o []) → HasPart s t k
    by None f m = absurd (omega arith)
    by (Some types) f m =
        let base = first_some (base_at s t) (row_at s) r e in
        let fields : fields_at s t ≡ Some types
        = ap (option_and_then (λ b. option_and_then fields_of (row_at s b))) base.1 ∙ ap (option_and_then fields_of) base.2 ∙ f in
        let found = (fields_lie_in s t h.extent h.at).placed types k fields m in
        subst IsSome (sym found.2.begins) refl

-- ---- where all parts begin

-- the parts are few of a type that fits
pub few_row : (s : Store) (t : ℕ) (r : Row) → Fits s t → base_row s (ty.Of t) ≡ Some r → AreFew s r
few_row s t r h e = by (fields_of r) refl
  where
    base : (b : ℕ) × (base_at s t ≡ Some b) × (row_at s b ≡ Some r)
    base = first_some (base_at s t) (row_at s) r e

    of_parts : (o : Option (List ℕ)) (i p : ℕ) → fields_of r ≡ o → slice_get (parts_in r) i ≡ Some p → slice_get (unwrap_or o []) i ≡ Some p
    of_parts o i p f g = subst (λ q. slice_get (unwrap_or q []) i ≡ Some p) f g

    by : (o : Option (List ℕ)) → fields_of r ≡ o → AreFew s r
    by None f i p g = let none = of_parts None i p f g in absurd cc
    by (Some types) f i p g =
        let fields : fields_at s t ≡ Some types
        = ap (option_and_then (λ b. option_and_then fields_of (row_at s b))) base.1 ∙ ap (option_and_then fields_of) base.2 ∙ f in
        few_parts s t h types fields i p (of_parts (Some types) i p f g)

-- where parts with these extents begin, the first from `at` on
abbrev pub field_starts : ℕ → List Extent → List ℕ
field_starts at [] = []
field_starts at (x ∷ xs) = round_up at x.align ∷ field_starts (round_up at x.align + x.size) xs

start_among : (at : ℕ) (xs : List Extent) (k : ℕ) → slice_get (field_starts at xs) k ≡ field_start at xs k
start_among at [] k = refl
start_among at (x ∷ xs) zero = refl
start_among at (x ∷ xs) (suc k) = start_among (round_up at x.align + x.size) xs k

-- one more
pub starts_more : (end start : ℕ) (x : Extent) (zs ys : List Extent) (done new all : List ℕ) → ys ≡ x ∷ zs → start ≡ round_up end x.align →
    new ≡ done ++ start ∷ [] → done ++ field_starts end ys ≡ all → new ++ field_starts (start + x.size) zs ≡ all
starts_more end start x zs ys done new all e f g h =
    ap (λ l. l ++ field_starts (start + x.size) zs) g
    ∙ append_assoc done (start ∷ []) (field_starts (start + x.size) zs)
    ∙ ap (λ n. done ++ n ∷ field_starts (n + x.size) zs) f
    ∙ ap (λ l. done ++ field_starts end l) (sym e)
    ∙ h

pub starts_all : (f : ℕ → Option Extent) (ps : List ℕ) (i end : ℕ) (xs ys : List Extent) (done : List ℕ) → length ps ≤ i →
    all_known f (drop i ps) ≡ Some ys → done ++ field_starts end ys ≡ field_starts 0 xs → (k : ℕ) → slice_get done k ≡ field_start 0 xs k
starts_all f ps i end xs ys done l e h k =
    let none : [] ≡ ys = let both = sym (ap (all_known f) (drop_all i ps l)) ∙ e in cc in
    let all : done ≡ field_starts 0 xs = sym (append-nil done) ∙ ap (λ zs. done ++ field_starts end zs) none ∙ h in
    ap (λ ns. slice_get ns k) all ∙ start_among 0 xs k

-- of a type that fits they are where its parts begin
pub starts_there : (s : Store) (t : ℕ) (r : Row) (ns : List ℕ) → Fits s t → base_row s (ty.Of t) ≡ Some r →
    ((xs : List Extent) → all_known (extent_at s) (parts_in r) ≡ Some xs → (k : ℕ) → slice_get ns k ≡ field_start 0 xs k) →
    (k : ℕ) → HasPart s t k → slice_get ns k ≡ offset_at s t k
starts_there s t r ns f e h k p =
    let q = starts s t k f p in
    let same : q.row ≡ r = let both = sym q.here ∙ e in cc in
    h q.extents (subst (λ y. all_known (extent_at s) (parts_in y) ≡ Some q.extents) same q.known) k ∙ q.begins ∙ sym q.at

pub no_starts : (s : Store) (t : ℕ) → Fits s t → base_row s (ty.Of t) ≡ None → (k : ℕ) → HasPart s t k → slice_get [] k ≡ offset_at s t k
no_starts s t f e k p = let both = sym (starts s t k f p).here ∙ e in absurd cc

-- a part begins at one of these
pub start_within : (s : Store) (t k : ℕ) (ns : List ℕ) → HasPart s t k → slice_get ns k ≡ offset_at s t k → k < length ns
start_within s t k ns p e = by (slice_get ns k) refl (subst IsSome (sym e) p)
  where
    by : (o : Option ℕ) → slice_get ns k ≡ o → IsSome o → k < length ns
    by None f q = absurd cc
    by (Some n) f q = slice_get_within ns k n f

pub start_found : (s : Store) (t k n d : ℕ) (ns : List ℕ) → HasPart s t k → slice_get ns k ≡ offset_at s t k → n ≡ get_or ns k d →
    n ≡ offset_in s (ty.Of t) k
start_found s t k n d ns p e f =
    let here : slice_get ns k ≡ Some (get_or ns k d) = slice_get-get_or ns k d (start_within s t k ns p e) in
    f ∙ ap (λ o. unwrap_or o 0) (sym here ∙ e)

-- ---- types that do not fit, and parts that are not there

pub fits_none : (s : Store) (t : ℕ) → None ≡ option_map told (extent_at s t) → Fits s t → ⊥
fits_none s t e h = let both = e ∙ ap (option_map told) h.at in absurd cc

pub fits_few : (s : Store) (t : ℕ) (x : Extent) → Some x ≡ option_map told (extent_at s t) → Fits s t → x.size ≤ 67108864
fits_few s t x e h =
    let both : Some x ≡ Some (told h.extent) = e ∙ ap (option_map told) h.at in
    let same : x ≡ told h.extent = cc in
    let size : x.size ≡ min h.extent.size 1099511627777 = ap (λ z. z.size) same in
    omega (arith, size, h.few)

pub part_within : (s : Store) (t k : ℕ) (r : Row) → Fits s t → base_row s (ty.Of t) ≡ Some r → HasPart s t k → k < length (parts_in r)
part_within s t k r f e h =
    let q = starts s t k f h in
    let same : q.row ≡ r = let both = sym q.here ∙ e in cc in
    subst (λ y. k < length (parts_in y)) same q.part

pub no_part : (s : Store) (t k : ℕ) → Fits s t → base_row s (ty.Of t) ≡ None → HasPart s t k → ⊥
no_part s t k f e h = let both = sym (starts s t k f h).here ∙ e in absurd cc
