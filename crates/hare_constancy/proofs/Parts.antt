-- What rows ask of literals with parts, and of measures, is enough.
use Rattle.std.proofs.Common.{◌≡◌, ◌≢◌, ◌∙◌, sym, ap, subst, refl, ℕ, zero, suc, ◌+◌, ◌-◌, ◌<◌, arith, Bool, true, false, ◌==◌, ◌&&◌, List, [], ◌∷◌, length, map, drop, Option, Some, None}
use Rattle.std.specs.Prelude.{cond, nat_lt, position, slice_get, is_some, option_and_then, unwrap_or, bytes_eq}
use Rattle.std.specs.List.{All, position_or_len}
use Rattle.std.proofs.Common.{ltb-true}
use Rattle.std.proofs.lemmas.Bool.{eqb-true}
use Rattle.std.proofs.lemmas.List.{length-map}
use Rattle.std.proofs.lemmas.List.Elements.{All-nil, All-cons}
use Rattle.std.proofs.lemmas.Option.{slice_get_within}
use Rattle.hare_tree.specs.declared.kind.Kind.{Kind}
use Rattle.hare_tree.specs.declared.kind.Kind.TheVariants as kind
use Rattle.hare_tree.specs.Node.{Head}
use Rattle.hare_types.specs.declared.lists.Field.{Field}
use Rattle.hare_types.specs.declared.row.Row.{Row}
use Rattle.hare_types.specs.declared.row.Row.TheVariants as row
use Rattle.hare_types.specs.declared.coercion.Ty.{Ty}
use Rattle.hare_types.specs.declared.coercion.Ty.TheVariants as ty
use Rattle.hare_types.specs.Store.{Store}
use Rattle.hare_types.specs.Sound.{IsStore}
use Rattle.hare_types.specs.Unions.{id_of}
use Rattle.hare_types.specs.ByIds.{row_at, base_at, field_in, field_at}
use Rattle.hare_types.proofs.IdLemmas.{id_tells}
use Rattle.hare_typed.specs.Typed.{TypedNode, TypedNodes, marked, typed_none, typed_more, head_of, kids_of, listed_nodes}
use Rattle.hare_typed.specs.Order.{kid_from_front}
use Rattle.hare_typed.specs.Weight.{count}
use Rattle.hare_typed.specs.Given.{given, base_row}
use Rattle.hare_typed.specs.Constants.{own_kind}
use Rattle.hare_typed.specs.Followed.{reached_type}
use Rattle.hare_typed.specs.ConstantForms.{type_of_kid, part_in, part_named, counted_from, fields_from}
use Rattle.hare_layout.proofs.PlacesLemmas.{then}
use Rattle.hare_typed.specs.Sizes.{Fits, HasPart}
use Rattle.hare_typed.specs.Settled.{IsSized, HasParts, components_given, fields_given, type_with_offset, part_with_offset}
use Rattle.hare_rules.specs.Words as words
use Rattle.hare_rules.specs.Context.{Context, store_of, kid, own_type, behind_first}
use Rattle.hare_rules.specs.Operators.{has_size_of}
use Rattle.hare_rules.specs.Aggregates.{but_last, fields_in, field_values, each_once, fill, tuple_items, as_many, with_id, defaults, hinted_components, or_defaults, tuple_components, tuple_type, reached, is_component_number, field_named, name_number, member_type}
use Rattle.hare_rules.specs.Settles.{target_of, settled_from, settled_kids}
use Rattle.hare_constancy.specs.Measured.{IsKnown, IsMeasured}
use Rattle.hare_constancy.specs.Met.{shown, IsJudged}
use Rattle.hare_constancy.proofs.Judged.{kid_given}
use Rattle.hare_constancy.proofs.Types.{built_fits, own_base, fields_row, part_there}

-- ---- measures

-- what has a size by the rows has one that is known
pub sized_known : (s : Store) (f : Ty) → IsKnown s f → has_size_of s (words.id_in f) ≡ true → IsSized s f
sized_known s (ty.Of t) k e = k.1 e
sized_known s (ty.Iconst v) k e = tt
sized_known s ty.Null k e = tt
sized_known s ty.Empty k e = tt

-- ---- how many kids there are

length-settled : (c : Context) (i : ℕ) (xs : List TypedNode) → length (settled_from c i xs) ≡ length xs
length-settled c i [] = refl
length-settled c i (x ∷ xs) = ap suc (length-settled c (suc i) xs)

count-listed : (ts : TypedNodes) → count ts ≡ length (listed_nodes ts)
count-listed typed_none = refl
count-listed (typed_more t ts) = let rest = count-listed ts in omega (arith, rest)

pub count_kids : (c : Context) (t : TypedNode) → IsJudged c t → own_kind t ≢ kind.Yield → count (kids_of t) ≡ length c.kids
count_kids c t j k =
    count-listed (kids_of t) ∙ sym (length-map (listed_nodes (kids_of t)) shown) ∙ ap length (j.kids k)
    ∙ length-map (settled_kids c) shown ∙ length-settled c 0 c.kids

length-but_last : (xs : List TypedNode) → length (but_last xs) ≡ length xs - 1
length-but_last [] = refl
length-but_last (x ∷ []) = refl
length-but_last (x ∷ y ∷ ys) = let rest = length-but_last (y ∷ ys) in omega (arith, rest)

length-behind : (xs : List TypedNode) → length (drop 1 xs) ≡ length xs - 1
length-behind [] = refl
length-behind (x ∷ xs) = omega arith

-- ---- parts by number

counted_each : (P : ℕ → Type 0) (i n : ℕ) → ((k : ℕ) → k < i + n → P k) → All P (counted_from i n)
counted_each P i zero h = All-nil P
counted_each P i (suc n) h =
    All-cons P i (counted_from (suc i) n) (h i (omega arith)) (counted_each P (suc i) n (λ k e. h k (omega (arith, e))))

fields_each : (P : ℕ → Type 0) (s : Store) (f : Ty) (t : TypedNode) (i n : ℕ) → ((h : Head) → P (part_named s f h)) →
    All P (fields_from s f i n t)
fields_each P s f t i zero h = All-nil P
fields_each P s f t i (suc n) h =
    All-cons P (part_named s f (head_of (kid_from_front i t))) (fields_from s f (suc i) n t) (h (head_of (kid_from_front i t)))
    (fields_each P s f t (suc i) n h)

-- ---- tuples

length-defaults : (s : Store) (xs : List TypedNode) (is : List ℕ) → defaults s xs ≡ Some is → length is ≡ length xs
length-defaults s [] is e = let same : [] ≡ is = cc in sym (ap length same)
length-defaults s (x ∷ xs) is e = by (length-defaults s xs) (words.default_in s (own_type x)) (defaults s xs) refl e
  where
    by : ((js : List ℕ) → defaults s xs ≡ Some js → length js ≡ length xs) → (o : Option ℕ) (p : Option (List ℕ)) →
        defaults s xs ≡ p → with_id o p ≡ Some is → length is ≡ suc (length xs)
    by ih None None f g = absurd cc
    by ih None (Some js) f g = absurd cc
    by ih (Some d) None f g = absurd cc
    by ih (Some d) (Some js) f g =
        let same : d ∷ js ≡ is = cc in
        sym (ap length same) ∙ ap suc (ih js f)

eq-same : (a b : ℕ) → (a == b) ≡ true → a ≡ b
eq-same a b e = eqb-true a b e

length-hinted : (n : ℕ) (o : Option (List ℕ)) (is : List ℕ) → as_many n o ≡ Some is → length is ≡ n
length-hinted n None is e = absurd cc
length-hinted n (Some js) is e = by (length js == n) refl e
  where
    by : (b : Bool) → (length js == n) ≡ b → cond b (Some js) None ≡ Some is → length is ≡ n
    by true f g = let same : js ≡ is = cc in ap length (sym same) ∙ eq-same (length js) n f
    by false f g = absurd cc

length-components : (c : Context) (is : List ℕ) → tuple_components c ≡ Some is → length is ≡ length (tuple_items c)
length-components c is e = by (hinted_components (store_of c) c.hint (length (tuple_items c))) refl e
  where
    by : (o : Option (List ℕ)) → hinted_components (store_of c) c.hint (length (tuple_items c)) ≡ o
        → or_defaults (store_of c) (tuple_items c) o ≡ Some is → length is ≡ length (tuple_items c)
    by (Some js) f g = length-hinted (length (tuple_items c)) (words.components _) is (f ∙ g)
    by None f g = length-defaults (store_of c) (tuple_items c) is g

-- a type that is made of an id
pub made_as : (o : Option ℕ) (f : Ty) → words.typed_as o ≡ Some f → (t : ℕ) × (o ≡ Some t) × (f ≡ ty.Of t)
made_as None f e = absurd cc
made_as (Some t) f e = (t, refl, cc)

pub tuple_asked : (c : Context) (t : TypedNode) → IsStore (store_of c) → IsJudged c t → own_kind t ≡ kind.Tuple → own_kind t ≢ kind.Yield →
    IsKnown (store_of c) (own_type t) → tuple_type c ≡ Some (own_type t) → HasParts (store_of c) (own_type t) (components_given t)
tuple_asked c t v j k y m e =
    let s = store_of c in
    let made = made_as (option_and_then (λ ts. id_of s (row.Tuple ts)) (tuple_components c)) (own_type t) e in
    let parts = then (λ ts. id_of s (row.Tuple ts)) (tuple_components c) made.0 made.1 in
    let here : row_at s made.0 ≡ Some (row.Tuple parts.0) = (id_tells s v (row.Tuple parts.0) made.0).0 parts.2 in
    let base = own_base s made.0 (row.Tuple parts.0) here refl in
    let fits : Fits s made.0 = built_fits s v made.0 (row.Tuple parts.0) (subst (IsKnown s) made.2 m) base refl in
    let fields = fields_row s made.0 (row.Tuple parts.0) base in
    let kids = count_kids c t j y in
    let last = length-but_last c.kids in
    let items = length-components c parts.0 parts.1 in
    let many : length parts.0 ≡ count (kids_of t) - 1 = omega (arith, items, last, kids) in
    subst (λ f. HasParts s f (components_given t)) (sym made.2) (
      fits,
      counted_each (HasPart s made.0) 0 (count (kids_of t) - 1)
          (λ i l. part_there s made.0 i parts.0 fits fields (omega (arith, l, many))),
    )

-- ---- structs

position_within : {A : Type 0} (p : A → Bool) (xs : List A) (k : ℕ) → position p xs ≡ Some k → k < length xs
position_within p xs k e = by (nat_lt (position_or_len p xs) (length xs)) refl e
  where
    by : (b : Bool) → nat_lt (position_or_len p xs) (length xs) ≡ b → cond b (Some (position_or_len p xs)) None ≡ Some k → k < length xs
    by true f g =
        let same : position_or_len p xs ≡ k = cc in
        omega (arith, ltb-true (position_or_len p xs) (length xs) f, same)
    by false f g = absurd cc

or_first : (o : Option ℕ) (n : ℕ) → ((k : ℕ) → o ≡ Some k → k < n) → 0 < n → unwrap_or o 0 < n
or_first None n h l = l
or_first (Some k) n h l = h k refl

-- a name that a struct lacks stands for its first field
field_within : (s : Store) (t : ℕ) (fs : List Field) (h : Head) → base_row s (ty.Of t) ≡ Some (row.Struct fs) → 0 < length fs →
    part_named s (ty.Of t) h < length fs
field_within s t fs h e l =
    let base = then (row_at s) (base_at s t) (row.Struct fs) e in
    let place = or_first
    (option_and_then (λ b. option_and_then (field_at s b) (position (bytes_eq h.text) s.names)) (base_at s t)) (length fs)
    (λ k g.
    let at = then (λ b. option_and_then (field_at s b) (position (bytes_eq h.text) s.names)) (base_at s t) k g in
    let name = then (field_at s at.0) (position (bytes_eq h.text) s.names) k at.2 in
    let same : at.0 ≡ base.0 = (let both = sym at.1 ∙ base.1 in cc) in
    let found : field_at s base.0 name.0 ≡ Some k = subst (λ b. field_at s b name.0 ≡ Some k) same name.2 in
    position_within (λ f. f.name == name.0) fs k (sym (ap (option_and_then (field_in name.0)) base.2) ∙ found))
    l in
    subst (λ n. n < length fs) (sym (ap (part_in s (ty.Of t) h) e)) place

-- a struct has the part that is named
pub struct_part : (s : Store) (t : ℕ) (fs : List Field) (h : Head) → Fits s t → base_row s (ty.Of t) ≡ Some (row.Struct fs) →
    0 < length fs → HasPart s t (part_named s (ty.Of t) h)
struct_part s t fs h f e l =
    part_there s t (part_named s (ty.Of t) h) (map (λ g. g.ty) fs) f (fields_row s t (row.Struct fs) e)
    (subst (λ n. part_named s (ty.Of t) h < n) (sym (length-map fs (λ g. g.ty))) (field_within s t fs h e l))

-- fields that are filled are those of a struct, and as many
pub filled : (s : Store) (o : Option Row) (xs : List TypedNode) → fill s (fields_in o) xs ≡ true →
    (fs : List Field) × (o ≡ Some (row.Struct fs)) × (length xs ≡ length fs)
filled s (Some (row.Struct fs)) xs e = (fs, refl, by (length xs == length fs) refl e)
  where
    by : (b : Bool) → (length xs == length fs) ≡ b → (b && each_once s fs xs) ≡ true → length xs ≡ length fs
    by true f g = eq-same (length xs) (length fs) f
    by false f g = absurd cc
filled s None xs e = absurd cc
filled s (Some (row.Scalar k)) xs e = absurd cc
filled s (Some (row.Pointer i)) xs e = absurd cc
filled s (Some (row.Nullable i)) xs e = absurd cc
filled s (Some (row.Slice i)) xs e = absurd cc
filled s (Some (row.Array n i)) xs e = absurd cc
filled s (Some (row.Tuple is)) xs e = absurd cc
filled s (Some (row.Union is)) xs e = absurd cc
filled s (Some (row.Error i)) xs e = absurd cc
filled s (Some (row.Named d)) xs e = absurd cc

struct_of : (s : Store) → IsStore s → (f : Ty) (t : TypedNode) (n : ℕ) (fs : List Field) → IsKnown s f →
    base_row s f ≡ Some (row.Struct fs) → n ≡ length fs → HasParts s f (fields_from s f 1 n t)
struct_of s v (ty.Of u) t zero fs k e l = (built_fits s v u (row.Struct fs) k e refl, All-nil (HasPart s u))
struct_of s v (ty.Of u) t (suc n) fs k e l =
    let fits = built_fits s v u (row.Struct fs) k e refl in
    (fits, fields_each (HasPart s u) s (ty.Of u) t 1 (suc n) (λ h. struct_part s u fs h fits e (omega (arith, l))))
struct_of s v (ty.Iconst w) t n fs k e l = absurd cc
struct_of s v ty.Null t n fs k e l = absurd cc
struct_of s v ty.Empty t n fs k e l = absurd cc

pub struct_asked : (c : Context) (t : TypedNode) → IsStore (store_of c) → IsJudged c t → own_kind t ≡ kind.StructLit →
    own_kind t ≢ kind.Yield → IsKnown (store_of c) (own_type t) → Some (own_type (kid c 0)) ≡ Some (own_type t) →
    fill (store_of c) (fields_in (base_row (store_of c) (own_type (kid c 0)))) (field_values c) ≡ true →
    HasParts (store_of c) (own_type t) (fields_given (store_of c) t)
struct_asked c t v j k y m e h =
    let s = store_of c in
    let same : own_type (kid c 0) ≡ own_type t = cc in
    let full = filled s (base_row s (own_type (kid c 0))) (field_values c) h in
    let base = ap (base_row s) (sym same) ∙ full.1 in
    let kids = count_kids c t j y in
    let last = length-but_last (behind_first c) in
    let behind = length-behind c.kids in
    struct_of s v (own_type t) t (count (kids_of t) - 2) full.0 m base (omega (arith, kids, last, behind, full.2))

-- ---- offsets

named_some : (fs : List Field) (n : ℕ) → is_some (field_named fs n) ≡ true → 0 < length fs
named_some [] n e = absurd cc
named_some (f ∷ fs) n e = omega arith

some_get : (is : List ℕ) (k : ℕ) → is_some (slice_get is k) ≡ true → k < length is
some_get is k e = by (slice_get is k) refl e
  where
    by : (o : Option ℕ) → slice_get is k ≡ o → is_some o ≡ true → k < length is
    by (Some i) f g = slice_get_within is k i f
    by None f g = absurd cc

no_member : (c : Context) (o : Option Row) → o ≡ None → is_some (member_type c o) ≡ true → ⊥
no_member c None f g = absurd cc
no_member c (Some r) f g = absurd cc

-- what has the member that a node names has it as a part
member_there : (c : Context) (f : Ty) → IsStore (store_of c) → IsKnown (store_of c) f →
    is_some (member_type c (base_row (store_of c) f)) ≡ true →
    HasParts (store_of c) f (part_named (store_of c) f c.head ∷ [])
member_there c f v k e = by f (base_row (store_of c) f) refl k e
  where
    s : Store
    s = store_of c

    some_field : (fs : List Field) (o : Option ℕ) → is_some (option_and_then (field_named fs) o) ≡ true → 0 < length fs
    some_field fs None g = absurd cc
    some_field fs (Some n) g = named_some fs n g

    by : (g : Ty) (o : Option Row) → base_row s g ≡ o → IsKnown s g → is_some (member_type c o) ≡ true →
        HasParts s g (part_named s g c.head ∷ [])
    by (ty.Of u) (Some (row.Struct fs)) b m h =
        let fits = built_fits s v u (row.Struct fs) m b refl in (
          fits,
          All-cons (HasPart s u) (part_named s (ty.Of u) c.head) []
              (struct_part s u fs c.head fits b (some_field fs (name_number s c.head.text) h)) (All-nil (HasPart s u)),
        )
    by (ty.Of u) (Some (row.Tuple is)) b m h =
        let fits = built_fits s v u (row.Tuple is) m b refl in
        let there : is_some (slice_get is c.head.number) ≡ true = numbered (is_component_number c.head.text c.head.suffix) h in
        let here : HasPart s u c.head.number =
        part_there s u c.head.number is fits (fields_row s u (row.Tuple is) b) (some_get is c.head.number there) in (
          fits,
          All-cons (HasPart s u) (part_named s (ty.Of u) c.head) []
              (subst (HasPart s u) (sym (ap (part_in s (ty.Of u) c.head) b)) here) (All-nil (HasPart s u)),
        )
      where
        numbered : (d : Bool) → is_some (cond d (slice_get is c.head.number) None) ≡ true → is_some (slice_get is c.head.number) ≡ true
        numbered true g = g
        numbered false g = absurd cc
    by (ty.Of u) None b m h = absurd cc
    by (ty.Of u) (Some (row.Scalar w)) b m h = absurd cc
    by (ty.Of u) (Some (row.Pointer i)) b m h = absurd cc
    by (ty.Of u) (Some (row.Nullable i)) b m h = absurd cc
    by (ty.Of u) (Some (row.Slice i)) b m h = absurd cc
    by (ty.Of u) (Some (row.Array n i)) b m h = absurd cc
    by (ty.Of u) (Some (row.Union is)) b m h = absurd cc
    by (ty.Of u) (Some (row.Error i)) b m h = absurd cc
    by (ty.Of u) (Some (row.Named d)) b m h = absurd cc
    by (ty.Iconst w) o b m h = absurd (no_member c o (sym b) h)
    by ty.Null o b m h = absurd (no_member c o (sym b) h)
    by ty.Empty o b m h = absurd (no_member c o (sym b) h)

-- the kid of an `offset`, which is a member
pub offset_asked : (c : Context) (t : TypedNode) → IsStore (store_of c) → IsJudged c (kid_from_front 0 t) →
    own_kind (kid_from_front 0 t) ≡ kind.Field → IsMeasured (store_of c) (type_of_kid 0 (kid_from_front 0 t)) →
    is_some (member_type c (reached (store_of c) (kid c 0))) ≡ true →
    HasParts (store_of c) (type_with_offset (store_of c) t) (part_with_offset (store_of c) t ∷ [])
offset_asked c t v j k m e =
    let s = store_of c in
    let f = kid_from_front 0 t in
    let no : own_kind f ≢ kind.Yield = λ y. (let both = sym k ∙ y in absurd cc) in
    let field : c.head.kind ≡ kind.Field = ap (λ h. h.kind) j.head ∙ by f ∙ k in
    let same : given (kid_from_front 0 f) ≡ given (kid c 0) = kid_given c f j no 0 (untargeted c.head.kind field) in
    let whole : reached_type s (given (kid c 0)) ≡ type_with_offset s t = ap (reached_type s) (sym same) in
    subst (λ h. HasParts s (type_with_offset s t) (part_named s (type_with_offset s t) h ∷ [])) j.head
    (member_there c (type_with_offset s t) v (m 16) (subst (λ g. is_some (member_type c (base_row s g)) ≡ true) whole e))
  where
    by : (x : TypedNode) → (head_of x).kind ≡ own_kind x
    by (marked h n ts) = refl

    untargeted : (q : Kind) → q ≡ kind.Field → target_of c q 0 ≡ None
    untargeted q g = ap (λ r. target_of c r 0) g
