-- Which values may be assigned to which types, by the table of assignability, and which casts are admitted.
use Rattle.std.specs.Prelude.{ℕ, suc, ◌<◌, ◌-◌, ◌+◌, ◌^◌, ℤ, pos, neg_ℤ, int_le, Bool, true, false, cond, ◌&&◌, ◌||◌, ◌==◌, nat_eq, ltb, List, [], ◌∷◌, length, Some, None, Option, is_some, option_map}
use Rattle.hare_types.specs.declared.coercion.Ty.{Ty}
use Rattle.hare_types.specs.declared.coercion.Ty.TheVariants as ty
use Rattle.hare_types.specs.declared.coercion.Coercion.{Coercion}
use Rattle.hare_types.specs.declared.row.Scalar.{Scalar as Keyword}
use Rattle.hare_types.specs.declared.row.Scalar.TheVariants as keyword
use Rattle.std.specs.Bool.{beq}
use Rattle.std.specs.Cmp.Lexicographic.{pointwise}
use Rattle.hare_types.specs.Keys.{scalar_eq}
use Rattle.hare_types.specs.Trees.{Tree, Trees, Scalar, Pointer, Nullable, Slice, Array, Struct, Tuple, Union, Error, Named, none, more}
use Rattle.hare_types.specs.Rows.{tree_in, trees}
use Rattle.hare_types.specs.Store.{Store, meaning_of}
use Rattle.hare_types.specs.Layout.{following, base_with}

-- What is assigned or cast: a value of a type, or one of the three kinds that have none until their site gives one.
pub data Value : Type 0 where
  Of : Tree → Value
  Iconst : ℤ → Value  -- a whole number without a suffix
  Null : Value
  Empty : Value  -- an array of no items

-- the type with this id, in a store that has it
abbrev pub type_at : Store → ℕ → Tree
type_at s i = tree_in (trees s.rows) i

abbrev pub value_at : Store → Ty → Value
value_at s (ty.Of i) = Of (type_at s i)
value_at s (ty.Iconst v) = Iconst v
value_at s ty.Null = Null
value_at s ty.Empty = Empty

-- where the value has a type, the store has it
abbrev pub IsIn : Store → Ty → Type 0
IsIn s (ty.Of i) = i < length s.rows
IsIn s (ty.Iconst v) = Unit {0}
IsIn s ty.Null = Unit {0}
IsIn s ty.Empty = Unit {0}

-- ---- words of the table

-- the test, where there is something to be tested
abbrev pub holds_of : {A : Type 0} → (A → Bool) → Option A → Bool
holds_of p None = false
holds_of p (Some a) = p a

abbrev pub some_tree : (Tree → Bool) → Trees → Bool
some_tree p none = false
some_tree p (more t ts) = p t || some_tree p ts

abbrev pub each_tree : (Tree → Bool) → Trees → Bool
each_tree p none = true
each_tree p (more t ts) = p t && each_tree p ts

abbrev pub how_many : (Tree → Bool) → Trees → ℕ
how_many p none = 0
how_many p (more t ts) = cond (p t) 1 0 + how_many p ts

abbrev mutual
  -- whether the trees are one type
  pub same : Tree → Tree → Bool
  same (Scalar a) (Scalar b) = scalar_eq a b
  same (Pointer t) (Pointer u) = same t u
  same (Nullable t) (Nullable u) = same t u
  same (Slice t) (Slice u) = same t u
  same (Array m t) (Array n u) = (m == n) && same t u
  same (Struct ms ts) (Struct ns us) = pointwise nat_eq ms ns && same_each ts us
  same (Tuple ts) (Tuple us) = same_each ts us
  same (Union ts) (Union us) = all_among ts us && each_tree (λ u. is_among ts u) us
  same (Error t) (Error u) = same t u
  same (Named d) (Named e) = d == e
  same _ _ = false

  pub same_each : Trees → Trees → Bool
  same_each none none = true
  same_each (more t ts) (more u us) = same t u && same_each ts us
  same_each _ _ = false

  -- whether each of the first is one of the second
  pub all_among : Trees → Trees → Bool
  all_among none us = true
  all_among (more t ts) us = some_tree (λ u. same t u) us && all_among ts us

  -- whether u is one of these
  pub is_among : Trees → Tree → Bool
  is_among none u = false
  is_among (more t ts) u = same t u || is_among ts u

-- The type without names and error marks, where each name that is met is defined. No type of a store holds itself by value, so as many
-- names as are declared are enough to follow.
abbrev pub base : Store → Tree → Option Tree
base s = following base_with (meaning_of s) (length s.declared)

-- whether an integer type has negative values; None for what is no integer type
abbrev pub signed : Keyword → Option Bool
signed keyword.Void = None
signed keyword.Never = None
signed keyword.Opaque = None
signed keyword.Bool = None
signed keyword.Rune = None
signed keyword.Str = None
signed keyword.I8 = Some true
signed keyword.I16 = Some true
signed keyword.I32 = Some true
signed keyword.I64 = Some true
signed keyword.U8 = Some false
signed keyword.U16 = Some false
signed keyword.U32 = Some false
signed keyword.U64 = Some false
signed keyword.Int = Some true
signed keyword.Uint = Some false
signed keyword.Size = Some false

-- the bits of an integer type
abbrev pub bits : Keyword → ℕ
bits keyword.Void = 0
bits keyword.Never = 0
bits keyword.Opaque = 0
bits keyword.Bool = 0
bits keyword.Rune = 0
bits keyword.Str = 0
bits keyword.I8 = 8
bits keyword.I16 = 16
bits keyword.I32 = 32
bits keyword.I64 = 64
bits keyword.U8 = 8
bits keyword.U16 = 16
bits keyword.U32 = 32
bits keyword.U64 = 64
bits keyword.Int = 32
bits keyword.Uint = 32
bits keyword.Size = 64

-- whether so many bits hold the number, in two's complement where they are signed
abbrev pub in_bits : ℕ → ℤ → Bool → Bool
in_bits n v true = int_le (neg_ℤ (pos (2 ^ (n - 1)))) v && int_le v (pos (2 ^ (n - 1) - 1))
in_bits n v false = int_le (pos 0) v && int_le v (pos (2 ^ n - 1))

-- whether the type is an integer type that holds the number
abbrev pub holds : Keyword → ℤ → Bool
holds k v = holds_of (in_bits (bits k) v) (signed k)

-- whether both are integer types of one signedness, and the second is strictly wider
abbrev pub wider : Keyword → Keyword → Bool
wider a b = holds_of (λ x. holds_of (λ y. beq x y && ltb (bits a) (bits b)) (signed b)) (signed a)

-- int where the number fits, else i64 where it fits, else none
abbrev pub default_word : ℤ → Option Keyword
default_word v = cond (holds keyword.Int v) (Some keyword.Int) (cond (holds keyword.I64 v) (Some keyword.I64) None)

-- the default type of a value
abbrev pub default : Value → Option Tree
default (Of t) = Some t
default (Iconst v) = option_map Scalar (default_word v)
default Null = None
default Empty = None

-- ---- the table, from a value to a type

-- the value's type equals the type
abbrev pub is_same : Value → Tree → Bool
is_same (Of f) t = same f t
is_same (Iconst v) t = false
is_same Null t = false
is_same Empty t = false

-- the value's type is never
abbrev pub is_never : Value → Bool
is_never (Of (Scalar keyword.Never)) = true
is_never _ = false

abbrev pub tree_holds : Tree → ℤ → Bool
tree_holds (Scalar k) v = holds k v
tree_holds _ v = false

-- a whole number without a suffix, to what has an integer type as its base that holds the number
abbrev pub is_const : Store → Value → Tree → Bool
is_const s (Iconst v) t = holds_of (λ u. tree_holds u v) (base s t)
is_const s (Of f) t = false
is_const s Null t = false
is_const s Empty t = false

-- both are unnamed integer types of one signedness, the type strictly wider
abbrev pub is_wider : Value → Tree → Bool
is_wider (Of (Scalar a)) (Scalar b) = wider a b
is_wider _ _ = false

abbrev pub is_opaque : Tree → Bool
is_opaque (Scalar keyword.Opaque) = true
is_opaque _ = false

-- `*X` to `nullable *X`, `*opaque` and `nullable *opaque`; `nullable *X` to `nullable *opaque`
abbrev pub is_pointer : Value → Tree → Bool
is_pointer (Of (Pointer x)) (Nullable y) = same x y || is_opaque y
is_pointer (Of (Pointer x)) (Pointer y) = is_opaque y
is_pointer (Of (Nullable x)) (Nullable y) = is_opaque y
is_pointer _ _ = false

abbrev pub is_nullable : Tree → Bool
is_nullable (Nullable x) = true
is_nullable _ = false

-- `null`, to what has a nullable pointer as its base
abbrev pub is_null : Store → Value → Tree → Bool
is_null s Null t = holds_of is_nullable (base s t)
is_null s (Of f) t = false
is_null s (Iconst v) t = false
is_null s Empty t = false

abbrev pub items_fit : Value → Tree → Bool
items_fit (Of (Array n x)) (Slice y) = same x y
items_fit Empty (Slice y) = true
items_fit Empty (Array n y) = n == 0
items_fit _ _ = false

-- `[n]X` to what has `[]X` as its base; an array of no items to what has a slice or `[0]X` as its base
abbrev pub is_slice : Store → Value → Tree → Bool
is_slice s f t = holds_of (items_fit f) (base s t)

-- both have one base
abbrev pub is_name : Store → Value → Tree → Bool
is_name s (Of f) t = holds_of (λ u. holds_of (same u) (base s t)) (base s f)
is_name s (Iconst v) t = false
is_name s Null t = false
is_name s Empty t = false

abbrev pub is_member : Value → Trees → Bool
is_member f ms = some_tree (is_same f) ms

abbrev pub members_among : Trees → Tree → Bool
members_among ms (Union ns) = all_among ns ms
members_among ms _ = false

abbrev pub is_part : Store → Value → Trees → Bool
is_part s (Of f) ms = holds_of (members_among ms) (base s f)
is_part s (Iconst v) ms = false
is_part s Null ms = false
is_part s Empty ms = false

abbrev pub is_default : Value → Trees → Bool
is_default (Iconst v) ms = holds_of (λ k. some_tree (same (Scalar k)) ms) (default_word v)
is_default _ ms = false

-- the members of a union are distinct, so that they can be counted
abbrev pub only_one : (Tree → Bool) → Trees → Bool
only_one p ms = how_many p ms == 1

abbrev pub is_lone : Store → Value → Tree → Bool
is_lone s f m = is_pointer f m || is_null s f m || is_slice s f m

abbrev pub joins : Store → Value → Tree → Bool
joins s f (Union ms) = is_member f ms || is_part s f ms || is_default f ms || only_one (is_const s f) ms || only_one (is_lone s f) ms
joins s f _ = false

-- The base of the type is a union, and: the value's type is a member; or its base is a union whose members all are members; or it is a
-- whole number without a suffix, and its default type is a member, or else exactly one member has an integer type as its base that holds
-- it; or exactly one member is admitted as a pointer, for `null` or as a slice.
abbrev pub is_union : Store → Value → Tree → Bool
is_union s f t = holds_of (joins s f) (base s t)

-- which rows of the table admit the value to the type, in the table's order
abbrev pub table : Store → Value → Tree → List Bool
table s f t = is_same f t ∷ is_never f ∷ is_const s f t ∷ is_wider f t ∷ is_pointer f t ∷ is_null s f t ∷ is_slice s f t ∷ is_name s f t ∷
    is_union s f t ∷ []

-- the number of the first that is so, counted from n
abbrev pub first_from : ℕ → List Bool → Option ℕ
first_from n [] = None
first_from n (true ∷ bs) = Some n
first_from n (false ∷ bs) = first_from (suc n) bs

-- The row that gives the coercion: the first admitting one, counted from 1. None exactly where the value is not assignable to the type.
abbrev pub first_row : Store → Value → Tree → Option ℕ
first_row s f t = first_from 1 (table s f t)

-- what becomes of a value that is assigned to the type with this id
abbrev pub coercion : Store → Ty → ℕ → Option Coercion
coercion s f t = option_map (λ n. record { row = n; to = ty.Of t }) (first_row s (value_at s f) (type_at s t))

-- ---- casts

-- an integer type or rune
abbrev pub is_number : Tree → Bool
is_number (Scalar keyword.Rune) = true
is_number (Scalar k) = is_some (signed k)
is_number _ = false

-- an integer type or rune, names and error marks removed, or a whole number without a suffix
abbrev pub is_numeric : Store → Value → Bool
is_numeric s (Of f) = holds_of is_number (base s f)
is_numeric s (Iconst v) = true
is_numeric s Null = false
is_numeric s Empty = false

-- `*X` to `*Y` and to `nullable *Y`; `nullable *X` to `nullable *Y`
abbrev pub recasts : Value → Tree → Bool
recasts (Of (Pointer x)) (Pointer y) = true
recasts (Of (Pointer x)) (Nullable y) = true
recasts (Of (Nullable x)) (Nullable y) = true
recasts _ _ = false

-- whether a cast is admitted: of each assignable pair, between numbers, and between pointers
abbrev pub is_castable : Store → Value → Tree → Bool
is_castable s f t = is_some (first_row s f t) || (is_numeric s f && is_numeric s (Of t)) || recasts f t
