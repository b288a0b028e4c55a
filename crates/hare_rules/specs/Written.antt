-- What the rows of written types ask, and the types that they write.
use Rattle.std.specs.Prelude.{ℕ, Bool, true, false, cond, not, ◌&&◌, ◌||◌, List, [], ◌∷◌, ◌++◌, find, Option, Some, None, is_some, option_map, option_and_then}
use Rattle.std.specs.Option.{unwrap_or}
use Rattle.std.specs.List.{list_any}
use Rattle.hare_tree.specs.declared.kind.Kind.{Kind}
use Rattle.hare_tree.specs.declared.kind.Kind.TheVariants as ki
use Rattle.hare_tree.specs.declared.token.Meaning.{Meaning}
use Rattle.hare_tree.specs.declared.token.Meaning.TheVariants as means
use Rattle.hare_types.specs.declared.coercion.Ty.{Ty}
use Rattle.hare_types.specs.declared.lists.Field.{Field}
use Rattle.hare_types.specs.declared.row.Row.{Row}
use Rattle.hare_types.specs.declared.row.Row.TheVariants as row
use Rattle.hare_types.specs.declared.row.Scalar.TheVariants as keyword
use Rattle.hare_types.specs.Store.{Store}
use Rattle.hare_types.specs.Layout.{union_extent}
use Rattle.hare_types.specs.Kept.{all_known}
use Rattle.hare_types.specs.ByIds.{row_at, has_size_at, extent_at, members_at}
use Rattle.hare_types.specs.Unions.{id_of, brought_at, ascending, joined}
use Rattle.hare_typed.specs.Typed.{TypedNode}
use Rattle.hare_typed.specs.Order.{kid_from_front}
use Rattle.hare_rules.specs.Words.{id_in, typed_as, is_word}
use Rattle.hare_rules.specs.Context.{Context, store_of, kid, text_of, own_type}
use Rattle.hare_typed.specs.Numbers.{kind_of}
use Rattle.hare_rules.specs.Operators.{named_id}
use Rattle.hare_rules.specs.Aggregates.{but_last, is_small, with_id, name_number}

-- ---- one inner type

abbrev pub inner : Context → Option ℕ
inner c = id_in (own_type (kid c 0))

abbrev pub with_row : Context → (ℕ → Row) → Option Ty
with_row c r = typed_as (option_and_then (λ t. id_of (store_of c) (r t)) (inner c))

-- the declaration that a path at the place of a type means
abbrev pub type_meant : Context → Meaning → Option Ty
type_meant c (means.Decl n) = typed_as (named_id c.setting n)
type_meant c _ = None

-- ---- structs and tuples

abbrev pub field_parts : Context → List TypedNode
field_parts c = but_last c.kids

-- a component's type, or that of a field
abbrev pub part_type_by : Kind → TypedNode → Ty
part_type_by ki.StructField x = own_type (kid_from_front 0 x)
part_type_by _ x = own_type x

abbrev pub part_id : TypedNode → Option ℕ
part_id x = id_in (part_type_by (kind_of x) x)

abbrev pub part_ids : List TypedNode → Option (List ℕ)
part_ids [] = Some []
part_ids (x ∷ xs) = with_id (part_id x) (part_ids xs)

abbrev pub parts : Context → List ℕ
parts c = unwrap_or (part_ids (field_parts c)) []

abbrev pub field_of : Option ℕ → Option ℕ → Option Field
field_of (Some n) (Some t) = Some (record { name = n; ty = t })
field_of _ _ = None

abbrev pub with_field : Option Field → Option (List Field) → Option (List Field)
with_field (Some f) (Some fs) = Some (f ∷ fs)
with_field _ _ = None

abbrev pub fields : Store → List TypedNode → Option (List Field)
fields s [] = Some []
fields s (x ∷ xs) = with_field (field_of (name_number s (text_of x)) (part_id x)) (fields s xs)

abbrev pub struct_type : Context → Option Ty
struct_type c = typed_as (option_and_then (λ fs. id_of (store_of c) (row.Struct fs)) (fields (store_of c) (field_parts c)))

abbrev pub tuple_of : Context → Option Ty
tuple_of c = typed_as (option_and_then (λ ts. id_of (store_of c) (row.Tuple ts)) (part_ids (field_parts c)))

-- ---- unions

abbrev pub is_spread_kind : Kind → Bool
is_spread_kind ki.Spread = true
is_spread_kind _ = false

abbrev pub is_spread : TypedNode → Bool
is_spread x = is_spread_kind (kind_of x)

-- the type that a member names, or that it spreads
abbrev pub member_id : TypedNode → Option ℕ
member_id x = id_in (own_type (cond (is_spread x) (kid_from_front 0 x) x))

abbrev pub members_spread : Store → Option ℕ → Option (List ℕ)
members_spread s o = option_and_then (members_at s) o

-- the first `...` whose type is no union, by its base
abbrev pub odd_spread : Store → List TypedNode → Option TypedNode
odd_spread s xs = find (λ x. is_spread x && not (is_some (members_spread s (member_id x)))) xs

abbrev pub member_sized : Store → TypedNode → Option ℕ → Bool
member_sized s x None = false
member_sized s x (Some t) = has_size_at s t || is_word keyword.Never (row_at s t)

-- a written member has a size, or is never; of a spread nothing is asked
abbrev pub is_member_sized : Store → TypedNode → Bool
is_member_sized s x = is_spread x || member_sized s x (member_id x)

abbrev pub members_sized : Store → List TypedNode → Bool
members_sized s xs = not (list_any (λ x. not (is_member_sized s x)) xs)

-- what a member brings to the union: a spread the members of its union, an unnamed union its own, never nothing, and any other itself
abbrev pub brought_by_id : Store → Bool → Option ℕ → List ℕ
brought_by_id s is_spread None = []
brought_by_id s true (Some t) = unwrap_or (members_at s t) []
brought_by_id s false (Some t) = brought_at s t

abbrev pub brought : Store → TypedNode → List ℕ
brought s x = brought_by_id s (is_spread x) (member_id x)

abbrev pub all_brought : Store → List TypedNode → List ℕ
all_brought s [] = []
all_brought s (x ∷ xs) = brought s x ++ all_brought s xs

-- the members that are left, in ascending order of their ids, each once
abbrev pub members_left : Context → List ℕ
members_left c = ascending (all_brought (store_of c) c.kids)

abbrev pub most_members : ℕ
most_members = 64

abbrev pub union_small : Store → List ℕ → Bool
union_small s ts = is_small (option_map (λ xs. (union_extent xs).size) (all_known (extent_at s) ts))

-- one member alone is itself the type, and has been looked at
abbrev pub left_small : Store → List ℕ → Bool
left_small s [] = true
left_small s (t ∷ []) = true
left_small s (t ∷ u ∷ us) = union_small s (t ∷ u ∷ us)

abbrev pub union_type : Context → Option Ty
union_type c = typed_as (joined (store_of c) (members_left c))
