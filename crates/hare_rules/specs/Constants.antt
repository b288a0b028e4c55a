-- What rules read of constants: their numbers and texts, the length of an array, and the cases of a switch.
use Rattle.std.specs.Prelude.{ℕ, ℤ, pos, negsuc, ◌+ℤ◌, ◌-ℤ◌, Bool, true, false, cond, ◌&&◌, ◌||◌, nat_eq, nat_le, int_le, bytes_eq, List, [], ◌∷◌, ◌++◌, find, filter, length, map, Option, Some, None, option_and_then}
use Rattle.std.specs.List.{list_any}
use Rattle.std.specs.Ordering.{int_eq}
use Rattle.hare_tree.specs.declared.kind.Kind.{Kind}
use Rattle.hare_tree.specs.declared.kind.Kind.TheVariants as ki
use Rattle.hare_tree.specs.declared.place.Place.{Place}
use Rattle.hare_tree.specs.declared.token.Meaning.{Meaning}
use Rattle.hare_tree.specs.declared.token.Meaning.TheVariants as means
use Rattle.hare_tree.specs.declared.token.Suffix.{Suffix}
use Rattle.hare_tree.specs.declared.token.Suffix.TheVariants as suffix
use Rattle.hare_types.specs.declared.coercion.Ty.{Ty}
use Rattle.hare_types.specs.declared.coercion.Ty.TheVariants as ty
use Rattle.hare_types.specs.declared.row.Scalar.TheVariants as keyword
use Rattle.hare_types.specs.Store.{Store}
use Rattle.hare_typed.specs.declared.cell.Cell.{Cell}
use Rattle.hare_typed.specs.declared.constant.Const.{Const}
use Rattle.hare_typed.specs.declared.constant.Const.TheVariants as constant
use Rattle.hare_typed.specs.declared.constant.ConstObject.{ConstObject}
use Rattle.hare_typed.specs.Typed.{TypedNode, head_of, mark_of, kids_of, listed_nodes}
use Rattle.hare_typed.specs.Order.{kid_from_front}
use Rattle.hare_typed.specs.Cells.{bytes_of, cells_within}
use Rattle.hare_typed.specs.Scalars.{Pointer, Null, Address, Scalar, Number, spelled}
use Rattle.hare_typed.specs.Shapes.{shape_at}
use Rattle.hare_typed.specs.Answers.{Answer, Gives}
use Rattle.hare_typed.specs.Words.{Words, words}
use Rattle.hare_typed.specs.Cover.{Range, range_of}
use Rattle.hare_rules.specs.declared.declared.DeclType.{DeclType}
use Rattle.hare_rules.specs.Words.{is_word, has_integer_base, default_in}
use Rattle.hare_typed.specs.Given.{base_row}
use Rattle.hare_rules.specs.Context.{Setting, Context, declaration, store_of, kid, place_of, is_there, own_type}
use Rattle.hare_typed.specs.Numbers.{kind_of}
use Rattle.hare_rules.specs.Aggregates.{but_last, most_bytes}
use Rattle.hare_rules.specs.Control.{cases}

-- ---- numbers and texts

abbrev pub number_of_scalar : Option Scalar → Option ℤ
number_of_scalar (Some (Number v)) = Some v
number_of_scalar _ = None

-- the number that the cells of a constant of this type spell
abbrev pub number_in : Store → ℕ → Const → Option ℤ
number_in s t constant.Absent = None
number_in s t (constant.Known cs os) = option_and_then (λ shape. number_of_scalar (spelled shape cs)) (shape_at s t)

abbrev pub cells_in : Option ConstObject → List Cell
cells_in None = []
cells_in (Some o) = o.cells

abbrev pub object_cells : List ConstObject → ℕ → List Cell
object_cells os n = cells_in (find (λ o. nat_eq o.object n) os)

abbrev pub bytes_at : List ConstObject → Pointer → ℕ → Option (List ℕ)
bytes_at os Null n = Some []
bytes_at os (Address o d) n = bytes_of (cells_within d n (object_cells os o))

abbrev pub text_of_words : List ConstObject → Answer Words → Option (List ℕ)
text_of_words os (Gives w) = bytes_at os w.data_at w.length
text_of_words os _ = None

-- the bytes of a constant of type str
abbrev pub text_in : Const → Option (List ℕ)
text_in constant.Absent = None
text_in (constant.Known cs os) = text_of_words os (words cs)

-- ---- the length of an array

abbrev pub natural : ℤ → Option ℕ
natural (pos n) = Some n
natural (negsuc n) = None

abbrev pub unless_long : ℕ → Option ℕ
unless_long n = cond (nat_le n most_bytes) (Some n) None

-- a literal has no suffix, or that of size
abbrev pub length_suffix : Suffix → Bool
length_suffix suffix.None = true
length_suffix suffix.Z = true
length_suffix _ = false

abbrev pub is_def_kind : Kind → Bool
is_def_kind ki.Def = true
is_def_kind _ = false

abbrev pub is_def : Option DeclType → Bool
is_def None = false
is_def (Some d) = is_def_kind d.kind

abbrev pub means_def : Setting → Meaning → Bool
means_def w (means.Decl n) = is_def (declaration w n)
means_def w _ = false

abbrev pub number_of_type : Store → Ty → Const → Option ℤ
number_of_type s (ty.Of t) v = number_in s t v
number_of_type s _ v = None

-- the value of a def with an integer base
abbrev pub length_of_def : Setting → TypedNode → Option ℕ
length_of_def w x =
    cond (means_def w (mark_of x).meaning && has_integer_base w.store (own_type x))
    (option_and_then natural (number_of_type w.store (own_type x) (mark_of x).value)) None

abbrev pub length_by : Setting → Kind → TypedNode → Option ℕ
length_by w ki.Number x = cond (length_suffix (head_of x).suffix) (Some (head_of x).number) None
length_by w ki.Path x = length_of_def w x
length_by w _ x = None

-- The length that an array has, where it is one: a literal without a suffix or with that of size, or the name of a def with an integer
-- base, from 0 to 67,108,864.
abbrev pub length_of : Setting → TypedNode → Option ℕ
length_of w x = option_and_then unless_long (length_by w (kind_of x) x)

-- ---- the cases of a switch

-- what a case of a `switch` is for
pub data Label : Type 0 where
  Default : Label  -- all that no other case is for
  Value : ℤ → Label
  Text : List ℕ → Label
  Lacking : Label  -- no constant of the type

abbrev pub value_label : Option ℤ → Label
value_label None = Lacking
value_label (Some v) = Value v

abbrev pub text_label : Option (List ℕ) → Label
text_label None = Lacking
text_label (Some s) = Text s

-- the type by which the values of a switch are judged: the default of its operand
abbrev pub switched : Context → Option ℕ
switched c = default_in (store_of c) (own_type (kid c 0))

abbrev pub label_of : Store → Option ℕ → Const → Label
label_of s None v = Lacking
label_of s (Some t) v = cond (is_word keyword.Str (base_row s (ty.Of t))) (text_label (text_in v)) (value_label (number_in s t v))

abbrev pub same_label : Label → Label → Bool
same_label Default Default = true
same_label (Value v) (Value w) = int_eq v w
same_label (Text s) (Text t) = bytes_eq s t
same_label _ _ = false

-- the values of a case: the kids of its first kid but the place of a comma
abbrev pub values_of : TypedNode → List TypedNode
values_of x = but_last (listed_nodes (kids_of (kid_from_front 0 x)))

pub record Labelled : Type 0 where
  pub place : Place
  pub label : Label

abbrev pub labelled : Store → Option ℕ → TypedNode → Labelled
labelled s o x = record { place = place_of x; label = label_of s o (mark_of x).value }

-- a case, with what it is for: its values, or, without any, all others
abbrev pub labels_of : Store → Option ℕ → TypedNode → List Labelled
labels_of s o x = cond (is_there (kid_from_front 0 x)) (map (labelled s o) (values_of x))
    (record { place = place_of x; label = Default } ∷ [])

abbrev pub each_label : Store → Option ℕ → List TypedNode → List Labelled
each_label s o [] = []
each_label s o (x ∷ xs) = labels_of s o x ++ each_label s o xs

-- all of them, in the order of the source
abbrev pub switch_labels : Context → List Labelled
switch_labels c = each_label (store_of c) (switched c) (cases c)

abbrev pub all_values : List TypedNode → List TypedNode
all_values [] = []
all_values (x ∷ xs) = values_of x ++ all_values xs

abbrev pub is_absent_value : Const → Bool
is_absent_value constant.Absent = true
is_absent_value (constant.Known cs os) = false

-- the first value that is not constant
abbrev pub odd_value : Context → Option TypedNode
odd_value c = find (λ x. is_absent_value (mark_of x).value) (all_values (cases c))

abbrev pub is_among_labels : List Label → Label → Bool
is_among_labels ls l = list_any (same_label l) ls

-- the first that stands among those, or among earlier ones
abbrev pub repeated_label : List Label → List Labelled → Option Labelled
repeated_label ls [] = None
repeated_label ls (x ∷ xs) = cond (is_among_labels ls x.label) (Some x) (repeated_label (x.label ∷ ls) xs)

abbrev pub place_of_label : Place → Option Labelled → Place
place_of_label p None = p
place_of_label p (Some x) = x.place

abbrev pub is_default : Label → Bool
is_default Default = true
is_default _ = false

abbrev pub is_within : Range → ℤ → Bool
is_within r v = int_le r.least v && int_le v r.greatest

-- how many values there are from the least to the greatest
abbrev pub width_of : Range → ℤ
width_of r = (r.greatest -ℤ r.least) +ℤ pos 1

-- Whether each value of the range is listed by these, which all differ: just where they are as many. That this is `ListsAll` is a law
-- of the crate.
abbrev pub lists_range : Option Range → List ℤ → Bool
lists_range None vs = false
lists_range (Some r) vs = int_eq (pos (length (filter (is_within r) vs))) (width_of r)

abbrev pub range_at : Store → Option ℕ → Option Range
range_at s None = None
range_at s (Some t) = range_of (base_row s (ty.Of t))

abbrev pub numbers_listed : List Label → List ℤ
numbers_listed [] = []
numbers_listed (Value v ∷ ls) = v ∷ numbers_listed ls
numbers_listed (Default ∷ ls) = numbers_listed ls
numbers_listed (Text s ∷ ls) = numbers_listed ls
numbers_listed (Lacking ∷ ls) = numbers_listed ls

-- the values that the cases list, those that are numbers
abbrev pub switch_values : Context → List ℤ
switch_values c = numbers_listed (map (λ x. x.label) (switch_labels c))

abbrev pub has_default_case : Context → Bool
has_default_case c = list_any (λ x. is_default x.label) (switch_labels c)

-- a case without values, or each value of the type listed
abbrev pub is_switched : Context → Bool
is_switched c = has_default_case c || lists_range (range_at (store_of c) (switched c)) (switch_values c)
