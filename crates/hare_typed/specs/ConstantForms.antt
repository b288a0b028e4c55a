-- What the kinds of node do of which constants are made. The value of a constant is what these acts come to where no program runs.
use Rattle.std.specs.Prelude.{ℕ, zero, suc, ◌-◌, ◌/◌, pos, ℤ, Bool, true, false, not, nat_eq, bytes_eq, codes, List, [], ◌∷◌, ◌++◌, length, position, Option, Some, None, option_and_then, unwrap_or, if◌then◌else◌}
use Rattle.hare_tree.specs.declared.kind.Kind.{Kind}
use Rattle.hare_tree.specs.declared.kind.Kind.TheVariants as kind
use Rattle.hare_tree.specs.declared.token.Meaning.{Meaning}
use Rattle.hare_tree.specs.declared.token.Meaning.TheVariants as meant
use Rattle.hare_tree.specs.Node.{Head}
use Rattle.hare_types.specs.declared.row.Row.{Row}
use Rattle.hare_types.specs.declared.row.Row.TheVariants as row
use Rattle.hare_types.specs.declared.coercion.Ty.{Ty}
use Rattle.hare_types.specs.declared.coercion.Ty.TheVariants as kept
use Rattle.hare_types.specs.Store.{Store}
use Rattle.hare_types.specs.ByIds.{base_at, field_at, offset_at}
use Rattle.hare_typed.specs.declared.cell.Cell.{Cell}
use Rattle.hare_typed.specs.declared.constant.Const.{Const}
use Rattle.hare_typed.specs.declared.constant.Const.TheVariants as constant
use Rattle.hare_typed.specs.Typed.{TypedNode, head_of, mark_of, kids_of}
use Rattle.hare_typed.specs.Order.{kid_from_front, kid_from_end}
use Rattle.hare_typed.specs.Constants.{own_kind}
use Rattle.hare_typed.specs.Given.{given, base_row, is_str, size_in}
use Rattle.hare_typed.specs.Weight.{items_of}
use Rattle.hare_typed.specs.Answers.{Answer, Gives, ◌then◌}
use Rattle.hare_typed.specs.Cells.{with_cells, undefined_cells}
use Rattle.hare_typed.specs.Repeats.{again}
use Rattle.hare_typed.specs.Scalars.{Address, Scalar, Number, Pointing, Shape, Whole, Truth, Reference, Nullable, cells, spelled}
use Rattle.hare_typed.specs.Objects.{reading}
use Rattle.hare_typed.specs.Arithmetic.{IntType, arithmetic_of, shift_of, order_of, logic_of, by_equality, arithmetic, shifted, negated, complemented, in_order, same_number, leaves_open, logic}
use Rattle.hare_typed.specs.Pointers.{same_pointer}
use Rattle.hare_typed.specs.Words.{Words, three, words, same_text}
use Rattle.hare_typed.specs.Shapes.{shape_of_row, int_at, align_in}
use Rattle.hare_typed.specs.Followed.{reached_type}
use Rattle.hare_typed.specs.Coercions.{number_of_value, number_cells, pointer_of, length_of_row}
use Rattle.hare_typed.specs.State.{Scope}
use Rattle.hare_typed.specs.Acts.{Act, look, tick}
use Rattle.hare_typed.specs.World.{World, static_number, homed, answered}
use Rattle.hare_typed.specs.Sequence.{value, place, values}
use Rattle.hare_typed.specs.Evaluated.{ValueForm, PlaceForm}

-- ---- types of a node and of its kids

-- the node's own type
abbrev pub own_type : TypedNode → Ty
own_type t = (mark_of t).ty

-- the type that the coercion of a kid gives
abbrev pub type_of_kid : ℕ → TypedNode → Ty
type_of_kid i t = given (kid_from_front i t)

abbrev pub is_iconst : Ty → Bool
is_iconst (kept.Of t) = false
is_iconst (kept.Iconst v) = true
is_iconst kept.Null = false
is_iconst kept.Empty = false

abbrev pub int_in : Store → Ty → IntType
int_in s (kept.Of t) = int_at s t
int_in s (kept.Iconst v) = record { bits = 0; signed = false }
int_in s kept.Null = record { bits = 0; signed = false }
int_in s kept.Empty = record { bits = 0; signed = false }

-- the number that the value of a kid is
abbrev pub number_of_kid : World → TypedNode → ℕ → List Cell → ℤ
number_of_kid w t i cs = number_of_value w.types (type_of_kid i t) cs

-- a number as a value of the node's own type; a whole number without a suffix has no cells
abbrev pub own_number : World → TypedNode → ℤ → List Cell
own_number w t v = number_cells w.types (own_type t) v

abbrev pub bool_cells : Bool → List Cell
bool_cells true = cells Truth (Number (pos 1))
bool_cells false = cells Truth (Number (pos 0))

abbrev pub is_true : Option Scalar → Bool
is_true (Some (Number v)) = same_number v (pos 1)
is_true _ = false

abbrev pub truth : List Cell → Bool
truth cs = is_true (spelled Truth cs)

-- ---- literals

abbrev pub number_form : World → TypedNode → ValueForm
number_form w t k = k (own_number w t (pos (head_of t).number))

abbrev pub bool_form : TypedNode → ValueForm
bool_form t k = k (bool_cells (bytes_eq (head_of t).text (codes "true")))

-- a string is one object for its node, however often it is evaluated
abbrev pub str_form : World → TypedNode → Scope → ValueForm
str_form w t sc k =
    let n = length (head_of t).text in
    k (three (record { data_at = Address (w.home (static_number sc t)) 0; length = n; capacity = n }))

abbrev pub constant_cells : World → Const → List Cell
constant_cells w constant.Absent = []
constant_cells w (constant.Known cs os) = homed w cs

-- a path to a def has its constant; one to a type of base void has no cells
abbrev pub path_form : World → TypedNode → ValueForm
path_form w t k = k (constant_cells w (mark_of t).value)

-- ---- operators

abbrev pub paren_form : Scope → ValueForm
paren_form sc k = value 0 sc k

abbrev pub neg_form : World → TypedNode → Scope → ValueForm
neg_form w t sc k = value 0 sc λ c. k (own_number w t (negated (int_in w.types (own_type t)) (number_of_kid w t 0 c)))

abbrev pub not_form : World → TypedNode → Scope → ValueForm
not_form w t sc k = value 0 sc λ c. k (own_number w t (complemented (int_in w.types (own_type t)) (number_of_kid w t 0 c)))

abbrev pub bang_form : Scope → ValueForm
bang_form sc k = value 0 sc λ c. k (bool_cells (not (truth c)))

-- the values of two kids as numbers, and what is made of them, where the node has a type; abort 8 for a divisor of zero
abbrev pub with_numbers : World → TypedNode → List Cell → List Cell → (ℤ → ℤ → Answer ℤ) → (List Cell → Act) → Act
with_numbers w t a b f k =
    if is_iconst (own_type t) then k []
    else answered w (head_of t) (f (number_of_kid w t 0 a) (number_of_kid w t 1 b)) λ v. k (own_number w t v)

abbrev pub arith_answer : World → TypedNode → ℤ → ℤ → Answer ℤ
arith_answer w t = arithmetic (arithmetic_of (head_of t).text) (int_in w.types (own_type t))

abbrev pub shift_answer : World → TypedNode → ℤ → ℤ → Answer ℤ
shift_answer w t x y = Gives (shifted (shift_of (head_of t).text) (int_in w.types (own_type t)) x y)

abbrev pub arith_form : World → TypedNode → Scope → ValueForm
arith_form w t sc k =
    value 0 sc λ a.
    value 1 sc λ b.
    with_numbers w t a b (arith_answer w t) k

abbrev pub shift_form : World → TypedNode → Scope → ValueForm
shift_form w t sc k =
    value 0 sc λ a.
    value 1 sc λ b.
    with_numbers w t a b (shift_answer w t) k

abbrev pub less_form : World → TypedNode → Scope → ValueForm
less_form w t sc k =
    value 0 sc λ a.
    value 1 sc λ b.
    k (bool_cells (in_order (order_of (head_of t).text) (number_of_kid w t 0 a) (number_of_kid w t 1 b)))

abbrev pub logic_form : TypedNode → Scope → ValueForm
logic_form t sc k =
    let op = logic_of (head_of t).text in
    value 0 sc λ a.
    if leaves_open op (truth a) then (value 1 sc λ b. k (bool_cells (logic op (truth a) (truth b)))) else k (bool_cells (truth a))

-- ---- equality

-- what the operands of an equality are, by the base of the left one
pub data Equality : Type 0 where
  OfNumbers OfPointers OfTexts : Equality

abbrev pub equality_of_shape : Option Shape → Equality
equality_of_shape (Some (Whole n signed)) = OfNumbers
equality_of_shape (Some Truth) = OfNumbers
equality_of_shape (Some Reference) = OfPointers
equality_of_shape (Some Nullable) = OfPointers
equality_of_shape None = OfNumbers

abbrev pub equality_of : Store → Ty → Equality
equality_of s f = if is_str s f then OfTexts else equality_of_shape (option_and_then shape_of_row (base_row s f))

-- compares two texts whose words are known: where the lengths are equal the bytes of both are read, and count
abbrev pub with_texts : World → TypedNode → Words → Words → (Bool → Act) → Act
with_texts w t v u k =
    tick (if nat_eq v.length u.length then v.length / 64 else 0) (look λ m. answered w (head_of t) (same_text (reading m.objects) v u) k)

abbrev pub with_equality : World → TypedNode → Equality → List Cell → List Cell → (Bool → Act) → Act
with_equality w t OfNumbers a b k = k (same_number (number_of_kid w t 0 a) (number_of_kid w t 1 b))
with_equality w t OfPointers a b k =
    look λ m. answered w (head_of t) (same_pointer (reading m.objects) (pointer_of a) (pointer_of b)) k
with_equality w t OfTexts a b k =
    answered w (head_of t) (words a) λ v. answered w (head_of t) (words b) λ u. with_texts w t v u k

abbrev pub equal_form : World → TypedNode → Scope → ValueForm
equal_form w t sc k =
    value 0 sc λ a.
    value 1 sc λ b.
    with_equality w t (equality_of w.types (type_of_kid 0 t)) a b λ same. k (bool_cells (by_equality (head_of t).text same))

-- ---- casts

-- whether the type is an integer type or rune: what is cast to it is cut to its bits
abbrev pub is_whole : Option Shape → Bool
is_whole (Some (Whole zero signed)) = false
is_whole (Some (Whole (suc n) signed)) = true
is_whole (Some Truth) = false
is_whole (Some Reference) = false
is_whole (Some Nullable) = false
is_whole None = false

abbrev pub cast_cells : World → TypedNode → List Cell → List Cell
cast_cells w t c =
    if is_whole (option_and_then shape_of_row (base_row w.types (own_type t))) then own_number w t (number_of_kid w t 0 c) else c

abbrev pub cast_form : World → TypedNode → Scope → ValueForm
cast_form w t sc k = value 0 sc λ c. k (cast_cells w t c)

-- ---- values with parts

abbrev pub id_in : Ty → ℕ
id_in (kept.Of t) = t
id_in (kept.Iconst v) = 0
id_in kept.Null = 0
id_in kept.Empty = 0

-- where the part with so many before it begins
abbrev pub offset_in : Store → Ty → ℕ → ℕ
offset_in s f n = unwrap_or (offset_at s (id_in f) n) 0

-- which part of the struct or tuple a member names: a field by its name, a component by its place
abbrev pub part_in : Store → Ty → Head → Option Row → ℕ
part_in s f h (Some (row.Struct fs)) =
    unwrap_or (option_and_then (λ b. option_and_then (field_at s b) (position (bytes_eq h.text) s.names)) (base_at s (id_in f))) 0
part_in s f h _ = h.number

abbrev pub part_named : Store → Ty → Head → ℕ
part_named s f h = part_in s f h (base_row s f)

-- parts at their offsets, in these places; all other cells stay
abbrev pub with_parts : Store → Ty → List ℕ → List (List Cell) → List Cell → List Cell
with_parts s f [] cs into = into
with_parts s f (n ∷ ns) [] into = into
with_parts s f (n ∷ ns) (c ∷ cs) into = with_parts s f ns cs (with_cells (offset_in s f n) c into)

-- a value of the type with these parts; padding is undefined
abbrev pub made_of : Store → Ty → List ℕ → List (List Cell) → List Cell
made_of s f ns cs = with_parts s f ns cs (undefined_cells (size_in s f))

abbrev pub counted_from : ℕ → ℕ → List ℕ
counted_from i zero = []
counted_from i (suc n) = i ∷ counted_from (suc i) n

abbrev pub tuple_form : World → TypedNode → Scope → ValueForm
tuple_form w t sc k =
    let n = items_of kind.Tuple (kids_of t) in
    values 0 n sc λ cs. k (made_of w.types (own_type t) (counted_from 0 n) cs)

-- the fields that a struct literal gives, as they are written
abbrev pub fields_from : Store → Ty → ℕ → ℕ → TypedNode → List ℕ
fields_from s f i zero t = []
fields_from s f i (suc n) t = part_named s f (head_of (kid_from_front i t)) ∷ fields_from s f (suc i) n t

abbrev pub struct_form : World → TypedNode → Scope → ValueForm
struct_form w t sc k =
    let n = items_of kind.StructLit (kids_of t) in
    values 1 n sc λ cs. k (made_of w.types (own_type t) (fields_from w.types (own_type t) 1 n t) cs)

abbrev pub field_value_form : Scope → ValueForm
field_value_form sc k = value 0 sc k

-- ---- arrays

abbrev pub joined : List (List Cell) → List Cell
joined [] = []
joined (c ∷ cs) = c ++ joined cs

abbrev pub last_of : List (List Cell) → List Cell
last_of [] = []
last_of (c ∷ []) = c
last_of (c ∷ d ∷ ds) = last_of (d ∷ ds)

-- whether `...` stands behind the last item
abbrev pub has_dots : TypedNode → Bool
has_dots t = is_dots (own_kind (kid_from_end 1 t))
  where
    is_dots : Kind → Bool
    is_dots kind.Dots = true
    is_dots _ = false

-- how often the last item stands once more: up to the array's length, where `...` stands behind it
abbrev pub repeats : World → TypedNode → (items : ℕ) → ℕ
repeats w t n = if has_dots t then length_of_row (base_row w.types (own_type t)) - n else 0

-- an array of no items without a type has no cells
abbrev pub array_form : World → TypedNode → Scope → ValueForm
array_form w t sc k =
    let n = items_of kind.Array (kids_of t) in
    values 0 n sc λ cs. k (joined cs ++ again (repeats w t n) (last_of cs))

-- ---- sizes

abbrev pub own_size : World → TypedNode → ℕ → List Cell
own_size w t n = own_number w t (pos n)

abbrev pub size_form : World → TypedNode → ValueForm
size_form w t k = k (own_size w t (size_in w.types (type_of_kid 0 t)))

abbrev pub align_form : World → TypedNode → ValueForm
align_form w t k = k (own_size w t (align_in w.types (type_of_kid 0 t)))

-- of the field that stands in it nothing is evaluated
abbrev pub offset_form : World → TypedNode → ValueForm
offset_form w t k =
    let f = kid_from_front 0 t in
    let whole = reached_type w.types (type_of_kid 0 f) in
    k (own_size w t (offset_in w.types whole (part_named w.types whole (head_of f))))

abbrev pub is_array_row : Option Row → Bool
is_array_row (Some (row.Array n x)) = true
is_array_row _ = false

-- the length of an array is in its type; a slice and a str have it as their second word
abbrev pub len_form : World → TypedNode → Scope → ValueForm
len_form w t sc k =
    let r = base_row w.types (type_of_kid 0 t) in
    value 0 sc λ c.
    if is_array_row r then k (own_size w t (length_of_row r))
    else answered w (head_of t) (words c) λ v. k (own_size w t v.length)

abbrev pub addr_form : Scope → ValueForm
addr_form sc k = place 0 sc λ p. k (cells Nullable (Pointing p))

-- ---- places

-- the object of a local; each path of a checked program that means one is in its scope
abbrev pub object_of : List (ℕ × ℕ) → ℕ → ℕ
object_of [] x = 0
object_of (b ∷ bs) x = if nat_eq b.0 x then b.1 else object_of bs x

abbrev pub object_meant : World → Scope → Meaning → ℕ
object_meant w sc (meant.Local x) = object_of sc.locals x
object_meant w sc (meant.Decl d) = w.home d
object_meant w sc (meant.Rt f) = 0
object_meant w sc meant.None = 0

abbrev pub path_place : World → TypedNode → Scope → PlaceForm
path_place w t sc k = k (Address (object_meant w sc (mark_of t).meaning) 0)

abbrev pub paren_place : Scope → PlaceForm
paren_place sc k = place 0 sc k
