-- The value of a typed tree, where no program runs: each kind of which constants are made gives it from the values of its kids, and an
-- equality of texts from their bytes.
use Rattle.std.specs.Prelude.{◌≡◌, ℕ, zero, suc, ◌+◌, ◌-◌, ◌*◌, ◌^◌, pos, ℤ, Bool, true, false, not, ◌&&◌, bytes_eq, codes, List, [], ◌∷◌, ◌++◌, length, Option, Some, None, is_some, option_and_then, if◌then◌else◌}
use Rattle.hare_tree.specs.declared.kind.Kind.{Kind}
use Rattle.hare_tree.specs.declared.kind.Kind.TheVariants as kind
use Rattle.hare_tree.specs.declared.place.Fault.{Fault}
use Rattle.hare_tree.specs.declared.stop.Stop.{Stop}
use Rattle.hare_tree.specs.declared.stop.Stop.TheVariants as stop
use Rattle.hare_tree.specs.declared.token.Meaning.{Meaning}
use Rattle.hare_tree.specs.declared.token.Meaning.TheVariants as meant
use Rattle.hare_types.specs.declared.coercion.Ty.{Ty}
use Rattle.hare_types.specs.declared.coercion.Ty.TheVariants as kept
use Rattle.hare_types.specs.Store.{Store}
use Rattle.hare_typed.specs.declared.cell.Cell.{Cell}
use Rattle.hare_typed.specs.declared.constant.Const.{Const}
use Rattle.hare_typed.specs.declared.constant.Const.TheVariants as constant
use Rattle.hare_typed.specs.Typed.{TypedNode, TypedNodes, marked, typed_none, typed_more, head_of, mark_of, kids_of}
use Rattle.hare_typed.specs.Order.{kid_from_front}
use Rattle.hare_typed.specs.Constants.{own_kind}
use Rattle.hare_typed.specs.Given.{base_row, is_str, size_in}
use Rattle.hare_typed.specs.Constancy.{is_constant, first_inconstant, first_inconstant_of}
use Rattle.hare_typed.specs.Weight.{items_of}
use Rattle.hare_typed.specs.Cells.{undefined_cells}
use Rattle.hare_typed.specs.Repeats.{again}
use Rattle.hare_typed.specs.Answers.{Answer, Gives, Aborts as aborts, IsUndefined}
use Rattle.hare_typed.specs.Scalars.{Address, Pointing, Nullable, cells}
use Rattle.hare_typed.specs.Arithmetic.{arithmetic_of, shift_of, order_of, logic_of, by_equality, arithmetic, shifted, negated, complemented, in_order, same_number, leaves_open, logic}
use Rattle.hare_typed.specs.Shapes.{shape_of_row, align_in}
use Rattle.hare_typed.specs.Words.{three, words}
use Rattle.hare_typed.specs.Coercions.{element_of_slice, number_of_value, number_cells, length_of_value, length_of_row, sliced_element, coerced}
use Rattle.hare_typed.specs.Evaluated.{is_evaluated}
use Rattle.hare_typed.specs.ConstantForms.{own_type, type_of_kid, is_iconst, int_in, bool_cells, truth, is_whole, cast_cells, offset_in, made_of, counted_from, fields_from, joined, last_of, repeats, is_array_row}
use Rattle.hare_typed.specs.ConstantValues.{without_run}
use Rattle.hare_typed.specs.Folded.{tagged_by_id}
use Rattle.hare_typed.specs.Texts.{text_of_kid, bytes_told}
use Rattle.hare_typed.specs.Settled.{type_with_offset, part_with_offset}
use Rattle.hare_const.specs.declared.operands.Operands.{Operands}
use Rattle.hare_const.specs.declared.operands.Operands.TheVariants.{NoKid, OneKid, TwoKids, RightIfOpen, Components, Fields, Elements}
use Rattle.hare_const.specs.declared.outcome.Outcome.{Outcome}
use Rattle.hare_const.specs.declared.outcome.Outcome.TheVariants.{Known, Aborts, Undefined}

-- ---- outcomes

-- goes on with the cells; anything else stands
abbrev pub on_cells : Outcome → (List Cell → Outcome) → Outcome
on_cells (Known cs) f = f cs
on_cells Aborts f = Aborts
on_cells Undefined f = Undefined

-- what an operation comes to
abbrev pub on_answer : {A : Type 0} → Answer A → (A → Outcome) → Outcome
on_answer (Gives a) f = f a
on_answer (aborts r) f = Aborts
on_answer (IsUndefined u) f = Undefined

-- that of the kid with so many before it; one that is not there has no cells
abbrev pub kid_at : ℕ → List Outcome → Outcome
kid_at i [] = Known []
kid_at zero (o ∷ os) = o
kid_at (suc i) (o ∷ os) = kid_at i os

-- those of so many kids, from one on
abbrev pub kids_at : (from n : ℕ) → List Outcome → (List (List Cell) → Outcome) → Outcome
kids_at i zero os f = f []
kids_at i (suc n) os f = on_cells (kid_at i os) λ c. kids_at (suc i) n os λ cs. f (c ∷ cs)

-- ---- literals

-- the number that constants have for the object of a node of a declaration
abbrev pub object_number : (own : ℕ) → TypedNode → ℕ
object_number own t = (own + 1) * 2 ^ 32 + (mark_of t).node

-- a number as a value of the node's own type
abbrev pub numbered : Store → TypedNode → ℤ → List Cell
numbered s t v = number_cells s (own_type t) v

abbrev pub literal : Store → TypedNode → List Cell
literal s t = numbered s t (pos (head_of t).number)

abbrev pub literal_bool : TypedNode → List Cell
literal_bool t = bool_cells (bytes_eq (head_of t).text (codes "true"))

-- so many elements, from the first cell of the node's object on
abbrev pub slice_of : (own : ℕ) → TypedNode → ℕ → List Cell
slice_of own t n = three (record { data_at = Address (object_number own t) 0; length = n; capacity = n })

abbrev pub literal_text : (own : ℕ) → TypedNode → List Cell
literal_text own t = slice_of own t (length (head_of t).text)

abbrev pub cells_known : Const → List Cell
cells_known constant.Absent = []
cells_known (constant.Known cs os) = cs

-- ---- operators

-- the number that the value of a kid is
abbrev pub number_of_kid : Store → TypedNode → ℕ → List Cell → ℤ
number_of_kid s t i cs = number_of_value s (type_of_kid i t) cs

abbrev pub negation : Store → TypedNode → List Cell → List Cell
negation s t a = numbered s t (negated (int_in s (own_type t)) (number_of_kid s t 0 a))

abbrev pub complement : Store → TypedNode → List Cell → List Cell
complement s t a = numbered s t (complemented (int_in s (own_type t)) (number_of_kid s t 0 a))

-- what an operator makes of two numbers; a whole number without a suffix has no cells
abbrev pub arithmetic_value : Store → TypedNode → List Cell → List Cell → Outcome
arithmetic_value s t a b =
    if is_iconst (own_type t) then Known []
    else on_answer (arithmetic (arithmetic_of (head_of t).text) (int_in s (own_type t)) (number_of_kid s t 0 a) (number_of_kid s t 1 b))
    λ v. Known (numbered s t v)

abbrev pub shift_value : Store → TypedNode → List Cell → List Cell → List Cell
shift_value s t a b =
    if is_iconst (own_type t) then []
    else numbered s t (shifted (shift_of (head_of t).text) (int_in s (own_type t)) (number_of_kid s t 0 a) (number_of_kid s t 1 b))

abbrev pub order_value : Store → TypedNode → List Cell → List Cell → List Cell
order_value s t a b = bool_cells (in_order (order_of (head_of t).text) (number_of_kid s t 0 a) (number_of_kid s t 1 b))

-- two texts are equal where their bytes are
abbrev pub same_texts : Store → TypedNodes → Bool
same_texts s ts = bytes_eq (bytes_told (text_of_kid s 0 ts)) (bytes_told (text_of_kid s 1 ts))

-- whether the operands are equal: texts, or else numbers or bools
abbrev pub same_operands : Store → TypedNode → List Cell → List Cell → Bool
same_operands s t a b =
    if is_str s (type_of_kid 0 t) then same_texts s (kids_of t) else same_number (number_of_kid s t 0 a) (number_of_kid s t 1 b)

abbrev pub equality_value : Store → TypedNode → List Cell → List Cell → List Cell
equality_value s t a b = bool_cells (by_equality (head_of t).text (same_operands s t a b))

-- `!`
abbrev pub denial : List Cell → List Cell
denial a = bool_cells (not (truth a))

-- the right operand counts only where the left one leaves the answer open
abbrev pub logic_value : TypedNode → List Cell → Outcome → Outcome
logic_value t a right =
    let op = logic_of (head_of t).text in
    if leaves_open op (truth a) then (on_cells right λ b. Known (bool_cells (logic op (truth a) (truth b)))) else Known
    (bool_cells (truth a))

-- whether the base of a type is an integer type or rune
abbrev pub is_whole_type : Store → Ty → Bool
is_whole_type s f = is_whole (option_and_then shape_of_row (base_row s f))

abbrev pub cast_value : Store → TypedNode → List Cell → List Cell
cast_value s t a = cast_cells (without_run s) t a

-- ---- parts, sizes and addresses

-- the items of an array, and the last one again up to its length where `...` stands behind it
abbrev pub array_value : Store → TypedNode → List (List Cell) → List Cell
array_value s t cs = joined cs ++ again (repeats (without_run s) t (items_of kind.Array (kids_of t))) (last_of cs)

-- the components of a tuple at their offsets, and the fields of a struct at theirs
abbrev pub tuple_value : Store → TypedNode → List (List Cell) → List Cell
tuple_value s t cs = made_of s (own_type t) (counted_from 0 (items_of kind.Tuple (kids_of t))) cs

abbrev pub struct_value : Store → TypedNode → List (List Cell) → List Cell
struct_value s t cs = made_of s (own_type t) (fields_from s (own_type t) 1 (items_of kind.StructLit (kids_of t)) t) cs

-- a value of so many cells, of which these are known: the others are undefined
abbrev pub filled : ℕ → List Cell → List Cell
filled n cs = cs ++ undefined_cells (n - length cs)

-- where the field begins that the kid names
abbrev pub offset_value : Store → TypedNode → List Cell
offset_value s t = numbered s t (pos (offset_in s (type_with_offset s t) (part_with_offset s t)))

abbrev pub size_value : Store → TypedNode → List Cell
size_value s t = numbered s t (pos (size_in s (type_of_kid 0 t)))

abbrev pub align_value : Store → TypedNode → List Cell
align_value s t = numbered s t (pos (align_in s (type_of_kid 0 t)))

abbrev pub array_length_value : Store → TypedNode → List Cell
array_length_value s t = numbered s t (pos (length_of_row (base_row s (type_of_kid 0 t))))

-- an array's length is in its type, and that of a text among its cells
abbrev pub length_value : Store → TypedNode → List Cell → Outcome
length_value s t c =
    if is_array_row (base_row s (type_of_kid 0 t)) then Known (array_length_value s t)
    else on_answer (words c) λ v. Known (numbered s t (pos v.length))

abbrev pub declared_by : Meaning → ℕ
declared_by (meant.Decl d) = d
declared_by _ = 0

-- the address of the global that the kid means: its object has the number of its declaration
abbrev pub address_value : TypedNode → List Cell
address_value t = cells Nullable (Pointing (Address (declared_by (mark_of (kid_from_front 0 t)).meaning) 0))

-- ---- kinds

-- whose values the value of a node of the kind is made of
abbrev pub operands_of : Kind → Operands
operands_of kind.Paren = OneKid
operands_of kind.FieldValue = OneKid
operands_of kind.Neg = OneKid
operands_of kind.Not = OneKid
operands_of kind.Bang = OneKid
operands_of kind.Cast = OneKid
operands_of kind.Len = OneKid
operands_of kind.Arith = TwoKids
operands_of kind.Shift = TwoKids
operands_of kind.Less = TwoKids
operands_of kind.Equal = TwoKids
operands_of kind.Logic = RightIfOpen
operands_of kind.Tuple = Components
operands_of kind.StructLit = Fields
operands_of kind.Array = Elements
operands_of _ = NoKid

-- of a node by itself; what is not listed has no cells
abbrev pub leaf_value : Store → (own : ℕ) → TypedNode → Kind → List Cell
leaf_value s own t kind.Number = literal s t
leaf_value s own t kind.RuneLit = literal s t
leaf_value s own t kind.Bool = literal_bool t
leaf_value s own t kind.Str = literal_text own t
leaf_value s own t kind.Path = cells_known (mark_of t).value
leaf_value s own t kind.Size = size_value s t
leaf_value s own t kind.Align = align_value s t
leaf_value s own t kind.Offset = offset_value s t
leaf_value s own t kind.Addr = address_value t
leaf_value s own t _ = []

-- of one kid; parentheses and a field's value are the kid's own
abbrev pub unary_value : Store → TypedNode → Kind → List Cell → Outcome
unary_value s t kind.Neg a = Known (negation s t a)
unary_value s t kind.Not a = Known (complement s t a)
unary_value s t kind.Bang a = Known (denial a)
unary_value s t kind.Cast a = Known (cast_value s t a)
unary_value s t kind.Len a = length_value s t a
unary_value s t _ a = Known a

abbrev pub binary_value : Store → TypedNode → Kind → List Cell → List Cell → Outcome
binary_value s t kind.Arith a b = arithmetic_value s t a b
binary_value s t kind.Shift a b = Known (shift_value s t a b)
binary_value s t kind.Less a b = Known (order_value s t a b)
binary_value s t _ a b = Known (equality_value s t a b)

-- of a node that takes the values of one kid or two
abbrev pub operator_by : Store → TypedNode → Kind → Operands → List Cell → Outcome → Outcome
operator_by s t k TwoKids a right = on_cells right λ b. binary_value s t k a b
operator_by s t k RightIfOpen a right = logic_value t a right
operator_by s t k _ a right = unary_value s t k a

abbrev pub operator_value : Store → TypedNode → Kind → Operands → Outcome → Outcome → Outcome
operator_value s t k x first second = on_cells first λ a. operator_by s t k x a second

abbrev pub value_by : Store → (own : ℕ) → TypedNode → Kind → Operands → List Outcome → Outcome
value_by s own t k NoKid os = Known (leaf_value s own t k)
value_by s own t k Components os = kids_at 0 (items_of kind.Tuple (kids_of t)) os λ cs. Known (tuple_value s t cs)
value_by s own t k Fields os = kids_at 1 (items_of kind.StructLit (kids_of t)) os λ cs. Known (struct_value s t cs)
value_by s own t k Elements os = kids_at 0 (items_of kind.Array (kids_of t)) os λ cs. Known (array_value s t cs)
value_by s own t k x os = operator_value s t k x (kid_at 0 os) (kid_at 1 os)

-- of a node of the kind
abbrev pub kind_value : Store → (own : ℕ) → TypedNode → Kind → List Outcome → Outcome
kind_value s own t k os = value_by s own t k (operands_of k) os

-- The value that a node has, before its coercion, from those of its kids.
abbrev pub own_value : Store → (own : ℕ) → TypedNode → List Outcome → Outcome
own_value s own t os = kind_value s own t (own_kind t) os

-- ---- coercions

-- whether the base of a type is a slice
abbrev pub is_slice_type : Store → ℕ → Bool
is_slice_type s t = is_some (element_of_slice (base_row s (kept.Of t)))

-- the cells that are coerced: an array that becomes a slice has an object, over which the slice stands
abbrev pub cells_to_coerce : Store → (own : ℕ) → TypedNode → List Cell → List Cell
cells_to_coerce s own t cs =
    elim (sliced_element s (mark_of t).ty (mark_of t).coerce) [
      | None ↦ cs
      | Some x ↦ slice_of own t (length_of_value s (mark_of t).ty)
    ]

-- the value of a node as its coercion gives it
abbrev pub coerced_value : Store → (own : ℕ) → TypedNode → List Cell → Outcome
coerced_value s own t cs = on_answer (coerced s (mark_of t).ty (mark_of t).coerce (cells_to_coerce s own t cs)) Known

abbrev pub node_value : Store → (own : ℕ) → TypedNode → List Outcome → Outcome
node_value s own t os =
    if is_evaluated (own_kind t) then on_cells (own_value s own t os) (coerced_value s own t) else Known []

-- ---- trees

-- the value of a tree, as the coercion of its node gives it; `own` is the declaration in which it stands
abbrev mutual
  pub tree_value : Store → (own : ℕ) → TypedNode → Outcome
  tree_value s own (marked h m ts) = node_value s own (marked h m ts) (kid_values s own ts)

  pub kid_values : Store → (own : ℕ) → TypedNodes → List Outcome
  kid_values s own typed_none = []
  kid_values s own (typed_more t ts) = tree_value s own t ∷ kid_values s own ts

-- ---- what is not constant

abbrev pub is_aborted : Outcome → Bool
is_aborted (Known cs) = false
is_aborted Aborts = true
is_aborted Undefined = false

-- The first node, in check order, that is not constant or whose value would abort. In values the tag of a type is one more than its id.
abbrev pub first_refused : Store → (own : ℕ) → TypedNode → Option TypedNode
first_refused s own t = first_inconstant s (λ u. is_aborted (tree_value (tagged_by_id s) own u)) t

abbrev pub first_refused_of : Store → (own : ℕ) → TypedNodes → Option TypedNode
first_refused_of s own ts = first_inconstant_of s (λ u. is_aborted (tree_value (tagged_by_id s) own u)) ts

-- that a node is no constant
abbrev pub not_constant : TypedNode → Fault
not_constant t = record { number = 21; place = (head_of t).place }

-- the fault is that the node that was found is no constant
abbrev pub Refuses : Option TypedNode → Stop Fault → Type 0
Refuses o (stop.Fault f) = (u : TypedNode) × (o ≡ Some u) × (f ≡ not_constant u)
Refuses o stop.Memory = Unit {0}

-- the node is of a constant kind
abbrev pub is_constant_node : Store → TypedNode → Bool
is_constant_node s t = is_constant s (own_kind t) (mark_of t) (kids_of t)

-- the fault is that the node itself is no constant, where its kids have these values
abbrev pub RefusesNode : Store → (own : ℕ) → TypedNode → List Outcome → Stop Fault → Type 0
RefusesNode s own t os (stop.Fault f) = (f ≡ not_constant t) ×
    ((is_constant_node s t && not (is_aborted (node_value (tagged_by_id s) own t os))) ≡ false)
RefusesNode s own t os stop.Memory = Unit {0}

-- ---- constants

-- the cells of a constant
abbrev pub cells_in : Const → Option (List Cell)
cells_in constant.Absent = None
cells_in (constant.Known cs os) = Some cs

-- the cells of a value
abbrev pub cells_of : Outcome → Option (List Cell)
cells_of (Known cs) = Some cs
cells_of Aborts = None
cells_of Undefined = None
