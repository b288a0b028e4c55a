-- What all nodes have in common: ticks, the reading of places that are used as values, coercions, and values that are used as places.
use Rattle.std.specs.Prelude.{◌&&◌, ℕ, ◌+◌, ◌/◌, max, Bool, true, false, not, ◌||◌, List, [], Option, Some, None, is_some, if◌then◌else◌}
use Rattle.hare_tree.specs.declared.kind.Kind.{Kind}
use Rattle.hare_tree.specs.declared.kind.Kind.TheVariants as kind
use Rattle.hare_tree.specs.declared.token.Meaning.{Meaning}
use Rattle.hare_tree.specs.declared.token.Meaning.TheVariants as meant
use Rattle.hare_types.specs.declared.row.Row.{Row}
use Rattle.hare_types.specs.declared.row.Row.TheVariants as row
use Rattle.hare_types.specs.declared.coercion.Ty.{Ty}
use Rattle.hare_types.specs.declared.coercion.Ty.TheVariants as kept
use Rattle.hare_types.specs.Store.{Store}
use Rattle.hare_types.specs.ByIds.{size_at, align_at}
use Rattle.hare_typed.specs.declared.cell.Cell.{Cell}
use Rattle.hare_typed.specs.Typed.{TypedNode, TypedNodes, Mark, marked, typed_none, typed_more, head_of, mark_of, kids_of}
use Rattle.hare_typed.specs.Constants.{is_known, own_kind}
use Rattle.hare_typed.specs.Constancy.{names_void}
use Rattle.hare_typed.specs.Given.{first_given, base_row, pointee, size_in}
use Rattle.hare_typed.specs.Weight.{weight_of}
use Rattle.hare_typed.specs.Answers.{Answer, Gives, ◌then◌}
use Rattle.hare_typed.specs.Scalars.{Pointer, Address}
use Rattle.hare_typed.specs.Objects.{Object, Local, Global, Reading, reading, read_cells}
use Rattle.hare_typed.specs.Shapes.{align_in}
use Rattle.hare_typed.specs.Words.{three}
use Rattle.hare_typed.specs.Unions.{checked}
use Rattle.hare_typed.specs.Coercions.{coerced, sliced_element, length_of_value}
use Rattle.hare_typed.specs.State.{Scope, Mode, AsValue, AsPlace, Value, Reached}
use Rattle.hare_typed.specs.Acts.{Act, end, look, make, tick}
use Rattle.hare_typed.specs.World.{World, static_number, answered}

-- ---- which nodes are evaluated

-- declarations, types and patterns are not, nor is what only stands for a token or holds what another node looks at
abbrev pub is_evaluated : Kind → Bool
is_evaluated kind.None = false
is_evaluated kind.Use = false
is_evaluated kind.UseAlias = false
is_evaluated kind.UseNames = false
is_evaluated kind.ImportPath = false
is_evaluated kind.Def = false
is_evaluated kind.GlobalLet = false
is_evaluated kind.GlobalConst = false
is_evaluated kind.TypeDecl = false
is_evaluated kind.Fn = false
is_evaluated kind.Params = false
is_evaluated kind.Param = false
is_evaluated kind.StructField = false
is_evaluated kind.Name = false
is_evaluated kind.Export = false
is_evaluated kind.TrailingComma = false
is_evaluated kind.Dots = false
is_evaluated kind.ByRef = false
is_evaluated kind.TypeScalar = false
is_evaluated kind.TypePath = false
is_evaluated kind.TypePointer = false
is_evaluated kind.TypeNullable = false
is_evaluated kind.TypeSlice = false
is_evaluated kind.TypeError = false
is_evaluated kind.TypeArray = false
is_evaluated kind.TypeStruct = false
is_evaluated kind.TypeTuple = false
is_evaluated kind.TypeUnion = false
is_evaluated kind.Spread = false
is_evaluated kind.Message = false
is_evaluated kind.Binding = false
is_evaluated kind.PatternLet = false
is_evaluated kind.PatternNull = false
is_evaluated kind.Values = false
is_evaluated _ = true

-- ---- places by form

abbrev pub is_named : Meaning → Bool
is_named (meant.Local x) = true
is_named (meant.Decl d) = true
is_named (meant.Rt f) = false
is_named meant.None = false

-- a path to a local, a parameter or a global; one to a def has its constant, and one to a type a base of void
abbrev pub names_object : Store → Mark → Bool
names_object s m = is_named m.meaning && not (is_known m.value || names_void s m.meaning m.ty)

abbrev pub is_slice_row : Option Row → Bool
is_slice_row (Some (row.Slice i)) = true
is_slice_row _ = false

-- whether a node of the kind is a place, where `operand` says it of its first kid, whose value has the type f
abbrev pub is_place_kind : Store → Kind → Mark → (f : Ty) → (operand : Bool) → Bool
is_place_kind s kind.Path m f operand = names_object s m
is_place_kind s kind.Deref m f operand = true
is_place_kind s kind.Index m f operand = operand || is_some (pointee s f) || is_slice_row (base_row s f)
is_place_kind s kind.Field m f operand = operand || is_some (pointee s f)
is_place_kind s kind.Paren m f operand = operand
is_place_kind s _ m f operand = false

abbrev mutual
  -- whether the node is a place by its form
  pub is_place : Store → TypedNode → Bool
  is_place s (marked h m ts) = is_place_kind s h.kind m (first_given ts) (first_is_place s ts)

  pub first_is_place : Store → TypedNodes → Bool
  first_is_place s typed_none = false
  first_is_place s (typed_more t ts) = is_place s t

-- ---- ticks

abbrev pub ticks_beside : Kind → ℕ
ticks_beside kind.None = 1
ticks_beside kind.TrailingComma = 1
ticks_beside kind.Dots = 1
ticks_beside kind.Message = 1
ticks_beside kind.Binding = 2
ticks_beside _ = 0

abbrev pub ticks_of_kids : TypedNodes → ℕ
ticks_of_kids typed_none = 0
ticks_of_kids (typed_more t ts) = ticks_beside (own_kind t) + ticks_of_kids ts

-- 1 for each kid that only stands for a token or for a part that is left out, and 2 for a binding with its own; those of a case count
-- nothing
abbrev pub ticks_of_parts : Kind → TypedNodes → ℕ
ticks_of_parts kind.Case ts = 0
ticks_of_parts kind.SwitchCase ts = 0
ticks_of_parts _ ts = ticks_of_kids ts

-- the ticks of a node that is used as a place: its weight, and what stands beside
abbrev pub ticks_of_place : Store → TypedNode → ℕ
ticks_of_place s t = weight_of s t + ticks_of_parts (own_kind t) (kids_of t)

-- those of one that gives a value of so many bytes
abbrev pub ticks_with : Store → TypedNode → (bytes : ℕ) → ℕ
ticks_with s t n = ticks_of_place s t + n / 64

-- the value counts before its coercion or after, whichever is greater
abbrev pub ticks_of_value : Store → TypedNode → ℕ
ticks_of_value s t = ticks_with s t (max (size_in s (mark_of t).ty) (size_in s (mark_of t).coerce.to))

-- ---- reading a place

-- a value of the type at a place: U1, U4, and U3 where the type is scalar and its cells spell none
abbrev pub read_type : Store → Reading → Pointer → ℕ → Answer (List Cell)
read_type s r p t = read_cells r p (size_at s t) (align_at s t) then λ cs. checked s t cs

abbrev pub read_value : Store → Reading → Pointer → Ty → Answer (List Cell)
read_value s r p (kept.Of t) = read_type s r p t
read_value s r p (kept.Iconst v) = Gives []
read_value s r p kept.Null = Gives []
read_value s r p kept.Empty = Gives []

-- ---- coercions

-- whether the node's coercion makes a slice of an array
abbrev pub makes_slice : Store → TypedNode → Bool
makes_slice s t = is_some (sliced_element s (mark_of t).ty (mark_of t).coerce)

-- the node's value as its coercion gives it
abbrev pub with_coercion : World → TypedNode → List Cell → (List Cell → Act) → Act
with_coercion w t cs k = answered w (head_of t) (coerced w.types (mark_of t).ty (mark_of t).coerce cs) k

-- the slice over an array at a place: nothing is accessed
abbrev pub slice_over : World → TypedNode → Pointer → (List Cell → Act) → Act
slice_over w t p k =
    let n = length_of_value w.types (mark_of t).ty in
    with_coercion w t (three (record { data_at = p; length = n; capacity = n })) k

-- the object of an array that is no place and becomes a slice: a local one, or in the value of a global a static one
abbrev pub array_object : World → (item : ℕ) → List Cell → Object
array_object w x cs = record { cells = cs; kind = if w.runs then Local else Global; align = align_at w.types x; alive = true }

abbrev pub array_number : World → Scope → TypedNode → Option ℕ
array_number w sc t = if w.runs then None else Some (w.home (static_number sc t))

abbrev pub coerced_from : World → TypedNode → Scope → List Cell → Option ℕ → (List Cell → Act) → Act
coerced_from w t sc cs None k = with_coercion w t cs k
coerced_from w t sc cs (Some x) k =
    make (array_number w sc t) (array_object w x cs) (λ o. slice_over w t (Address o 0) k)

abbrev pub as_coerced : World → TypedNode → Scope → List Cell → (List Cell → Act) → Act
as_coerced w t sc cs k = coerced_from w t sc cs (sliced_element w.types (mark_of t).ty (mark_of t).coerce) k

-- ---- a node in both modes

-- the acts of a kind of node, up to its own value or place
abbrev pub ValueForm : Type 0
ValueForm = (List Cell → Act) → Act

abbrev pub PlaceForm : Type 0
PlaceForm = (Pointer → Act) → Act

abbrev pub gives : List Cell → Act
gives cs = end (Value cs)

-- a node that is no place by its form, as a value
abbrev pub by_value : World → TypedNode → Scope → ValueForm → (List Cell → Act) → Act
by_value w t sc form k = tick (ticks_of_value w.types t) (form λ cs. as_coerced w t sc cs k)

-- a new local object holds the value, as its coercion gives it
abbrev pub value_object : World → TypedNode → List Cell → Object
value_object w t cs = record { cells = cs; kind = Local; align = align_in w.types (mark_of t).coerce.to; alive = true }

-- a place that is used as a value is read by its own node
abbrev pub by_reading : World → TypedNode → Scope → PlaceForm → Act
by_reading w t sc form =
    tick (ticks_of_value w.types t) (form λ p. look λ m.
    answered w (head_of t) (read_value w.types (reading m.objects) p (mark_of t).ty) λ cs.
    with_coercion w t cs gives)

-- what a place by form does as a value: it becomes a slice, or is read; in parentheses the reading is that of what stands in them
abbrev pub place_as_value : World → TypedNode → Scope → Kind → ValueForm → PlaceForm → Act
place_as_value w t sc kind.Paren value form = by_value w t sc value gives
place_as_value w t sc _ value form = by_reading w t sc form

abbrev pub place_in_mode : World → TypedNode → Mode → Scope → ValueForm → PlaceForm → Act
place_in_mode w t AsPlace sc value form = tick (ticks_of_place w.types t) (form λ p. end (Reached p))
place_in_mode w t AsValue sc value form =
    if makes_slice w.types t then tick (ticks_with w.types t (size_in w.types (mark_of t).coerce.to)) (form λ p. slice_over w t p gives)
    else place_as_value w t sc (own_kind t) value form

abbrev pub value_in_mode : World → TypedNode → Mode → Scope → ValueForm → Act
value_in_mode w t AsValue sc value = by_value w t sc value gives
value_in_mode w t AsPlace sc value =
    by_value w t sc value λ cs. make None (value_object w t cs) λ o. end (Reached (Address o 0))

-- The acts of a node, made of those of its kind. Without `place` it is asked of no node that is a place by its form.
abbrev pub evaluated : World → TypedNode → Mode → Scope → ValueForm → PlaceForm → Act
evaluated w t mode sc value form =
    if not (is_evaluated (own_kind t)) then gives []
    else (if is_place w.types t then place_in_mode w t mode sc value form
    else value_in_mode w t mode sc value)
