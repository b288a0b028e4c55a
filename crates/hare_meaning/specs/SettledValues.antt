-- What a settled tree says of literals, paths, operators, literals of parts, and calls. In each, t is the node.
use Rattle.std.specs.Prelude.{◌≡◌, ◌⊎◌, ℕ, zero, suc, ◌+◌, ◌^◌, ◌<◌, ◌≤◌, pos, Bool, true, false, ◌||◌, nat_eq, List, length, map, take, drop, slice_get, Option, Some, None, option_map, unwrap_or, IsSome, []}
use Rattle.std.specs.Map.{lookup}
use Rattle.hare_tree.specs.declared.kind.Kind.TheVariants as kind
use Rattle.hare_tree.specs.declared.token.Meaning.{Meaning}
use Rattle.hare_tree.specs.declared.token.Meaning.TheVariants as meant
use Rattle.hare_types.specs.declared.row.Scalar.TheVariants as keyword
use Rattle.hare_types.specs.declared.coercion.Ty.{Ty}
use Rattle.hare_types.specs.declared.coercion.Ty.TheVariants as kept
use Rattle.hare_types.specs.Store.{Store}
use Rattle.hare_types.specs.ByIds.{fields_at}
use Rattle.hare_types.specs.Unions.{ascending}
use Rattle.hare_typed.specs.declared.cell.Cell.{Cell}
use Rattle.hare_typed.specs.declared.cell.Cell.TheVariants as cell
use Rattle.hare_typed.specs.declared.constant.Const.{Const}
use Rattle.hare_typed.specs.declared.constant.Const.TheVariants as constant
use Rattle.hare_typed.specs.Typed.{TypedNode, Mark, head_of, mark_of, kids_of, listed_nodes}
use Rattle.hare_typed.specs.Order.{kid_from_front}
use Rattle.hare_typed.specs.Constants.{is_known, own_kind}
use Rattle.hare_typed.specs.Constancy.{names_void}
use Rattle.hare_typed.specs.Numbers.{parameters_of}
use Rattle.hare_typed.specs.Weight.{count, items_of}
use Rattle.hare_typed.specs.Given.{given, base_row, pointee, element, size_in, is_str}
use Rattle.hare_typed.specs.Evaluated.{names_object}
use Rattle.hare_typed.specs.Answers.{Gives}
use Rattle.hare_typed.specs.Shapes.{align_in}
use Rattle.hare_typed.specs.Unions.{checked}
use Rattle.hare_typed.specs.Objects.{Object}
use Rattle.hare_typed.specs.Coercions.{length_of_row}
use Rattle.hare_typed.specs.ConstantForms.{own_type, type_of_kid, id_in, is_iconst, is_array_row, fields_from, counted_from, has_dots}
use Rattle.hare_meaning.specs.Code.{Code, declaration, value_of, number_of_static, text_object, cells_of_constant, is_global}
use Rattle.hare_meaning.specs.Steps.{is_void}
use Rattle.hare_meaning.specs.Calls.{arguments_of, type_of_parameter}
use Rattle.hare_meaning.specs.Around.{Around, Bound, Holds, PointsTo, bound_at, result_of_function}
use Rattle.hare_meaning.specs.Within.{LeadsInto}
use Rattle.hare_meaning.specs.Each.{Each}
use Rattle.hare_meaning.specs.SettledTypes.{IsAdmittedTy, is_word, is_integer, is_numeric, is_counting, fits_number, is_sized, is_never, is_address, slice}

abbrev pub store_of : Around → Store
store_of a = a.code.types

-- how many kids a node has
abbrev pub kids_in : TypedNode → ℕ
kids_in t = count (kids_of t)

-- ---- literals

-- its type can be this number
pub record IsNumber (s : Store) (t : TypedNode) : Type 0 where
  pub fits : fits_number s (pos (head_of t).number) (own_type t) ≡ true

pub record IsRune (s : Store) (t : TypedNode) : Type 0 where
  pub rune : is_word keyword.Rune s (own_type t) ≡ true
  pub small : (head_of t).number < 2 ^ 32

pub record IsTruth (s : Store) (t : TypedNode) : Type 0 where
  pub bool : is_word keyword.Bool s (own_type t) ≡ true

-- its bytes stand from the start, under the number that its node has among the objects of constants
pub record IsText (a : Around) (t : TypedNode) : Type 0 where
  pub str : is_str (store_of a) (own_type t) ≡ true
  pub stands : lookup (nat_eq (number_of_static a.own t)) a.code.statics ≡ Some (text_object t)

pub record IsNull (t : TypedNode) : Type 0 where
  pub null : own_type t ≡ kept.Null

pub record IsVoid (s : Store) (t : TypedNode) : Type 0 where
  pub void : is_void s (own_type t) ≡ true

-- ---- paths

-- what a local of this sort has as its type
abbrev pub IsBoundAs : Store → Ty → Option Bound → Type 0
IsBoundAs s f None = ⊥
IsBoundAs s f (Some (Holds g)) = f ≡ g
IsBoundAs s f (Some (PointsTo x)) = pointee s f ≡ Some x

-- a pointer of which the cell is a part leads within an object that stands from the start
abbrev pub Leads : List (ℕ × Object) → Cell → Type 0
Leads ss (cell.Byte b) = Unit {0}
Leads ss (cell.Fragment o d k) = LeadsInto d (lookup (nat_eq o) ss)
Leads ss cell.Undef = Unit {0}

-- cells are a value of the type where it is scalar: they spell one
abbrev pub Spells : Store → Ty → List Cell → Type 0
Spells s (kept.Of t) cs = checked s t cs ≡ Gives cs
Spells s (kept.Iconst v) cs = Unit {0}
Spells s kept.Null cs = Unit {0}
Spells s kept.Empty cs = Unit {0}

-- the cells of a constant are a value of the type
pub record IsConstantOf (c : Code) (f : Ty) (v : Const) : Type 0 where
  pub whole : length (cells_of_constant v) ≡ size_in c.types f
  pub spelled : Spells c.types f (cells_of_constant v)
  pub leads : Each (Leads c.statics) (cells_of_constant v)

-- an object has the size and the alignment of the type
pub record IsObjectOf (s : Store) (f : Ty) (o : Object) : Type 0 where
  pub whole : length o.cells ≡ size_in s f
  pub aligned : o.align ≡ align_in s f

abbrev pub Stands : Store → Ty → Option Object → Type 0
Stands s f None = ⊥
Stands s f (Some o) = IsObjectOf s f o

-- a global stands from the start, and has the type of its value
pub record IsGlobal (c : Code) (d : ℕ) (f : Ty) : Type 0 where
  pub kind : is_global (own_kind (declaration c.declarations d)) ≡ true
  pub ty : f ≡ given (value_of (declaration c.declarations d))
  pub stands : Stands c.types f (lookup (nat_eq d) c.statics)

-- a path to a def has its constant, one to a type of base void has nothing, and any other to a declaration means a global; one to a local
-- has none
abbrev pub IsDeclared : Code → ℕ → Mark → Bool → Const → Type 0
IsDeclared c d m true v = IsGlobal c d m.ty
IsDeclared c d m false constant.Absent = names_void c.types m.meaning m.ty ≡ true
IsDeclared c d m false (constant.Known cs os) = IsConstantOf c m.ty (constant.Known cs os)

abbrev pub IsMeant : Around → Mark → Meaning → Type 0
IsMeant a m (meant.Local x) = IsBoundAs (store_of a) m.ty (bound_at a.bindings x) × (is_known m.value ≡ false)
IsMeant a m (meant.Decl d) = IsDeclared a.code d m (names_object (store_of a) m) m.value
IsMeant a m (meant.Rt f) = ⊥
IsMeant a m meant.None = ⊥

pub record IsPath (a : Around) (t : TypedNode) : Type 0 where
  pub sized : is_sized (store_of a) (own_type t) ≡ true
  pub meant : IsMeant a (mark_of t) (mark_of t).meaning

-- ---- operators

-- what stands in it, as it is
pub record IsParen (t : TypedNode) : Type 0 where
  pub same : own_type t ≡ type_of_kid 0 t

-- both are whole numbers without a suffix, or one integer type
abbrev pub AreOneInteger : Store → Ty → Ty → Type 0
AreOneInteger s f g = ((is_iconst f ≡ true) × (is_iconst g ≡ true)) ⊎ ((f ≡ g) × (is_integer s f ≡ true))

-- `-` and `~`
pub record IsUnary (s : Store) (t : TypedNode) : Type 0 where
  pub number : AreOneInteger s (own_type t) (type_of_kid 0 t)

pub record IsBang (s : Store) (t : TypedNode) : Type 0 where
  pub bool : is_word keyword.Bool s (own_type t) ≡ true
  pub same : own_type t ≡ type_of_kid 0 t

pub record IsArith (s : Store) (t : TypedNode) : Type 0 where
  pub left : AreOneInteger s (own_type t) (type_of_kid 0 t)
  pub right : AreOneInteger s (own_type t) (type_of_kid 1 t)

-- how far is shifted is a number of any integer type
pub record IsShift (s : Store) (t : TypedNode) : Type 0 where
  pub left : AreOneInteger s (own_type t) (type_of_kid 0 t)
  pub right : is_counting s (type_of_kid 1 t) ≡ true

-- numbers of one type, or two whole numbers without a suffix
abbrev pub AreOneNumber : Store → Ty → Ty → Type 0
AreOneNumber s f g = ((is_iconst f ≡ true) × (is_iconst g ≡ true)) ⊎ ((f ≡ g) × (is_numeric s f ≡ true))

pub record IsLess (s : Store) (t : TypedNode) : Type 0 where
  pub bool : is_word keyword.Bool s (own_type t) ≡ true
  pub ordered : AreOneNumber s (type_of_kid 0 t) (type_of_kid 1 t)

-- numbers, or one type whose base is bool, str, a pointer or a nullable one
pub record IsEqual (s : Store) (t : TypedNode) : Type 0 where
  pub bool : is_word keyword.Bool s (own_type t) ≡ true
  pub equal : AreOneNumber s (type_of_kid 0 t) (type_of_kid 1 t)
      ⊎ ((type_of_kid 0 t ≡ type_of_kid 1 t)
      × ((is_word keyword.Bool s (type_of_kid 0 t) || is_str s (type_of_kid 0 t) || is_address s (type_of_kid 0 t)) ≡ true))

pub record IsLogic (s : Store) (t : TypedNode) : Type 0 where
  pub bool : is_word keyword.Bool s (own_type t) ≡ true
  pub left : own_type t ≡ type_of_kid 0 t
  pub right : own_type t ≡ type_of_kid 1 t

-- to the type that is written: a value that has it already, a number as a number, or an address as an address
pub record IsCast (s : Store) (t : TypedNode) : Type 0 where
  pub to : own_type t ≡ type_of_kid 1 t
  pub from : (own_type t ≡ type_of_kid 0 t)
      ⊎ (((is_numeric s (own_type t) ≡ true) × (is_numeric s (type_of_kid 0 t) ≡ true))
      ⊎ ((is_address s (own_type t) ≡ true) × (is_address s (type_of_kid 0 t) ≡ true)))

-- of a type that has a size
pub record IsMeasure (s : Store) (t : TypedNode) : Type 0 where
  pub admitted : IsAdmittedTy s (type_of_kid 0 t)
  pub size : is_word keyword.Size s (own_type t) ≡ true
  pub sized : is_sized s (type_of_kid 0 t) ≡ true

-- of an array, a slice or a text
pub record IsLength (s : Store) (t : TypedNode) : Type 0 where
  pub size : is_word keyword.Size s (own_type t) ≡ true
  pub counted : IsSome (element s (type_of_kid 0 t)) ⊎ (is_str s (type_of_kid 0 t) ≡ true)

-- ---- values with parts

-- so many kids of a node, from the one with so many before it
abbrev pub kids_between : (from many : ℕ) → TypedNode → List TypedNode
kids_between i n t = take n (drop i (listed_nodes (kids_of t)))

-- the fields that a struct literal gives are, in ascending order, all that there are, and so each of them once
abbrev pub AreAll : List ℕ → ℕ → Type 0
AreAll ns n = (length ns ≡ n) × (ascending ns ≡ counted_from 0 n)

-- the types of the fields or components of a type
abbrev pub parts_in : Store → Ty → List ℕ
parts_in s f = unwrap_or (fields_at s (id_in f)) []

-- the types of the fields that a struct literal gives, in the order in which it gives them
abbrev pub types_given : Store → TypedNode → List (Option Ty)
types_given s t =
    let ts = parts_in s (own_type t) in
    map (λ n. option_map kept.Of (slice_get ts n)) (fields_from s (own_type t) 1 (length ts) t)

-- a value for each field; what is given to a field has the field's type
pub record IsStructLiteral (s : Store) (t : TypedNode) : Type 0 where
  pub fields : IsSome (fields_at s (id_in (own_type t)))
  pub kids : kids_in t ≡ length (parts_in s (own_type t)) + 2
  pub typed : map (λ v. Some (type_of_kid 0 v)) (kids_between 1 (length (parts_in s (own_type t))) t) ≡ types_given s t
  pub once : AreAll (fields_from s (own_type t) 1 (length (parts_in s (own_type t))) t) (length (parts_in s (own_type t)))

-- a value for each component
pub record IsTupleLiteral (s : Store) (t : TypedNode) : Type 0 where
  pub components : IsSome (fields_at s (id_in (own_type t)))
  pub kids : kids_in t ≡ length (parts_in s (own_type t)) + 1
  pub typed : map given (kids_between 0 (length (parts_in s (own_type t))) t) ≡ map kept.Of (parts_in s (own_type t))

-- how many items stand in an array literal, before `...` or none and a comma or none
abbrev pub items_in : TypedNode → ℕ
items_in t = items_of kind.Array (kids_of t)

-- as many items as the array has; with `...` behind them at least one, and not more
abbrev pub CountFits : Bool → (items whole : ℕ) → Type 0
CountFits false n m = n ≡ m
CountFits true n m = (0 < n) × (n ≤ m)

-- items of the element's type; or no items, and then no type
abbrev pub ItemsFit : Store → TypedNode → Option ℕ → Type 0
ItemsFit s t None = (own_type t ≡ kept.Empty) × (items_in t ≡ 0)
ItemsFit s t (Some x) =
    CountFits (has_dots t) (items_in t) (length_of_row (base_row s (own_type t)))
    × Each (λ v. given v ≡ kept.Of x) (kids_between 0 (items_in t) t)
    × (is_array_row (base_row s (own_type t)) ≡ true)

pub record IsArrayLiteral (s : Store) (t : TypedNode) : Type 0 where
  pub items : ItemsFit s t (element s (own_type t))

-- ---- calls

-- each argument has its parameter's type
abbrev pub ArgumentsFit : TypedNode → List Ty → Type 0
ArgumentsFit t fs = map given (kids_between 1 (arguments_of t) t) ≡ fs

-- the callee is a function of the program
pub record IsCallOf (c : Code) (d : ℕ) (t : TypedNode) : Type 0 where
  pub function : own_kind (declaration c.declarations d) ≡ kind.Fn
  pub arguments : ArgumentsFit t (map type_of_parameter (parameters_of (declaration c.declarations d)))
  pub result : own_type t ≡ result_of_function (declaration c.declarations d)

-- a slice of bytes
abbrev pub are_bytes : Store → Ty → Bool
are_bytes s f = is_byte s (slice s f)
  where
    is_byte : Store → Option ℕ → Bool
    is_byte s None = false
    is_byte s (Some x) = is_word keyword.U8 s (kept.Of x)

-- A call of the runtime, by the number of its function: how many arguments it takes, of what type the first, and what it gives. These are
-- `puts`,
-- `write`, `read`, `bytes`, `nargs`, `arg` and `exit`.
abbrev pub IsRuntimeCall : Store → ℕ → (arguments : ℕ) → (first result : Ty) → Type 0
IsRuntimeCall s zero n f r = (n ≡ 1) × (is_str s f ≡ true) × (is_void s r ≡ true)
IsRuntimeCall s (suc zero) n f r = (n ≡ 1) × (are_bytes s f ≡ true) × (is_void s r ≡ true)
IsRuntimeCall s (suc (suc zero)) n f r = (n ≡ 1) × (are_bytes s f ≡ true) × (is_word keyword.Size s r ≡ true)
IsRuntimeCall s (suc (suc (suc zero))) n f r = (n ≡ 1) × (is_str s f ≡ true) × (are_bytes s r ≡ true)
IsRuntimeCall s (suc (suc (suc (suc zero)))) n f r = (n ≡ 0) × (is_word keyword.Size s r ≡ true)
IsRuntimeCall s (suc (suc (suc (suc (suc zero))))) n f r = (n ≡ 1) × (is_word keyword.Size s f ≡ true) × (is_str s r ≡ true)
IsRuntimeCall s (suc (suc (suc (suc (suc (suc zero)))))) n f r = (n ≡ 1) × (is_word keyword.U8 s f ≡ true) × (is_never s r ≡ true)
IsRuntimeCall s (suc (suc (suc (suc (suc (suc (suc k))))))) n f r = ⊥

abbrev pub IsCalled : Code → TypedNode → Meaning → Type 0
IsCalled c t (meant.Decl d) = IsCallOf c d t
IsCalled c t (meant.Rt f) = IsRuntimeCall c.types f (arguments_of t) (type_of_kid 1 t) (own_type t)
IsCalled c t (meant.Local x) = ⊥
IsCalled c t meant.None = ⊥

-- what is called is named by a path
pub record IsCall (c : Code) (t : TypedNode) : Type 0 where
  pub callee : own_kind (kid_from_front 0 t) ≡ kind.Path
  pub called : IsCalled c t (mark_of (kid_from_front 0 t)).meaning
