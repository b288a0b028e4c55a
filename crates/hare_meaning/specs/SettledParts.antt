-- What a settled tree says of places, stores, members of unions and the heap. In each, t is the node.
use Rattle.std.specs.Prelude.{◌≡◌, ◌⊎◌, ℕ, Bool, true, false, List, length, slice_get, Option, Some, None, IsSome, option_map, option_and_then, nat_eq, ◌&&◌, filter}
use Rattle.std.specs.List.{list_any}
use Rattle.hare_tree.specs.declared.kind.Kind.{Kind}
use Rattle.hare_tree.specs.declared.kind.Kind.TheVariants as kind
use Rattle.hare_types.specs.declared.row.Row.TheVariants as row
use Rattle.hare_types.specs.declared.row.Scalar.TheVariants as keyword
use Rattle.hare_types.specs.declared.coercion.Ty.{Ty}
use Rattle.hare_types.specs.declared.coercion.Ty.TheVariants as kept
use Rattle.hare_types.specs.Store.{Store}
use Rattle.hare_types.specs.ByIds.{row_at, fields_at, is_error_at}
use Rattle.hare_types.specs.Unions.{without_errors}
use Rattle.hare_typed.specs.Typed.{TypedNode, TypedNodes, marked, typed_more, head_of}
use Rattle.hare_typed.specs.Order.{kid_from_front}
use Rattle.hare_typed.specs.Constants.{own_kind}
use Rattle.hare_typed.specs.Given.{given, pointee, element}
use Rattle.hare_typed.specs.Evaluated.{is_place}
use Rattle.hare_typed.specs.Followed.{reached_type}
use Rattle.hare_typed.specs.Unions.{union_members}
use Rattle.hare_typed.specs.ConstantForms.{own_type, type_of_kid, id_in, part_named}
use Rattle.hare_meaning.specs.Steps.{is_written, is_void}
use Rattle.hare_meaning.specs.Stores.{operator_of, is_shift}
use Rattle.hare_meaning.specs.Heap.{is_nomem, given_member, refusal_member, own_union, deleted}
use Rattle.hare_meaning.specs.SettledForm.{has_form}
use Rattle.hare_meaning.specs.Each.{Each}
use Rattle.hare_meaning.specs.SettledTypes.{IsAdmittedTy, AreValues, is_word, is_integer, is_counting, is_sized, nullable, slice, is_address, may_become}

-- ---- places

-- the type is that of which the store tells the id
abbrev pub Is : Ty → Option ℕ → Type 0
Is f o = option_map kept.Of o ≡ Some f

-- Nothing becomes of a value or a place at its site, nor in parentheses of what stands in them: so a place that is used as one is the place
-- of just the type that is asked for.
abbrev mutual
  pub stays : TypedNode → Bool
  stays (marked h m ts) = nat_eq m.coerce.row 1 && first_stays h.kind ts

  pub first_stays : Kind → TypedNodes → Bool
  first_stays kind.Paren (typed_more t ts) = stays t
  first_stays _ ts = true

-- a place that stays
pub record IsPlace (s : Store) (t : TypedNode) : Type 0 where
  pub by_form : is_place s t ≡ true
  pub stays : stays t ≡ true

-- what a pointer leads to
pub record IsDeref (s : Store) (t : TypedNode) : Type 0 where
  pub pointee : Is (own_type t) (pointee s (type_of_kid 0 t))
  pub sized : is_sized s (own_type t) ≡ true

-- of a place
pub record IsAddr (s : Store) (t : TypedNode) : Type 0 where
  pub place : IsPlace s (kid_from_front 0 t)
  pub pointee : Is (type_of_kid 0 t) (pointee s (own_type t))

-- the elements of the array or slice that is reached through the pointers of the operand
abbrev pub element_reached : Store → TypedNode → Option ℕ
element_reached s t = element s (reached_type s (type_of_kid 0 t))

-- what pointers of the operand lead to is admitted, as is what a node gives
pub record IsOperand (s : Store) (t : TypedNode) : Type 0 where
  pub stays : stays t ≡ true
  pub reached : IsAdmittedTy s (reached_type s (given t))

pub record IsIndex (s : Store) (t : TypedNode) : Type 0 where
  pub operand : IsOperand s (kid_from_front 0 t)
  pub element : Is (own_type t) (element_reached s t)
  pub values : AreValues s (element_reached s t)
  pub index : is_word keyword.Size s (type_of_kid 1 t) ≡ true

-- a bound that is written is a number of elements
abbrev pub BoundFits : Store → Ty → (written : Bool) → Type 0
BoundFits s f true = is_word keyword.Size s f ≡ true
BoundFits s f false = Unit {0}

pub record IsSlice (s : Store) (t : TypedNode) : Type 0 where
  pub operand : IsOperand s (kid_from_front 0 t)
  pub values : AreValues s (element_reached s t)
  pub elements : slice s (own_type t) ≡ element_reached s t
  pub lower : BoundFits s (type_of_kid 1 t) (is_written 1 t)
  pub upper : BoundFits s (type_of_kid 2 t) (is_written 2 t)

-- the type of the part that is named, of the struct or tuple that is reached
abbrev pub part_reached : Store → TypedNode → Option ℕ
part_reached s t =
    let whole = reached_type s (type_of_kid 0 t) in
    option_and_then (λ ts. slice_get ts (part_named s whole (head_of t))) (fields_at s (id_in whole))

pub record IsField (s : Store) (t : TypedNode) : Type 0 where
  pub operand : IsOperand s (kid_from_front 0 t)
  pub part : Is (own_type t) (part_reached s t)
  pub sized : is_sized s (own_type t) ≡ true

-- of a field, in which nothing is evaluated
pub record IsOffset (s : Store) (t : TypedNode) : Type 0 where
  pub kind : own_kind (kid_from_front 0 t) ≡ kind.Field
  pub field : IsField s (kid_from_front 0 t)
  pub size : is_word keyword.Size s (own_type t) ≡ true

-- ---- stores

pub record IsAssign (s : Store) (t : TypedNode) : Type 0 where
  pub place : IsPlace s (kid_from_front 0 t)
  pub same : type_of_kid 1 t ≡ type_of_kid 0 t
  pub void : is_void s (own_type t) ≡ true

-- a number of the place's type; how far is shifted is a number of any integer type
abbrev pub OperandFits : Store → Bool → (place operand : Ty) → Type 0
OperandFits s true f g = is_counting s g ≡ true
OperandFits s false f g = g ≡ f

pub record IsOpAssign (s : Store) (t : TypedNode) : Type 0 where
  pub place : IsPlace s (kid_from_front 0 t)
  pub number : is_integer s (type_of_kid 0 t) ≡ true
  pub operand : OperandFits s (is_shift (operator_of (head_of t).text)) (type_of_kid 0 t) (type_of_kid 1 t)
  pub void : is_void s (own_type t) ≡ true

-- what is bound has a size
pub record IsLet (s : Store) (t : TypedNode) : Type 0 where
  pub sized : is_sized s (type_of_kid 1 t) ≡ true
  pub void : is_void s (own_type t) ≡ true

-- ---- members of unions, and pointers that may be null

-- the pointer itself, to the same
abbrev pub IsPointerTo : Store → Ty → ℕ → Type 0
IsPointerTo s (kept.Of t) x = row_at s t ≡ Some (row.Pointer x)
IsPointerTo s (kept.Iconst v) x = ⊥
IsPointerTo s kept.Null x = ⊥
IsPointerTo s kept.Empty x = ⊥

-- the type is one of these
abbrev pub has_id : List ℕ → Ty → Bool
has_id ms (kept.Of m) = list_any (nat_eq m) ms
has_id ms (kept.Iconst v) = false
has_id ms kept.Null = false
has_id ms kept.Empty = false

-- a member of the union, or where it is a nullable pointer the one that is not null
abbrev pub IsMemberOf : Store → (whole member : Ty) → Option ℕ → Type 0
IsMemberOf s f g None = has_id (union_members s (id_in f)) g ≡ true
IsMemberOf s f g (Some x) = IsPointerTo s g x

-- `as` gives the member that is written
pub record IsAs (s : Store) (t : TypedNode) : Type 0 where
  pub member : IsMemberOf s (type_of_kid 0 t) (type_of_kid 1 t) (nullable s (type_of_kid 0 t))
  pub same : own_type t ≡ type_of_kid 1 t

-- `is` asks for it
pub record IsIs (s : Store) (t : TypedNode) : Type 0 where
  pub member : IsMemberOf s (type_of_kid 0 t) (type_of_kid 1 t) (nullable s (type_of_kid 0 t))
  pub bool : is_word keyword.Bool s (own_type t) ≡ true

-- what is left of the union without its error members
pub record IsLeft (s : Store) (t : TypedNode) : Type 0 where
  pub left : Is (own_type t) (without_errors s (id_in (type_of_kid 0 t)))

-- each error member can be returned
abbrev pub AreReturned : Store → Ty → Option Ty → Type 0
AreReturned s f None = ⊥
AreReturned s f (Some r) = Each (λ m. may_become s m r ≡ true) (filter (is_error_at s) (union_members s (id_in f)))

pub record IsTry (s : Store) (result : Option Ty) (t : TypedNode) : Type 0 where
  pub left : IsLeft s t
  pub returned : AreReturned s (type_of_kid 0 t) result

-- ---- the heap

-- What an allocation gives: a union of the refusal of memory and of one other type.
pub record IsRefusable (s : Store) (t : TypedNode) : Type 0 where
  pub members : length (union_members s (own_union t)) ≡ 2
  pub refusal : is_nomem s (refusal_member s (own_union t)) ≡ true
  pub given : is_nomem s (given_member s (own_union t)) ≡ false

-- what it gives where memory is not refused
abbrev pub allocated_type : Store → TypedNode → Ty
allocated_type s t = kept.Of (given_member s (own_union t))

-- one object
pub record IsAllocOfOne (s : Store) (t : TypedNode) : Type 0 where
  pub object : Is (type_of_kid 0 t) (pointee s (allocated_type s t))
  pub sized : is_sized s (type_of_kid 0 t) ≡ true

-- the elements of an array or slice, with a capacity
pub record IsAllocOfMany (s : Store) (t : TypedNode) : Type 0 where
  pub values : AreValues s (element s (type_of_kid 0 t))
  pub elements : slice s (allocated_type s t) ≡ element s (type_of_kid 0 t)
  pub capacity : is_word keyword.Size s (type_of_kid 1 t) ≡ true

abbrev pub IsAllocOf : Store → TypedNode → Bool → Type 0
IsAllocOf s t true = IsAllocOfMany s t
IsAllocOf s t false = IsAllocOfOne s t

pub record IsAlloc (s : Store) (t : TypedNode) : Type 0 where
  pub refusable : IsRefusable s t
  pub of : IsAllocOf s t (is_written 1 t)

-- a pointer or a slice
pub record IsFree (s : Store) (t : TypedNode) : Type 0 where
  pub freed : (is_address s (type_of_kid 0 t) ≡ true) ⊎ IsSome (slice s (type_of_kid 0 t))
  pub void : is_void s (own_type t) ≡ true

-- one element, or with `...` the elements of a slice
abbrev pub IsAppended : Store → Ty → Option ℕ → Bool → Type 0
IsAppended s g o true = slice s g ≡ o
IsAppended s g o false = Is g o

-- to a place that holds a slice
pub record IsAppend (s : Store) (t : TypedNode) : Type 0 where
  pub place : IsPlace s (kid_from_front 0 t)
  pub values : AreValues s (slice s (type_of_kid 0 t))
  pub value : IsAppended s (type_of_kid 1 t) (slice s (type_of_kid 0 t)) (is_written 2 t)
  pub refusable : IsRefusable s t
  pub void : is_void s (allocated_type s t) ≡ true

-- an element of a slice or a range of them: the index or slice itself is not evaluated, and what stands in it is
abbrev pub IsDeleted : Store → TypedNode → Kind → Type 0
IsDeleted s d kind.Index = IsIndex s d
IsDeleted s d kind.Slice = IsSlice s d
IsDeleted s d _ = ⊥

-- from a place that holds a slice, or one that is reached through pointers
pub record IsDelete (s : Store) (t : TypedNode) : Type 0 where
  pub form : has_form (deleted t) ≡ true
  pub part : IsDeleted s (deleted t) (own_kind (deleted t))
  pub sequence : IsSome (slice s (reached_type s (type_of_kid 0 (deleted t))))
  pub place : (IsSome (pointee s (type_of_kid 0 (deleted t)))) ⊎ (is_place s (kid_from_front 0 (deleted t)) ≡ true)
  pub void : is_void s (own_type t) ≡ true
