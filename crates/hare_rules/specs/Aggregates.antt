-- What the rows of calls, members, elements, aggregates and the heap ask, and the types of these nodes.
use Rattle.std.specs.Prelude.{ℕ, ◌*◌, Bool, true, false, cond, not, ◌&&◌, ◌||◌, ◌==◌, nat_eq, nat_le, List, [], ◌∷◌, find, length, map, position, filter, bytes_eq, slice_get, Option, Some, None, is_some, is_none, option_map, option_and_then}
use Rattle.std.specs.List.{list_all}
use Rattle.std.specs.Option.{unwrap_or, option_or}
use Rattle.std.specs.Char.{is_ascii_digit}
use Rattle.hare_tree.specs.declared.kind.Kind.{Kind}
use Rattle.hare_tree.specs.declared.kind.Kind.TheVariants as ki
use Rattle.hare_tree.specs.declared.token.Meaning.{Meaning}
use Rattle.hare_tree.specs.declared.token.Meaning.TheVariants as means
use Rattle.hare_tree.specs.declared.token.Suffix.{Suffix}
use Rattle.hare_tree.specs.Shape.{has_no_suffix}
use Rattle.hare_types.specs.declared.coercion.Ty.{Ty}
use Rattle.hare_types.specs.declared.coercion.Ty.TheVariants as ty
use Rattle.hare_types.specs.declared.lists.Field.{Field}
use Rattle.hare_types.specs.declared.row.Row.{Row}
use Rattle.hare_types.specs.declared.row.Row.TheVariants as row
use Rattle.hare_types.specs.declared.row.Scalar.TheVariants as keyword
use Rattle.hare_types.specs.Store.{Store}
use Rattle.hare_types.specs.ByIds.{has_size_at, extent_at}
use Rattle.hare_types.specs.Unions.{id_of, without_errors}
use Rattle.hare_types.specs.Layout.{fields_extent}
use Rattle.hare_types.specs.Kept.{all_known}
use Rattle.hare_typed.specs.Typed.{TypedNode, mark_of}
use Rattle.hare_typed.specs.Order.{kid_from_front}
use Rattle.hare_typed.specs.Constancy.{is_address_row}
use Rattle.hare_rules.specs.declared.hint.Hint.{Hint}
use Rattle.hare_rules.specs.declared.hint.Hint.TheVariants as hint
use Rattle.hare_rules.specs.declared.declared.DeclType.{DeclType}
use Rattle.hare_rules.specs.Words.{id_in, word_id, typed_as, is_word, array_length, components, has_default, default_in, fits, error_members, with_refusal}
use Rattle.hare_typed.specs.Coercions.{element_of_slice as slice_element}
use Rattle.hare_typed.specs.Followed.{reached_type}
use Rattle.hare_typed.specs.Given.{base_row, element_in}
use Rattle.hare_rules.specs.Context.{Setting, Context, declaration, store_of, kid, text_of, is_there, own_type, behind_first}
use Rattle.hare_typed.specs.Numbers.{kind_of}
use Rattle.hare_typed.specs.Given.{given as seen}
use Rattle.hare_rules.specs.Places.{is_pointer}

-- the greatest size of a type, in bytes, and the greatest length of an array
abbrev pub most_bytes : ℕ
most_bytes = 67108864

abbrev pub but_last : {A : Type 0} → List A → List A
but_last [] = []
but_last (x ∷ []) = []
but_last (x ∷ y ∷ ys) = x ∷ but_last (y ∷ ys)

-- ---- calls

-- a path that stands as the callee, and not in parentheses
abbrev pub is_path : Kind → Bool
is_path ki.Path = true
is_path _ = false

abbrev pub callee_meaning : TypedNode → Meaning
callee_meaning x = cond (is_path (kind_of x)) (mark_of x).meaning means.None

-- the parameters of a function, and the type of its result; a type that the store lacks is None
pub record Signature : Type 0 where
  pub params : List (Option ℕ)
  pub result : Option ℕ

abbrev pub is_function : Kind → Bool
is_function ki.Fn = true
is_function _ = false

abbrev pub signature_of : DeclType → Option Signature
signature_of d = cond (is_function d.kind) (Some (record { params = map Some d.params; result = Some d.ty })) None

abbrev pub bytes_slice : Store → Option ℕ
bytes_slice s = option_and_then (λ t. id_of s (row.Slice t)) (word_id s keyword.U8)

-- The functions of the module `rt`, by number: puts, write, read, bytes, nargs, arg and exit.
abbrev pub runtime_signatures : Store → List Signature
runtime_signatures s =
    record { params = word_id s keyword.Str ∷ []; result = word_id s keyword.Void } ∷
    record { params = bytes_slice s ∷ []; result = word_id s keyword.Void }
    ∷ record { params = bytes_slice s ∷ []; result = word_id s keyword.Size } ∷
    record { params = word_id s keyword.Str ∷ []; result = bytes_slice s }
    ∷ record { params = []; result = word_id s keyword.Size } ∷
    record { params = word_id s keyword.Size ∷ []; result = word_id s keyword.Str }
    ∷ record { params = word_id s keyword.U8 ∷ []; result = word_id s keyword.Never } ∷ []

abbrev pub called : Setting → Meaning → Option Signature
called w (means.Decl n) = option_and_then signature_of (declaration w n)
called w (means.Rt n) = slice_get (runtime_signatures w.store) n
called w _ = None

-- the function that a callee means
abbrev pub callee : Setting → TypedNode → Option Signature
callee w x = called w (callee_meaning x)

-- the function that a call calls: the meaning in the context of a call is that of its callee
abbrev pub function_called : Context → Option Signature
function_called c = cond (is_path (kind_of (kid c 0))) (called c.setting c.meaning) None

-- the arguments of a call: its kids but the callee and the place of a comma
abbrev pub arguments : Context → List TypedNode
arguments c = but_last (behind_first c)

abbrev pub has_params : ℕ → Option Signature → Bool
has_params n None = false
has_params n (Some f) = length f.params == n

abbrev pub result_of : Option Signature → Option Ty
result_of None = None
result_of (Some f) = typed_as f.result

-- ---- elements and members

-- the row of the base of what is reached when pointers are followed
abbrev pub reached : Store → TypedNode → Option Row
reached s x = base_row s (reached_type s (seen x))

abbrev pub slice_of : Store → Option ℕ → Option ℕ
slice_of s o = option_and_then (λ t. id_of s (row.Slice t)) o

abbrev pub pointer_to : Store → Option ℕ → Option ℕ
pointer_to s o = option_and_then (λ t. id_of s (row.Pointer t)) o

-- the number of the name with this spelling
abbrev pub name_number : Store → List ℕ → Option ℕ
name_number s text = position (bytes_eq text) s.names

abbrev pub field_types : List Field → List ℕ
field_types fs = map (λ f. f.ty) fs

abbrev pub field_named : List Field → ℕ → Option ℕ
field_named fs n = option_map (λ f. f.ty) (find (λ f. nat_eq f.name n) fs)

-- the type of the field of a struct with this name
abbrev pub field_type : Store → Option Row → List ℕ → Option ℕ
field_type s (Some (row.Struct fs)) text = option_and_then (field_named fs) (name_number s text)
field_type s _ text = None

-- decimal digits alone
abbrev pub is_decimal : List ℕ → Bool
is_decimal [] = false
is_decimal (c ∷ cs) = list_all is_ascii_digit (c ∷ cs)

abbrev pub is_component_number : List ℕ → Suffix → Bool
is_component_number text suffix = is_decimal text && has_no_suffix suffix

-- The type of the member that the node names: a field of a struct by its name, or a component of a tuple by its number, which has no
-- suffix.
abbrev pub member_type : Context → Option Row → Option ℕ
member_type c (Some (row.Tuple ts)) = cond (is_component_number c.head.text c.head.suffix) (slice_get ts c.head.number) None
member_type c r = field_type (store_of c) r c.head.text

-- ---- errors

abbrev pub all_fit : Store → List ℕ → ℕ → Bool
all_fit s [] t = true
all_fit s (i ∷ is) t = fits s (ty.Of i) t && all_fit s is t

abbrev pub all_returned : Context → Option (List ℕ) → Bool
all_returned c None = true
all_returned c (Some ts) = all_fit (store_of c) ts c.inside.result

-- each error member may be given as the result of the function
abbrev pub errors_returned : Context → Bool
errors_returned c = all_returned c (error_members (store_of c) (seen (kid c 0)))

-- the union without its error members
abbrev pub rest_type : Context → Option Ty
rest_type c = typed_as (option_and_then (without_errors (store_of c)) (id_in (seen (kid c 0))))

-- ---- sizes of what is built

abbrev pub all_sized : Store → List ℕ → Bool
all_sized s [] = true
all_sized s (t ∷ ts) = has_size_at s t && all_sized s ts

abbrev pub is_small : Option ℕ → Bool
is_small None = true
is_small (Some n) = nat_le n most_bytes

-- The size is looked at where each named type that is held by value is defined.
abbrev pub fields_small : Store → List ℕ → Bool
fields_small s ts = is_small (option_map (λ xs. (fields_extent xs).size) (all_known (extent_at s) ts))

abbrev pub array_small : Store → ℕ → ℕ → Bool
array_small s n t = is_small (option_map (λ x. n * x.size) (extent_at s t))

-- ---- struct literals

abbrev pub fields_in : Option Row → Option (List Field)
fields_in (Some (row.Struct fs)) = Some fs
fields_in _ = None

-- the values of a struct literal: its kids but the path and the place of a comma
abbrev pub field_values : Context → List TypedNode
field_values c = but_last (behind_first c)

abbrev pub is_named_by : Store → ℕ → TypedNode → Bool
is_named_by s n x = is_some (option_and_then (λ m. cond (nat_eq m n) (Some m) None) (name_number s (text_of x)))

abbrev pub each_once : Store → List Field → List TypedNode → Bool
each_once s [] xs = true
each_once s (f ∷ fs) xs = (length (filter (is_named_by s f.name) xs) == 1) && each_once s fs xs

-- each field has just one value, and there is no other value
abbrev pub fill : Store → Option (List Field) → List TypedNode → Bool
fill s None xs = false
fill s (Some fs) xs = (length xs == length fs) && each_once s fs xs

-- ---- tuples

-- the items of a tuple: its kids but the place of a comma
abbrev pub tuple_items : Context → List TypedNode
tuple_items c = but_last c.kids

abbrev pub hint_base : Store → Hint → Option Row
hint_base s (hint.Of t) = base_row s (ty.Of t)
hint_base s _ = None

abbrev pub as_many : ℕ → Option (List ℕ) → Option (List ℕ)
as_many n None = None
as_many n (Some ts) = cond (length ts == n) (Some ts) None

-- the components that a hint gives to a tuple of so many items
abbrev pub hinted_components : Store → Hint → ℕ → Option (List ℕ)
hinted_components s h n = as_many n (components (hint_base s h))

abbrev pub lacks_default : TypedNode → Bool
lacks_default x = not (has_default (own_type x))

abbrev pub with_id : Option ℕ → Option (List ℕ) → Option (List ℕ)
with_id (Some t) (Some ts) = Some (t ∷ ts)
with_id _ _ = None

-- the defaults of the items, where the store has them
abbrev pub defaults : Store → List TypedNode → Option (List ℕ)
defaults s [] = Some []
defaults s (x ∷ xs) = with_id (default_in s (own_type x)) (defaults s xs)

abbrev pub or_defaults : Store → List TypedNode → Option (List ℕ) → Option (List ℕ)
or_defaults s xs (Some ts) = Some ts
or_defaults s xs None = defaults s xs

abbrev pub is_hinted_tuple : Context → Bool
is_hinted_tuple c = is_some (hinted_components (store_of c) c.hint (length (tuple_items c)))

abbrev pub tuple_components : Context → Option (List ℕ)
tuple_components c = or_defaults (store_of c) (tuple_items c) (hinted_components (store_of c) c.hint (length (tuple_items c)))

abbrev pub each_of : {A : Type 0} → (A → Bool) → Option A → Bool
each_of p None = true
each_of p (Some a) = p a

abbrev pub tuple_type : Context → Option Ty
tuple_type c = typed_as (option_and_then (λ ts. id_of (store_of c) (row.Tuple ts)) (tuple_components c))

-- the first item without a default, where no hint gives its type
abbrev pub tuple_lacking : Context → Option TypedNode
tuple_lacking c = cond (is_hinted_tuple c) None (find lacks_default (tuple_items c))

-- ---- arrays

-- the items of an array: its kids but the places of `...` and of a comma
abbrev pub array_items : Context → List TypedNode
array_items c = but_last (but_last c.kids)

abbrev pub last_of : List TypedNode → Option TypedNode
last_of [] = None
last_of (x ∷ []) = Some x
last_of (x ∷ y ∷ ys) = last_of (y ∷ ys)

abbrev pub there : Option TypedNode → Bool
there None = false
there (Some x) = is_there x

abbrev pub has_dots : Context → Bool
has_dots c = there (last_of (but_last c.kids))

-- the element that a hint gives
abbrev pub hinted_element : Store → Hint → Option ℕ
hinted_element s h = element_in (hint_base s h)

abbrev pub default_of : Store → Option TypedNode → Option ℕ
default_of s None = None
default_of s (Some x) = default_in s (own_type x)

-- the element: that of the hint, else the default of the first item
abbrev pub item_type : Context → Option ℕ
item_type c = option_or (hinted_element (store_of c) c.hint) (default_of (store_of c) (slice_get (array_items c) 0))

abbrev pub unless_default : Option TypedNode → Option TypedNode
unless_default None = None
unless_default (Some x) = cond (lacks_default x) (Some x) None

-- the first item, where it has no default and no hint gives its type
abbrev pub array_lacking : Context → Option TypedNode
array_lacking c = cond (is_some (hinted_element (store_of c) c.hint)) None (unless_default (slice_get (array_items c) 0))

abbrev pub is_long : ℕ → Option ℕ → Bool
is_long n None = false
is_long n (Some m) = nat_le n m

-- behind `...` the hint is an array of at least as many elements as there are items
abbrev pub dots_fit : Context → Bool
dots_fit c = cond (has_dots c) (is_long (length (array_items c)) (array_length (hint_base (store_of c) c.hint))) true

-- how many elements there are
abbrev pub array_count : Context → ℕ
array_count c = cond (has_dots c) (unwrap_or (array_length (hint_base (store_of c) c.hint)) 0) (length (array_items c))

abbrev pub is_empty_array : Context → Bool
is_empty_array c = is_none (hinted_element (store_of c) c.hint) && (length (array_items c) == 0)

abbrev pub array_type : Context → Option Ty
array_type c =
    cond (is_empty_array c) (Some ty.Empty) (typed_as
    (option_and_then (λ t. id_of (store_of c) (row.Array (array_count c) t)) (item_type c)))

-- ---- allocation

-- `alloc` with a capacity
abbrev pub has_capacity : Context → Bool
has_capacity c = is_there (kid c 1)

-- the type of the object that `alloc` of one operand makes
abbrev pub object_type : Context → Option ℕ
object_type c = default_in (store_of c) (seen (kid c 0))

abbrev pub refusable : Store → Option ℕ → Option Ty
refusable s o = typed_as (option_and_then (with_refusal s) o)

-- a pointer to the object or a slice of the elements, or the refusal of memory
abbrev pub alloc_type : Context → Option Ty
alloc_type c =
    cond (has_capacity c) (refusable (store_of c) (slice_of (store_of c) (element_in (base_row (store_of c) (seen (kid c 0))))))
    (refusable (store_of c) (pointer_to (store_of c) (object_type c)))

-- void, or the refusal of memory
abbrev pub append_type : Context → Option Ty
append_type c = refusable (store_of c) (word_id (store_of c) keyword.Void)

-- a pointer, that may be null or not, or a slice
abbrev pub is_freeable : Option Row → Bool
is_freeable r = is_address_row r || is_some (slice_element r)

-- an array, a slice or a str
abbrev pub is_counted : Option Row → Bool
is_counted r = is_some (element_in r) || is_word keyword.Str r

-- ---- deletion

abbrev pub is_part : Kind → Bool
is_part ki.Index = true
is_part ki.Slice = true
is_part _ = false

-- what is indexed or sliced by the operand of a deletion
abbrev pub deleted_from : Context → TypedNode
deleted_from c = kid_from_front 0 (kid c 0)

-- a pointer is followed from there, or what stands there is such a place
abbrev pub behind_pointer_or : Context → Bool → Bool
behind_pointer_or c b = is_pointer (store_of c) (seen (deleted_from c)) || b

abbrev pub is_member_access : Kind → Bool
is_member_access ki.Field = true
is_member_access _ = false
