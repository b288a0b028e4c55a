-- What stands over a node: the hint that it is given, the labels round it, and the number of its first binding. All of it is settled by the
-- parent, by the kids before the node, and by the node's own untyped tree.
use Rattle.std.specs.Prelude.{ℕ, zero, suc, ◌+◌, ◌-◌, Bool, true, false, cond, not, ◌||◌, nat_eq, List, [], ◌∷◌, ◌++◌, length, map, slice_get, Option, Some, None, is_some, option_and_then}
use Rattle.hare_tree.specs.declared.kind.Kind.{Kind}
use Rattle.hare_tree.specs.declared.kind.Kind.TheVariants as ki
use Rattle.hare_tree.specs.Node.{Head, Node, Nodes, branch, none, more, head}
use Rattle.hare_tree.specs.Levels.{is_type}
use Rattle.hare_types.specs.declared.coercion.Ty.TheVariants as ty
use Rattle.hare_types.specs.declared.row.Row.{Row}
use Rattle.hare_types.specs.declared.row.Scalar.{Scalar as Keyword}
use Rattle.hare_types.specs.declared.row.Scalar.TheVariants as keyword
use Rattle.hare_typed.specs.Typed.{TypedNode}
use Rattle.hare_typed.specs.Erased.{erase}
use Rattle.hare_typed.specs.Order.{tree_from_front}
use Rattle.hare_typed.specs.Bindings.{own_bindings, bindings_in}
use Rattle.hare_typed.specs.Copies.{is_defer}
use Rattle.hare_tree.specs.Shape.{is_none as is_left_out}
use Rattle.hare_rules.specs.declared.hint.Hint.{Hint}
use Rattle.hare_rules.specs.declared.hint.Hint.TheVariants as hint
use Rattle.hare_rules.specs.declared.inside.Target.{Target}
use Rattle.hare_rules.specs.declared.inside.Target.TheVariants as target
use Rattle.hare_rules.specs.Words.{id_in, word_id, default_in, nullable_pointee, array_element, allocation, with_refusal}
use Rattle.hare_typed.specs.Coercions.{element_of_slice as slice_element}
use Rattle.std.specs.Option.{option_or}
use Rattle.hare_typed.specs.Given.{base_row, pointee_in}
use Rattle.hare_rules.specs.Context.{Setting, Inside, Open, Role, Ordinary, Callee, Length, BindingType, CaseValue, DeclaredValue, is_there, own_type}
use Rattle.hare_typed.specs.Given.{given as seen}
use Rattle.hare_rules.specs.Aggregates.{callee, Signature, hinted_components, hinted_element, field_type, slice_of, pointer_to}
use Rattle.hare_rules.specs.Control.{block_meant, hint_of_open}

-- ---- what takes a hint

-- parts that are no expressions and no statements: nothing is asked of them
abbrev pub is_bare_part : Kind → Bool
is_bare_part ki.None = true
is_bare_part ki.TrailingComma = true
is_bare_part ki.Dots = true
is_bare_part ki.Message = true
is_bare_part ki.ByRef = true
is_bare_part ki.Name = true
is_bare_part ki.Export = true
is_bare_part ki.Params = true
is_bare_part ki.Param = true
is_bare_part ki.StructField = true
is_bare_part ki.Spread = true
is_bare_part ki.Binding = true
is_bare_part ki.PatternLet = true
is_bare_part ki.PatternNull = true
is_bare_part k = is_type k

abbrev pub unless_bare : Kind → Hint → Hint
unless_bare k h = cond (is_bare_part k) hint.None h

abbrev pub hint_to : Option ℕ → Hint
hint_to None = hint.None
hint_to (Some t) = hint.Of t

abbrev pub hint_word : Setting → Keyword → Hint
hint_word w k = hint_to (word_id w.store k)

abbrev pub hint_id : Hint → Option ℕ
hint_id (hint.Of t) = Some t
hint_id hint.Drop = None
hint_id hint.None = None

-- the type of a tree, where it has one
abbrev pub hint_seen : TypedNode → Hint
hint_seen x = hint_to (id_in (seen x))

-- ---- hints of single kinds

-- the first of the kids so far, and the last
abbrev pub first : List TypedNode → TypedNode
first = tree_from_front 0

abbrev pub param_at : Option Signature → ℕ → Option ℕ
param_at None i = None
param_at (Some f) i = option_and_then (λ o. o) (slice_get f.params i)

-- argument number i, where the callee has such a parameter
abbrev pub argument_hint : Setting → List TypedNode → ℕ → Hint
argument_hint w xs zero = hint.None
argument_hint w xs (suc i) = hint_to (param_at (callee w (first xs)) i)

-- a value of a struct literal has the type of the field with its name
abbrev pub field_hint : Setting → List TypedNode → Head → Hint
field_hint w [] k = hint.None
field_hint w (x ∷ xs) k = hint_to (field_type w.store (base_row w.store (own_type x)) k.text)

abbrev pub component_at : Option (List ℕ) → ℕ → Option ℕ
component_at None i = None
component_at (Some ts) i = slice_get ts i

-- an item of a tuple with so many kids, of which the last is the place of a comma
abbrev pub component_hint : Setting → Hint → (kids i : ℕ) → Hint
component_hint w h n i = hint_to (component_at (hinted_components w.store h (n - 1)) i)

-- an item of an array: the element of the hint, else, behind the first, the default of the first
abbrev pub item_hint_by : Setting → Option ℕ → List TypedNode → Hint
item_hint_by w (Some t) xs = hint.Of t
item_hint_by w None [] = hint.None
item_hint_by w None (x ∷ xs) = hint_to (default_in w.store (own_type x))

abbrev pub item_hint : Setting → Hint → List TypedNode → Hint
item_hint w h xs = item_hint_by w (hinted_element w.store h) xs

-- the type of which a hint asks an allocation
abbrev pub asked : Setting → Hint → Option ℕ
asked w h = option_and_then (allocation w.store) (hint_id h)

-- to what a pointer leads, that may be null or not
abbrev pub leads_to : Option Row → Option ℕ
leads_to r = option_or (pointee_in r) (nullable_pointee r)

-- the object that `alloc` of one operand is asked for
abbrev pub object_hint : Setting → Hint → Hint
object_hint w h = hint_to (option_and_then (λ t. leads_to (base_row w.store (ty.Of t))) (asked w h))

-- the operand of `alloc`: with a capacity, an array or slice
abbrev pub allocated_hint : Setting → Hint → (has_capacity : Bool) → Hint
allocated_hint w h true = hint_to (asked w h)
allocated_hint w h false = object_hint w h

-- ---- an allocation under `?` or `!`

abbrev pub allocates_by : Kind → Bool → Bool
allocates_by ki.Alloc inner = true
allocates_by ki.Paren inner = inner
allocates_by _ inner = false

abbrev mutual
  -- the tree is an allocation, in parentheses or not
  pub allocates : Node → Bool
  allocates (branch h ts) = allocates_by h.kind (first_allocates ts)

  pub first_allocates : Nodes → Bool
  first_allocates none = false
  first_allocates (more t ts) = allocates t

abbrev pub made_by : Setting → Option Row → Option ℕ
made_by w r = option_or (pointer_to w.store (leads_to r)) (slice_of w.store (option_or (slice_element r) (array_element r)))

-- what an allocation gives under a hint of this type, and the refusal of memory
abbrev pub refusable_hint : Setting → Option ℕ → Hint
refusable_hint w None = hint.None
refusable_hint w (Some t) = hint_to (option_and_then (with_refusal w.store) (made_by w (base_row w.store (ty.Of t))))

-- The operand of `?` or `!`: an allocation is asked for the union of what the hint asks for with the refusal of memory; nothing is asked of
-- anything else.
abbrev pub tried_hint : Setting → Hint → Node → Hint
tried_hint w h t = cond (allocates t) (refusable_hint w (asked w h)) hint.None

-- ---- bindings, branches, statements

-- the value of a binding: its written type, if there is one
abbrev pub written_hint : TypedNode → Hint
written_hint x = cond (is_there x) (hint_to (id_in (own_type x))) hint.None

abbrev pub is_binding : Kind → Bool
is_binding ki.Let = true
is_binding ki.Const = true
is_binding ki.Defer = true
is_binding _ = false

-- a statement of a block: its value is dropped
abbrev pub statement_hint : Kind → Hint
statement_hint k = cond (is_binding k) hint.None hint.Drop

abbrev pub declared_hint : List TypedNode → Hint
declared_hint (x ∷ y ∷ z ∷ xs) = written_hint z
declared_hint _ = hint.None

-- the first of the kids that are left
abbrev pub next_kind : Nodes → Kind
next_kind none = ki.None
next_kind (more t ts) = (head t).kind

-- the branch behind the condition: without an `else` its value is dropped
abbrev pub then_hint : Hint → Nodes → Hint
then_hint h rest = cond (is_left_out (next_kind rest)) hint.Drop h

abbrev pub element_hint : Setting → TypedNode → Hint
element_hint w x = hint_to (slice_element (base_row w.store (seen x)))

abbrev pub has_slice_base : Setting → TypedNode → Bool
has_slice_base w x = is_some (slice_element (base_row w.store (seen x)))

-- what is put behind a slice: an element, or, with `...`, a slice of the same type, its name kept; of what is no slice nothing is asked
abbrev pub appended_hint : Setting → TypedNode → Nodes → Hint
appended_hint w x rest =
    cond (has_slice_base w x) (cond (is_left_out (next_kind rest)) (element_hint w x) (hint_seen x)) hint.None

-- ---- the hint of each kid

-- How many trees stand in a tree, itself among them, and in some.
abbrev mutual
  pub trees_in : Node → ℕ
  trees_in (branch h ts) = suc (trees_in_each ts)

  pub trees_in_each : Nodes → ℕ
  trees_in_each none = 0
  trees_in_each (more t ts) = trees_in t + trees_in_each ts

abbrev pub count_of : Nodes → ℕ
count_of none = 0
count_of (more t ts) = suc (count_of ts)

abbrev pub by_place : ℕ → List Hint → Hint → Hint
by_place i [] h = h
by_place zero (g ∷ gs) h = g
by_place (suc i) (g ∷ gs) h = by_place i gs h

-- What a kid of a node is asked for: the node's kind and text, its own hint, what a Switch says of the values of its cases, the labels
-- round it and its result; the kids before; the kid, and the kids behind it.
abbrev pub hint_of : Setting → Head → Hint → Hint → List Open → (result : ℕ) → List TypedNode → Node → Nodes → Kind → Hint
hint_of w h own values labels result xs t rest ki.Paren = own
hint_of w h own values labels result xs t rest ki.FieldValue = own
hint_of w h own values labels result xs t rest ki.Values = own
hint_of w h own values labels result xs t rest ki.Logic = hint_word w keyword.Bool
hint_of w h own values labels result xs t rest ki.Assign = by_place (length xs) (hint.None ∷ hint_seen (first xs) ∷ []) hint.None
hint_of w h own values labels result xs t rest ki.Call = argument_hint w xs (length xs)
hint_of w h own values labels result xs t rest ki.Index = by_place (length xs) (hint.None ∷ []) (hint_word w keyword.Size)
hint_of w h own values labels result xs t rest ki.Slice = by_place (length xs) (hint.None ∷ []) (hint_word w keyword.Size)
hint_of w h own values labels result xs t rest ki.Try = tried_hint w own t
hint_of w h own values labels result xs t rest ki.Force = tried_hint w own t
hint_of w h own values labels result xs t rest ki.StructLit = field_hint w xs (head t)
hint_of w h own values labels result xs t rest ki.Tuple = component_hint w own (length xs + suc (count_of rest)) (length xs)
hint_of w h own values labels result xs t rest ki.Array = item_hint w own xs
hint_of w h own values labels result xs t rest ki.Alloc =
    by_place (length xs) (allocated_hint w own (not (is_left_out (next_kind rest))) ∷ []) (hint_word w keyword.Size)
hint_of w h own values labels result xs t rest ki.Append = by_place (length xs) (hint.None ∷ appended_hint w (first xs) rest ∷ []) hint.None
hint_of w h own values labels result xs t rest ki.Assert = hint_word w keyword.Bool
hint_of w h own values labels result xs t rest ki.Let = by_place (length xs) (hint.None ∷ written_hint (first xs) ∷ []) hint.None
hint_of w h own values labels result xs t rest ki.Const = by_place (length xs) (hint.None ∷ written_hint (first xs) ∷ []) hint.None
hint_of w h own values labels result xs t rest ki.Def = declared_hint xs
hint_of w h own values labels result xs t rest ki.GlobalLet = declared_hint xs
hint_of w h own values labels result xs t rest ki.GlobalConst = declared_hint xs
hint_of w h own values labels result xs t rest ki.Defer = hint.Drop
hint_of w h own values labels result xs t rest ki.If = by_place (length xs) (hint_word w keyword.Bool ∷ then_hint own rest ∷ []) own
hint_of w h own values labels result xs t rest ki.For = by_place (length xs) (hint.None ∷ hint_word w keyword.Bool ∷ []) hint.Drop
hint_of w h own values labels result xs t rest ki.ForEach = by_place (length xs) (hint.None ∷ hint.None ∷ []) hint.Drop
hint_of w h own values labels result xs t rest ki.Return = hint.Of result
hint_of w h own values labels result xs t rest ki.Yield = hint_of_open (block_meant h.text labels)
hint_of w h own values labels result xs t rest ki.Block = statement_hint (head t).kind
hint_of w h own values labels result xs t rest ki.Case = by_place (length xs) (hint.None ∷ []) (statement_hint (head t).kind)
hint_of w h own values labels result xs t rest ki.SwitchCase = by_place (length xs) (values ∷ []) (statement_hint (head t).kind)
hint_of w h own values labels result xs t rest ki.Match = by_place (length xs) (hint.None ∷ []) own
hint_of w h own values labels result xs t rest ki.Switch = by_place (length xs) (hint.None ∷ []) own
hint_of w h own values labels result xs t rest _ = hint.None

-- ---- all that stands over a node

pub record Above : Type 0 where
  pub hint : Hint
  pub values : Hint  -- what the values of the cases of the switch right above are asked for
  pub inside : Inside
  pub first : ℕ  -- the bindings of the declaration that begin before the node
  pub begins : ℕ  -- the nodes that are finished when the node begins

abbrev pub bindings_of : List TypedNode → ℕ
bindings_of [] = 0
bindings_of (x ∷ xs) = bindings_in x + bindings_of xs

abbrev pub trees_of : List TypedNode → ℕ
trees_of [] = 0
trees_of (x ∷ xs) = trees_in (erase x) + trees_of xs

-- ---- labels

-- the number that a node gets, of which these are the kids
abbrev pub number_above : Above → List TypedNode → Node → Nodes → ℕ
number_above a xs t rest = a.begins + trees_of xs + trees_in t + trees_in_each rest

abbrev pub opened : Above → Head → ℕ → Target → List Open
opened a h n target =
    a.inside.labels ++ record { target = target; name = h.text; node = n; deferred = a.inside.deferred; hint = a.hint } ∷ []

abbrev pub outside : Open → Open
outside l = record l { deferred = false }

-- The labels round a kid. A loop stands round all of its parts but the binding of a for-each, a case round its statements alone. Within
-- a deferred expression the labels from outside cannot be meant.
abbrev pub labels_by : Above → Head → ℕ → (place : ℕ) → Kind → List Open
labels_by a h n i ki.For = opened a h n target.Loop
labels_by a h n zero ki.ForEach = a.inside.labels
labels_by a h n (suc i) ki.ForEach = opened a h n target.Loop
labels_by a h n i ki.Block = opened a h n target.Block
labels_by a h n zero ki.Case = a.inside.labels
labels_by a h n (suc i) ki.Case = opened a h n target.Case
labels_by a h n zero ki.SwitchCase = a.inside.labels
labels_by a h n (suc i) ki.SwitchCase = opened a h n target.Case
labels_by a h n i ki.Defer = map outside a.inside.labels
labels_by a h n i _ = a.inside.labels

abbrev pub role_where : Bool → Role → Role
role_where true r = r
role_where false r = Ordinary

-- a kid of a declaration with a value: the written type stands behind `export` and the name, and the value behind that
abbrev pub declared_role : ℕ → Role
declared_role i = cond (nat_eq i 2) BindingType (role_where (nat_eq i 3) DeclaredValue)

-- what kid number i is to a node of this kind
abbrev pub role_of : Kind → (place : ℕ) → (own : Kind) → Role
role_of ki.Call i ki.Path = role_where (nat_eq i 0) Callee
role_of ki.Let i k = role_where (nat_eq i 0) BindingType
role_of ki.Const i k = role_where (nat_eq i 0) BindingType
role_of ki.Param i k = BindingType
role_of ki.PatternLet i k = BindingType
role_of ki.Def i k = declared_role i
role_of ki.GlobalLet i k = declared_role i
role_of ki.GlobalConst i k = declared_role i
role_of ki.Values i k = role_where (not (is_bare_part k)) CaseValue
role_of ki.TypeArray i k = role_where (nat_eq i 0) Length
role_of _ i k = Ordinary

abbrev pub inside_kid : Above → Head → List TypedNode → Node → Nodes → Inside
inside_kid a h xs t rest =
    record a.inside {
      labels = labels_by a h (number_above a xs t rest) (length xs) h.kind;
      deferred = a.inside.deferred || is_defer h.kind;
      body = false;
      role = role_of h.kind (length xs) (head t).kind;
    }

-- the values of a switch's cases are asked for the default of its operand
abbrev pub values_under : Setting → Above → Kind → List TypedNode → Hint
values_under w a ki.Switch (x ∷ xs) = hint_to (default_in w.store (own_type x))
values_under w a _ xs = hint.None

-- What stands over the next kid of a node: the node's own, its head, the kids before, the kid, and the kids behind it.
abbrev pub over_kid : Setting → Above → Head → List TypedNode → Node → Nodes → Above
over_kid w a h xs t rest =
    record {
      hint = unless_bare (head t).kind (hint_of w h a.hint a.values a.inside.labels a.inside.result xs t rest h.kind);
      values = values_under w a h.kind xs;
      inside = inside_kid a h xs t rest;
      first = a.first + own_bindings h.kind + bindings_of xs;
      begins = a.begins + trees_of xs;
    }
