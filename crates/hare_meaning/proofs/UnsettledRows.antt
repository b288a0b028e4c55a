-- Rows of trees that are not settled: each body has one node of which something else is asked than it has.
use Rattle.std.proofs.Common.{◌≤◌, arith as numbers, ◌⊎◌, inl, inr, ℕ, pos, List, [], ◌∷◌, ◌++◌, codes}
use Rattle.hare_tree.specs.declared.kind.Kind.TheVariants as kind
use Rattle.hare_types.specs.declared.row.Row.TheVariants as row
use Rattle.hare_types.specs.declared.coercion.Ty.TheVariants as kept
use Rattle.hare_typed.specs.Typed.{TypedNode}
use Rattle.hare_typed.specs.Cells.{byte_cells}
use Rattle.hare_meaning.specs.Code.{Code}
use Rattle.hare_meaning.specs.Settled.{IsSettledFunction}
use Rattle.hare_meaning.proofs.Samples.{types, void, never, bool, u8, int, size, pointer, nullable, slice, three_ints, bytes, pair, tuple, int_or_bool, void_or_failure, new_int, never_pointer}
use Rattle.hare_meaning.proofs.Trees.{of_type, known, labelled, rt, node, to, absent, num, n8, yes, local, global, one, two, arith, less, equal, index, part, field, type_node, array, set, set_by, bind, block, giving, later, when, either, loop, each, element, leave, again, hand, give, call, puts, function, program, plus, alloc, append, delete, free}
use Rattle.hare_meaning.proofs.SettledRows.{Settles, SettlesMain, SettlesBefore, case, binds_int, by_member, byte_value, switch_case, values}

neither : {A B : Type 0} → (A → ⊥) → (B → ⊥) → A ⊎ B → ⊥
neither f g (inl a) = f a
neither f g (inr b) = g b

-- ---- kids

-- a value that is left out, a type in its place, and what only a case, a literal or a block may hold
value_left_out : SettlesMain (block (bind (of_type kind.None [] 0 (kept.Of u8) []) ∷ [])) → ⊥
value_left_out s = let e = s.body.3.0.2 in cc

type_for_a_value : SettlesMain (block (bind (type_node u8) ∷ [])) → ⊥
type_for_a_value s = let e = s.body.3.0.2 in cc

field_for_a_value : SettlesMain (block (bind (node kind.FieldValue (codes "a") 0 u8 (num int 1 ∷ [])) ∷ [])) → ⊥
field_for_a_value s = let e = s.body.3.0.2 in cc

binding_for_a_value : SettlesMain (block (when yes (bind (n8 1)) absent ∷ [])) → ⊥
binding_for_a_value s = let e = s.body.3.0.2 in cc

deferred_in_a_branch : SettlesMain (block (when yes (later (puts 0 (codes "a"))) absent ∷ [])) → ⊥
deferred_in_a_branch s = let e = s.body.3.0.2 in cc

no_kid : Settles u8 void (block (node kind.Assign [] 0 void (local 0 u8 ∷ []) ∷ [])) → ⊥
no_kid s = let e = s.body.3.0.2 in cc

another_kid : Settles u8 void (block (set (local 0 u8) (n8 1) ∷ node kind.Assign [] 0 void (local 0 u8 ∷ n8 1 ∷ n8 2 ∷ []) ∷ [])) → ⊥
another_kid s = let e = s.body.3.1.0.2 in cc

no_operator : Settles u8 u8 (giving u8 (hand (arith (codes "?") u8 (local 0 u8) (n8 1)) ∷ [])) → ⊥
no_operator s = let e = s.body.3.0.3.0.2 in cc

-- the parts of what is deleted
index_left_out : Settles slice void (block (delete (index int (local 0 slice) (of_type kind.None [] 0 (kept.Of size) [])) ∷ [])) → ⊥
index_left_out s = let e = s.body.3.0.1.form in cc

no_body : SettlesMain absent → ⊥
no_body s = let e = s.expression in cc

-- ---- types

-- the types of the worked programs, and behind them an array that is too large
abbrev large : ℕ
large = 35

abbrev with_large : List TypedNode → Code
with_large ds = record (program ds) { types = record types { rows = types.rows ++ row.Array 67108865 4 ∷ [] } }

too_large : IsSettledFunction (with_large (function (large ∷ []) void (block []) ∷ [])) 0 → ⊥
too_large s = let e : 67108865 ≤ 67108864 = s.parameters.0.small in absurd (omega (numbers, e))

no_such_type : Settles 99 void (block []) → ⊥
no_such_type s = let e = s.parameters.0.base in cc

parameter_without_a_size : Settles never void (block []) → ⊥
parameter_without_a_size s = let e = s.sized.0 in cc

-- no member of a union has a tag
abbrev without_tags : List TypedNode → Code
without_tags ds = record (program ds) { types = record types { listed = [] } }

without_a_tag : IsSettledFunction (without_tags (function (int_or_bool ∷ []) void (block (local 0 int_or_bool ∷ [])) ∷ [])) 0 → ⊥
without_a_tag s = s.body.3.0.0.own_listed.0

behind_a_pointer_to_never : Settles never_pointer void (block (one kind.Deref never (local 0 never_pointer) ∷ [])) → ⊥
behind_a_pointer_to_never s = let e = s.body.3.0.1.sized in cc

a_wrong_row : Settles u8 int (to 3 int (local 0 u8)) → ⊥
a_wrong_row s = let e = s.body.0.joined in cc

another_result : Settles u8 int (local 0 u8) → ⊥
another_result s = let e = s.gives in cc

-- ---- literals and paths

number_that_does_not_fit : Settles u8 u8 (num u8 256) → ⊥
number_that_does_not_fit s = let e = s.body.1.fits in cc

no_such_local : Settles u8 u8 (giving u8 (hand (local 1 u8) ∷ [])) → ⊥
no_such_local s = s.body.3.0.3.0.1.meant.0

local_of_another_type : Settles u8 int (local 0 int) → ⊥
local_of_another_type s = let e = s.body.1.meant.0 in cc

behind_its_block : SettlesMain (block (block (bind (n8 1) ∷ []) ∷ bind (local 0 u8) ∷ [])) → ⊥
behind_its_block s = s.body.3.1.0.3.1.0.1.meant.0

behind_its_case :
    Settles int_or_bool void (block (by_member (case binds_int [] ∷ case (type_node bool) (bind (local 1 int) ∷ []) ∷ []) ∷ [])) → ⊥
behind_its_case s = s.body.3.0.3.1.1.0.3.1.0.3.1.0.1.meant.0

behind_its_loop : Settles slice void (block (each element (local 0 slice) (block []) ∷ bind (local 1 int) ∷ [])) → ⊥
behind_its_loop s = s.body.3.1.0.3.1.0.1.meant.0

before_its_binding : SettlesMain (block (bind (local 0 u8) ∷ [])) → ⊥
before_its_binding s = s.body.3.0.3.1.0.1.meant.0

-- a local has no constant
local_with_a_constant : Settles u8 u8 (known (byte_cells (1 ∷ [])) (local 0 u8)) → ⊥
local_with_a_constant s = let e = s.body.1.meant.1 in cc

no_such_global : SettlesMain (block (global 1 u8 ∷ [])) → ⊥
no_such_global s = let e = s.body.3.0.1.meant.kind in cc

-- a constant whose cells are no bool
constant_of_no_value : SettlesBefore (block (known (byte_cells (2 ∷ [])) (global 1 bool) ∷ [])) (absent ∷ []) → ⊥
constant_of_no_value s = let e = s.body.3.0.1.meant.spelled in cc

constant_of_another_size : SettlesBefore (block (known (byte_cells (1 ∷ 2 ∷ [])) (global 1 u8) ∷ [])) (absent ∷ []) → ⊥
constant_of_another_size s = let e = s.body.3.0.1.meant.whole in cc

-- where no string stands from the start
text_of_no_object : IsSettledFunction (record (program (function [] void (block (puts 0 (codes "a") ∷ [])) ∷ [])) { statics = [] }) 0 → ⊥
text_of_no_object s = let e = s.body.3.0.3.1.0.1.stands in cc

-- ---- operators

sum_of_bools : Settles bool bool (giving bool (hand (arith (codes "+") bool (local 0 bool) yes) ∷ [])) → ⊥
sum_of_bools s = neither (λ e. let f = e.0 in cc) (λ e. let f = e.1 in cc) s.body.3.0.3.0.1.left

sum_of_two_types : Settles u8 u8 (giving u8 (hand (plus (local 0 u8) (num int 1)) ∷ [])) → ⊥
sum_of_two_types s = neither (λ e. let f = e.0 in cc) (λ e. let f = e.0 in cc) s.body.3.0.3.0.1.right

shift_by_a_bool : Settles u8 u8 (giving u8 (hand (two kind.Shift (codes "<<") u8 (local 0 u8) yes) ∷ [])) → ⊥
shift_by_a_bool s = let e = s.body.3.0.3.0.1.right in cc

order_of_bools : Settles bool bool (giving bool (hand (less (codes "<") (local 0 bool) yes) ∷ [])) → ⊥
order_of_bools s = neither (λ e. let f = e.0 in cc) (λ e. let f = e.1 in cc) s.body.3.0.3.0.1.ordered

equality_of_slices : Settles slice bool (giving bool (hand (equal (local 0 slice) (local 0 slice)) ∷ [])) → ⊥
equality_of_slices s =
    neither (λ e. neither (λ f. let g = f.0 in cc) (λ f. let g = f.1 in cc) e) (λ e. let f = e.1 in cc) s.body.3.0.3.0.1.equal

logic_of_numbers : Settles u8 bool (giving bool (hand (two kind.Logic (codes "&&") bool yes (local 0 u8)) ∷ [])) → ⊥
logic_of_numbers s = let e = s.body.3.0.3.0.1.right in cc

cast_of_a_slice : Settles slice int (giving int (hand (node kind.Cast [] 0 int (local 0 slice ∷ type_node int ∷ [])) ∷ [])) → ⊥
cast_of_a_slice s =
    neither (λ e. cc) (λ e. neither (λ f. let g = f.1 in cc) (λ f. let g = f.0 in cc) e) s.body.3.0.3.0.1.from

size_of_never : SettlesMain (block (one kind.Size size (type_node never) ∷ [])) → ⊥
size_of_never s = let e = s.body.3.0.1.sized in cc

length_of_a_number : Settles u8 void (block (one kind.Len size (local 0 u8) ∷ [])) → ⊥
length_of_a_number s = neither (λ e. cc) (λ e. cc) s.body.3.0.1.counted

-- ---- values with parts

too_few_items : SettlesMain (block (array three_ints (num int 1 ∷ num int 2 ∷ []) ∷ [])) → ⊥
too_few_items s = let e = s.body.3.0.1.items.0 in cc

item_of_another_type : SettlesMain (block (array three_ints (num int 1 ∷ n8 2 ∷ num int 3 ∷ []) ∷ [])) → ⊥
item_of_another_type s = let e = s.body.3.0.1.items.1.1.0 in cc

abbrev given_twice : TypedNode
given_twice =
    node kind.StructLit [] 0 pair (node kind.TypePath [] 0 pair [] ∷ node kind.FieldValue (codes "a") 0 void (n8 1 ∷ [])
    ∷ node kind.FieldValue (codes "a") 0 void (n8 1 ∷ []) ∷ absent ∷ [])

field_given_twice : SettlesMain (block (given_twice ∷ [])) → ⊥
field_given_twice s = let e = s.body.3.0.1.once.1 in cc

component_of_another_type : SettlesMain (block (node kind.Tuple [] 0 tuple (n8 1 ∷ n8 2 ∷ absent ∷ []) ∷ [])) → ⊥
component_of_another_type s = let e = s.body.3.0.1.typed in cc

-- ---- calls

too_few_arguments : SettlesBefore (block (call 1 u8 [] ∷ [])) (function (u8 ∷ []) u8 (local 0 u8) ∷ []) → ⊥
too_few_arguments s = let e = s.body.3.0.1.called.arguments in cc

argument_of_another_type : SettlesBefore (block (call 1 u8 (num int 1 ∷ []) ∷ [])) (function (u8 ∷ []) u8 (local 0 u8) ∷ []) → ⊥
argument_of_another_type s = let e = s.body.3.0.1.called.arguments in cc

call_of_no_function : SettlesMain (block (call 1 void [] ∷ [])) → ⊥
call_of_no_function s = let e = s.body.3.0.1.called.function in cc

bytes_as_a_text : Settles bytes void (block (rt 0 void (local 0 bytes ∷ []) ∷ [])) → ⊥
bytes_as_a_text s = let e = s.body.3.0.1.called.1 in cc

-- ---- places

set_no_place : SettlesMain (block (set (n8 1) (n8 2) ∷ [])) → ⊥
set_no_place s = let e = s.body.3.0.1.place.by_form in cc

set_to_another_type : Settles u8 void (block (set (local 0 u8) (num int 2) ∷ [])) → ⊥
set_to_another_type s = let e = s.body.3.0.1.same in cc

-- a place of an int, as one of a union
abbrev as_a_union : TypedNode
as_a_union = to 9 int_or_bool (local 0 int)

place_at_a_site : Settles int void (block (set as_a_union (to 9 int_or_bool (num int 1)) ∷ [])) → ⊥
place_at_a_site s = let e = s.body.3.0.1.place.stays in cc

place_in_parentheses_at_a_site :
    Settles int void (block (set (one kind.Paren int_or_bool as_a_union) (to 9 int_or_bool (num int 1)) ∷ [])) → ⊥
place_in_parentheses_at_a_site s = let e = s.body.3.0.1.place.stays in cc

address_of_no_place : SettlesMain (block (one kind.Addr pointer (num int 1) ∷ [])) → ⊥
address_of_no_place s = let e = s.body.3.0.1.place.by_form in cc

operated_on_a_bool : Settles bool void (block (set_by (codes "+=") (local 0 bool) yes ∷ [])) → ⊥
operated_on_a_bool s = let e = s.body.3.0.1.number in cc

through_a_number : Settles u8 void (block (one kind.Deref u8 (local 0 u8) ∷ [])) → ⊥
through_a_number s = let e = s.body.3.0.1.pointee in cc

through_null : Settles nullable void (block (one kind.Deref int (local 0 nullable) ∷ [])) → ⊥
through_null s = let e = s.body.3.0.1.pointee in cc

element_of_a_number : Settles u8 void (block (index u8 (local 0 u8) (num size 0) ∷ [])) → ⊥
element_of_a_number s = s.body.3.0.1.values

index_of_another_type : Settles slice void (block (index int (local 0 slice) (num int 0) ∷ [])) → ⊥
index_of_another_type s = let e = s.body.3.0.1.index in cc

bound_of_another_type : Settles slice void (block (part slice (local 0 slice) (num int 0) absent ∷ [])) → ⊥
bound_of_another_type s = let e = s.body.3.0.1.lower in cc

part_of_another_type : Settles pair void (block (field u8 (codes "b") (local 0 pair) ∷ [])) → ⊥
part_of_another_type s = let e = s.body.3.0.1.part in cc

binding_without_a_size : SettlesMain (block (bind (of_type kind.Number [] 5 (kept.Iconst (pos 5)) []) ∷ [])) → ⊥
binding_without_a_size s = let e = s.body.3.0.1.sized in cc

-- ---- members

as_no_member : Settles int_or_bool void (block (node kind.As [] 0 u8 (local 0 int_or_bool ∷ type_node u8 ∷ []) ∷ [])) → ⊥
as_no_member s = let e = s.body.3.0.1.member in cc

is_of_no_union : Settles int void (block (node kind.Is [] 0 bool (local 0 int ∷ type_node int ∷ []) ∷ [])) → ⊥
is_of_no_union s = let e = s.body.3.0.1.member in cc

-- the function gives nothing to which an error could be assigned
error_that_is_not_returned : Settles void_or_failure u8 (to 2 u8 (node kind.Block [] 0 never (one kind.Try void (local 0 void_or_failure)
    ∷ give (n8 1) ∷ []))) → ⊥
error_that_is_not_returned s = let e = s.body.3.0.1.returned.0 in cc

error_in_a_deferred_expression : Settles void_or_failure void_or_failure
    (to 9 void_or_failure (giving void (later (one kind.Try void (local 0 void_or_failure))
    ∷ []))) → ⊥
error_in_a_deferred_expression s = s.body.3.0.3.0.1.returned

-- ---- the heap

pointer_of_another_type : SettlesMain (block (alloc new_int (n8 1) ∷ [])) → ⊥
pointer_of_another_type s = let e = s.body.3.0.1.of.object in cc

free_of_a_number : Settles u8 void (block (free (local 0 u8) ∷ [])) → ⊥
free_of_a_number s = neither (λ e. cc) (λ e. cc) s.body.3.0.1.freed

element_of_another_type : Settles slice void (block (append (local 0 slice) (n8 1) ∷ [])) → ⊥
element_of_another_type s = let e = s.body.3.0.1.value in cc

appended_to_an_array : Settles three_ints void (block (append (local 0 three_ints) (num int 1) ∷ [])) → ⊥
appended_to_an_array s = s.body.3.0.1.values

deleted_from_an_array : Settles three_ints void (block (delete (index int (local 0 three_ints) (num size 0)) ∷ [])) → ⊥
deleted_from_an_array s = let e = s.body.3.0.1.sequence in cc

delete_of_no_part : Settles slice void (block (delete (local 0 slice) ∷ [])) → ⊥
delete_of_no_part s = s.body.3.0.1.part

-- ---- branches and loops

condition_of_another_type : Settles u8 void (block (when (local 0 u8) (block []) absent ∷ [])) → ⊥
condition_of_another_type s = let e = s.body.3.0.1.bool in cc

branch_of_another_type : Settles bool u8 (giving u8 (hand (either u8 (local 0 bool) (n8 1) (num int 2)) ∷ [])) → ⊥
branch_of_another_type s = neither (λ e. cc) (λ e. cc) s.body.3.0.3.0.1.second

value_without_an_else : Settles bool u8 (giving u8 (hand (either u8 (local 0 bool) (n8 1) absent) ∷ [])) → ⊥
value_without_an_else s = let e = s.body.3.0.3.0.1.second in cc

abbrev endless : TypedNode → List TypedNode → TypedNode
endless c ts = node kind.For [] 0 never (absent ∷ c ∷ absent ∷ block ts ∷ [])

-- a loop of type never that its condition ends, and one that a `break` leaves
endless_by_a_condition : Settles bool void (block (endless (local 0 bool) [] ∷ [])) → ⊥
endless_by_a_condition s = neither (λ e. cc) (λ e. let f = e.1 in cc) s.body.3.0.1.gives

endless_with_a_break : SettlesMain (block (endless yes (leave ∷ []) ∷ [])) → ⊥
endless_with_a_break s = let e = s.body.3.0.3.1.1.1.0.3.0.1.target in cc

over_a_number : Settles u8 void (block (each element (local 0 u8) (block []) ∷ [])) → ⊥
over_a_number s = s.body.3.0.1.values

-- ---- jumps

outside_a_loop : SettlesMain (block (leave ∷ [])) → ⊥
outside_a_loop s = s.body.3.0.1.target

continue_outside_a_loop : SettlesMain (block (again ∷ [])) → ⊥
continue_outside_a_loop s = let e = s.body.3.0.1.target in cc

to_another_label : SettlesMain (block (labelled (codes "a") (loop absent yes absent (labelled (codes "b") leave)) ∷ [])) → ⊥
to_another_label s = s.body.3.0.3.1.1.1.0.1.target

out_of_a_deferred_expression : SettlesMain (block (loop absent yes absent (block (later leave ∷ [])) ∷ [])) → ⊥
out_of_a_deferred_expression s = s.body.3.0.3.1.1.1.0.3.0.3.0.1.target

to_no_block : SettlesMain (block (labelled (codes "a") (hand absent) ∷ [])) → ⊥
to_no_block s = s.body.3.0.1.target

to_a_loop : SettlesMain (block (labelled (codes "a") (loop absent yes absent (labelled (codes "a") (hand absent))) ∷ [])) → ⊥
to_a_loop s = s.body.3.0.3.1.1.1.0.1.target

deferred_yield : SettlesMain (block (later (hand absent) ∷ [])) → ⊥
deferred_yield s = s.body.3.0.3.0.1.target

yield_of_another_type : Settles u8 u8 (giving u8 (hand (num int 1) ∷ [])) → ⊥
yield_of_another_type s = neither (λ e. cc) (λ e. cc) s.body.3.0.1.target

yield_without_a_value : Settles u8 u8 (giving u8 (hand absent ∷ [])) → ⊥
yield_without_a_value s = let e = s.body.3.0.1.target in cc

abbrev returns : TypedNode → TypedNode
returns v = to 2 u8 (node kind.Block [] 0 never (give v ∷ []))

return_of_another_type : Settles u8 u8 (returns (num int 1)) → ⊥
return_of_another_type s = let e = s.body.3.0.1.result in cc

return_without_a_value : Settles u8 u8 (returns absent) → ⊥
return_without_a_value s = let e = s.body.3.0.1.result in cc

a_deferred_return : SettlesMain (block (later (give absent) ∷ [])) → ⊥
a_deferred_return s = s.body.3.0.3.0.1.result

end_without_a_value : Settles u8 u8 (giving u8 []) → ⊥
end_without_a_value s = neither (λ e. cc) (λ e. cc) s.body.1.ends

-- ---- cases

match_of_a_number : Settles int void (block (node kind.Match [] 0 void (local 0 int ∷ case absent [] ∷ []) ∷ [])) → ⊥
match_of_a_number s = neither (λ e. cc) (λ e. cc) s.body.3.0.1.tagged

pattern_of_no_member : Settles int_or_bool void (block (by_member (case (type_node u8) [] ∷ case absent [] ∷ []) ∷ [])) → ⊥
pattern_of_no_member s = let e = s.body.3.0.1.patterns.0 in cc

no_case : Settles int_or_bool void (block (by_member (case (type_node bool) [] ∷ []) ∷ [])) → ⊥
no_case s = let e = s.body.3.0.1.covered in cc

abbrev by_value : ℕ → List TypedNode → TypedNode
by_value t ts = node kind.Switch [] 0 void (local 0 t ∷ ts)

value_of_another_type :
    Settles int void (block (by_value int (switch_case (values (byte_value 1 ∷ [])) [] ∷ switch_case absent [] ∷ []) ∷ [])) → ⊥
value_of_another_type s = let e = s.body.3.0.1.values.0.0.same in cc

switch_of_a_slice : Settles slice void (block (by_value slice (switch_case absent [] ∷ []) ∷ [])) → ⊥
switch_of_a_slice s = let e = s.body.3.0.1.scalar in cc
