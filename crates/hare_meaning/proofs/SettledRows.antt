-- Rows of settled trees: bodies in which each kind stands, and a program.
use Rattle.std.proofs.Common.{◌≡◌, ℕ, zero, suc, refl, pos, List, [], ◌∷◌, ◌++◌, codes, rules}
use Rattle.hare_tree.specs.declared.kind.Kind.TheVariants as kind
use Rattle.hare_typed.specs.Typed.{TypedNode}
use Rattle.hare_typed.specs.Cells.{byte_cells}
use Rattle.hare_typed.specs.Constants.{own_kind}
use Rattle.hare_meaning.specs.Code.{declaration}
use Rattle.hare_meaning.specs.Settled.{IsSettledFunction, IsSettledCode}
use Rattle.hare_meaning.proofs.Samples.{void, never, bool, str, rune, u8, int, size, bytes, pointer, nullable, slice, three_ints, slice_pointer, pair, pair_pointer, tuple, int_or_bool, int_or_failure, void_or_failure, new_int, new_ints}
use Rattle.hare_types.specs.declared.coercion.Ty.TheVariants as kept
use Rattle.hare_meaning.proofs.Trees.{of_type, known, sure, text, two, rt, node, to, absent, num, n8, yes, local, global, one, less, equal, index, part, field, type_node, array, set, set_by, bind, block, giving, labelled, later, when, either, loop, each, element, element_address, leave, again, hand, give, call, puts, function, program, plus, alloc, alloc_for, append, append_all, delete, free}

-- the function is settled that has this body, this parameter and this result
abbrev pub Settles : (parameter result : ℕ) → TypedNode → Type 0
Settles p r b = IsSettledFunction (program (function (p ∷ []) r b ∷ [])) 0

-- the same of a body of `main`, whose strings stand in it
abbrev pub SettlesMain : TypedNode → Type 0
SettlesMain b = IsSettledFunction (program (function [] void b ∷ [])) 0

-- the same of `main` with other declarations behind it
abbrev pub SettlesBefore : TypedNode → List TypedNode → Type 0
SettlesBefore b ds = IsSettledFunction (program (function [] void b ∷ ds)) 0

-- ---- values, paths and operators

nothing : SettlesMain (block [])
nothing = search rules

a_sum : Settles u8 u8 (giving u8 (bind (local 0 u8) ∷ hand (plus (local 1 u8) (n8 7)) ∷ []))
a_sum = search rules

a_text : SettlesMain (block (puts 0 (codes "a") ∷ []))
a_text = search rules

a_comparison : Settles u8 bool (giving bool (hand (less (codes "<") (local 0 u8) (n8 7)) ∷ []))
a_comparison = search rules

an_equality : Settles nullable bool (giving bool
    (hand (equal (local 0 nullable) (to 6 nullable (of_type kind.Null [] 0 kept.Null []))) ∷ []))
an_equality = search rules

a_cast : Settles u8 int (giving int (hand (node kind.Cast [] 0 int (local 0 u8 ∷ type_node int ∷ [])) ∷ []))
a_cast = search rules

-- a whole number without a suffix, at a site of type u8
a_number : Settles u8 u8 (to 3 u8 (of_type kind.Number [] 200 (kept.Iconst (pos 200)) []))
a_number = search rules

abbrev pub variable : TypedNode
variable = node kind.GlobalLet [] 0 void (absent ∷ absent ∷ absent ∷ known (byte_cells (5 ∷ [])) (n8 5) ∷ [])

a_global : SettlesBefore (block (set (global 1 u8) (n8 6) ∷ [])) (variable ∷ [])
a_global = search rules

a_def : SettlesBefore (block (bind (known (byte_cells (9 ∷ [])) (global 1 u8)) ∷ [])) (absent ∷ [])
a_def = search rules

-- ---- values with parts

an_array : SettlesMain (block (bind (array three_ints (num int 1 ∷ num int 2 ∷ num int 3 ∷ [])) ∷ []))
an_array = search rules

a_pair : SettlesMain (block (bind (node kind.Tuple [] 0 tuple (n8 1 ∷ num int 2 ∷ absent ∷ [])) ∷ []))
a_pair = search rules

-- ---- places

an_element : Settles slice int (giving int (hand (index int (local 0 slice) (num size 0)) ∷ []))
an_element = search rules

behind_a_pointer : Settles slice_pointer int (giving int (hand (index int (local 0 slice_pointer) (num size 0)) ∷ []))
behind_a_pointer = search rules

a_part : Settles slice void (block (bind (part slice (local 0 slice) absent (num size 2)) ∷ []))
a_part = search rules

a_field : Settles pair_pointer int (giving int (hand (field int (codes "b") (local 0 pair_pointer)) ∷ []))
a_field = search rules

an_address : Settles int void (block (bind (one kind.Addr pointer (local 0 int))
    ∷ set (one kind.Deref int (local 1 pointer)) (num int 3) ∷ []))
an_address = search rules

by_an_operator : Settles u8 void (block (set_by (codes "<<=") (local 0 u8) (num size 3) ∷ set_by (codes "+=") (local 0 u8) (n8 3) ∷ []))
by_an_operator = search rules

-- ---- members of unions

a_member : Settles u8 int_or_bool (giving int_or_bool (hand (to 9 int_or_bool (num int 1)) ∷ []))
a_member = search rules

as_a_member : Settles int_or_bool int (giving int (hand (node kind.As [] 0 int (local 0 int_or_bool ∷ type_node int ∷ [])) ∷ []))
as_a_member = search rules

is_a_pointer : Settles nullable bool (giving bool (hand (node kind.Is [] 0 bool (local 0 nullable ∷ type_node pointer ∷ [])) ∷ []))
is_a_pointer = search rules

-- ---- the heap

one_object : Settles int void (block (bind (alloc new_int (local 0 int)) ∷ bind (alloc_for new_ints (array three_ints (num int 1 ∷ num int 2
    ∷ num int 3 ∷ [])) 8) ∷ []))
one_object = search rules

and_given_back : Settles slice void (block (bind (append (local 0 slice) (num int 1)) ∷ bind (append_all (local 0 slice) (local 0 slice))
    ∷ delete (index int (local 0 slice) (num size 0)) ∷ free (local 0 slice) ∷ []))
and_given_back = search rules

-- ---- control

branches : Settles bool u8 (giving u8 (hand (either u8 (local 0 bool) (n8 1) (n8 2)) ∷ when (local 0 bool) (block []) absent ∷ []))
branches = search rules

a_loop : Settles bool void (block (loop (bind (n8 1)) (less (codes "<") (local 1 u8) (n8 9)) (set (local 1 u8) (n8 9))
    (block (leave ∷ again ∷ []))
    ∷ []))
a_loop = search rules

over_elements : Settles slice void (block (each element (local 0 slice) (block (set (local 1 int) (num int 1) ∷ again ∷ [])) ∷ []))
over_elements = search rules

over_addresses : Settles slice void (block (each element_address (local 0 slice) (block (bind (local 1 pointer) ∷ [])) ∷ []))
over_addresses = search rules

a_labelled_yield : Settles u8 u8
    (labelled (codes "a") (giving u8 (giving u8 (labelled (codes "a") (hand (n8 7)) ∷ []) ∷ hand (n8 8) ∷ [])))
a_labelled_yield = search rules

a_return : Settles u8 u8 (to 2 u8 (node kind.Block [] 0 never (give (local 0 u8) ∷ [])))
a_return = search rules

deferred : Settles u8 void (block (later (loop absent yes absent (block (leave ∷ []))) ∷ later (puts 0 (codes "a")) ∷ []))
deferred = search rules

a_call : SettlesBefore (block (bind (call 1 u8 (n8 1 ∷ [])) ∷ [])) (function (u8 ∷ []) u8 (giving u8 (hand (local 0 u8) ∷ [])) ∷ [])
a_call = search rules

errors_leave : Settles void_or_failure void_or_failure
    (giving void_or_failure (one kind.Try void (local 0 void_or_failure) ∷ []))
errors_leave = search rules

abbrev pub case : TypedNode → List TypedNode → TypedNode
case p ts = node kind.Case [] 0 void (p ∷ ts)

abbrev pub binds_int : TypedNode
binds_int = node kind.PatternLet [] 0 void (type_node int ∷ [])

-- `match (x) { case let i: int => i = 1; case bool => x = x; }`
abbrev pub by_member : List TypedNode → TypedNode
by_member ts = node kind.Match [] 0 void (local 0 int_or_bool ∷ ts)

a_match : Settles int_or_bool void (block (by_member (case binds_int (set (local 1 int) (num int 1) ∷ [])
    ∷ case (type_node bool) (set (local 0 int_or_bool) (local 0 int_or_bool) ∷ []) ∷ []) ∷ []))
a_match = search rules

abbrev pub byte_value : ℕ → TypedNode
byte_value n = known (byte_cells (n ∷ [])) (n8 n)

abbrev pub switch_case : TypedNode → List TypedNode → TypedNode
switch_case vs ts = node kind.SwitchCase [] 0 void (vs ∷ ts)

abbrev pub values : List TypedNode → TypedNode
values vs = node kind.Values [] 0 void (vs ++ absent ∷ [])

a_switch : Settles u8 void (block (node kind.Switch [] 0 void (local 0 u8 ∷ switch_case (values (byte_value 1 ∷ byte_value 2 ∷ [])) []
    ∷ switch_case absent [] ∷ []) ∷ []))
a_switch = search rules

a_struct : Settles u8 void (block (bind (node kind.StructLit [] 0 pair (node kind.TypePath [] 0 pair []
    ∷ node kind.FieldValue (codes "b") 0 void (num int 2 ∷ [])
    ∷ node kind.FieldValue (codes "a") 0 void (n8 1 ∷ []) ∷ absent ∷ [])) ∷ []))
a_struct = search rules

a_sure_value : Settles int_or_failure int (giving int (hand (sure int (local 0 int_or_failure)) ∷ []))
a_sure_value = search rules

-- ---- the other kinds

a_rune : SettlesMain (block (node kind.RuneLit [] 65 rune [] ∷ node kind.Void [] 0 void [] ∷ []))
a_rune = search rules

in_parentheses : Settles u8 u8 (giving u8 (set (one kind.Paren u8 (local 0 u8)) (n8 1) ∷ hand (one kind.Paren u8 (local 0 u8)) ∷ []))
in_parentheses = search rules

-- in parentheses a value goes to its site, and what they give stays
to_a_site_in_parentheses : Settles int int_or_bool
    (giving int_or_bool (hand (one kind.Paren int_or_bool (to 9 int_or_bool (local 0 int))) ∷ []))
to_a_site_in_parentheses = search rules

signs : Settles u8 u8 (giving u8 (hand (one kind.Neg u8 (one kind.Not u8 (local 0 u8))) ∷ []))
signs = search rules

a_negation : Settles bool bool (giving bool (hand (one kind.Bang bool (two kind.Logic (codes "^^") bool (local 0 bool) yes)) ∷ []))
a_negation = search rules

a_shift : Settles u8 u8 (giving u8 (hand (two kind.Shift (codes ">>") u8 (local 0 u8) (num size 3)) ∷ []))
a_shift = search rules

-- a whole number without a suffix
abbrev whole : ℕ → TypedNode
whole n = of_type kind.Number [] n (kept.Iconst (pos n)) []

sum_without_a_type : Settles u8 u8 (to 3 u8 (of_type kind.Arith (codes "+") 0 (kept.Iconst (pos 5)) (whole 2 ∷ whole 3 ∷ [])))
sum_without_a_type = search rules

sizes : Settles pair void (block (bind (one kind.Size size (type_node pair)) ∷ bind (one kind.Align size (type_node pair))
    ∷ bind (one kind.Offset size (field int (codes "b") (local 0 pair))) ∷ []))
sizes = search rules

lengths : Settles slice void (block (bind (one kind.Len size (local 0 slice)) ∷ bind (one kind.Len size (text 0 (codes "abc"))) ∷ []))
lengths = search rules

the_last_again : SettlesMain (block (bind (node kind.Array [] 0 three_ints (num int 1 ∷ node kind.Dots [] 0 void [] ∷ absent ∷ [])) ∷ []))
the_last_again = search rules

no_items : SettlesMain (block (bind (to 7 slice (of_type kind.Array [] 0 kept.Empty (absent ∷ absent ∷ []))) ∷ []))
no_items = search rules

an_array_as_a_slice : Settles three_ints void (block (bind (to 7 slice (local 0 three_ints)) ∷ []))
an_array_as_a_slice = search rules

calls_of_the_runtime : Settles bytes void (block (rt 1 void (local 0 bytes ∷ []) ∷ bind (rt 2 size (local 0 bytes ∷ []))
    ∷ bind (rt 3 bytes (text 0 (codes "ab") ∷ [])) ∷ bind (rt 5 str (rt 4 size [] ∷ [])) ∷ rt 6 never (n8 1 ∷ []) ∷ []))
calls_of_the_runtime = search rules

constant_and_assertion : Settles bool void (block (node kind.Const [] 0 void (absent ∷ n8 1 ∷ [])
    ∷ node kind.Assert [] 0 void (local 0 bool ∷ node kind.Message (codes "no") 0 void [] ∷ []) ∷ []))
constant_and_assertion = search rules

-- behind an abort no end is reached
an_abort : Settles u8 u8 (to 2 u8 (node kind.Block [] 0 never (node kind.Abort [] 0 never (absent ∷ []) ∷ [])))
an_abort = search rules

-- nor behind a loop that no `break` leaves; one of a loop within it does not
endless : Settles u8 u8 (to 2 u8 (node kind.Block [] 0 never (node kind.For [] 0 never (absent ∷ yes ∷ absent
    ∷ block (loop absent yes absent (block (leave ∷ [])) ∷ []) ∷ []) ∷ [])))
endless = search rules

by_a_pointer : Settles nullable void (block (node kind.Match [] 0 void (local 0 nullable ∷ case (node kind.PatternNull [] 0 void []) []
    ∷ case (node kind.PatternLet [] 0 void (type_node pointer ∷ [])) (set (one kind.Deref int (local 1 pointer)) (num int 1)
    ∷ []) ∷ []) ∷ []))
by_a_pointer = search rules

-- ---- a program

-- with a text, and a global that it sets
abbrev whole_program : List TypedNode
whole_program = function [] void (block (puts 0 (codes "a") ∷ set (global 1 u8) (n8 6) ∷ [])) ∷ variable ∷ []

settled_program : IsSettledCode (program whole_program)
settled_program = record { functions = each_function; statics = search rules; entry = refl; no_parameters = refl; no_result = refl }
  where
    each_function : (d : ℕ) → own_kind (declaration whole_program d) ≡ kind.Fn → IsSettledFunction (program whole_program) d
    each_function zero e = search rules
    each_function (suc zero) e = cc
    each_function (suc (suc d)) e = cc
