-- Of each kind a small program, with its outcome, its output and its ticks at a number of turns.
use Rattle.std.proofs.Common.{◌≡◌, ℕ, List, [], ◌∷◌, ◌++◌, codes, replicate, refl}
use Rattle.std.specs.Fmt.{digits}
use Rattle.hare_tree.specs.declared.kind.Kind.TheVariants as kind
use Rattle.hare_types.specs.declared.coercion.Ty.TheVariants as kept
use Rattle.hare_typed.specs.declared.cell.Cell.TheVariants.{Byte as byte}
use Rattle.hare_typed.specs.Typed.{TypedNode}
use Rattle.hare_typed.specs.State.{Outcome, Exit, Abort}
use Rattle.hare_meaning.proofs.Samples.{void, never, bool, u8, int, size, rune, nullable, pointer, byte_pointer, bytes, four_bytes, pair, tuple, int_or_bool, void_or_failure, new_int, new_bytes}
use Rattle.hare_meaning.proofs.Trees.{of_type, to, absent, node, one, two, main, function, call, rt, puts, text, block, giving, result, exit, tell, byte_of, bind, local, hand, give, set, set_by, leave, again, loop, each, element, later, when, yes, no, n8, num, plus, less, equal, array, part, index, field, type_node, known, alloc, free, sure, alloc_for, append, append_all, delete}

-- a program of these declarations, and one that is its entry alone
abbrev ran_of : List TypedNode → ℕ → Outcome × (List ℕ × ℕ)
ran_of ds n = let r = result ds n in (r.0, (r.1.output, r.1.ticks))

abbrev ran : List TypedNode → ℕ → Outcome × (List ℕ × ℕ)
ran ts n = ran_of (main ts ∷ []) n

-- ---- values

a_number : ran (exit (n8 7) ∷ []) 0 ≡ (Exit 7, ([], 4))
a_number = refl

a_rune : ran (node kind.RuneLit [] 65 rune [] ∷ []) 0 ≡ (Exit 0, ([], 2))
a_rune = refl

a_text : ran (puts 0 (codes "a") ∷ []) 0 ≡ (Exit 0, (codes "a", 4))
a_text = refl

a_bool : ran (yes ∷ []) 0 ≡ (Exit 0, ([], 2))
a_bool = refl

null : ran (to 6 nullable (of_type kind.Null [] 0 kept.Null []) ∷ []) 0 ≡ (Exit 0, ([], 2))
null = refl

a_void : ran (node kind.Void [] 0 void [] ∷ []) 0 ≡ (Exit 0, ([], 2))
a_void = refl

a_path : ran (bind (n8 5) ∷ exit (local 0 u8) ∷ []) 0 ≡ (Exit 5, ([], 7))
a_path = refl

parentheses : ran (exit (one kind.Paren u8 (n8 7)) ∷ []) 0 ≡ (Exit 7, ([], 5))
parentheses = refl

a_struct : ran (node kind.StructLit [] 0 pair (node kind.TypePath [] 0 pair [] ∷ node kind.FieldValue (codes "a") 0 void (n8 1 ∷ [])
    ∷ node kind.FieldValue (codes "b") 0 void (num int 2 ∷ []) ∷ absent ∷ []) ∷ []) 0 ≡ (Exit 0, ([], 9))
a_struct = refl

-- a pair of an int behind a byte
abbrev three_and_four : TypedNode
three_and_four = node kind.Tuple [] 0 tuple (n8 3 ∷ num int 4 ∷ absent ∷ [])

a_tuple : ran (three_and_four ∷ []) 0 ≡ (Exit 0, ([], 7))
a_tuple = refl

abbrev four : TypedNode
four = array four_bytes (n8 1 ∷ n8 2 ∷ n8 3 ∷ n8 4 ∷ [])

an_array : ran (four ∷ []) 0 ≡ (Exit 0, ([], 12))
an_array = refl

-- ---- operators

a_sign : ran (exit (one kind.Neg u8 (n8 1)) ∷ []) 0 ≡ (Exit 255, ([], 5))
a_sign = refl

a_complement : ran (exit (one kind.Not u8 (n8 1)) ∷ []) 0 ≡ (Exit 254, ([], 5))
a_complement = refl

a_negation : ran (one kind.Bang bool yes ∷ []) 0 ≡ (Exit 0, ([], 3))
a_negation = refl

a_sum : ran (exit (plus (n8 1) (n8 2)) ∷ []) 0 ≡ (Exit 3, ([], 6))
a_sum = refl

a_shift : ran (exit (two kind.Shift (codes ">>") u8 (n8 200) (n8 1)) ∷ []) 0 ≡ (Exit 100, ([], 6))
a_shift = refl

an_order : ran (less (codes "<") (n8 1) (n8 2) ∷ []) 0 ≡ (Exit 0, ([], 4))
an_order = refl

an_equality : ran (equal (n8 1) (n8 2) ∷ []) 0 ≡ (Exit 0, ([], 4))
an_equality = refl

decided : ran (two kind.Logic (codes "&&") bool no yes ∷ []) 0 ≡ (Exit 0, ([], 3))
decided = refl

a_cast : ran (exit (byte_of (num int 7)) ∷ []) 0 ≡ (Exit 7, ([], 5))
a_cast = refl

a_size : ran (one kind.Size size (type_node pair) ∷ one kind.Align size (type_node pair) ∷ []) 0 ≡ (Exit 0, ([], 3))
a_size = refl

an_offset : ran (one kind.Offset size (field int (codes "b") (giving pair (exit (n8 9) ∷ []))) ∷ []) 0 ≡ (Exit 0, ([], 2))
an_offset = refl

a_length : ran (one kind.Len size (text 0 (codes "ab")) ∷ []) 0 ≡ (Exit 0, ([], 3))
a_length = refl

-- ---- members

abbrev an_int : TypedNode
an_int = to 9 int_or_bool (num int 5)

as_a_member : ran (bind an_int ∷ tell (node kind.As [] 0 int (local 0 int_or_bool ∷ type_node int ∷ [])) ∷ []) 0 ≡ (Exit 5, ([], 13))
as_a_member = refl

is_a_member : ran (bind an_int ∷ node kind.Is [] 0 bool (local 0 int_or_bool ∷ type_node int ∷ []) ∷ []) 0 ≡ (Exit 0, ([], 10))
is_a_member = refl

abbrev case : TypedNode → TypedNode
case p = node kind.Case [] 0 void (p ∷ [])

a_match : ran (bind an_int ∷ node kind.Match [] 0 void (local 0 int_or_bool ∷ case (type_node int) ∷ case absent ∷ []) ∷ []) 0
    ≡ (Exit 0, ([], 11))
a_match = refl

-- `f()!`, where f gives what is left of a member that is no error
an_error_or_not : ran_of
    (main (sure void (call 1 void_or_failure []) ∷ [])
    ∷ function [] void_or_failure (giving void_or_failure (one kind.Try void (to 9 void_or_failure (node kind.Void [] 0 void [])) ∷ []))
    ∷ []) 1 ≡ (Exit 0, ([], 13))
an_error_or_not = refl

-- ---- places

an_address : ran (bind (n8 5) ∷ exit (one kind.Deref u8 (one kind.Addr byte_pointer (local 0 u8))) ∷ []) 0 ≡ (Exit 5, ([], 9))
an_address = refl

an_element : ran (bind four ∷ exit (index u8 (local 0 four_bytes) (num size 2)) ∷ []) 0 ≡ (Exit 3, ([], 19))
an_element = refl

a_slice : ran (bind four ∷ rt 1 void (part bytes (local 0 four_bytes) (num size 1) (num size 3) ∷ []) ∷ []) 0
    ≡ (Exit 0, (2 ∷ 3 ∷ [], 23))
a_slice = refl

a_component : ran (bind three_and_four ∷ tell (node kind.Field (codes "1") 1 int (local 0 tuple ∷ [])) ∷ []) 0 ≡ (Exit 4, ([], 14))
a_component = refl

an_assignment : ran (bind (n8 1) ∷ set (local 0 u8) (n8 7) ∷ exit (local 0 u8) ∷ []) 0 ≡ (Exit 7, ([], 10))
an_assignment = refl

with_an_operator : ran (bind (n8 1) ∷ set_by (codes "+=") (local 0 u8) (n8 7) ∷ exit (local 0 u8) ∷ []) 0 ≡ (Exit 8, ([], 10))
with_an_operator = refl

a_constant : ran (node kind.Const [] 0 void (absent ∷ n8 7 ∷ []) ∷ exit (local 0 u8) ∷ []) 0 ≡ (Exit 7, ([], 7))
a_constant = refl

-- ---- calls and ends

a_call : ran_of (main (call 1 void [] ∷ []) ∷ function [] void (block []) ∷ []) 1 ≡ (Exit 0, ([], 4))
a_call = refl

an_abort : ran (node kind.Abort [] 0 never (absent ∷ []) ∷ []) 0 ≡ (Abort (codes "m.ha:1:1: abort 9"), ([], 3))
unfolding digits
an_abort = refl

an_assertion : ran (node kind.Assert [] 0 void (yes ∷ absent ∷ []) ∷ []) 0 ≡ (Exit 0, ([], 4))
an_assertion = refl

a_return : ran (give absent ∷ puts 0 (codes "a") ∷ []) 0 ≡ (Exit 0, ([], 3))
a_return = refl

-- ---- control

a_branch : ran (when yes (puts 0 (codes "a")) absent ∷ []) 0 ≡ (Exit 0, (codes "a", 7))
a_branch = refl

a_loop : ran (loop absent no absent (block []) ∷ []) 1 ≡ (Exit 0, ([], 5))
a_loop = refl

a_break : ran (loop absent yes absent leave ∷ []) 1 ≡ (Exit 0, ([], 6))
a_break = refl

-- one turn with a body, and one in which the test fails
a_continue : ran (loop (bind (n8 0)) (less (codes "<") (local 0 u8) (n8 1)) (set_by (codes "+=") (local 0 u8) (n8 1)) again ∷ []) 2
    ≡ (Exit 0, ([], 15))
a_continue = refl

elements : ran (bind four ∷ each element (local 0 four_bytes) (block []) ∷ []) 5 ≡ (Exit 0, ([], 45))
elements = refl

a_yield : ran (exit (giving u8 (hand (n8 7) ∷ [])) ∷ []) 0 ≡ (Exit 7, ([], 6))
a_yield = refl

deferred : ran (later (puts 0 (codes "a")) ∷ puts 1 (codes "b") ∷ []) 0 ≡ (Exit 0, (codes "ba", 8))
deferred = refl

a_switch : ran (node kind.Switch [] 0 void (n8 1 ∷ node kind.SwitchCase [] 0 void
    (node kind.Values [] 0 void (known (byte 1 ∷ []) (n8 1) ∷ absent ∷ []) ∷ exit (n8 2) ∷ [])
    ∷ node kind.SwitchCase [] 0 void (absent ∷ []) ∷ []) ∷ []) 0 ≡ (Exit 2, ([], 11))
a_switch = refl

-- ---- the heap

abbrev new : TypedNode
new = bind (sure pointer (alloc new_int (num int 5)))

an_allocation : ran (new ∷ []) 0 ≡ (Exit 0, ([], 12))
an_allocation = refl

given_back : ran (new ∷ free (local 0 pointer) ∷ []) 0 ≡ (Exit 0, ([], 17))
given_back = refl

-- 64 bytes of each of two letters on the heap, with room for so many, and put out at the end
abbrev letters : ℕ → TypedNode
letters n = bind (sure bytes (alloc_for new_bytes (rt 3 bytes (text 0 (replicate 64 97 ++ replicate 64 98) ∷ [])) n))

abbrev s : TypedNode
s = local 0 bytes

abbrev show : TypedNode
show = rt 1 void (s ∷ [])

-- 1 block; 2 binding, 3 `!`, 4 `alloc`, 2 call, 1 text, 1 number, 2 for 128 bytes; 3 `!`, 4 `append`, 1 no dots, 1 path, 1 number;
-- 2 call, 1 path, 2 for 129 bytes
an_append : ran (letters 256 ∷ sure void (append s (n8 9)) ∷ show ∷ []) 0
    ≡ (Exit 0, (replicate 64 97 ++ replicate 64 98 ++ 9 ∷ [], 31))
an_append = refl

-- and 2 for 129 bytes that move
an_append_that_grows : ran (letters 128 ∷ sure void (append s (n8 9)) ∷ show ∷ []) 0
    ≡ (Exit 0, (replicate 64 97 ++ replicate 64 98 ++ 9 ∷ [], 33))
an_append_that_grows = refl

-- 2 for 128 bytes within the room, and 4 for 256 that are put out
an_append_of_all : ran (letters 256 ∷ sure void (append_all s s) ∷ show ∷ []) 0
    ≡ (Exit 0, (replicate 64 97 ++ replicate 64 98 ++ replicate 64 97 ++ replicate 64 98, 35))
an_append_of_all = refl

-- 4 `delete`, 1 path, 1 number, 1 for 127 bytes that move; 2 call, 1 path, 1 for 127 bytes
a_deletion : ran (letters 128 ∷ delete (index u8 s (num size 0)) ∷ show ∷ []) 0 ≡ (Exit 0, (replicate 63 97 ++ replicate 64 98, 27))
a_deletion = refl

-- the same for 64 bytes
a_deletion_of_more : ran (letters 128 ∷ delete (part bytes s absent (num size 64)) ∷ show ∷ []) 0 ≡ (Exit 0, (replicate 64 98, 27))
a_deletion_of_more = refl
