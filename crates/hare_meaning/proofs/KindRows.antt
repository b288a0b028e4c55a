-- Rows of the other kinds, each in a program, of coercions, and of ticks.
use Rattle.std.proofs.Common.{◌≡◌, ℕ, [], ◌∷◌, codes, replicate, refl, pos}
use Rattle.std.specs.Fmt.{digits}
use Rattle.hare_tree.specs.declared.kind.Kind.TheVariants as kind
use Rattle.hare_types.specs.declared.coercion.Ty.TheVariants as kept
use Rattle.hare_typed.specs.Typed.{TypedNode}
use Rattle.hare_typed.specs.declared.cell.Cell.TheVariants.{Byte as byte}
use Rattle.hare_typed.specs.State.{Exit, Abort, Undefined}
use Rattle.hare_meaning.proofs.Samples.{void, bool, u8, int, size, bytes, byte_pointer, four_bytes, pair, int_or_bool, int_bool_or_failure}
use Rattle.hare_meaning.proofs.Trees.{place, at, to, of_type, absent, node, one, two, main, function, call, rt, puts, text, block, giving, outcome, ends, shows, result, exit, tell, bind, local, hand, set, each, element, either, yes, no, n8, num, plus, equal, array, part, index, field, type_node, known, global}

-- ---- values

-- a number without a suffix, at the type that its site gives it
number_at_its_site : ends (exit (to 3 u8 (of_type kind.Number [] 7 (kept.Iconst (pos 7)) [])) ∷ []) 0 ≡ Exit 7
number_at_its_site = refl

rune_as_a_byte : ends (exit (node kind.Cast [] 0 u8 (node kind.RuneLit [] 65 int [] ∷ type_node u8 ∷ [])) ∷ []) 0 ≡ Exit 65
rune_as_a_byte = refl

void_is_dropped : ends (node kind.Void [] 0 void [] ∷ exit (n8 1) ∷ []) 0 ≡ Exit 1
void_is_dropped = refl

void_is_bound : ends (bind (node kind.Void [] 0 void []) ∷ exit (n8 1) ∷ []) 0 ≡ Exit 1
void_is_bound = refl

-- the name of a def stands for its constant
def_is_its_constant : outcome (main (exit (known (byte 9 ∷ []) (global 1 u8)) ∷ []) ∷ node kind.Def [] 0 void (absent ∷ absent ∷ absent
    ∷ known (byte 9 ∷ []) (n8 9) ∷ []) ∷ []) 0 ≡ Exit 9
def_is_its_constant = refl

in_parentheses : ends (exit (one kind.Paren u8 (n8 7)) ∷ []) 0 ≡ Exit 7
in_parentheses = refl

place_in_parentheses : ends (bind (n8 1) ∷ set (one kind.Paren u8 (local 0 u8)) (n8 7) ∷ exit (local 0 u8) ∷ []) 0 ≡ Exit 7
place_in_parentheses = refl

constant_binding : ends (node kind.Const [] 0 void (absent ∷ n8 7 ∷ []) ∷ exit (local 0 u8) ∷ []) 0 ≡ Exit 7
constant_binding = refl

-- the last item again, up to the length
repeated : shows (bind (node kind.Array [] 0 four_bytes (n8 1 ∷ n8 2 ∷ node kind.Dots [] 0 void [] ∷ absent ∷ []))
    ∷ rt 1 void (part bytes (local 0 four_bytes) absent absent ∷ []) ∷ []) 0
    ≡ 1 ∷ 2 ∷ 2 ∷ 2 ∷ []
repeated = refl

-- ---- operators

negated : ends (exit (one kind.Neg u8 (n8 1)) ∷ []) 0 ≡ Exit 255
negated = refl

complemented : ends (exit (one kind.Not u8 (n8 1)) ∷ []) 0 ≡ Exit 254
complemented = refl

shifted : ends (exit (two kind.Shift (codes ">>") u8 (n8 200) (n8 9)) ∷ []) 0 ≡ Exit 100
shifted = refl

-- the right operand runs only where it decides
abbrev seen : ℕ → TypedNode → TypedNode
seen n v = giving bool (puts n (codes "x") ∷ hand v ∷ [])

and_decided : shows (bind (two kind.Logic (codes "&&") bool no (seen 0 yes)) ∷ []) 0 ≡ []
and_decided = refl

and_open : shows (bind (two kind.Logic (codes "&&") bool yes (seen 0 yes)) ∷ []) 0 ≡ codes "x"
and_open = refl

or_decided : shows (bind (two kind.Logic (codes "||") bool yes (seen 0 yes)) ∷ []) 0 ≡ []
or_decided = refl

exclusive_or : ends (exit (either u8 (two kind.Logic (codes "^^") bool yes yes) (n8 1) (n8 2)) ∷ []) 0 ≡ Exit 2
exclusive_or = refl

divided_by_zero : ends (exit (at 5 (two kind.Arith (codes "/") u8 (n8 1) (n8 0))) ∷ []) 0 ≡ Abort (codes "m.ha:1:5: abort 8")
unfolding digits
divided_by_zero = refl

-- operands from left to right
operands_in_order : shows (bind (plus (giving u8 (puts 0 (codes "a") ∷ hand (n8 1) ∷ [])) (giving u8 (puts 1 (codes "b") ∷ hand (n8 2)
    ∷ []))) ∷ []) 0 ≡ codes "ab"
operands_in_order = refl

-- ---- sizes

size_of_a_pair : ends (tell (one kind.Size size (type_node pair)) ∷ []) 0 ≡ Exit 8
size_of_a_pair = refl

align_of_a_pair : ends (tell (one kind.Align size (type_node pair)) ∷ []) 0 ≡ Exit 4
align_of_a_pair = refl

-- nothing in it is evaluated
offset_of_a_field : ends (tell (one kind.Offset size (field int (codes "b") (giving pair (exit (n8 9) ∷ [])))) ∷ []) 0 ≡ Exit 4
offset_of_a_field = refl

length_of_an_array : ends (tell (one kind.Len size (array four_bytes (n8 1 ∷ n8 2 ∷ n8 3 ∷ n8 4 ∷ []))) ∷ []) 0 ≡ Exit 4
length_of_an_array = refl

-- ---- coercions

-- an array that is a place becomes a slice over it, and one that is none a slice over a new object
array_as_a_slice : ends (bind (array four_bytes (n8 1 ∷ n8 2 ∷ n8 3 ∷ n8 4 ∷ [])) ∷ bind (to 7 bytes (local 0 four_bytes))
    ∷ set (index u8 (local 1 bytes) (num size 0)) (n8 9)
    ∷ exit (index u8 (local 0 four_bytes) (num size 0)) ∷ []) 0 ≡ Exit 9
array_as_a_slice = refl

value_as_a_slice : ends (bind (to 7 bytes (array four_bytes (n8 1 ∷ n8 2 ∷ n8 3 ∷ n8 4 ∷ [])))
    ∷ exit (index u8 (local 0 bytes) (num size 3)) ∷ []) 0 ≡ Exit 4
value_as_a_slice = refl

-- a value of one union becomes one of another, by its own member
union_as_a_union : ends (bind (to 9 int_bool_or_failure (to 9 int_or_bool (num int 5))) ∷ exit (n8 1) ∷ []) 0 ≡ Exit 1
union_as_a_union = refl

wider_union : ends (bind (to 9 int_or_bool (num int 5)) ∷ bind (to 9 int_bool_or_failure (local 0 int_or_bool))
    ∷ tell (node kind.As [] 0 int (local 1 int_bool_or_failure ∷ type_node int ∷ [])) ∷ []) 0 ≡ Exit 5
wider_union = refl

-- where its tag is that of no member, at the node that is coerced
wider_union_without_a_member : ends (bind (to 9 int_or_bool (num int 5))
    ∷ set (one kind.Deref u8 (node kind.Cast [] 0 byte_pointer (one kind.Addr byte_pointer (local 0 int_or_bool)
    ∷ type_node byte_pointer ∷ []))) (n8 99)
    ∷ bind (at 7 (to 9 int_bool_or_failure (local 0 int_or_bool))) ∷ []) 0 ≡ Undefined 8 (place 7)
wider_union_without_a_member = refl

-- ---- ticks

ticks_of_nothing : (result (main [] ∷ []) 0).1.ticks ≡ 1
ticks_of_nothing = refl

-- the block, the call with its place for a comma, and the text
ticks_of_a_text : (result (main (puts 0 (codes "hello") ∷ []) ∷ []) 0).1.ticks ≡ 4
ticks_of_a_text = refl

-- and one for each 64 bytes
ticks_of_bytes : (result (main (puts 0 (replicate 128 97) ∷ []) ∷ []) 0).1.ticks ≡ 6
ticks_of_bytes = refl

-- the block, the binding with its place for a type, the equality of texts, two texts, and two for 128 bytes
ticks_of_an_equality : (result (main (bind (equal (text 0 (replicate 128 97)) (text 1 (replicate 128 97))) ∷ []) ∷ []) 0).1.ticks ≡ 11
ticks_of_an_equality = refl

ticks_of_other_lengths : (result (main (bind (equal (text 0 (replicate 128 97)) (text 1 (replicate 127 97))) ∷ []) ∷ []) 0).1.ticks ≡ 9
ticks_of_other_lengths = refl

ticks_of_a_call : (result (main (call 1 void [] ∷ []) ∷ function [] void (block []) ∷ []) 1).1.ticks ≡ 4
ticks_of_a_call = refl

-- 1 block; 2 binding; 7 array, 4 items; 6 loop, 1 operand; 4 for each of five turns, 1 for each of four bodies
ticks_of_elements : (result (main (bind (array four_bytes (n8 1 ∷ n8 2 ∷ n8 3 ∷ n8 4 ∷ []))
    ∷ each element (local 0 four_bytes) (block []) ∷ []) ∷ []) 5).1.ticks ≡ 45
ticks_of_elements = refl
