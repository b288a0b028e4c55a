-- Rows of calls: order, turns, the stack, and the functions of `rt`.
use Rattle.std.proofs.Common.{◌≡◌, ◌^◌, [], ◌∷◌, codes, refl}
use Rattle.std.specs.Fmt.{digits}
use Rattle.hare_tree.specs.declared.kind.Kind.TheVariants as kind
use Rattle.hare_typed.specs.declared.cell.Cell.TheVariants.{Byte as byte}
use Rattle.hare_typed.specs.Typed.{TypedNode}
use Rattle.hare_typed.specs.State.{Exit, Abort, Over, Spent, Undefined}
use Rattle.hare_meaning.specs.Run.{run}
use Rattle.hare_meaning.proofs.Samples.{void, never, u8, size, str, bytes, four_bytes, byte_pointer}
use Rattle.hare_meaning.proofs.Trees.{place, at, absent, node, one, main, function, call, rt, puts, text, later, block, giving, outcome, output, ends, shows, result_of, counting_calls, exit, tell, bind, local, hand, set, give, either, when, n8, num, plus, times, equal, array, part, global, known}

-- ---- calls

-- `fn f(a: u8, b: u8) u8 = a * 16 + b`
abbrev joined : TypedNode
joined = function (u8 ∷ u8 ∷ []) u8 (plus (times (local 0 u8) (n8 16)) (local 1 u8))

arguments_in_order : outcome (main (exit (call 1 u8 (n8 1 ∷ n8 2 ∷ [])) ∷ []) ∷ joined ∷ []) 1 ≡ Exit 18
arguments_in_order = refl

evaluated_from_left_to_right : output
    (main (bind (call 1 u8 (giving u8 (puts 0 (codes "a") ∷ hand (n8 1) ∷ []) ∷ giving u8 (puts 1 (codes "b") ∷ hand (n8 2) ∷ [])
    ∷ [])) ∷ []) ∷ joined ∷ []) 1
    ≡ codes "ab"
evaluated_from_left_to_right = refl

-- a call uses a turn, and arguments are evaluated before that is looked at
call_without_a_turn : outcome (main (exit (call 1 u8 (n8 1 ∷ n8 2 ∷ [])) ∷ []) ∷ joined ∷ []) 0 ≡ Spent
call_without_a_turn = refl

arguments_before_spent : output (main (bind (call 1 u8 (giving u8 (puts 0 (codes "a") ∷ hand (n8 1) ∷ []) ∷ n8 2 ∷ [])) ∷ []) ∷ joined
    ∷ []) 0 ≡ codes "a"
arguments_before_spent = refl

-- a parameter is an object of the call: the argument stays
parameter_is_a_copy : outcome
    (main (bind (n8 5) ∷ bind (call 1 u8 (local 0 u8 ∷ [])) ∷ exit (plus (times (local 0 u8) (n8 16)) (local 1 u8)) ∷ [])
    ∷ function (u8 ∷ []) u8 (giving u8 (set (local 0 u8) (n8 6) ∷ give (local 0 u8) ∷ [])) ∷ []) 1 ≡ Exit 86
parameter_is_a_copy = refl

-- it is dead behind the call
parameter_dies : outcome
    (main (exit (at 7 (one kind.Deref u8 (call 1 byte_pointer (n8 5 ∷ [])))) ∷ [])
    ∷ function (u8 ∷ []) byte_pointer (one kind.Addr byte_pointer (local 0 u8)) ∷ []) 1 ≡ Undefined 1 (place 7)
parameter_dies = refl

-- `fn f(n: u8) u8 = if (n == 0) 0 else n + f(n - 1)`
abbrev summing : TypedNode
summing =
    function (u8 ∷ []) u8
    (either u8 (equal (local 0 u8) (n8 0)) (n8 0)
    (plus (local 0 u8) (call 1 u8 (node kind.Arith (codes "-") 0 u8 (local 0 u8 ∷ n8 1 ∷ []) ∷ []))))

recursion : outcome (main (exit (call 1 u8 (n8 4 ∷ [])) ∷ []) ∷ summing ∷ []) 5 ≡ Exit 10
recursion = refl

recursion_spent : outcome (main (exit (call 1 u8 (n8 4 ∷ [])) ∷ []) ∷ summing ∷ []) 4 ≡ Spent
recursion_spent = refl

-- a return leaves all blocks of the function, and no other function
early_return : outcome
    (main (bind (call 1 u8 []) ∷ exit (plus (local 0 u8) (n8 1)) ∷ [])
    ∷ function [] u8 (giving u8 (block (give (n8 4) ∷ []) ∷ hand (n8 9) ∷ [])) ∷ []) 1 ≡ Exit 5
early_return = refl

return_without_a_value : outcome (main (call 1 void [] ∷ exit (n8 2) ∷ []) ∷ function [] void (block (give absent ∷ exit (n8 1) ∷ []))
    ∷ []) 1 ≡ Exit 2
return_without_a_value = refl

return_of_main : ends (give absent ∷ exit (n8 2) ∷ []) 0 ≡ Exit 0
return_of_main = refl

-- an inner call of the entry returns as any other
call_of_main : outcome
    (main (when (equal (global 1 u8) (n8 0)) (block (set (global 1 u8) (n8 1) ∷ call 0 void [] ∷ exit (n8 3) ∷ [])) absent ∷ [])
    ∷ node kind.GlobalLet [] 0 void (absent ∷ absent ∷ absent ∷ known (byte 0 ∷ []) (n8 0) ∷ []) ∷ []) 1 ≡ Exit 3
call_of_main = refl

-- ---- the stack

-- a call is over where the measure of the stack would pass 2^30
over : (run (counting_calls (2 ^ 30) (main (exit (call 1 u8 (n8 1 ∷ n8 2 ∷ [])) ∷ []) ∷ joined ∷ [])) [] [] 1).0 ≡ Over
over = refl

-- and what is deferred does not run then
none_by_over : (run (counting_calls (2 ^ 30) (main (later (puts 0 (codes "a")) ∷ call 1 void [] ∷ []) ∷ function [] void (block [])
    ∷ [])) [] [] 1).1.output ≡ []
none_by_over = refl

just_not_over : (run (counting_calls (2 ^ 29) (main (exit (call 1 u8 (n8 1 ∷ n8 2 ∷ [])) ∷ []) ∷ joined ∷ [])) [] [] 1).0 ≡ Exit 18
just_not_over = refl

-- Spent is looked at first
spent_before_over : (run (counting_calls (2 ^ 30) (main (exit (call 1 u8 (n8 1 ∷ n8 2 ∷ [])) ∷ []) ∷ joined ∷ [])) [] [] 0).0 ≡ Spent
spent_before_over = refl

-- and arguments before both
arguments_before_over :
    (run (counting_calls (2 ^ 30)
    (main (bind (call 1 u8 (giving u8 (puts 0 (codes "a") ∷ hand (n8 1) ∷ []) ∷ n8 2 ∷ [])) ∷ []) ∷ joined ∷ [])) [] [] 1).1.output
    ≡ codes "a"
arguments_before_over = refl

-- what a call counted is given back
given_back : (run (counting_calls (2 ^ 29) (main (call 1 void [] ∷ call 1 void [] ∷ exit (n8 3) ∷ []) ∷ function [] void (block [])
    ∷ [])) [] [] 1).0 ≡ Exit 3
given_back = refl

deep_recursion_is_over : (run (counting_calls (2 ^ 28) (main (exit (call 1 u8 (n8 4 ∷ [])) ∷ []) ∷ summing ∷ [])) [] [] 9).0 ≡ Over
deep_recursion_is_over = refl

-- ---- rt

abbrev buffer : TypedNode
buffer = array four_bytes (n8 1 ∷ n8 2 ∷ n8 3 ∷ n8 4 ∷ [])

puts_a_text : shows (puts 0 (codes "hello\n") ∷ []) 0 ≡ codes "hello\n"
puts_a_text = refl

writes_bytes : shows (bind buffer ∷ rt 1 void (part bytes (local 0 four_bytes) (num size 1) (num size 3) ∷ []) ∷ []) 0 ≡ 2 ∷ 3 ∷ []
writes_bytes = refl

text_as_bytes : shows (rt 1 void (rt 3 bytes (text 0 (codes "ab") ∷ []) ∷ []) ∷ []) 0 ≡ codes "ab"
text_as_bytes = refl

-- a read fills the buffer as far as the input goes, and tells how far; the other bytes stay
abbrev reading : TypedNode
reading = main (bind buffer ∷ bind (rt 2 size (part bytes (local 0 four_bytes) absent absent ∷ []))
    ∷ rt 1 void (part bytes (local 0 four_bytes) absent absent ∷ []) ∷ tell (local 1 size) ∷ [])

read_all : (result_of (reading ∷ []) [] (codes "abcdef") 0).1.output ≡ codes "abcd"
read_all = refl

read_tells : (result_of (reading ∷ []) [] (codes "abcdef") 0).0 ≡ Exit 4
read_tells = refl

read_leaves : (result_of (reading ∷ []) [] (codes "abcdef") 0).1.input ≡ codes "ef"
read_leaves = refl

read_some : (result_of (reading ∷ []) [] (codes "ab") 0).1.output ≡ 97 ∷ 98 ∷ 3 ∷ 4 ∷ []
read_some = refl

read_some_tells : (result_of (reading ∷ []) [] (codes "ab") 0).0 ≡ Exit 2
read_some_tells = refl

read_nothing : (result_of (reading ∷ []) [] [] 0).0 ≡ Exit 0
read_nothing = refl

number_of_arguments : (result_of (main (tell (rt 4 size []) ∷ []) ∷ []) (codes "a" ∷ codes "bc" ∷ []) [] 0).0 ≡ Exit 2
number_of_arguments = refl

argument : (result_of (main (rt 0 void (rt 5 str (num size 1 ∷ []) ∷ []) ∷ []) ∷ []) (codes "a" ∷ codes "bc" ∷ []) [] 0).1.output
    ≡ codes "bc"
argument = refl

no_such_argument : (result_of (main (rt 0 void (at 9 (rt 5 str (num size 2 ∷ [])) ∷ []) ∷ []) ∷ []) (codes "a" ∷ codes "bc" ∷ []) [] 0).0
    ≡ Abort (codes "m.ha:1:9: abort 0")
unfolding digits
no_such_argument = refl

exits : ends (exit (n8 200) ∷ []) 0 ≡ Exit 200
exits = refl

-- ---- aborts

aborts : ends (at 3 (node kind.Abort [] 0 never (absent ∷ [])) ∷ []) 0 ≡ Abort (codes "m.ha:1:3: abort 9")
unfolding digits
aborts = refl

aborts_with_a_message : ends (at 3 (node kind.Abort [] 0 never (node kind.Message (codes "no") 0 void [] ∷ [])) ∷ []) 0
    ≡ Abort (codes "m.ha:1:3: abort 9: no")
unfolding digits
aborts_with_a_message = refl

empty_message : ends (at 3 (node kind.Abort [] 0 never (node kind.Message [] 0 void [] ∷ [])) ∷ []) 0
    ≡ Abort (codes "m.ha:1:3: abort 9: ")
unfolding digits
empty_message = refl

-- an abort that stands for a `!` that failed
aborts_for_a_failure : ends (at 3 (node kind.Abort [] 7 never (absent ∷ [])) ∷ []) 0 ≡ Abort (codes "m.ha:1:3: abort 7")
unfolding digits
aborts_for_a_failure = refl

asserted : ends (node kind.Assert [] 0 void (equal (n8 1) (n8 1) ∷ absent ∷ []) ∷ exit (n8 1) ∷ []) 0 ≡ Exit 1
asserted = refl

assertion_fails : ends (at 3 (node kind.Assert [] 0 void (equal (n8 1) (n8 2) ∷ node kind.Message (codes "no") 0 void [] ∷ [])) ∷ []) 0
    ≡ Abort (codes "m.ha:1:3: abort 6: no")
unfolding digits
assertion_fails = refl
