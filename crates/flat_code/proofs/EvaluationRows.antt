-- Turns, steps, leaves and calls, on small programs.
use Rattle.std.proofs.Common.{◌≡◌, ℕ, ◌+◌, ◌*◌, ◌^◌, [], ◌∷◌, Some, None, refl}
use Rattle.std.specs.Prelude.{codes}
use Rattle.hx_base.specs.declared.Class.TheVariants.{W, L}
use Rattle.flat_code.specs.declared.op.Op.TheVariants.{Copy, Add, Sub, Udiv, Cultl}
use Rattle.flat_code.specs.declared.program.Item.TheVariants as item
use Rattle.flat_code.specs.declared.program.FlatProgram.{FlatProgram}
use Rattle.flat_code.specs.declared.value.Value.TheVariants.{Temp, Number, Symbol, Frame}
use Rattle.flat_code.specs.Code.{Set, If, Loop, Leave, Call, Ret}
use Rattle.flat_code.specs.Costs.{call_cost}
use Rattle.flat_code.specs.State.{Exit, Fault, Spent, ZeroDivisor, NoFunction, BadArg}
use Rattle.flat_code.proofs.RowPrograms.{seq, plain, of_one, global, program, main_of, does, ends, costs}

-- ---- ends

-- a return exits with its value modulo 256: the body and the Ret are two steps
returned : does (main_of (Ret (Some (Number 300)) ∷ [])) 0 (Exit 44) [] 2
returned = (refl, refl, refl)

-- a body that ends without a Ret returns 0
fell_out : does (main_of []) 0 (Exit 0) [] 1
fell_out = (refl, refl, refl)

-- no step is taken behind an end
exited : does (main_of (Call None (codes "rt.exit") (Number 263 ∷ []) ∷ Ret None ∷ [])) 0 (Exit 7) [] 3
exited = (refl, refl, refl)

zero_divisor : does (main_of (Set 0 W Udiv (Number 1) (Number (2 ^ 32)) ∷ [])) 0 (Fault ZeroDivisor) [] 2
zero_divisor = (refl, refl, refl)

no_argument : ends (main_of (Call (Some 0) (codes "rt.arg") (Number 3 ∷ []) ∷ [])) 0 (Fault BadArg)
no_argument = refl

no_function : ends (main_of (Call None (codes "rt.none") [] ∷ [])) 5 (Fault NoFunction)
no_function = refl

-- no `main`
no_main : ends (program [] []) 5 (Fault NoFunction)
no_main = refl

-- ---- temporaries

-- a value is cut to the class: 2 ^ 32 + 5 at w is 5
cut_to_w : ends (main_of (Set 0 W Copy (Number (2 ^ 32 + 5)) (Number 0) ∷ Set 1 L Sub (Temp 0) (Number 4) ∷ Ret (Some (Temp 1)) ∷ [])) 0
    (Exit 1)
cut_to_w = refl

-- a temporary that was not set has the fill byte in each byte: 2 ^ 56 of the quotient is the highest of eight bytes of 1
not_set : ends (main_of (Set 0 L Udiv (Temp 7) (Number (2 ^ 56)) ∷ Ret (Some (Temp 0)) ∷ [])) 0 (Exit 1)
not_set = refl

-- ---- branches and leaves

-- a condition is read at w, where 2 ^ 32 is 0
abbrev branching : ℕ → FlatProgram
branching n = main_of (If (Number n) (Ret (Some (Number 1))) (Ret (Some (Number 2))) ∷ [])

branch_yes : ends (branching 4) 0 (Exit 1)
branch_yes = refl

branch_no : ends (branching (2 ^ 32)) 0 (Exit 2)
branch_no = refl

-- two Seqs within the body, left at the inner one, the outer one, the body, and past all
abbrev leaving : ℕ → FlatProgram
leaving k = main_of (seq (seq (Leave k ∷ Ret (Some (Number 1)) ∷ []) ∷ Ret (Some (Number 2)) ∷ []) ∷ Ret (Some (Number 3)) ∷ [])

leave_inner : does (leaving 0) 0 (Exit 2) [] 5
leave_inner = (refl, refl, refl)

leave_outer : does (leaving 1) 0 (Exit 3) [] 5
leave_outer = (refl, refl, refl)

leave_body : does (leaving 2) 0 (Exit 0) [] 4
leave_body = (refl, refl, refl)

leave_all : does (leaving 9) 0 (Exit 0) [] 4
leave_all = (refl, refl, refl)

-- ---- loops

-- writes "ab" for each argument, and exits with twice their number
abbrev counting : FlatProgram
counting = program (plain (codes "main") 3 0 (
    Set 0 L Copy (Number 0) (Number 0)
    ∷ Loop (seq (
    Call (Some 1) (codes "rt.nargs") []
    ∷ Set 2 W Cultl (Temp 0) (Temp 1)
    ∷ If (Temp 2) (seq []) (Leave 1)
    ∷ Call None (codes "rt.puts") (Symbol 0 0 ∷ Number 2 ∷ [])
    ∷ Set 0 L Add (Temp 0) (Number 1) ∷ []))
    ∷ Set 0 L Add (Temp 0) (Temp 0)
    ∷ Call None (codes "rt.exit") (Temp 0 ∷ []) ∷ []) ∷ [])
    (global (codes "text") 1 (item.Bytes (codes "ab") ∷ []) ∷ [])

-- three turns, and a fourth that leaves: 3 steps, 10 for each whole turn, 6 for the last, and 3
counted : does counting 4 (Exit 6) (codes "ababab") 41
counted = (refl, refl, refl)

-- a turn that begins where none is left is one step
cut_short : does counting 3 Spent (codes "ababab") 33
cut_short = (refl, refl, refl)

no_turn : does counting 0 Spent [] 3
no_turn = (refl, refl, refl)

-- a body is begun with one turn less, so that a loop in a loop ends as soon as either has none left
abbrev nested : FlatProgram
nested = main_of (Loop (Loop (Leave 1)) ∷ Ret (Some (Number 9)) ∷ [])

nested_spent : ends nested 1 Spent
nested_spent = refl

nested_left : ends nested 2 (Exit 9)
nested_left = refl

-- ---- calls

-- calls a function that adds 1 to its argument at w
abbrev adding : FlatProgram
adding = program (
    plain (codes "main") 1 0 (Call (Some 0) (codes "h.next") (Number (2 ^ 32 + 8) ∷ []) ∷ Ret (Some (Temp 0)) ∷ [])
    ∷ of_one (codes "h.next") W 2 24 (Set 1 L Add (Temp 0) (Number 1) ∷ Ret (Some (Temp 1)) ∷ []) ∷ []) []

called_with_one : does adding 1 (Exit 9) [] 7
called_with_one = (refl, refl, refl)

called_with_none : does adding 0 Spent [] 3
called_with_none = (refl, refl, refl)

-- ---- the cost of calls

-- 64, 8 for each of two temporaries, two addresses and the frame's own, and 32 for 17 bytes
a_cost : call_cost (plain (codes "f") 2 17 (Set 0 L Add (Frame 0) (Symbol 0 0) ∷ Set 1 L Add (Symbol 0 8) (Temp 0) ∷ [])) ≡ 64 + 8 * 5 + 32
a_cost = refl

-- no frame counts as one of a byte
no_frame : call_cost (plain (codes "f") 0 0 []) ≡ 88
no_frame = refl

-- the costs of calls that are active are summed: 96 of `main` and 120 of the function that it calls
summed : costs adding 1 (96 + 120)
summed = refl

not_called : costs adding 0 96
not_called = refl
