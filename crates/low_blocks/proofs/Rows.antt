-- What programs become, and what that does.
use Rattle.std.proofs.Common.{◌≡◌, ℕ, List, [], ◌∷◌, Some, None, codes, refl}
use Rattle.hx_base.specs.declared.Class.TheVariants.{W, L}
use Rattle.flat_code.specs.declared.op.Op.TheVariants.{Copy, Add, Sub, Mul, Cultl}
use Rattle.flat_code.specs.declared.value.Value.TheVariants.{Temp, Number, Symbol}
use Rattle.flat_code.specs.Code.{Set, If, Loop, Leave, Call}
use Rattle.flat_code.specs.State as flow
use Rattle.flat_code.specs.State.{Flow}
use Rattle.flat_code.specs.Run as flat
use Rattle.hare_blocks.specs.Trees.{Expr, Factor, sum_of, no_term, plus, minus, product_of, no_factor, times, number, arg_count, variable, group, less, greater, always, compares, declares, assigns, chooses, chooses_one, repeats, puts, exits, nothing, first, Program, exit_of, block_of}
use Rattle.low_blocks.specs.Statements.{seq}
use Rattle.low_blocks.specs.Programs.{body_code, lowered}
use Rattle.low_blocks.specs.Shape.{HasItsLoops}

abbrev one : Factor → Expr
one f = sum_of (product_of f no_factor) no_term

abbrev added : Factor → Factor → Expr
added a b = sum_of (product_of a no_factor) (plus (product_of b no_factor) no_term)

abbrev i : Factor
i = variable (codes "i")

-- let i = 0z; for (i < rt::nargs()) { rt::puts("ab"); i = i + 1z; }; rt::exit((i * 2z): u8);
abbrev puts_each : Program
puts_each = block_of (first (declares (codes "i") (one (number 0)))
    (first (repeats (compares (one i) less (one arg_count))
    (first (puts (codes "ab")) (first (assigns (codes "i") (added i (number 1))) nothing)))
    (first (exits (sum_of (product_of i (times (number 2) no_factor)) no_term)) nothing)))

-- `i` is temporary 1, and temporary 0 holds what the comparison gives
row_code : (body_code puts_each).code ≡
    Set 1 L Copy (Number 0) (Number 0)
    ∷ Loop (seq (
    Call (Some 2) (codes "rt.nargs") []
    ∷ Set 0 W Cultl (Temp 1) (Temp 2)
    ∷ If (Temp 0) (seq (Call None (codes "rt.puts") (Symbol 0 0 ∷ Number 2 ∷ []) ∷ Set 1 L Add (Temp 1) (Number 1) ∷ [])) (Leave 1)
    ∷ []))
    ∷ Set 3 L Mul (Temp 1) (Number 2)
    ∷ Call None (codes "rt.exit") (Temp 3 ∷ [])
    ∷ []
row_code = refl

row_loops : HasItsLoops puts_each (lowered puts_each)
row_loops = refl

-- a run with three arguments ends so, with this output
abbrev does : Program → ℕ → Flow → List ℕ → Type 0
does p n end output =
    let r = flat.run (lowered p) (codes "a" ∷ codes "b" ∷ codes "c" ∷ []) [] 1 n in
    (r.0 ≡ end) × (r.1.world.output ≡ output)

row_end : does puts_each 4 (flow.Exit 6) (codes "ababab")
row_end = (refl, refl)

row_spent : does puts_each 3 flow.Spent (codes "ababab")
row_spent = (refl, refl)

row_one_turn : does puts_each 1 flow.Spent (codes "ab")
row_one_turn = (refl, refl)

-- let a = 3z; let b = 7z; a = b - a; b = (a + b) * a; let c = a + b; a = rt::nargs(); rt::exit((c - a): u8);
abbrev reads_what_it_sets : Program
reads_what_it_sets =
    let a = variable (codes "a") in
    let b = variable (codes "b") in
    let sum = sum_of (product_of a no_factor) (plus (product_of b no_factor) no_term) in
    block_of (first (declares (codes "a") (one (number 3)))
    (first (declares (codes "b") (one (number 7)))
    (first (assigns (codes "a") (sum_of (product_of b no_factor) (minus (product_of a no_factor) no_term)))
    (first (assigns (codes "b") (sum_of (product_of (group sum) (times a no_factor)) no_term))
    (first (declares (codes "c") sum)
    (first (assigns (codes "a") (one arg_count))
    (first (exits (sum_of (product_of (variable (codes "c")) no_factor) (minus (product_of a no_factor) no_term))) nothing)))))))

-- `a`, `b` and `c` are temporaries 1, 2 and 4: the last step of each value sets its variable, which it may read
row_last_steps : (body_code reads_what_it_sets).code ≡
    Set 1 L Copy (Number 3) (Number 0)
    ∷ Set 2 L Copy (Number 7) (Number 0)
    ∷ Set 1 L Sub (Temp 2) (Temp 1)
    ∷ Set 3 L Add (Temp 1) (Temp 2)
    ∷ Set 2 L Mul (Temp 3) (Temp 1)
    ∷ Set 4 L Add (Temp 1) (Temp 2)
    ∷ Call (Some 1) (codes "rt.nargs") []
    ∷ Set 5 L Sub (Temp 4) (Temp 1)
    ∷ Call None (codes "rt.exit") (Temp 5 ∷ [])
    ∷ []
row_last_steps = refl

row_last_steps_end : does reads_what_it_sets 0 (flow.Exit 45) []
row_last_steps_end = (refl, refl)

-- for (true) { rt::puts("x"); };
row_without_end : does (block_of (first (repeats always (first (puts (codes "x")) nothing)) nothing)) 5 flow.Spent (codes "xxxxx")
row_without_end = (refl, refl)

-- rt::exit((rt::nargs() - 4z): u8);
row_wraps : does (exit_of (sum_of (product_of arg_count no_factor) (minus (product_of (number 4) no_factor) no_term))) 0 (flow.Exit 255) []
row_wraps = (refl, refl)

-- let i = 1z; if (true) { let i = 2z; i = 3z; }; rt::exit((i): u8);
row_shadowed : does (block_of (first (declares (codes "i") (one (number 1)))
    (first (chooses always (first (declares (codes "i") (one (number 2))) (first (assigns (codes "i") (one (number 3))) nothing)))
    (first (exits (one i)) nothing)))) 0 (flow.Exit 1) []
row_shadowed = (refl, refl)

-- if (1z > 2z) { rt::puts(""); } else { rt::puts("else"); };
row_else : does (block_of (first
    (chooses_one (compares (one (number 1)) greater (one (number 2))) (first (puts []) nothing) (first (puts (codes "else")) nothing))
    nothing)) 0 (flow.Exit 0) (codes "else")
row_else = (refl, refl)
