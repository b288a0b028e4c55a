-- What a program of the class does within a number of turns.
--
-- A `for` begins a turn before it tests its condition, and hands one turn less to its body and to the turns behind it. Where a turn begins
-- and none is left, the end is Spent. Nothing else uses turns. A program that falls off its end exits with 0.
--
-- Numbers are those of Hare's `size` type: sums, differences and products wrap at 2 ^ 64, and comparisons are unsigned.
use Rattle.std.specs.Prelude.{ℕ, zero, suc, ◌+◌, ◌-◌, ◌*◌, ◌%◌, ◌^◌, List, [], ◌∷◌, ◌++◌, Bool, true, not, length, drop, nat_le, nat_lt, nat_eq, bytes_eq, if◌then◌else◌}
use Rattle.hare_blocks.specs.Trees.{Expr, Terms, Term, Factors, Factor, sum_of, no_term, plus, minus, product_of, no_factor, times, number, arg_count, variable, group, Relation, less, less_equal, greater, greater_equal, equal, differ, Condition, always, compares, Statement, Statements, declares, assigns, chooses, chooses_one, repeats, puts, exits, nothing, first, Program, exit_of, block_of}

-- ---- variables

-- the variables of the blocks that are open, each with its value, the newest first
abbrev pub Variables : Type 0
Variables = List (List ℕ × ℕ)

-- the value of the newest variable with the name; 0 where there is none, which no program of the class asks for
abbrev pub variable_value : List ℕ → Variables → ℕ
variable_value x [] = 0
variable_value x (v ∷ vs) = if bytes_eq v.0 x then v.1 else variable_value x vs

-- the newest variable with the name gets another value
abbrev pub assigned : List ℕ → ℕ → Variables → Variables
assigned x n [] = []
assigned x n (v ∷ vs) = if bytes_eq v.0 x then (x, n) ∷ vs else v ∷ assigned x n vs

-- ---- expressions, from left to right, where the program has so many arguments

module _ (args : ℕ) where
  abbrev mutual
    pub value : Variables → Expr → ℕ
    value vs (sum_of t ts) = terms_value vs (term_value vs t) ts

    pub terms_value : Variables → ℕ → Terms → ℕ
    terms_value vs left no_term = left
    terms_value vs left (plus t ts) = terms_value vs ((left + term_value vs t) % 2 ^ 64) ts
    terms_value vs left (minus t ts) = terms_value vs ((left + 2 ^ 64 - term_value vs t) % 2 ^ 64) ts

    pub term_value : Variables → Term → ℕ
    term_value vs (product_of f fs) = factors_value vs (factor_value vs f) fs

    pub factors_value : Variables → ℕ → Factors → ℕ
    factors_value vs left no_factor = left
    factors_value vs left (times f fs) = factors_value vs ((left * factor_value vs f) % 2 ^ 64) fs

    pub factor_value : Variables → Factor → ℕ
    factor_value vs (number n) = n % 2 ^ 64
    factor_value vs arg_count = args % 2 ^ 64
    factor_value vs (variable x) = variable_value x vs
    factor_value vs (group e) = value vs e

  abbrev pub relates : Relation → ℕ → ℕ → Bool
  relates less a b = nat_lt a b
  relates less_equal a b = nat_le a b
  relates greater a b = nat_lt b a
  relates greater_equal a b = nat_le b a
  relates equal a b = nat_eq a b
  relates differ a b = not (nat_eq a b)

  abbrev pub holds : Variables → Condition → Bool
  holds vs always = true
  holds vs (compares a r b) = relates r (value vs a) (value vs b)

-- ---- ends

pub data End : Type 0 where
  Exit : (status : ℕ) → End
  Spent : End  -- no turn was left

-- how statements end: what stands behind them goes on, or the program ends
pub data Flow : Type 0 where
  Next : Flow
  Ends : End → Flow

pub record State : Type 0 where
  pub variables : Variables
  pub output : List ℕ

abbrev pub Result : Type 0
Result = Flow × State

-- what statements and all behind them give
abbrev pub then_go : Result → (State → Result) → Result
then_go (Next, s) go = go s
then_go (Ends e, s) go = (Ends e, s)

-- what a block gives that began in one state and whose statements give this: its variables end with it
abbrev pub closed : State → Result → Result
closed before (flow, s) = (flow, record s { variables = drop (length s.variables - length before.variables) s.variables })

-- the first where no turn is left, else the second
abbrev pub spends : ℕ → Result → Result → Result
spends zero spent r = spent
spends (suc n) spent r = r

-- ---- statements

-- what statements do with one turn less
abbrev pub Less : Type 0
Less = Statements → State → Result

module _ (args : ℕ) where
  abbrev mutual
    -- what a statement does where `n` turns are left
    pub statement_in : ℕ → Less → Statement → State → Result
    statement_in n below (declares x e) s = (Next, record s { variables = (x, value args s.variables e) ∷ s.variables })
    statement_in n below (assigns x e) s = (Next, record s { variables = assigned x (value args s.variables e) s.variables })
    statement_in n below (chooses c body) s = if holds args s.variables c then closed s (statements_in n below body s) else (Next, s)
    statement_in n below (chooses_one c body other) s =
        if holds args s.variables c then closed s (statements_in n below body s) else closed s (statements_in n below other s)
    statement_in n below (repeats c body) s =
        spends n (Ends Spent, s) (if holds args s.variables c then then_go (closed s (below body s))
        (below (first (repeats c body) nothing)) else (Next, s))
    statement_in n below (puts text) s = (Next, record s { output = s.output ++ text })
    statement_in n below (exits e) s = (Ends (Exit (value args s.variables e % 256)), s)

    pub statements_in : ℕ → Less → Statements → State → Result
    statements_in n below nothing s = (Next, s)
    statements_in n below (first t ts) s = then_go (statement_in n below t s) (statements_in n below ts)

  -- what statements do where one turn less than `n` is left
  abbrev pub below : ℕ → Less
  below zero ss s = (Ends Spent, s)
  below (suc n) ss s = statements_in n (below n) ss s

  -- what statements do where `n` turns are left
  abbrev pub does : ℕ → Statements → State → Result
  does n ss s = statements_in n (below n) ss s

-- ---- programs

-- the end of a program, with its output
abbrev pub ended : Result → End × List ℕ
ended (Next, s) = (Exit 0, s.output)
ended (Ends e, s) = (e, s.output)

-- how a program with so many arguments ends within `n` turns, and what it puts out
abbrev pub run : (args : ℕ) → Program → (n : ℕ) → End × List ℕ
run args (exit_of e) n = (Exit (value args [] e % 256), [])
run args (block_of ss) n = ended (does args n ss (record { variables = []; output = [] }))
