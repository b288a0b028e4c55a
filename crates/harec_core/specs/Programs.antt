-- What a statement about a compiled program asks of the program, whatever its language is.
use Rattle.std.specs.Prelude.{ℕ, List}

-- how a program stands after some turns
pub data Outcome : Type 0 where
  Exits : (status : ℕ) → Outcome
  Aborts : (text : List ℕ) → Outcome
  Breaks : Outcome  -- it did what has no meaning, or what passes the limits of its stack or heap
  Goes : Outcome  -- it has not ended

-- what a program does with these arguments and this input within a number of turns: how it stands, and its output
pub record Evaluation : Type 0 where
  pub outcome : (args : List (List ℕ)) (input : List ℕ) (turns : ℕ) → Outcome
  pub output : (args : List (List ℕ)) (input : List ℕ) (turns : ℕ) → List ℕ

-- A function of a program: the symbol that its text has, how many loops its text may have, and how many calls of the function with a
-- symbol. Each loop and call counts as often as it is written out.
pub record FunctionOutline : Type 0 where
  pub name : List ℕ
  pub loops : ℕ
  pub calls : (callee : List ℕ) → ℕ

-- the functions of a program in their order, how many globals it has, and how many further data items its text may have
pub record Outline : Type 0 where
  pub functions : List FunctionOutline
  pub globals : ℕ
  pub further : ℕ

-- how many ticks a program takes within a number of turns, and for each function what a call of it may cost the stack
pub record Measures : Type 0 where
  pub ticks : (args : List (List ℕ)) (input : List ℕ) (turns : ℕ) → ℕ
  pub frames : List ℕ
