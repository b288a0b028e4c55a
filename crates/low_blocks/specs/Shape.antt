-- The shape of the flat code of a program: its functions and globals, its loops and calls, and what a run of it costs the stack.
use Rattle.std.specs.Prelude.{◌≡◌, ℕ, suc, ◌+◌, ◌^◌, ◌≤◌, List, [], ◌∷◌, map, sum_by, codes}
use Rattle.flat_code.specs.declared.program.Data.{Data}
use Rattle.flat_code.specs.declared.program.FlatFn.{FlatFn}
use Rattle.flat_code.specs.declared.program.FlatProgram.{FlatProgram}
use Rattle.flat_code.specs.Contents.{loops_in, calls_in}
use Rattle.flat_code.specs.Run as flat
use Rattle.flat_code.specs.Shape.{code_of}
use Rattle.hare_blocks.specs.Trees.{Statement, Statements, declares, assigns, chooses, chooses_one, repeats, puts, exits, nothing, first, Program, exit_of, block_of}
use Rattle.low_blocks.specs.Programs.{text_name, program_texts}

-- ---- loops

-- how many `for` stand in statements
abbrev mutual
  pub statement_fors : Statement → ℕ
  statement_fors (declares x e) = 0
  statement_fors (assigns x e) = 0
  statement_fors (chooses c body) = statements_fors body
  statement_fors (chooses_one c body other) = statements_fors body + statements_fors other
  statement_fors (repeats c body) = suc (statements_fors body)
  statement_fors (puts text) = 0
  statement_fors (exits e) = 0

  pub statements_fors : Statements → ℕ
  statements_fors nothing = 0
  statements_fors (first s ss) = statement_fors s + statements_fors ss

abbrev pub program_fors : Program → ℕ
program_fors (exit_of e) = 0
program_fors (block_of ss) = statements_fors ss

-- the functions have as many Loops as the program has `for`
abbrev pub HasItsLoops : Program → FlatProgram → Type 0
HasItsLoops p f = sum_by (λ (g : FlatFn). loops_in (code_of g.body)) f.functions ≡ program_fors p

-- ---- functions and globals

-- the names of so many strings, of which the first has number `i`
abbrev pub text_names : ℕ → List (List ℕ) → List (List ℕ)
text_names i [] = []
text_names i (t ∷ ts) = text_name i ∷ text_names (suc i) ts

-- One function `main`, which has no frame and calls functions of the runtime alone. A global for each string, in the order of the text.
pub record HasShape (p : Program) (f : FlatProgram) : Type 0 where
  pub main : FlatFn
  pub only : f.functions ≡ main ∷ []
  pub name : main.name ≡ codes "main"
  pub unframed : main.frame ≡ 0
  pub calls : calls_in (codes "main") (code_of main.body) ≡ 0
  pub globals : map (λ (d : Data). d.name) f.globals ≡ text_names 0 (program_texts p)

-- ---- the stack

-- a mebibyte
abbrev pub little : ℕ
little = 2 ^ 20

-- The calls that are active at once cost the stack no more than this: for all arguments, every input, every fill byte and every number of
-- turns.
pub record CostsLittle (f : FlatProgram) : Type 0 where
  pub most : (args : List (List ℕ)) (input : List ℕ) (fill n : ℕ) → (flat.run f args input fill n).1.most ≤ little
