-- The flat program that a program of the class becomes: one function `main`, and a global for each string. Of this, public clauses cite the
-- strings and their names alone.
use Rattle.std.specs.Prelude.{ℕ, suc, List, [], ◌∷◌, None, codes}
use Rattle.std.specs.Fmt.{decimal}
use Rattle.flat_code.specs.declared.flat.Flat.TheVariants as flat
use Rattle.flat_code.specs.declared.program.Data.{Data}
use Rattle.flat_code.specs.declared.program.FlatFn.{FlatFn}
use Rattle.flat_code.specs.declared.program.FlatProgram.{FlatProgram}
use Rattle.flat_code.specs.declared.program.Item.{Item}
use Rattle.flat_code.specs.declared.program.Item.TheVariants as item
use Rattle.flat_code.specs.Code.{Code}
use Rattle.hare_blocks.specs.Trees.{Statements, exits, nothing, first, Program, exit_of, block_of}
use Rattle.low_blocks.specs.Expressions.{test_temp}
use Rattle.low_blocks.specs.Statements.{Site, Lowered, statements_code, statements_texts}

-- ---- globals

-- `s0`, `s1` and so on are the strings, in the order of the text
abbrev pub text_name : ℕ → List ℕ
text_name i = 115 ∷ decimal i

abbrev pub text_items : List ℕ → List Item
text_items [] = []
text_items (c ∷ text) = item.Bytes (c ∷ text) ∷ []

abbrev pub text_global : ℕ → List ℕ → Data
text_global i text = record { name = text_name i; align = 1; items = text_items text }

-- the globals of strings, of which the first has number `i`
abbrev pub text_globals : ℕ → List (List ℕ) → List Data
text_globals i [] = []
text_globals i (t ∷ ts) = text_global i t ∷ text_globals (suc i) ts

-- ---- programs

-- an exit alone is the block of that one statement
abbrev pub body_of : Program → Statements
body_of (exit_of e) = first (exits e) nothing
body_of (block_of ss) = ss

-- where a program begins: only the temporary of tests is taken
abbrev pub start : Site
start = record { scope = []; next = suc test_temp; texts = 0 }

abbrev pub body_code : Program → Lowered
body_code p = statements_code start (body_of p)

abbrev pub program_texts : Program → List (List ℕ)
program_texts p = statements_texts (body_of p)

-- `main` has neither parameters nor a result. The end of its body returns, which exits with 0.
abbrev pub main_of : List Code → ℕ → FlatFn
main_of code temps = record { name = codes "main"; params = []; result = None; temps = temps; frame = 0; body = flat.Seq code }

abbrev pub lowered_main : Lowered → FlatFn
lowered_main body = main_of body.code body.behind.next

abbrev pub lowered : Program → FlatProgram
lowered p = record { functions = lowered_main (body_code p) ∷ []; globals = text_globals 0 (program_texts p) }
