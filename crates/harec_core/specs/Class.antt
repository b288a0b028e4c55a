-- The programs of the class of today, as what their texts carry.
use Rattle.std.specs.Prelude.{ℕ, List, [], ◌∷◌, length, codes}
use Rattle.hare_blocks.specs.Trees.{Program}
use Rattle.hare_blocks.specs.Evaluation.{End, Exit, Spent, run}
use Rattle.low_blocks.specs.Programs.{program_texts}
use Rattle.low_blocks.specs.Shape.{program_fors}
use Rattle.harec_core.specs.Programs.{Outcome, Exits, Goes, Evaluation, Outline}
use Rattle.harec_core.specs.Carries.{CarriesBothWays}

-- how a program stands that ends so
abbrev pub outcome_of : End → Outcome
outcome_of (Exit status) = Exits status
outcome_of Spent = Goes

-- Programs of the class ask for the number of their arguments alone, and read no input.
abbrev pub evaluation_of : Program → Evaluation
evaluation_of p = record {
  outcome = λ args input turns. outcome_of (run (length args) p turns).0;
  output = λ args input turns. (run (length args) p turns).1;
}

-- One function `main`, with as many loops as the program has `for`. It calls no function of the module. There is no global, and at most one
-- further data item for each string that is put out.
abbrev pub outline_of : Program → Outline
outline_of p = record {
  functions = record { name = codes "main"; loops = program_fors p; calls = λ callee. 0 } ∷ [];
  globals = 0;
  further = length (program_texts p);
}

-- the text carries the program
abbrev pub CarriesProgram : List ℕ → Program → Type 0
CarriesProgram text p = CarriesBothWays text (evaluation_of p) (outline_of p)
