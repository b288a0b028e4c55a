-- Small programs, of which the rows say what they do.
use Rattle.std.proofs.Common.{◌≡◌, ℕ, List, [], ◌∷◌, Some}
use Rattle.std.specs.Prelude.{codes}
use Rattle.hx_base.specs.declared.Class.{Class}
use Rattle.hx_base.specs.declared.Class.TheVariants.{W}
use Rattle.flat_code.specs.declared.program.Item.{Item}
use Rattle.flat_code.specs.declared.program.Data.{Data}
use Rattle.flat_code.specs.declared.program.FlatFn.{FlatFn}
use Rattle.flat_code.specs.declared.program.FlatProgram.{FlatProgram}
use Rattle.flat_code.specs.declared.flat.Flat.TheVariants as flat
use Rattle.flat_code.specs.Code.{Code, Seq, codes_of}
use Rattle.flat_code.specs.State.{Flow}
use Rattle.flat_code.specs.Run.{run}

-- statements within another
abbrev pub seq : List Code → Code
seq cs = Seq (codes_of cs)

-- a function without parameters whose body is these statements
abbrev pub plain : List ℕ → (temps frame : ℕ) → List Code → FlatFn
plain name temps frame cs = record { name = name; params = []; result = Some W; temps = temps; frame = frame; body = flat.Seq cs }

-- a function of one parameter
abbrev pub of_one : List ℕ → Class → (temps frame : ℕ) → List Code → FlatFn
of_one name class temps frame cs = record {
  name = name;
  params = class ∷ [];
  result = Some W;
  temps = temps;
  frame = frame;
  body = flat.Seq
      cs;
}

-- a global
abbrev pub global : List ℕ → ℕ → List Item → Data
global name align items = record { name = name; align = align; items = items }

-- a program
abbrev pub program : List FlatFn → List Data → FlatProgram
program functions globals = record { functions = functions; globals = globals }

-- a program that is `main` alone, of eight temporaries and 32 bytes
abbrev pub main_of : List Code → FlatProgram
main_of cs = program (plain (codes "main") 8 32 cs ∷ []) []

-- a run with three arguments, the input "in" and the fill byte 1, by how it ends, its output and its flat steps
abbrev pub does : FlatProgram → ℕ → Flow → List ℕ → ℕ → Type 0
does p n end output steps =
    let r = run p (codes "a" ∷ codes "b" ∷ codes "c" ∷ []) (codes "in") 1 n in
    (r.0 ≡ end) × (r.1.world.output ≡ output) × (r.1.steps ≡ steps)

-- the same by how it ends alone
abbrev pub ends : FlatProgram → ℕ → Flow → Type 0
ends p n end = (run p (codes "a" ∷ codes "b" ∷ codes "c" ∷ []) (codes "in") 1 n).0 ≡ end

-- the most that a run costs the stack
abbrev pub costs : FlatProgram → ℕ → ℕ → Type 0
costs p n most = (run p [] [] 1 n).1.most ≡ most
