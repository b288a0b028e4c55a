-- What names call, in a program that is well formed and in two that are not.
use Rattle.std.proofs.Common.{◌≡◌, false, [], ◌∷◌, Some, None, refl}
use Rattle.std.specs.Prelude.{codes}
use Rattle.flat_code.specs.declared.program.FlatFn.{FlatFn}
use Rattle.flat_code.specs.declared.program.FlatProgram.{FlatProgram}
use Rattle.flat_code.specs.declared.value.Value.TheVariants.{Number}
use Rattle.flat_code.specs.Code.{Ret}
use Rattle.flat_code.specs.Evaluation.{function_named}
use Rattle.flat_code.specs.WellFormed.{IsWellFormed}
use Rattle.flat_code.proofs.Passes.{passes_is}
use Rattle.flat_code.proofs.RowPrograms.{plain, program}
use Rattle.flat_code.specs.WellFormed.{passes}

abbrev first : FlatFn
first = plain (codes "main") 0 0 (Ret (Some (Number 1)) ∷ [])

abbrev second : FlatFn
second = plain (codes "h.next") 0 0 (Ret (Some (Number 2)) ∷ [])

abbrev two : FlatProgram
two = program (first ∷ second ∷ []) []

-- the laws speak of this program
is_well_formed : IsWellFormed two
unfolding passes
is_well_formed = (passes_is two).0 refl

main_found : function_named two.functions (codes "main") ≡ Some first
main_found = refl

other_found : function_named two.functions (codes "h.next") ≡ Some second
other_found = refl

runtime_not_found : function_named two.functions (codes "rt.puts") ≡ None
runtime_not_found = refl

unknown_not_found : function_named two.functions (codes "h.nex") ≡ None
unknown_not_found = refl

-- of two functions with one name the second is not found
abbrev same : FlatFn
same = plain (codes "main") 0 0 []

second_hidden : function_named (program (first ∷ same ∷ []) []).functions same.name ≡ Some first
second_hidden = refl

differs_not : passes (program (first ∷ same ∷ []) []) ≡ false
unfolding passes
differs_not = refl

-- a function that takes a name of the runtime would be called in its place
abbrev puts : FlatFn
puts = plain (codes "rt.puts") 0 0 []

taken : function_named (program (first ∷ puts ∷ []) []).functions (codes "rt.puts") ≡ Some puts
taken = refl

takes_not : passes (program (first ∷ puts ∷ []) []) ≡ false
unfolding passes
takes_not = refl
