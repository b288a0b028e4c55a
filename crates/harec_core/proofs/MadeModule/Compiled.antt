-- The module that is made of a file.
use Rattle.std.proofs.Common.{◌≡◌, List, ℕ}
use Rattle.flat_code.specs.declared.program.FlatProgram.{FlatProgram}
use Rattle.hare_blocks.specs.Class.{IsSource}
use Rattle.hare_blocks.specs.Trees.{Program}
use Rattle.il_code.specs.declared.types.Module.{Module}
use Rattle.il_code.specs.MachineLaws.{InputIsTaken}
use Rattle.il_code.specs.Rules.{IsValid}
use Rattle.il_emit.specs.Reaches.{Reaches}
use Rattle.il_emit.specs.Shape as emit
use Rattle.low_blocks.specs.Agreement.{DoesTheSame}
use Rattle.low_blocks.specs.Shape.{HasItsLoops, CostsLittle}
use Rattle.low_blocks.specs.Shape as low
use Rattle.harec_core.specs.Stages.{IsModuleOf}
use Rattle.harec_core.proofs.MadeModule.Backward.{does_back}
use Rattle.harec_core.proofs.MadeModule.Forward.{does_forward}
use Rattle.harec_core.proofs.MadeModule.ReadsNothing.{reads_nothing}
use Rattle.harec_core.proofs.MadeModule.Shaped.{outline_shape}

-- what is known of the flat code of a program
pub record IsLowered (p : Program) (f : FlatProgram) : Type 0 where
  pub does : DoesTheSame p f
  pub loops : HasItsLoops p f
  pub shape : low.HasShape p f
  pub costs : CostsLittle f

-- and of the module of flat code
pub record IsEmitted (f : FlatProgram) (m : Module) : Type 0 where
  pub valid : IsValid m
  pub reaches : Reaches f m
  pub shape : emit.HasShape f m

-- the module of a file's program, whose text carries the program
pub module_of_file : InputIsTaken → (source : List ℕ) (p : Program) (f : FlatProgram) (m : Module) → IsSource source p →
    ((q : Program) → IsSource source q → q ≡ p) → IsLowered p f → IsEmitted f m → IsModuleOf source m
module_of_file law source p f m s only flat made = record {
  program = p;
  file = s;
  only = only;
  valid = made.valid;
  unread = reads_nothing law p f m flat.costs flat.does made.reaches;
  carries = record {
    program = m;
    valid = made.valid;
    shape = outline_shape p f m made.shape flat.shape flat.loops;
    forward = does_forward p f m flat.costs flat.does made.reaches;
    back = does_back p f m flat.costs flat.does made.reaches;
  };
}
