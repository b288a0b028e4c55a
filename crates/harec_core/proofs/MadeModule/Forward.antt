-- What a module does that does what its program does.
use Rattle.std.proofs.Common.{◌≡◌, ℕ, List, [], Some, length, refl, sym, ap, ◌∙◌, inl, inr, arith, append-nil}
use Rattle.std.specs.Prelude.{◌⊎◌}
use Rattle.flat_code.specs.declared.program.FlatProgram.{FlatProgram}
use Rattle.flat_code.specs.Run as flat
use Rattle.flat_code.specs.State.{Flow}
use Rattle.hare_blocks.specs.Evaluation.{End, Exit, Spent, run}
use Rattle.hare_blocks.specs.Trees.{Program}
use Rattle.il_code.specs.declared.types.Module.{Module}
use Rattle.il_code.specs.Machine as machine
use Rattle.il_code.specs.Run.{Run, end_of, machine}
use Rattle.il_emit.specs.Reaches.{Reaches, Arrives, Overflows, end_for}
use Rattle.low_blocks.specs.Agreement.{DoesTheSame, flat_end}
use Rattle.low_blocks.specs.Shape.{CostsLittle}
use Rattle.harec_core.specs.Carries.{Follows, Forward}
use Rattle.harec_core.specs.Carries as carries
use Rattle.harec_core.specs.Class.{evaluation_of, outcome_of}

-- the end of a run that has ended
pub ended_in : (r : Run) (e : machine.End) → r.ended ≡ Some e → end_of r ≡ e
ended_in r e h = rw h refl

-- the run follows the program to its end, or as far as it goes
follows : (end : End) (expected : List ℕ) (flow : Flow) (r : Run) → flow ≡ flat_end end → r.ended ≡ end_for flow →
    r.state.world.output ≡ expected → Follows (end_of r) r.state.world.output (outcome_of end) expected
follows (Exit status) expected flow r f e o = (ended_in r (machine.Exit status) (e ∙ ap end_for f), o)
follows Spent expected flow r f e o = ([], append-nil expected ∙ sym o)

-- The module of flat code that does what the program does does so too: its stack never fills up.
pub does_forward : (p : Program) (f : FlatProgram) (m : Module) → CostsLittle f → DoesTheSame p f → Reaches f m →
    Forward m (evaluation_of p)
does_forward p f m costs does reaches args input fill turns few byte = pick (reaches args input fill turns)
  where
    pick : Arrives m args input fill turns (flat.run f args input fill turns) ⊎ Overflows m args input fill turns
        (flat.run f args input fill turns) → carries.Reaches m (evaluation_of p) args input fill turns
    pick (inl a) = record {
      budget = a.budget;
      follows = follows (run (length args) p turns).0 (run (length args) p turns).1 (flat.run f args input fill turns).0
          (machine m args input fill a.budget) (does.ends args input fill turns) a.ended
          (sym a.world.output ∙ does.outputs args input fill turns);
    }
    pick (inr o) = absurd (omega (arith, o.cost, costs.most args input fill turns))
