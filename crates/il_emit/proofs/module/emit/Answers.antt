-- The module is valid, does what the program does, and has its shape, and its functions are tight.
use Rattle.std.proofs.Common.{subst, sym}
use Rattle.il_code.specs.declared.types.Module.{Module}
use Rattle.il_code.specs.Rules.{IsValid}
use Rattle.il_emit.specs.Reaches.{Reaches}
use Rattle.il_emit.specs.Shape.{HasShape}
use Rattle.il_emit.proofs.SameRuns.Arrivals.{reaches}
use Rattle.il_emit.proofs.ValidModule.Lawful.{valid}
use Rattle.il_emit.proofs.SameShape.Phis.{module_plain}
use Rattle.il_emit.proofs.SameShape.Shapes.{shape}
use Rattle.il_emit.proofs.SameRuns.Tightened.{tight_reaches, tight_shape}
use Rattle.il_emit.specs.Emitted.{module_of}
use Rattle.il_tight.specs.Tightness.{AreTight}
use Rattle.il_tight.proofs.TightBlocks.Tightness.{all_tight}
use Rattle.il_tight.proofs.StillValid.Valid.{valid_same}
use Rattle.il_emit.proofs.module.emit.Goals as goal

pub returns-clause-valid : goal.returns-clause-valid
returns-clause-valid c =
    subst (λ (m : Module). IsValid m) (sym c.in_ok-m.ensures.value)
    (valid_same _ (module_plain c.args.p.now) (valid c.args.p.now c.requires c.in_ok-m.ensures.fits))

pub returns-clause-reaches : goal.returns-clause-reaches
returns-clause-reaches c =
    subst (λ (m : Module). Reaches c.args.p.now m) (sym c.in_ok-m.ensures.value)
    (tight_reaches c.args.p.now _ (module_plain c.args.p.now) (reaches c.args.p.now c.requires c.in_ok-m.ensures.fits))

pub returns-clause-shape : goal.returns-clause-shape
returns-clause-shape c =
    subst (λ (m : Module). HasShape c.args.p.now m) (sym c.in_ok-m.ensures.value)
    (tight_shape c.args.p.now _ (module_plain c.args.p.now) (shape c.args.p.now c.requires))

pub returns-clause-tight : goal.returns-clause-tight
returns-clause-tight c =
    subst (λ (m : Module). AreTight m) (sym c.in_ok-m.ensures.value) (all_tight (module_of c.args.p.now).items)
