-- What holds of the lowered program holds of the program that is made.
use Rattle.hare_blocks.specs.Shape.{program_of}
use Rattle.low_blocks.proofs.RightCode.WellFormed.{well_formed}
use Rattle.low_blocks.proofs.RightCode.Sources.{source_same}
use Rattle.low_blocks.proofs.ShapeAndCosts.Loops.{has_its_loops}
use Rattle.low_blocks.proofs.ShapeAndCosts.Shaped.{has_shape}
use Rattle.low_blocks.proofs.ShapeAndCosts.Sizes.{costs_little}
use Rattle.low_blocks.proofs.program.lower.Goals as goal

pub returns-clause-well_formed : goal.returns-clause-well_formed
returns-clause-well_formed c = rw c.in_ok-f.ensures (well_formed c.requires.0 (program_of c.args.p.now) c.requires.1)

pub returns-clause-does : goal.returns-clause-does
returns-clause-does c = rw c.in_ok-f.ensures (source_same c.requires.0 (program_of c.args.p.now) c.requires.1)

pub returns-clause-loops : goal.returns-clause-loops
returns-clause-loops c = rw c.in_ok-f.ensures (has_its_loops (program_of c.args.p.now))

pub returns-clause-shape : goal.returns-clause-shape
returns-clause-shape c = rw c.in_ok-f.ensures (has_shape (program_of c.args.p.now))

pub returns-clause-costs : goal.returns-clause-costs
returns-clause-costs c = rw c.in_ok-f.ensures (costs_little c.requires.0 (program_of c.args.p.now) c.requires.1)
