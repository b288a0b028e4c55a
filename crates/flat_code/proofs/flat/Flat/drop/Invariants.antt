-- What is left falls.
use Rattle.flat_code.specs.Code.{height}
use Rattle.flat_code.specs.Shape.{code_of}
use Rattle.flat_code.proofs.flat.Flat.drop.Given as goal

abbrev pub decreases-parts : goal.decreases-parts
decreases-parts l = height (code_of l.left)
