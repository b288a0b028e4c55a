use Rattle.hare_defined.specs.Known.{AreDefined}
use Rattle.body_table.specs.Told.{AreTold}
use Rattle.body_table.proofs.known.told.Given as goal

abbrev pub invariant-loop-signature : goal.invariant-loop-signature
invariant-loop-signature l = record {
  known : AreDefined l.s l.defined;
  told : AreTold l.s l.told;
}
