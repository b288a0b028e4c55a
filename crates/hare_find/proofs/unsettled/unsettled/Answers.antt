use Rattle.std.proofs.Common.{sym, subst}
use Rattle.hare_find.specs.Findings.{AreDefinedSettlings}
use Rattle.hare_find.proofs.SettlingNothing.AsFound.{nones_defined}
use Rattle.hare_find.proofs.unsettled.unsettled.Goals as goal

pub returns-clause-defined : goal.returns-clause-defined
returns-clause-defined c s d = record {
  ty = d;
  own = d;
  kids = subst (AreDefinedSettlings s) (sym c.in_ok-kids.ensures) (nones_defined s c.args.count);
}
