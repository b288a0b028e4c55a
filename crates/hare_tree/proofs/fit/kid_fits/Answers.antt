use Rattle.std.proofs.Common.{sym, ◌∙◌}
use Rattle.hare_tree.specs.Depth.{fits_as}
use Rattle.hare_tree.proofs.Low.Fitting.{first-there, first-past}
use Rattle.hare_tree.proofs.fit.kid_fits.Goals as goal

pub returns-in-Some : goal.returns-in-Some
returns-in-Some c =
    c.tree_fits.ensures ∙ sym (first-there (fits_as c.args.sort) c.args.kids.now c.args.i c.in-Some.kid.now c.in-Some.ensures.found)

pub returns-in-None : goal.returns-in-None
returns-in-None c = sym (first-past (fits_as c.args.sort) c.args.kids.now c.args.i c.in-None.ensures.none)
