use Rattle.hare_tree.proofs.Low.Fitting.{fits-some, fits-none}
use Rattle.hare_tree.proofs.fit.tree_fits.Goals as goal

pub returns-in-Some : goal.returns-in-Some
returns-in-Some c = fits-some c.args.sort c.args.t.now _ _ c.in-Some.ensures c.keeps_limits.ensures

pub returns-in-None : goal.returns-in-None
returns-in-None c = fits-none c.args.sort c.args.t.now c.in-None.ensures
