use Rattle.hare_tree.proofs.Low.Fitting.{fits-file, fits-no-file}
use Rattle.hare_tree.proofs.fit.fits.Goals as goal

pub returns-then-all_fit : goal.returns-then-all_fit
returns-then-all_fit c =
    fits-file c.args.t.now c.all_fit.result c.all_fit-then-all_fit.result c.all_fit.ensures c.all_fit-then-all_fit.ensures c.if-all_fit.true

pub returns-else-all_fit : goal.returns-else-all_fit
returns-else-all_fit c = fits-no-file c.args.t.now c.all_fit.result c.all_fit.ensures c.if-all_fit.false
