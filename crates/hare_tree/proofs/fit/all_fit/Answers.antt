use Rattle.std.proofs.Common.{◌≡◌, true, false, take, drop, sym, ◌∙◌, arith}
use Rattle.std.specs.List.{list_all}
use Rattle.hare_tree.specs.Depth.{fits_as}
use Rattle.hare_tree.proofs.Low.Fitting.{all-first, all-past}
use Rattle.hare_tree.proofs.fit.all_fit.Goals as goal

pub returns-then-not-kid_fits : goal.returns-then-not-kid_fits
returns-then-not-kid_fits c =
    let step = all-first (fits_as c.args.sort) c.args.kids.now c.loop-i.i in
    let first : list_all (fits_as c.args.sort) (take 1 (drop c.loop-i.i c.args.kids.now)) ≡ false =
    sym c.kid_fits.ensures ∙ c.if-not-kid_fits.true in
    sym (rw first at step) ∙ c.loop-i.invariant

pub loop-i-preserved : goal.loop-i-preserved
loop-i-preserved c =
    let step = all-first (fits_as c.args.sort) c.args.kids.now c.loop-i.i in
    let first : list_all (fits_as c.args.sort) (take 1 (drop c.loop-i.i c.args.kids.now)) ≡ true =
    sym c.kid_fits.ensures ∙ c.if-not-kid_fits.false in
    sym (rw first at step) ∙ c.loop-i.invariant

pub returns : goal.returns
returns c =
    sym (all-past (fits_as c.args.sort) c.args.kids.now c.loop-i.i (omega arith)) ∙ c.loop-i.invariant
