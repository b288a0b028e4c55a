use Rattle.std.proofs.Common.{refl, sym, ◌∙◌, ap}
use Rattle.hare_tree.specs.Shape.{own_of}
use Rattle.hare_tree.proofs.Spelling.Owned.{own_of-other}
use Rattle.hare_tree.proofs.TreeKids.Behind.{pieces-at}
use Rattle.hare_tree.proofs.own.own_of.Goals as goal

pub loop-piece-preserved : goal.loop-piece-preserved
loop-piece-preserved c =
    sym (ap own_of (pieces-at c.args.form.now c.loop-piece.piece-index _ _ c.loop-piece-test.true refl) ∙ own_of-other _ _
    c.in_default.not-Own) ∙ c.loop-piece.invariant
