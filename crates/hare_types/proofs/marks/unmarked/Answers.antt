use Rattle.std.proofs.Common.{sym, ◌∙◌}
use Rattle.hare_types.proofs.MarkLemmas.{marked_before, marked_sized}
use Rattle.hare_types.proofs.marks.unmarked.Goals as goal

pub loop-inner-smaller : goal.loop-inner-smaller
loop-inner-smaller c = marked_before c.args.rows.now c.requires c.loop-inner.at c.in-Some.inner (sym c.in-Some.is ∙ c.marked.ensures)

pub loop-inner-preserved : goal.loop-inner-preserved
loop-inner-preserved c = λ s e. marked_sized c.args.rows.now c.loop-inner.at c.in-Some.inner (sym c.in-Some.is ∙ c.marked.ensures) s e
    ∙ c.loop-inner.invariant s e
