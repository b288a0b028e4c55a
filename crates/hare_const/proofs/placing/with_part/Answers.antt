use Rattle.std.proofs.Common.{◌∙◌, ap, arith, sym, ◌-◌, ◌++◌}
use Rattle.hare_typed.specs.Cells.{undefined_cells}
use Rattle.hare_const.specs.NodeValues.{filled}
use Rattle.hare_const.proofs.PlacingLemmas.{behind_filled, with_none}
use Rattle.hare_const.proofs.placing.with_part.Goals as goal

pub returns-then-count-eq0-clause-value : goal.returns-then-count-eq0-clause-value
returns-then-count-eq0-clause-value c =
    sym (with_none c.args.start c.args.part.now (filled c.args.size c.args.cells) (omega (arith, c.if-count-eq0.true, c.len-count.ensures)))

pub returns-clause-value : goal.returns-clause-value
returns-clause-value c =
    behind_filled c.args.start c.args.size c.args.part.now c.args.cells c.append.new.self
    (omega (arith, c.if-start-known.false, c.len-known.ensures))
    (omega (arith, c.if-start-size.false, c.if-size-count.false, c.len-count.ensures))
    (c.in_ok-append.ensures.ok
    ∙ ap (λ xs. xs ++ c.args.part.now) (c.in_ok-more.ensures ∙ ap (λ k. c.args.cells ++ undefined_cells (c.args.start - k))
    c.len-known.ensures))
