use Rattle.std.proofs.Common.{ap, sym, ◌∙◌}
use Rattle.hare_tree.specs.Node.{head}
use Rattle.hare_types.proofs.LaterLemmas.{later_trans}
use Rattle.rule_join.proofs.ValueLemmas.{end_is}
use Rattle.rule_join.proofs.joins.end_misfit.Goals as goal

pub returns-clause-value : goal.returns-clause-value
returns-clause-value c f l =
    let before = later_trans c.args.s.now c.void_fits.new.s f c.void_fits.ensures.grown.later l in
    end_is _ _ _ _ (c.if-not-ends.ensures f before) (sym c.if-fit.false ∙ c.in_ok-fit.ensures.value f l)
    (ap (λ n. (head n).place) c.node.view_is)
