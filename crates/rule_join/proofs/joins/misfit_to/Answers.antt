use Rattle.hare_types.proofs.LaterLemmas.{later_trans}
use Rattle.rule_join.proofs.TogetherLemmas.{misfit_listed, misfit_end}
use Rattle.rule_join.proofs.joins.misfit_to.Goals as goal

pub returns-in-Some-clause-value : goal.returns-in-Some-clause-value
returns-in-Some-clause-value c f l = misfit_listed f c.args.v c.args.t.now c.args.to c.in-Some.place (c.in-Some.ensures f l)

pub returns-in_ok-o-in-None-clause-value : goal.returns-in_ok-o-in-None-clause-value
returns-in_ok-o-in-None-clause-value c f l =
    misfit_end f c.args.v c.args.t.now c.args.to c.in_ok-o-in-None.o
    (c.in-None.ensures f (later_trans c.args.s.now c.end_misfit.new.s f c.end_misfit.ensures.grown.later l))
    (c.in_ok-o-in-None.ensures.value f l)
