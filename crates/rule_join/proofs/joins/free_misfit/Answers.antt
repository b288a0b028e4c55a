use Rattle.std.proofs.Common.{sym, ◌∙◌}
use Rattle.hare_types.proofs.LaterLemmas.{later_trans}
use Rattle.rule_judge.proofs.TurnLemmas.{turn_stays}
use Rattle.rule_join.proofs.TogetherLemmas.{misfit_joined, misfit_unjoined}
use Rattle.rule_join.proofs.joins.free_misfit.Goals as goal

pub misfit_to-requires-clause-turn : goal.misfit_to-requires-clause-turn
misfit_to-requires-clause-turn c =
    turn_stays c.args.s.now c.joined_default.new.s c.declarations-law.ensures.sound c.joined_default.ensures.grown.later c.args.t.now
    c.requires

pub returns-in_ok-o-in-Some-clause-value : goal.returns-in_ok-o-in-Some-clause-value
returns-in_ok-o-in-Some-clause-value c f l =
    misfit_joined f c.args.v c.args.t.now c.in-Some.to c.in_ok-o-in-Some.o
    (sym c.in-Some.is ∙ c.in_ok-joined.ensures.value f
    (later_trans c.joined_default.new.s c.misfit_to.new.s f c.misfit_to.ensures.grown.later l))
    (c.in_ok-o-in-Some.ensures.value f l)

pub returns-in-None-clause-value : goal.returns-in-None-clause-value
returns-in-None-clause-value c f l = misfit_unjoined f c.args.v c.args.t.now (sym c.in-None.is ∙ c.in_ok-joined.ensures.value f l)
