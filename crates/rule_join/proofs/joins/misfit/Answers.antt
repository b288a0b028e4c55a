use Rattle.std.proofs.Common.{ap, sym, ◌∙◌}
use Rattle.std.specs.Prelude.{option_map}
use Rattle.hare_rules.specs.Joined.{first_misfit}
use Rattle.rule_judge.specs.Turns.{context_in}
use Rattle.rule_join.specs.Together.{together, place_in}
use Rattle.rule_join.proofs.TogetherLemmas.{misfit_hinted, misfit_dropped}
use Rattle.rule_join.proofs.joins.misfit.Goals as goal

pub returns-in_ok-o-in-Of-clause-value : goal.returns-in_ok-o-in-Of-clause-value
returns-in_ok-o-in-Of-clause-value c f l =
    misfit_hinted f c.args.v c.args.t.now c.in-Of.to c.in_ok-o-in-Of.o c.in-Of.is (c.in_ok-o-in-Of.ensures.value f l)

pub returns-in-Drop-clause-value : goal.returns-in-Drop-clause-value
returns-in-Drop-clause-value c f l = misfit_dropped f c.args.v c.args.t.now c.in-Drop.is

pub returns-in_ok-o-in-None-clause-value : goal.returns-in_ok-o-in-None-clause-value
returns-in_ok-o-in-None-clause-value c f l =
    c.in_ok-o-in-None.ensures.value f l
    ∙ sym (ap (λ h. option_map place_in (first_misfit f h (together c.args.v (context_in f c.args.t.now)))) c.in-None.is)
