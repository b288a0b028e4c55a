use Rattle.std.proofs.Common.{ap, sym, ◌∙◌}
use Rattle.std.specs.Prelude.{is_none}
use Rattle.hare_rules.specs.Joined.{joined, first_lacking}
use Rattle.rule_judge.specs.Turns.{context_in}
use Rattle.rule_join.specs.Together.{together}
use Rattle.rule_join.proofs.joins.joined_type.Goals as goal

pub returns-in-Of-clause-value : goal.returns-in-Of-clause-value
returns-in-Of-clause-value c f l = sym (ap (λ h. joined f h (together c.args.v (context_in f c.args.t.now))) c.in-Of.is)

pub returns-in-Of-clause-there : goal.returns-in-Of-clause-there
returns-in-Of-clause-there c f l = sym (ap (λ h. is_none (first_lacking f h (together c.args.v (context_in f c.args.t.now)))) c.in-Of.is)

pub returns-in_ok-void-in-Drop-clause-value : goal.returns-in_ok-void-in-Drop-clause-value
returns-in_ok-void-in-Drop-clause-value c f l =
    sym (ap (λ h. joined f h (together c.args.v (context_in f c.args.t.now))) c.in-Drop.is ∙ c.in_ok-void-in-Drop.ensures.id f l)

pub returns-in_ok-void-in-Drop-clause-there : goal.returns-in_ok-void-in-Drop-clause-there
returns-in_ok-void-in-Drop-clause-there c f l =
    sym (ap (λ h. is_none (first_lacking f h (together c.args.v (context_in f c.args.t.now)))) c.in-Drop.is)

pub returns-in_ok-o-in-None-clause-value : goal.returns-in_ok-o-in-None-clause-value
returns-in_ok-o-in-None-clause-value c f l =
    c.in_ok-o-in-None.ensures.value f l ∙ sym (ap (λ h. joined f h (together c.args.v (context_in f c.args.t.now))) c.in-None.is)

pub returns-in_ok-o-in-None-clause-there : goal.returns-in_ok-o-in-None-clause-there
returns-in_ok-o-in-None-clause-there c f l =
    c.in_ok-o-in-None.ensures.there f l ∙ sym
    (ap (λ h. is_none (first_lacking f h (together c.args.v (context_in f c.args.t.now)))) c.in-None.is)
