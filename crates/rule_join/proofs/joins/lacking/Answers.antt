use Rattle.std.proofs.Common.{ap, sym}
use Rattle.std.specs.Prelude.{option_map}
use Rattle.hare_rules.specs.Joined.{first_lacking}
use Rattle.rule_judge.specs.Turns.{context_in}
use Rattle.rule_join.specs.Together.{together, place_in}
use Rattle.rule_join.proofs.TogetherLemmas.{lacking_free}
use Rattle.rule_join.proofs.joins.lacking.Goals as goal

pub returns-in-Of : goal.returns-in-Of
returns-in-Of c f l = sym (ap (λ h. option_map place_in (first_lacking f h (together c.args.v (context_in f c.args.t.now)))) c.in-Of.is)

pub returns-in-Drop : goal.returns-in-Drop
returns-in-Drop c f l = sym (ap (λ h. option_map place_in (first_lacking f h (together c.args.v (context_in f c.args.t.now)))) c.in-Drop.is)

pub returns-in-None : goal.returns-in-None
returns-in-None c f l =
    lacking_free f c.args.v c.args.t.now c.first_going-first.result c.lacking_of.result c.in-None.is (c.first_going-first.ensures.value f l)
    c.lacking_of.ensures
