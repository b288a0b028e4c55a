use Rattle.std.proofs.Common.{ap, sym, ◌∙◌}
use Rattle.rule_judge.specs.Asked.{asks_as}
use Rattle.rule_judge.specs.Turns.{context_in, kind_in}
use Rattle.rule_match.proofs.UnmetLemmas.{is_match}
use Rattle.rule_match.proofs.cases.asks_type.Goals as goal

pub returns : goal.returns
returns c f = c.asks_case.ensures f ∙ sym (ap (asks_as (context_in f c.args.t.now) c.args.i) (is_match (kind_in c.args.t.now) c.requires))
