use Rattle.std.proofs.Common.{◌∙◌}
use Rattle.rule_judge.specs.Turns.{context_in, kind_in}
use Rattle.hare_judge.proofs.CaseLemmas.{asked-cases}
use Rattle.hare_judge.proofs.asked.asks_case.Goals as goal

pub returns : goal.returns
returns c f = c.asks_case.ensures f ∙ asked-cases (context_in f c.args.t.now) c.args.i (kind_in c.args.t.now) c.requires
