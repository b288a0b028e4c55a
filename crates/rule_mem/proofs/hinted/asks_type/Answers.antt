use Rattle.std.proofs.Common.{ap, sym, ◌∙◌}
use Rattle.hare_tree.specs.Node.{head}
use Rattle.rule_judge.specs.Turns.{context_in}
use Rattle.rule_judge.specs.Asked.{asks_as}
use Rattle.rule_mem.proofs.hinted.asks_type.Goals as goal

pub returns-in-Assign-clause-value : goal.returns-in-Assign-clause-value
returns-in-Assign-clause-value c f l =
    c.assignment_asks.ensures f ∙ ap (asks_as (context_in f c.args.t.now) c.args.i)
    (sym (sym (ap (λ n. (head n).kind) c.node.view_is) ∙ c.in-Assign.is))
