use Rattle.std.proofs.Common.{ap, sym, ◌∙◌}
use Rattle.hare_tree.specs.Node.{head}
use Rattle.hare_check.proofs.TurnOfNode.Meanings.{call_meaning, literal_meaning}
use Rattle.hare_check.proofs.meanings.path_meaning.Goals as goal

pub returns-in-Call : goal.returns-in-Call
returns-in-Call c w e = c.callee_meaning.ensures ∙ sym (call_meaning w (head c.args.node.now) c.args.kids.now
    (sym (ap (λ t. (head t).kind) c.node.view_is) ∙ c.in-Call.is))

pub returns-in-StructLit : goal.returns-in-StructLit
returns-in-StructLit c w e = c.first_meaning.ensures ∙ sym (literal_meaning w (head c.args.node.now) c.args.kids.now
    (sym (ap (λ t. (head t).kind) c.node.view_is) ∙ c.in-StructLit.is))
