use Rattle.std.proofs.Common.{ap, sym, ◌∙◌, Some, arith}
use Rattle.hare_tree.specs.Node.{head}
use Rattle.hare_tree.specs.Judged.{first_kind}
use Rattle.hare_tree.proofs.TreeKids.KidsFrom.{nodes_from-past, nodes_from-get}
use Rattle.hare_tree.proofs.edge.kind_at.Goals as goal

pub returns-then-len-i-clause-value : goal.returns-then-len-i-clause-value
returns-then-len-i-clause-value c = ap first_kind (sym (nodes_from-past c.args.kids.now c.args.i (omega arith)))

pub returns-in-Some-clause-value : goal.returns-in-Some-clause-value
returns-in-Some-clause-value c =
    ap (λ t. Some (head t).kind) c.kid.view_is ∙ ap first_kind
    (sym (nodes_from-get c.args.kids.now c.args.i c.in-Some.kid.now c.in-Some.ensures.found))
