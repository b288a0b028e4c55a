use Rattle.std.proofs.Common.{ap, sym, ◌∙◌}
use Rattle.hare_tree.specs.Node.{head}
use Rattle.hare_tree.proofs.TreeKids.KidsFrom.{nodes_from-get, nodes_from-past}
use Rattle.hare_ways.specs.Parts.{first_kind}
use Rattle.hare_ways.proofs.part.kind_at.Goals as goal

pub returns-in-Some : goal.returns-in-Some
returns-in-Some c =
    ap (λ t. (head t).kind) c.kid.view_is
    ∙ ap first_kind (sym (nodes_from-get c.args.kids.now c.args.i c.in-Some.kid.now c.in-Some.ensures.found))

pub returns-in-None : goal.returns-in-None
returns-in-None c = ap first_kind (sym (nodes_from-past c.args.kids.now c.args.i c.in-None.ensures.none))
