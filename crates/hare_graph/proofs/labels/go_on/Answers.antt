use Rattle.std.proofs.Common.{[], fold, sym, ap, ◌∙◌}
use Rattle.hare_graph.specs.Graphs.{visited, marks}
use Rattle.hare_graph.proofs.Elements.{get_or-there, get_or-none}
use Rattle.hare_graph.proofs.labels.go_on.Goals as goal

pub returns-in_default : goal.returns-in_default
returns-in_default c =
    sym (ap (fold (visited c.args.label) (marks c.args.labels.now.items c.args.left.now.items))
    (get_or-none c.args.graph.now c.args.node [] (sym c.in_default.ensures)))

pub returns : goal.returns
returns c =
    c.in_ok-visit_all.ensures
    ∙ ap (fold (visited c.args.label) (marks c.args.labels.now.items c.args.left.now.items))
    (c.as_slice.ensures ∙ sym (get_or-there c.args.graph.now c.args.node c.in-Some.next.now [] (sym c.in-Some.ensures)))
