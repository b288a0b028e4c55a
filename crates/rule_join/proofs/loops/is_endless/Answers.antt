use Rattle.std.proofs.Common.{true, false, not, ◌&&◌, ap, ◌∙◌}
use Rattle.std.specs.List.{list_any}
use Rattle.hare_tree.specs.Node.{head}
use Rattle.hare_typed.specs.Typed.{typed_nodes}
use Rattle.hare_rules.specs.Control.{breaks, breaks_in}
use Rattle.rule_join.proofs.BreakLemmas.{some_break}
use Rattle.rule_join.proofs.loops.is_endless.Goals as goal

pub returns-then-is_true : goal.returns-then-is_true
returns-then-is_true c f =
    let name = (head c.args.t.now.node.now).text in
    let kids = c.args.t.now.kids.now in
    ap not
    (c.breaks_in.ensures ∙ ap (λ x. breaks_in x true false (typed_nodes kids)) (c.bytes.ensures ∙ ap (λ n. (head n).text) c.node.view_is)
    ∙ some_break name kids)
    ∙ ap (λ b. b && not (list_any (breaks name true) kids)) c.if-is_true.ensures
