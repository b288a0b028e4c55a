use Rattle.std.proofs.Common.{◌+◌, drop, ap, sym, ◌∙◌}
use Rattle.hare_tree.specs.Node.{nodes_of}
use Rattle.hare_tree.specs.Shape.{edges, behind_kid}
use Rattle.hare_tree.specs.Judged.{nodes_from}
use Rattle.hare_tree.proofs.TreeKids.Behind.{nodes_from-tail, led-skip, pieces-at}
use Rattle.hare_tree.proofs.edge.sign_behind.Goals as goal

pub loop-at-preserved : goal.loop-at-preserved
loop-at-preserved c =
    let ks = nodes_of c.args.kids.now in
    let skip = led-skip c.in-Led.s c.in-Led.field-1 (drop (c.loop-at.at + 1) c.args.behind.now) (nodes_from c.loop-at.next ks) _
    (sym c.in_ok-kind_at-in-Led.ensures.value) (sym c.is_none.ensures ∙ c.if-not-is_none.false) in
    ap (λ ts. behind_kid (drop (c.loop-at.at + 1) c.args.behind.now) (edges ts)) (nodes_from-tail c.loop-at.next ks)
    ∙ (sym skip ∙ (ap (λ ps. behind_kid ps (edges (nodes_from c.loop-at.next ks)))
    (sym (pieces-at c.args.behind.now c.loop-at.at _ _ c.loop-at-test.true c.in-Led.is)) ∙ c.loop-at.invariant))
