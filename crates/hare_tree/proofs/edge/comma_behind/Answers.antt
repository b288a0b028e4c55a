use Rattle.std.proofs.Common.{ap, sym, ◌∙◌, arith}
use Rattle.hare_tree.specs.Node.{nodes_of}
use Rattle.hare_tree.specs.Shape.{edges, behind_item}
use Rattle.hare_tree.proofs.TreeKids.KidsFrom.{nodes_from-past}
use Rattle.hare_tree.proofs.TreeKids.Behind.{nodes_from-tail, item-absent, item-skip, item-there}
use Rattle.hare_tree.proofs.edge.comma_behind.Goals as goal

pub returns-in_err-kind : goal.returns-in_err-kind
returns-in_err-kind c = c.from_residual.ensures ∙ (sym (item-absent _ (sym c.in_err-kind.ensures.value)) ∙ c.loop-i.invariant)

pub returns-then-not-is_none : goal.returns-then-not-is_none
returns-then-not-is_none c =
    c.comma_before.ensures ∙ (sym (item-there _ _ (sym c.in_ok-kind.ensures.value) (sym c.is_none.ensures ∙ c.if-not-is_none.true)) ∙
    c.loop-i.invariant)

pub loop-i-preserved : goal.loop-i-preserved
loop-i-preserved c =
    ap (λ ts. behind_item (edges ts)) (nodes_from-tail c.loop-i.i (nodes_of c.args.kids.now))
    ∙ (sym (item-skip _ _ (sym c.in_ok-kind.ensures.value) (sym c.is_none.ensures ∙ c.if-not-is_none.false)) ∙ c.loop-i.invariant)

pub returns : goal.returns
returns c =
    ap (λ ts. behind_item (edges ts)) (sym (nodes_from-past c.args.kids.now c.loop-i.i (omega arith))) ∙ c.loop-i.invariant
