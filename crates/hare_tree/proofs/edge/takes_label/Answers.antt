use Rattle.std.proofs.Common.{false, sym, ◌∙◌}
use Rattle.hare_tree.proofs.TreeKids.Behind.{yields, first-labelled, none-labelled}
use Rattle.hare_tree.proofs.edge.takes_label.Goals as goal

pub returns-in-Some : goal.returns-in-Some
returns-in-Some c =
    yields _ c.t.inside.kids c.args.t.now c.begins_labelled.result c.bytes.result.now c.t.view_is
    (sym c.is_yield.ensures ∙ c.if-not-is_yield.false) c.bytes.ensures (sym c.is_empty.ensures ∙ c.if-not-is_empty.false)
    (first-labelled c.t.inside.kids c.in-Some.value.now c.in-Some.ensures.found ∙ sym c.begins_labelled.ensures)

pub returns-in-None : goal.returns-in-None
returns-in-None c =
    yields _ c.t.inside.kids c.args.t.now false c.bytes.result.now c.t.view_is (sym c.is_yield.ensures ∙ c.if-not-is_yield.false)
    c.bytes.ensures (sym c.is_empty.ensures ∙ c.if-not-is_empty.false) (none-labelled c.t.inside.kids c.in-None.ensures.none)
