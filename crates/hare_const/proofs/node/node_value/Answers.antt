use Rattle.std.proofs.Common.{◌≡◌, ◌∙◌, sym, ap, true}
use Rattle.hare_typed.specs.Constants.{own_kind}
use Rattle.hare_typed.specs.Evaluated.{is_evaluated}
use Rattle.hare_const.proofs.Tagged.{node_known, node_makes}
use Rattle.hare_const.proofs.node.node_value.Goals as goal

pub returns-in_ok-coerced-in-Known-clause-value : goal.returns-in_ok-coerced-in-Known-clause-value
returns-in_ok-coerced-in-Known-clause-value c =
    let evaluated : is_evaluated (own_kind c.args.t.now) ≡ true =
    sym (ap (λ y. is_evaluated (own_kind y)) c.t.view_is) ∙ sym c.is_evaluated.ensures ∙ c.if-not-is_evaluated.false in
    node_known c.args.s.now c.declarations-law.ensures.sound c.args.own c.args.t.now c.args.kids.now c.in-Known.cells
    c.in_ok-coerced-in-Known.coerced c.requires.settled c.requires.asked evaluated (sym c.in_ok-cells.ensures ∙ c.in-Known.is)
    c.in_ok-coerced-in-Known.ensures.value

pub returns-in_ok-coerced-in-Known-clause-made : goal.returns-in_ok-coerced-in-Known-clause-made
returns-in_ok-coerced-in-Known-clause-made c =
    let evaluated : is_evaluated (own_kind c.args.t.now) ≡ true =
    sym (ap (λ y. is_evaluated (own_kind y)) c.t.view_is) ∙ sym c.is_evaluated.ensures ∙ c.if-not-is_evaluated.false in
    node_makes c.args.s.now c.declarations-law.ensures.sound c.args.own c.args.t.now c.args.kids.now c.in-Known.cells c.args.made.now
    c.coerced_cells.new.made c.requires.settled c.requires.asked evaluated (sym c.in_ok-cells.ensures ∙ c.in-Known.is)
    c.in_ok-coerced-in-Known.ensures.made
