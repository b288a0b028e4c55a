use Rattle.std.proofs.Common.{◌<◌, length, ap, is_some, sym, ◌∙◌, arith}
use Rattle.hare_types.proofs.LaterLemmas.{later_trans}
use Rattle.hare_rules.specs.Aggregates.{but_last, hinted_element}
use Rattle.hare_rules.specs.Words.{has_default}
use Rattle.rule_mem.proofs.ArrayLemmas.{own_item, first_default}
use Rattle.rule_mem.proofs.ItemLemmas.{element_own}
use Rattle.rule_mem.proofs.arrays.item_type.Goals as goal

pub returns-clause-value : goal.returns-clause-value
returns-clause-value c f l =
    own_item f _ c.in_ok-d.d c.args.t.now.kids.now c.own-first.result
    (c.in_default.ensures.value f (later_trans c.args.s.now c.default_in.new.s f c.default_in.ensures.grown.later l)) (omega arith)
    c.own-first.ensures.value (c.in_ok-d.ensures.value f l)

pub returns-clause-there : goal.returns-clause-there
returns-clause-there c f l =
    let some : 0 < length (but_last (but_last c.args.t.now.kids.now)) = omega (arith, c.item_count.ensures) in
    let none = c.in_default.ensures.value f l in
    element_own _ (length (but_last (but_last c.args.t.now.kids.now))) _ _ none some
    (first_default (is_some (hinted_element f c.args.t.now.case.now.hint)) c.args.t.now.kids.now _ (sym (ap is_some none)) some
    (c.in_ok-d.ensures.there ∙ ap has_default c.own-first.ensures.value))
