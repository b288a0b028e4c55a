use Rattle.std.proofs.Common.{◌<◌, ◌≤◌, length, ap, sym, ◌∙◌, arith}
use Rattle.hare_types.proofs.LaterLemmas.{later_trans}
use Rattle.hare_rules.specs.Aggregates.{but_last}
use Rattle.hare_rules.specs.Words.{default_in}
use Rattle.rule_mem.proofs.ItemLemmas.{component_stays, behind_stays, component_goes}
use Rattle.rule_mem.proofs.tuples.item_target.Goals as goal

pub returns-then-is_hinted-clause-value : goal.returns-then-is_hinted-clause-value
returns-then-is_hinted-clause-value c f l = component_stays _ _ _ _ (sym (c.is_hinted.ensures f l) ∙ c.if-is_hinted.true)

pub returns-then-item_count-i-clause-value : goal.returns-then-item_count-i-clause-value
returns-then-item_count-i-clause-value c f l =
    let past : length (but_last c.args.t.now.kids.now) ≤ c.args.i = omega (arith, c.item_count.ensures) in
    behind_stays _ _ _ _ past

pub returns-clause-value : goal.returns-clause-value
returns-clause-value c f l =
    let before = later_trans c.args.s.now c.default_in.new.s f c.default_in.ensures.grown.later l in
    let item : c.args.i < length (but_last c.args.t.now.kids.now) = omega (arith, c.item_count.ensures) in
    component_goes _ _ _ _ c.in_ok-d.d (sym (c.is_hinted.ensures f before) ∙ c.if-is_hinted.false) item
    (c.in_ok-d.ensures.value f l ∙ ap (default_in f) c.own-item.ensures.value)
