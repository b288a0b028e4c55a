use Rattle.std.proofs.Common.{◌≡◌, ◌<◌, length, nat_eq, nat_lt, ap, sym, ◌∙◌, arith}
use Rattle.hare_types.proofs.LaterLemmas.{later_trans}
use Rattle.hare_rules.specs.Aggregates.{but_last}
use Rattle.hare_rules.specs.Words.{default_in}
use Rattle.hare_rules.specs.Settles.{default_at}
use Rattle.rule_judge.specs.Turns.{context_in}
use Rattle.rule_mem.proofs.ItemLemmas.{later_stays, none_stays, element_stays, first_goes}
use Rattle.rule_mem.proofs.arrays.item_target.Goals as goal

pub returns-then-i-ne0-clause-value : goal.returns-then-i-ne0-clause-value
returns-then-i-ne0-clause-value c f l = later_stays _ _ _ _ c.if-i-ne0.true

pub returns-then-item_count-eq0-clause-value : goal.returns-then-item_count-eq0-clause-value
returns-then-item_count-eq0-clause-value c f l =
    let none : length (but_last (but_last c.args.t.now.kids.now)) ≡ 0 = sym c.item_count.ensures ∙ c.if-item_count-eq0.true in
    none_stays _ _ _ _ none

pub returns-then-is_hinted-clause-value : goal.returns-then-is_hinted-clause-value
returns-then-is_hinted-clause-value c f l =
    element_stays (nat_eq c.args.i 0) (nat_lt 0 (length (but_last (but_last c.args.t.now.kids.now)))) _
    (default_at (context_in f c.args.t.now) c.args.i) (sym (c.is_hinted.ensures f l) ∙ c.if-is_hinted.true)

pub returns-clause-value : goal.returns-clause-value
returns-clause-value c f l =
    let before = later_trans c.args.s.now c.default_in.new.s f c.default_in.ensures.grown.later l in
    let first : c.args.i ≡ 0 = omega arith in
    let some : 0 < length (but_last (but_last c.args.t.now.kids.now)) = omega (arith, c.item_count.ensures) in
    first_goes _ _ _ _ c.in_ok-d.d first some (sym (c.is_hinted.ensures f before) ∙ c.if-is_hinted.false)
    (c.in_ok-d.ensures.value f l ∙ ap (default_in f) c.own-item.ensures.value)
