use Rattle.std.proofs.Common.{arith, is_some, ap, sym, ◌∙◌}
use Rattle.hare_types.proofs.LaterLemmas.{later_trans}
use Rattle.hare_rules.specs.Words.{default_in}
use Rattle.rule_judge.specs.Settings.{setting_of}
use Rattle.rule_mem.proofs.ItemLemmas.{element_asked, first_unasked, later_item_asked}
use Rattle.rule_mem.proofs.arrays.item_asks.Goals as goal

pub returns-then-is_hinted-clause-value : goal.returns-then-is_hinted-clause-value
returns-then-is_hinted-clause-value c f l =
    element_asked (setting_of f c.args.t.now.decls.now) _ _ (sym (c.is_hinted.ensures f l) ∙ c.if-is_hinted.true)

pub returns-then-kids_before-eq0-clause-value : goal.returns-then-kids_before-eq0-clause-value
returns-then-kids_before-eq0-clause-value c f l =
    first_unasked (setting_of f c.args.t.now.decls.now) _ _ (sym (c.is_hinted.ensures f l) ∙ c.if-is_hinted.false)
    (omega (arith, c.kids_before.ensures))

pub returns-clause-value : goal.returns-clause-value
returns-clause-value c f l =
    let before = later_trans c.args.s.now c.default_in.new.s f c.default_in.ensures.grown.later l in
    c.is_some.ensures ∙ ap is_some (c.in_ok-d.ensures.value f l ∙ ap (default_in f) c.own-first.ensures.value)
    ∙ later_item_asked (setting_of f c.args.t.now.decls.now) _ c.args.t.now.kids.now c.args.i
    (sym (c.is_hinted.ensures f before) ∙ c.if-is_hinted.false)
    (λ e. omega (arith, e, c.kids_before.ensures))
