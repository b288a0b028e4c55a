use Rattle.std.proofs.Common.{ap, sym, ◌∙◌, nat_eq, arith, ◌-◌}
use Rattle.std.specs.Option.{unwrap_or}
use Rattle.indexmap.specs.IndexMap.{get}
use Rattle.rule_mem.specs.Filled.{values_of}
use Rattle.rule_mem.proofs.FillLemmas.{filled-not, filled-once, each_once-counted}
use Rattle.rule_mem.proofs.fill.is_filled.Goals as goal

pub returns-then-saturating_sub-fields : goal.returns-then-saturating_sub-fields
returns-then-saturating_sub-fields c f l =
    filled-not f c.args.fields.now c.args.kids.now
    (λ e. c.if-saturating_sub-fields.true (c.saturating_sub.ensures ∙ ap (λ n. n - 2) c.len.ensures ∙ e))

pub returns : goal.returns
returns c f l =
    filled-once f c.args.fields.now c.args.kids.now c.each_once.result
    (sym (c.saturating_sub.ensures ∙ ap (λ n. n - 2) c.len.ensures) ∙ c.if-saturating_sub-fields.false)
    (c.each_once.ensures
    ∙ each_once-counted c.args.s.now f c.declarations-law.ensures.sound l (λ n. unwrap_or (get nat_eq c.in_ok-named.named n) 0)
    (values_of c.args.kids.now) c.args.fields.now c.in_ok-named.ensures c.requires)
