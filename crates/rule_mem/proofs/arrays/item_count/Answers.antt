use Rattle.std.proofs.Common.{ap, sym, ◌∙◌, ◌-◌}
use Rattle.rule_mem.proofs.ArrayLemmas.{length-items}
use Rattle.rule_mem.proofs.arrays.item_count.Goals as goal

pub returns : goal.returns
returns c = c.saturating_sub.ensures ∙ ap (λ n. n - 2) c.len.ensures ∙ sym (length-items c.args.t.now.kids.now)
