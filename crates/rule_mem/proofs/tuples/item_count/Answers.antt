use Rattle.std.proofs.Common.{ap, sym, ◌∙◌, ◌-◌}
use Rattle.rule_mem.proofs.FillLemmas.{length-but_last}
use Rattle.rule_mem.proofs.tuples.item_count.Goals as goal

pub returns : goal.returns
returns c = c.saturating_sub.ensures ∙ ap (λ n. n - 1) c.len.ensures ∙ sym (length-but_last c.args.t.now.kids.now)
