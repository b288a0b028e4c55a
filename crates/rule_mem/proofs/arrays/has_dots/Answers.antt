use Rattle.std.proofs.Common.{ap, sym, ◌∙◌, ◌-◌, arith}
use Rattle.hare_typed.specs.Order.{tree_from_front}
use Rattle.hare_rules.specs.Context.{is_there}
use Rattle.hare_rules.specs.Aggregates.{there}
use Rattle.rule_mem.proofs.ArrayLemmas.{none-last, last_of-but_last}
use Rattle.rule_mem.proofs.arrays.has_dots.Goals as goal

pub returns-then-count-lt2 : goal.returns-then-count-lt2
returns-then-count-lt2 c = sym (ap there (none-last c.args.t.now.kids.now (omega arith)))

pub returns : goal.returns
returns c =
    c.is_there.ensures ∙ ap (λ n. is_there (tree_from_front (n - 2) c.args.t.now.kids.now)) c.len-count.ensures
    ∙ sym (ap there (last_of-but_last c.args.t.now.kids.now (omega arith)))
