use Rattle.std.proofs.Common.{ap, sym, ◌∙◌, arith}
use Rattle.hare_rules.specs.Words.{has_default}
use Rattle.rule_mem.proofs.ArrayLemmas.{first_default}
use Rattle.rule_mem.proofs.arrays.has_first_default.Goals as goal

pub returns : goal.returns
returns c f l =
    first_default _ c.args.t.now.kids.now c.has_default.result (sym (c.is_hinted.ensures f l) ∙ c.if-is_hinted.false) (omega arith)
    (c.has_default.ensures ∙ ap has_default c.own.ensures.value)
