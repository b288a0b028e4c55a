use Rattle.rule_judge.proofs.HintLemmas.{held_each}
use Rattle.rule_mem.proofs.hints.hinted_components.Goals as goal

pub returns-then-len-count-clause-defined : goal.returns-then-len-count-clause-defined
returns-then-len-count-clause-defined c =
    held_each c.args.s.now c.in-Some-Tuple.field-0.now c.in-Some-Tuple.types c.as_slice.result.now c.in-Some-Tuple.ensures.defined
    c.in-Some-Tuple.field-0-is c.as_slice.ensures
