use Rattle.rule_judge.proofs.HintLemmas.{held_members}
use Rattle.rule_judge.proofs.hints.allocation.Goals as goal

pub only_allocated-requires : goal.only_allocated-requires
only_allocated-requires c =
    held_members c.args.s.now c.in-Some-Union.field-0.now c.in-Some-Union.members c.as_slice.result.now c.in-Some-Union.ensures.defined
    c.in-Some-Union.field-0-is c.as_slice.ensures
