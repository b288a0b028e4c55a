use Rattle.rule_judge.proofs.HeldLemmas.{held_slice}
use Rattle.rule_mem.proofs.reads.slice_element.Goals as goal

pub returns-in-Some-Slice-clause-defined : goal.returns-in-Some-Slice-clause-defined
returns-in-Some-Slice-clause-defined c =
    held_slice c.args.s.now c.in-Some-Slice.field-0.now c.in-Some-Slice.t c.in-Some-Slice.ensures.defined c.in-Some-Slice.field-0-is
