use Rattle.rule_judge.proofs.HeldLemmas.{held_slice, held_array}
use Rattle.rule_ctl.proofs.tries.element.Goals as goal

pub returns-in-Some-Slice-clause-defined : goal.returns-in-Some-Slice-clause-defined
returns-in-Some-Slice-clause-defined c =
    held_slice c.args.s.now c.in-Some-Slice.field-0.now c.in-Some-Slice.u c.in-Some-Slice.ensures.defined c.in-Some-Slice.field-0-is

pub returns-in-Some-Array-clause-defined : goal.returns-in-Some-Array-clause-defined
returns-in-Some-Array-clause-defined c =
    held_array c.args.s.now c.in-Some-Array.field-0.now c.in-Some-Array.field-0-0 c.in-Some-Array.u c.in-Some-Array.ensures.defined
    c.in-Some-Array.field-0-is
