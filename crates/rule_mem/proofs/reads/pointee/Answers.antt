use Rattle.rule_judge.proofs.HeldLemmas.{held_pointer}
use Rattle.rule_mem.proofs.reads.pointee.Goals as goal

pub returns-in-Some-Pointer-clause-defined : goal.returns-in-Some-Pointer-clause-defined
returns-in-Some-Pointer-clause-defined c =
    held_pointer c.args.s.now c.in-Some-Pointer.field-0.now c.in-Some-Pointer.t c.in-Some-Pointer.ensures.defined
    c.in-Some-Pointer.field-0-is
