use Rattle.rule_judge.proofs.HeldLemmas.{held_pointer, held_nullable}
use Rattle.rule_ctl.proofs.tries.pointee.Goals as goal

pub returns-in-Some-Pointer-clause-defined : goal.returns-in-Some-Pointer-clause-defined
returns-in-Some-Pointer-clause-defined c =
    held_pointer c.args.s.now c.in-Some-Pointer.field-0.now c.in-Some-Pointer.u c.in-Some-Pointer.ensures.defined
    c.in-Some-Pointer.field-0-is

pub returns-in-Some-Nullable-clause-defined : goal.returns-in-Some-Nullable-clause-defined
returns-in-Some-Nullable-clause-defined c =
    held_nullable c.args.s.now c.in-Some-Nullable.field-0.now c.in-Some-Nullable.u c.in-Some-Nullable.ensures.defined
    c.in-Some-Nullable.field-0-is
