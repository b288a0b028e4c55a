use Rattle.std.proofs.Common.{ap, subst}
use Rattle.std.specs.Prelude.{Err, alloc_error}
use Rattle.hx_base.specs.Memory.{Memory, move}
use Rattle.il_mem.specs.declared.stop.MemStop.{MemStop}
use Rattle.il_mem.specs.Holds.{Holds, Changes}
use Rattle.il_acts.proofs.Answering.{move_done, move_wild, move_wants}
use Rattle.il_acts.proofs.bytes.move_bytes.Goals as goal

pub returns-in-Ok-clause-done : goal.returns-in-Ok-clause-done
returns-in-Ok-clause-done c = λ heap.
    move_done c.args.memory.now c.move_bytes.new.self heap c.args.to c.args.from c.args.n c.in-Ok.ensures.done c.in-Ok.ensures.pages

pub returns-in-Err-Wild-clause-done : goal.returns-in-Err-Wild-clause-done
returns-in-Err-Wild-clause-done c = λ heap.
    let new = c.move_bytes.new.self in
    let done = subst (λ (x : MemStop). (m : Memory) → Holds c.args.memory.now m →
    Changes new (move m c.args.to c.args.from c.args.n) (Err x))
    c.in-Err-Wild.field-0-is c.in-Err-Wild.ensures.done in
    move_wild c.args.memory.now new heap c.args.to c.args.from c.args.n done c.in-Err-Wild.ensures.kept

pub returns-in-Err-Memory-clause-done : goal.returns-in-Err-Memory-clause-done
returns-in-Err-Memory-clause-done c = λ heap.
    let new = c.move_bytes.new.self in
    let is = c.in-Err-Memory.field-0-is in
    let done = subst (λ (x : MemStop). (m : Memory) → Holds c.args.memory.now m →
    Changes new (move m c.args.to c.args.from c.args.n) (Err x))
    is c.in-Err-Memory.ensures.done in
    move_wants c.args.memory.now new heap c.args.to c.args.from c.args.n alloc_error done c.in-Err-Memory.ensures.kept
    (λ all. c.in-Err-Memory.ensures.held all (ap Err is))
