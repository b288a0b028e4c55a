use Rattle.std.proofs.Common.{◌+◌, [], ◌∷◌, sym, ap, ◌∙◌, subst, arith}
use Rattle.std.specs.Prelude.{not, Ok, Err, alloc_error}
use Rattle.hx_base.specs.Memory.{Memory, move}
use Rattle.hx_runtime.specs.declared.runtime.RuntimeFunction.TheVariants as function
use Rattle.il_mem.specs.declared.stop.MemStop.{MemStop}
use Rattle.il_mem.specs.Kept.{Kept}
use Rattle.il_mem.specs.Holds.{Holds, Changes}
use Rattle.il_acts.specs.declared.acted.Acted.TheVariants as acted
use Rattle.il_acts.specs.declared.acted.RuntimeFault.TheVariants as fault
use Rattle.il_acts.specs.Acts.{AnswersByTaking}
use Rattle.il_acts.proofs.Parts.{mapped_far, no_end, an_end}
use Rattle.il_acts.proofs.Reading.{read_by, adds_held}
use Rattle.il_acts.proofs.Streaming.{read_wild, read_wants, over_wild, over_wants}
use Rattle.il_acts.proofs.input.read.Goals as goal

pub returns-then-is_none-clause-done : goal.returns-then-is_none-clause-done
returns-then-is_none-clause-done g c =
    let at = c.args.at in
    let far = no_end c.checked_add.result (at + c.args.n) c.checked_add.ensures (c.is_none.ensures ∙ ap not c.if-is_none.true) in
    read_wild c.args.memory.now (g.I.Source.left c.args.input.now) at c.args.n
    (λ m h. mapped_far c.args.memory.now m at c.args.n c.requires.low h (omega arith) far)

pub fill-requires-clause-ends : goal.fill-requires-clause-ends
fill-requires-clause-ends g c =
    an_end c.checked_add.result (c.args.at + c.args.n) c.checked_add.ensures (c.is_none.ensures ∙ ap not c.if-is_none.false)

pub fill-requires-clause-held : goal.fill-requires-clause-held
fill-requires-clause-held g c = adds_held c.args.memory.now c.move_bytes.new.self c.args.at c.args.n c.in-Ok.ensures.pages

pub returns-in-Ok-clause-done : goal.returns-in-Ok-clause-done
returns-in-Ok-clause-done g c =
    read_by c.args.memory.now c.move_bytes.new.self c.fill.new.memory (g.I.Source.left c.args.input.now)
    (g.I.Source.left c.fill.new.input) c.args.at c.args.n c.in-Ok.ensures.done c.in-Ok.ensures.pages c.fill.result c.fill.ensures.done

pub returns-in-Err-Wild-clause-done : goal.returns-in-Err-Wild-clause-done
returns-in-Err-Wild-clause-done g c =
    let it = c.args.memory.now in
    let new = c.move_bytes.new.self in
    let at = c.args.at in
    let n = c.args.n in
    let left = g.I.Source.left c.args.input.now in
    let done = subst (λ (x : MemStop). (m : Memory) → Holds it m → Changes new (move m at at n) (Err x)) c.in-Err-Wild.field-0-is
    c.in-Err-Wild.ensures.done in
    subst (λ (x : Kept). AnswersByTaking it x left left function.Read (at ∷ n ∷ []) (Ok (acted.Faults fault.Wild)))
    (sym c.in-Err-Wild.ensures.kept) (read_wild it left at n (λ m h. over_wild new m at n (done m h)))

pub returns-in-Err-Memory-clause-done : goal.returns-in-Err-Memory-clause-done
returns-in-Err-Memory-clause-done g c =
    let it = c.args.memory.now in
    let new = c.move_bytes.new.self in
    let at = c.args.at in
    let n = c.args.n in
    let left = g.I.Source.left c.args.input.now in
    let is = c.in-Err-Memory.field-0-is in
    let done = subst (λ (x : MemStop). (m : Memory) → Holds it m → Changes new (move m at at n) (Err x)) is c.in-Err-Memory.ensures.done in
    subst (λ (x : Kept). AnswersByTaking it x left left function.Read (at ∷ n ∷ []) (Err alloc_error)) (sym c.in-Err-Memory.ensures.kept)
    (read_wants it left at n alloc_error (λ m h. over_wants new m at n (done m h))
    (λ all. c.in-Err-Memory.ensures.held all (ap Err is)))
