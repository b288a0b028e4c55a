use Rattle.std.proofs.Common.{[], ◌∷◌}
use Rattle.std.specs.Prelude.{Ok}
use Rattle.hx_runtime.specs.declared.runtime.RuntimeFunction.TheVariants as function
use Rattle.il_acts.specs.Outside.{Streams}
use Rattle.il_acts.proofs.Calling.{puts_args, write_args, read_args, malloc_args, free_args, move_args, same_args, abort_args, exit_args, arg_args, called_alone, called_counting, called_putting, called_taking}
use Rattle.il_acts.proofs.call.act.Goals as goal

pub returns-in-Puts-clause-done : goal.returns-in-Puts-clause-done
returns-in-Puts-clause-done g c =
    let a = c.argument-a.result in
    let b = c.argument-b.result in
    called_putting c.args.function function.Puts c.in-Puts.is (a ∷ b ∷ []) c.args.args.now
    (puts_args c.args.args.now a c.argument-a.ensures b c.argument-b.ensures)
    c.args.memory.now c.args.heap.now (g.I.Source.left c.args.input.now) (g.O.Sink.written c.args.out.now)
    (g.O.Sink.written c.put.new.out) c.args.arguments c.put.result c.put.ensures.done

pub returns-in-Puts-clause-counts : goal.returns-in-Puts-clause-counts
returns-in-Puts-clause-counts g c = c.put.ensures.counts (g.I.Source.faults c.args.input.now)

pub returns-in-Write-clause-done : goal.returns-in-Write-clause-done
returns-in-Write-clause-done g c =
    let a = c.argument-a.result in
    let b = c.argument-b.result in
    called_putting c.args.function function.Write c.in-Write.is (a ∷ b ∷ []) c.args.args.now
    (write_args c.args.args.now a c.argument-a.ensures b c.argument-b.ensures)
    c.args.memory.now c.args.heap.now (g.I.Source.left c.args.input.now) (g.O.Sink.written c.args.out.now)
    (g.O.Sink.written c.put-in-Write.new.out) c.args.arguments c.put-in-Write.result c.put-in-Write.ensures.done

pub returns-in-Write-clause-counts : goal.returns-in-Write-clause-counts
returns-in-Write-clause-counts g c = c.put-in-Write.ensures.counts (g.I.Source.faults c.args.input.now)

pub returns-in-Read-clause-done : goal.returns-in-Read-clause-done
returns-in-Read-clause-done g c =
    let a = c.argument-a.result in
    let b = c.argument-b.result in
    called_taking c.args.function function.Read c.in-Read.is (a ∷ b ∷ []) c.args.args.now
    (read_args c.args.args.now a c.argument-a.ensures b c.argument-b.ensures)
    c.args.memory.now c.read.new.memory c.args.heap.now (g.I.Source.left c.args.input.now)
    (g.I.Source.left c.read.new.input) (g.O.Sink.written c.args.out.now) c.args.arguments c.read.result c.read.ensures.done

pub returns-in-Read-clause-counts : goal.returns-in-Read-clause-counts
returns-in-Read-clause-counts g c = c.read.ensures.counts (g.O.Sink.faults c.args.out.now)

pub returns-in-Malloc-clause-done : goal.returns-in-Malloc-clause-done
returns-in-Malloc-clause-done g c =
    let a = c.argument-a.result in
    let s : Streams = record { left = g.I.Source.left c.args.input.now; written = g.O.Sink.written c.args.out.now } in
    called_alone c.args.function function.Malloc c.in-Malloc.is (a ∷ []) c.args.args.now
    (malloc_args c.args.args.now a c.argument-a.ensures)
    c.args.memory.now c.malloc.new.memory c.args.heap.now c.malloc.new.self s c.args.arguments c.malloc.result
    c.malloc.ensures.done

pub returns-in-Malloc-clause-counts : goal.returns-in-Malloc-clause-counts
returns-in-Malloc-clause-counts g c = c.malloc.ensures.quiet (g.I.Source.faults c.args.input.now) (g.O.Sink.faults c.args.out.now)

pub returns-in-Free-clause-done : goal.returns-in-Free-clause-done
returns-in-Free-clause-done g c =
    let a = c.argument-a.result in
    let s : Streams = record { left = g.I.Source.left c.args.input.now; written = g.O.Sink.written c.args.out.now } in
    called_alone c.args.function function.Free c.in-Free.is (a ∷ []) c.args.args.now
    (free_args c.args.args.now a c.argument-a.ensures)
    c.args.memory.now c.free.new.memory c.args.heap.now c.free.new.self s c.args.arguments (Ok c.free.result)
    c.free.ensures.done

pub returns-in-Free-clause-counts : goal.returns-in-Free-clause-counts
returns-in-Free-clause-counts g c = c.free.ensures.quiet (g.I.Source.faults c.args.input.now) (g.O.Sink.faults c.args.out.now)

pub returns-in-Move-clause-done : goal.returns-in-Move-clause-done
returns-in-Move-clause-done g c =
    let a = c.argument-a.result in
    let b = c.argument-b.result in
    let d = c.argument-c.result in
    let s : Streams = record { left = g.I.Source.left c.args.input.now; written = g.O.Sink.written c.args.out.now } in
    called_alone c.args.function function.Move c.in-Move.is (a ∷ b ∷ d ∷ []) c.args.args.now
    (move_args c.args.args.now a c.argument-a.ensures b c.argument-b.ensures d c.argument-c.ensures)
    c.args.memory.now c.move_bytes.new.memory c.args.heap.now c.args.heap.now s c.args.arguments c.move_bytes.result
    (c.move_bytes.ensures.done c.args.heap.now)

pub returns-in-Move-clause-counts : goal.returns-in-Move-clause-counts
returns-in-Move-clause-counts g c = c.move_bytes.ensures.quiet (g.I.Source.faults c.args.input.now) (g.O.Sink.faults c.args.out.now)

pub returns-in-Same-clause-done : goal.returns-in-Same-clause-done
returns-in-Same-clause-done g c =
    let a = c.argument-a.result in
    let b = c.argument-b.result in
    let d = c.argument-c.result in
    let s : Streams = record { left = g.I.Source.left c.args.input.now; written = g.O.Sink.written c.args.out.now } in
    called_alone c.args.function function.Same c.in-Same.is (a ∷ b ∷ d ∷ []) c.args.args.now
    (same_args c.args.args.now a c.argument-a.ensures b c.argument-b.ensures d c.argument-c.ensures)
    c.args.memory.now c.args.memory.now c.args.heap.now c.args.heap.now s c.args.arguments (Ok c.same_bytes.result)
    (c.same_bytes.ensures.done c.args.heap.now)

pub returns-in-Same-clause-counts : goal.returns-in-Same-clause-counts
returns-in-Same-clause-counts g c = c.same_bytes.ensures.quiet (g.I.Source.faults c.args.input.now) (g.O.Sink.faults c.args.out.now)

pub returns-in-Abort-clause-done : goal.returns-in-Abort-clause-done
returns-in-Abort-clause-done g c =
    let a = c.argument-a.result in
    let b = c.argument-b.result in
    let s : Streams = record { left = g.I.Source.left c.args.input.now; written = g.O.Sink.written c.args.out.now } in
    called_alone c.args.function function.Abort c.in-Abort.is (a ∷ b ∷ []) c.args.args.now
    (abort_args c.args.args.now a c.argument-a.ensures b c.argument-b.ensures)
    c.args.memory.now c.args.memory.now c.args.heap.now c.args.heap.now s c.args.arguments c.abort.result
    (c.abort.ensures.done c.args.heap.now)

pub returns-in-Abort-clause-counts : goal.returns-in-Abort-clause-counts
returns-in-Abort-clause-counts g c = c.abort.ensures.quiet (g.I.Source.faults c.args.input.now) (g.O.Sink.faults c.args.out.now)

pub returns-in-Exit-clause-done : goal.returns-in-Exit-clause-done
returns-in-Exit-clause-done g c =
    let a = c.argument-a.result in
    let s : Streams = record { left = g.I.Source.left c.args.input.now; written = g.O.Sink.written c.args.out.now } in
    called_counting c.args.function function.Exit c.in-Exit.is (a ∷ []) c.args.args.now
    (exit_args c.args.args.now a c.argument-a.ensures)
    c.args.memory.now c.args.heap.now s c.args.arguments c.exit.result (c.exit.ensures.done c.args.arguments)

pub returns-in-Exit-clause-counts : goal.returns-in-Exit-clause-counts
returns-in-Exit-clause-counts g c = c.exit.ensures.quiet (g.I.Source.faults c.args.input.now) (g.O.Sink.faults c.args.out.now)

pub returns-in-Nargs-clause-done : goal.returns-in-Nargs-clause-done
returns-in-Nargs-clause-done g c =
    let s : Streams = record { left = g.I.Source.left c.args.input.now; written = g.O.Sink.written c.args.out.now } in
    called_counting c.args.function function.Nargs c.in-Nargs.is [] c.args.args.now
    (λ l w r h. h)
    c.args.memory.now c.args.heap.now s c.args.arguments c.nargs.result c.nargs.ensures.done

pub returns-in-Nargs-clause-counts : goal.returns-in-Nargs-clause-counts
returns-in-Nargs-clause-counts g c = c.nargs.ensures.quiet (g.I.Source.faults c.args.input.now) (g.O.Sink.faults c.args.out.now)

pub returns-in-Arg-clause-done : goal.returns-in-Arg-clause-done
returns-in-Arg-clause-done g c =
    let a = c.argument-a.result in
    let s : Streams = record { left = g.I.Source.left c.args.input.now; written = g.O.Sink.written c.args.out.now } in
    called_counting c.args.function function.Arg c.in-Arg.is (a ∷ []) c.args.args.now
    (arg_args c.args.args.now a c.argument-a.ensures)
    c.args.memory.now c.args.heap.now s c.args.arguments c.arg.result c.arg.ensures.done

pub returns-in-Arg-clause-counts : goal.returns-in-Arg-clause-counts
returns-in-Arg-clause-counts g c = c.arg.ensures.quiet (g.I.Source.faults c.args.input.now) (g.O.Sink.faults c.args.out.now)
