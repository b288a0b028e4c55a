use Rattle.std.proofs.Common.{◌≡◌, ℕ, ◌+◌, ◌<◌, ◌≤◌, length, take, false, true≢false, length-take, sym, ◌∙◌, subst, arith}
use Rattle.std.specs.Io.KnownBytes.{Appends}
use Rattle.hx_base.specs.Memory.{all_mapped, bytes_at}
use Rattle.il_acts.specs.declared.acted.Acted.TheVariants as acted
use Rattle.il_acts.specs.declared.acted.RuntimeFault.TheVariants as fault
use Rattle.il_acts.proofs.Streaming.{put_done, put_fails, put_wild, put_never, appends_more, appends_front, piece_mapped, on_ok, on_err}
use Rattle.il_acts.proofs.output.put.Goals as goal

pub returns-then-not-is_mapped-clause-done : goal.returns-then-not-is_mapped-clause-done
returns-then-not-is_mapped-clause-done g c =
    put_wild c.args.memory.now (g.O.Sink.written c.args.out.now) c.args.at c.args.n
    (λ m h. sym (c.is_mapped.ensures.value m h) ∙ c.if-not-is_mapped.true)

pub returns-then-is_err-clause-done : goal.returns-then-is_err-clause-done
returns-then-is_err-clause-done g c =
    let at = c.args.at in
    let n = c.args.n in
    let done = c.pieces.done in
    let len = c.min-len.result in
    let few : done + len ≤ n = omega (arith, c.min-len.ensures, c.pieces-test.true) in
    let size : length (take len c.pieces.buf) ≡ len =
    length-take len c.pieces.buf ∙ omega (arith, c.min-len.ensures, c.min-len.array_long) in
    put_never c.args.memory.now (g.O.Sink.written c.args.out.now) (g.O.Sink.written c.pieces.out) at n (acted.Faults fault.Wild) (λ m h.
    let mapped = piece_mapped m at n done len (sym (c.is_mapped.ensures.value m h) ∙ c.if-not-is_mapped.false) few in
    let bare = on_err c.read.result (sym c.is_err.ensures.value ∙ c.if-is_err.true) (c.read.ensures.wild m h) in
    true≢false (sym mapped ∙ subst (λ (k : ℕ). all_mapped m (at + done) k ≡ false) size bare))

pub returns-then-is_err-2-clause-done : goal.returns-then-is_err-2-clause-done
returns-then-is_err-2-clause-done g c =
    let at = c.args.at in
    let n = c.args.n in
    let done = c.pieces.done in
    let len = c.min-len.result in
    let few : done + len ≤ n = omega (arith, c.min-len.ensures, c.pieces-test.true) in
    let some : 0 < n = omega (arith, c.pieces-test.true) in
    let size : length (take len c.pieces.buf) ≡ len =
    length-take len c.pieces.buf ∙ omega (arith, c.min-len.ensures, c.min-len.array_long) in
    let front = on_err c.write_all.result (sym c.is_err-in-pieces.ensures.value ∙ c.if-is_err-2.true) c.write_all.ensures.err in
    put_fails c.args.memory.now (g.O.Sink.written c.args.out.now) (g.O.Sink.written c.write_all.new.out) at n some (λ m h.
    let read = on_ok c.read.result (sym c.is_err.ensures.value ∙ c.if-is_err.false) (c.read.ensures.bytes m h) in
    let piece = subst (λ (k : ℕ). c.read.new.bytes ≡ bytes_at m (at + done) k) size read in (
      sym (c.is_mapped.ensures.value m h) ∙ c.if-not-is_mapped.false,
      appends_front (g.O.Sink.written c.args.out.now) (g.O.Sink.written c.pieces.out) (g.O.Sink.written c.write_all.new.out) m at done len n
          c.read.new.bytes (c.pieces.invariant.put m h) front piece few,
    ))

pub pieces-preserved : goal.pieces-preserved
pieces-preserved g c =
    let at = c.args.at in
    let done = c.pieces.done in
    let len = c.min-len.result in
    let few : done + len ≤ c.args.n = omega (arith, c.min-len.ensures, c.pieces-test.true) in
    let size : length (take len c.pieces.buf) ≡ len =
    length-take len c.pieces.buf ∙ omega (arith, c.min-len.ensures, c.min-len.array_long) in
    let wrote = sym c.is_err-in-pieces.ensures.value ∙ c.if-is_err-2.false in
    record {
      within = few;
      put = λ m h.
          let read = on_ok c.read.result (sym c.is_err.ensures.value ∙ c.if-is_err.false) (c.read.ensures.bytes m h) in
          let piece = subst (λ (k : ℕ). c.read.new.bytes ≡ bytes_at m (at + done) k) size read in
          appends_more (g.O.Sink.written c.args.out.now) (g.O.Sink.written c.pieces.out) (g.O.Sink.written c.write_all.new.out) m at done len
          c.read.new.bytes (c.pieces.invariant.put m h) (on_ok c.write_all.result wrote c.write_all.ensures.ok) piece;
      kept = on_ok c.write_all.result wrote c.write_all.ensures.count.kept ∙ c.pieces.invariant.kept;
    }

pub returns-clause-done : goal.returns-clause-done
returns-clause-done g c =
    let at = c.args.at in
    let n = c.args.n in
    let all : c.pieces.done ≡ n = omega (arith, c.pieces.invariant.within, c.pieces-test.false) in
    put_done c.args.memory.now (g.O.Sink.written c.args.out.now) (g.O.Sink.written c.pieces.out) at n (λ m h. (
      sym (c.is_mapped.ensures.value m h) ∙ c.if-not-is_mapped.false,
      subst (λ (k : ℕ). Appends (g.O.Sink.written c.args.out.now) (g.O.Sink.written c.pieces.out) (bytes_at m at k)) all
          (c.pieces.invariant.put m h),
    ))
