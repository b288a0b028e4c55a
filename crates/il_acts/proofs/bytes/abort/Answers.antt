use Rattle.std.proofs.Common.{◌≡◌, ℕ, ◌+◌, ◌≤◌, length, take, false, true≢false, length-take, sym, ap, ◌∙◌, subst, arith}
use Rattle.hx_base.specs.Memory.{all_mapped, bytes_at}
use Rattle.il_acts.proofs.Answering.{abort_done, abort_wild, alone_never}
use Rattle.il_acts.proofs.Streaming.{bytes_more, piece_mapped, on_ok, on_err}
use Rattle.hx_runtime.specs.declared.runtime.RuntimeFunction.TheVariants as function
use Rattle.std.proofs.Common.{[], ◌∷◌}
use Rattle.il_acts.specs.declared.acted.Acted.TheVariants as acted
use Rattle.il_acts.specs.declared.acted.RuntimeFault.TheVariants as fault
use Rattle.il_acts.proofs.bytes.abort.Goals as goal

pub returns-then-not-is_mapped-clause-done : goal.returns-then-not-is_mapped-clause-done
returns-then-not-is_mapped-clause-done c = λ heap.
    abort_wild c.args.memory.now heap c.args.at c.args.n (λ m h. sym (c.is_mapped.ensures.value m h) ∙ c.if-not-is_mapped.true)

pub returns-then-is_err-clause-done : goal.returns-then-is_err-clause-done
returns-then-is_err-clause-done c = λ heap.
    let at = c.args.at in
    let n = c.args.n in
    let done = c.pieces.done in
    let len = c.min-len.result in
    let few : done + len ≤ n = omega (arith, c.min-len.ensures, c.pieces-test.true) in
    let size : length (take len c.pieces.buf) ≡ len =
    length-take len c.pieces.buf ∙ omega (arith, c.min-len.ensures, c.min-len.array_long) in
    alone_never c.args.memory.now c.args.memory.now heap heap function.Abort (at ∷ n ∷ []) (acted.Faults fault.Wild) (λ m h.
    let mapped = piece_mapped m at n done len (sym (c.is_mapped.ensures.value m h) ∙ c.if-not-is_mapped.false) few in
    let bare = on_err c.read.result (sym c.is_err.ensures.value ∙ c.if-is_err.true) (c.read.ensures.wild m h) in
    true≢false (sym mapped ∙ subst (λ (k : ℕ). all_mapped m (at + done) k ≡ false) size bare))

pub pieces-preserved : goal.pieces-preserved
pieces-preserved c =
    let at = c.args.at in
    let done = c.pieces.done in
    let len = c.min-len.result in
    let few : done + len ≤ c.args.n = omega (arith, c.min-len.ensures, c.pieces-test.true) in
    let size : length (take len c.pieces.buf) ≡ len =
    length-take len c.pieces.buf ∙ omega (arith, c.min-len.ensures, c.min-len.array_long) in
    record {
      within = few;
      text = λ m h.
          let read = on_ok c.read.result (sym c.is_err.ensures.value ∙ c.if-is_err.false) (c.read.ensures.bytes m h) in
          let piece = subst (λ (k : ℕ). c.read.new.bytes ≡ bytes_at m (at + done) k) size read in
          c.in_ok-extend.ensures.ok ∙ bytes_more m at done len c.pieces.text c.read.new.bytes (c.pieces.invariant.text m h) piece;
    }

pub returns-clause-done : goal.returns-clause-done
returns-clause-done c = λ heap.
    let at = c.args.at in
    let all : c.pieces.done ≡ c.args.n = omega (arith, c.pieces.invariant.within, c.pieces-test.false) in
    abort_done c.args.memory.now heap at c.args.n c.pieces.text (λ m h. (
      sym (c.is_mapped.ensures.value m h) ∙ c.if-not-is_mapped.false,
      c.pieces.invariant.text m h ∙ ap (bytes_at m at) all,
    ))
