-- The call stands behind what computes the addresses of its arguments.
use Rattle.std.proofs.Common.{refl}
use Rattle.il_emit.proofs.Lines.Emitting.{call_emits}
use Rattle.il_emit.proofs.emitter.Emitter.call.Goals as goal

pub returns : goal.returns
returns c =
    call_emits c.args.globals.now c.args.args.now c.args.signature.now.params.now c.args.signature.now.params.now c.in_ok-args.args _
    c.args.name.now c.in_ok-call.call c.args.self.now c.args-2.new.self c.inst.new.self
    c.in_ok-args.ensures.ok c.in_ok-args.ensures.value refl c.in_ok-call.ensures c.in_ok-inst.ensures
