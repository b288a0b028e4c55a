-- The way to the goal stands behind the call.
use Rattle.il_emit.proofs.Lines.Emitting.{go_emits}
use Rattle.il_emit.proofs.code.call.Goals as goal

pub returns : goal.returns
returns c =
    go_emits c.args.goal c.args.e.now c.named_call.new.e c.go.new.self _ _ c.in_ok-named_call.ensures c.in_ok-go.ensures
