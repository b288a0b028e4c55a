use Rattle.std.proofs.Common.{arith}
use Rattle.std.specs.Prelude.{map}
use Rattle.hare_rules.specs.Aggregates.{but_last}
use Rattle.hare_whole.specs.Parts.{written_id}
use Rattle.hare_known.proofs.OneMore.WrittenTypes.{parameters-more, parameters-all}
use Rattle.hare_known.proofs.entries.parameters_of.Goals as goal

pub loop-i-preserved : goal.loop-i-preserved
loop-i-preserved c =
    let ts = c.args.types.now in
    parameters-more ts c.loop-i.params (map written_id (but_last ts)) c.loop-i.i c.loop-i.invariant c.push.new.self c.in_ok-param.param
    (omega arith) c.in_ok-param.ensures c.in_ok-push.ensures.ok

pub returns : goal.returns
returns c =
    let ts = c.args.types.now in
    parameters-all ts c.loop-i.params (map written_id (but_last ts)) c.loop-i.i c.loop-i.invariant (omega arith)
