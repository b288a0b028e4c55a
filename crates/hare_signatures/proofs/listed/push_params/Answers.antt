use Rattle.std.proofs.Common.{map}
use Rattle.hare_signatures.specs.Listed.{written_of}
use Rattle.hare_signatures.proofs.ListLemmas.{types_among-next}
use Rattle.hare_signatures.proofs.listed.push_params.Goals as goal

pub loop-i-preserved : goal.loop-i-preserved
loop-i-preserved c =
    types_among-next c.args.params.now c.loop-i.i c.in-Some.param.now (map written_of c.args.written.now.items)
    (map written_of c.loop-i.written.items) (map written_of c.push_param.new.written.items) c.in-Some.ensures.found c.loop-i.invariant
    c.in_ok-push_param.ensures
