use Rattle.std.proofs.Common.{arith}
use Rattle.hare_names.proofs.DoubledLemmas.{doubling-start, doubling-on, doubling-done}
use Rattle.hare_names.proofs.doubled.doubled_kids.Goals as goal

pub loop-i-init : goal.loop-i-init
loop-i-init c = doubling-start c.args.kids.now c.args.found c.clear.new.self c.clear.ensures

pub loop-i-preserved : goal.loop-i-preserved
loop-i-preserved c =
    doubling-on c.args.kids.now c.args.found c.loop-i.first _ c.loop-i.i c.loop-i.names _ c.in-Some.kid.now c.in-Some.ensures.found
    c.in_ok-first.ensures.names c.in_ok-first.ensures.first c.loop-i.invariant

pub returns : goal.returns
returns c = doubling-done c.args.kids.now c.args.found c.loop-i.first c.loop-i.i c.loop-i.names (omega arith) c.loop-i.invariant
