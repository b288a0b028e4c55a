use Rattle.std.proofs.Common.{arith}
use Rattle.hare_const.proofs.NodeLemmas.{count-kids}
use Rattle.hare_const.proofs.array.items_in.Goals as goal

pub returns : goal.returns
returns c =
    let all = count-kids c.args.t.now _ _ c.t.inside.kids c.t.view_is in
    omega arith
