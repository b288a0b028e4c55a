use Rattle.hare_check.proofs.NodeAtHand.Looking.{none-before}
use Rattle.hare_check.proofs.walker.Walker.handed.Goals as goal

pub handed-requires : goal.handed-requires
handed-requires c =
    let w = c.args.self.now in
    let a = c.requires.2 in
    none-before _ _ _ _ _ _ w.seen.yields c.from.result c.level.result a.walks.1.spots c.from.ensures c.level.ensures
