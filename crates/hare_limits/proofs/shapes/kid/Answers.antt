use Rattle.hare_limits.proofs.EntryFound.Kids.{kid-get, kid-none}
use Rattle.hare_limits.proofs.shapes.kid.Goals as goal

pub returns-in-Some : goal.returns-in-Some
returns-in-Some c = kid-get _ _ c.t.inside.kids c.args.t.now c.in-Some.k.now c.args.i c.t.view_is c.in-Some.ensures.found

pub returns-in-None : goal.returns-in-None
returns-in-None c = kid-none _ _ c.t.inside.kids c.args.t.now c.args.i c.t.view_is c.in-None.ensures.none
