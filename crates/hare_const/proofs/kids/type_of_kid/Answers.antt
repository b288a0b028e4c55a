use Rattle.hare_const.proofs.NodeLemmas.{type-found, type-missing}
use Rattle.hare_const.proofs.kids.type_of_kid.Goals as goal

pub returns-in-Some : goal.returns-in-Some
returns-in-Some c =
    type-found c.args.t.now c.in-Some.kid.now _ _ _ _ c.t.inside.kids _ c.args.i c.t.view_is c.kid.view_is c.in-Some.ensures.found

pub returns-in-None : goal.returns-in-None
returns-in-None c = type-missing c.args.t.now _ _ c.t.inside.kids c.args.i c.t.view_is c.in-None.ensures.none
