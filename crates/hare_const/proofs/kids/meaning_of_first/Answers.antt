use Rattle.hare_const.proofs.NodeLemmas.{meaning-found, meaning-missing}
use Rattle.hare_const.proofs.kids.meaning_of_first.Goals as goal

pub returns-in-Some : goal.returns-in-Some
returns-in-Some c =
    meaning-found c.args.t.now c.in-Some.kid.now _ _ _ _ c.t.inside.kids _ 0 c.t.view_is c.kid.view_is c.in-Some.ensures.found

pub returns-in-None : goal.returns-in-None
returns-in-None c = meaning-missing c.args.t.now _ _ c.t.inside.kids 0 c.t.view_is c.in-None.ensures.none
