use Rattle.hare_modules.proofs.Trees.{kid-there, kid-past}
use Rattle.hare_finish.proofs.nodes.kid.Goals as goal

pub returns-in-Some : goal.returns-in-Some
returns-in-Some c = kid-there _ _ _ _ _ c.t.view_is c.in-Some.ensures.found

pub returns-in-None : goal.returns-in-None
returns-in-None c = kid-past _ _ _ _ c.t.view_is c.in-None.ensures.none
