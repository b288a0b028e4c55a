use Rattle.hare_costs.proofs.SizeLemmas.{second_given-get, second_given-past}
use Rattle.hare_costs.proofs.sizes.second_given.Goals as goal

pub returns-in-Some : goal.returns-in-Some
returns-in-Some c = second_given-get c.args.kids.now _ c.in-Some.t.now c.in-Some.ensures.found c.t.view_is

pub returns-in-None : goal.returns-in-None
returns-in-None c = second_given-past c.args.kids.now c.in-None.ensures.none
