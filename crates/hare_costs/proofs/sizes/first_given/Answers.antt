use Rattle.hare_typed.proofs.GivenLemmas.{first_given-get}
use Rattle.hare_costs.proofs.sizes.first_given.Goals as goal

pub returns-in-Some : goal.returns-in-Some
returns-in-Some c = first_given-get c.args.kids.now _ c.in-Some.t.now c.in-Some.ensures.found c.t.view_is
