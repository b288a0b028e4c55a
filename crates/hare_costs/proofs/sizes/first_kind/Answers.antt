use Rattle.hare_costs.proofs.SizeLemmas.{first_kind-get}
use Rattle.hare_costs.proofs.sizes.first_kind.Goals as goal

pub returns-in-Some : goal.returns-in-Some
returns-in-Some c = first_kind-get c.args.kids.now _ c.in-Some.t.now c.in-Some.ensures.found c.t.view_is
