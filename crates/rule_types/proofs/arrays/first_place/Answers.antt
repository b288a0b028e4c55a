use Rattle.std.proofs.Common.{ap, ◌∙◌}
use Rattle.hare_rules.specs.Context.{place_of}
use Rattle.rule_types.proofs.LengthLemmas.{first_is, no_place}
use Rattle.rule_types.proofs.arrays.first_place.Goals as goal

pub returns-in-Some : goal.returns-in-Some
returns-in-Some c = ap place_of (c.kid.view_is ∙ first_is c.args.kids.now c.in-Some.kid.now c.in-Some.ensures.found)

pub returns-in-None : goal.returns-in-None
returns-in-None c = no_place c.args.kids.now c.in-None.ensures.none
