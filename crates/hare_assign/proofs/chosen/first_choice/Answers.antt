use Rattle.hare_assign.proofs.ChosenLemmas.{first_within}
use Rattle.hare_assign.proofs.chosen.first_choice.Goals as goal

pub returns-in-Some-clause-within : goal.returns-in-Some-clause-within
returns-in-Some-clause-within c =
    first_within c.args.s.now c.args.from c.in-Some.members.now c.first_member.result c.in-Some.ensures.within c.first_member.ensures
