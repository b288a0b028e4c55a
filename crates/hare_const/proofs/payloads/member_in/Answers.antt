use Rattle.hare_assign.proofs.ChosenLemmas.{members_below}
use Rattle.hare_const.proofs.PayloadLemmas.{told_of_tag}
use Rattle.hare_const.proofs.payloads.member_in.Goals as goal

pub member_tagged-requires : goal.member_tagged-requires
member_tagged-requires c =
    members_below c.args.s.now c.declarations-law.ensures.sound c.args.of_union c.in-Some.members.now c.in-Some.ensures

pub returns-in-Some-clause-told : goal.returns-in-Some-clause-told
returns-in-Some-clause-told c =
    told_of_tag c.args.s.now c.args.of_union c.in_ok-tag.tag c.in-Some.members.now c.member_tagged.result c.requires c.in-Some.ensures
    c.member_tagged.ensures
