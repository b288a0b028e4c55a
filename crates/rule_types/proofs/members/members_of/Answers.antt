use Rattle.std.proofs.Common.{sym, ◌∙◌}
use Rattle.hare_typed.proofs.GivenLemmas.{base_within}
use Rattle.rule_types.proofs.MemberLemmas.{members_union, no_members, is_based}
use Rattle.rule_types.proofs.members.members_of.Goals as goal

pub returns-in_err-b : goal.returns-in_err-b
returns-in_err-b c f l = absurd (is_based c.args.s.now c.args.t c.requires (sym c.base.ensures.value ∙ c.in_err-b.was))

pub row-requires : goal.row-requires
row-requires c = base_within c.args.s.now _ c.in_ok-b.b c.in_ok-b.ensures.some

pub returns-in-Union : goal.returns-in-Union
returns-in-Union c f l =
    members_union c.args.s.now f c.base.ensures.sound l c.args.t c.in_ok-b.b c.row.result.now c.in-Union.members
    (sym c.base.ensures.value ∙ c.in_ok-b.was) c.row.ensures.row c.in-Union.is

pub returns-in_default : goal.returns-in_default
returns-in_default c f l =
    no_members c.args.s.now f c.base.ensures.sound l c.args.t c.in_ok-b.b c.row.result.now (sym c.base.ensures.value ∙ c.in_ok-b.was)
    c.row.ensures.row c.in_default.not-Union
