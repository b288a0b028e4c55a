use Rattle.std.proofs.Common.{sym, subst}
use Rattle.std.specs.Prelude.{◌↔◌, IsTrue}
use Rattle.hare_layout.specs.Members.{HoldsMembers}
use Rattle.hare_layout.proofs.MemberLemmas.{members-decide}
use Rattle.hare_layout.proofs.members.subset.Goals as goal

pub returns : goal.returns
returns c =
    subst (λ r. IsTrue r ↔ HoldsMembers c.args.s.now c.args.a c.args.b) (sym c.all_among.ensures)
    (members-decide c.args.s.now c.members_of.ensures.sound c.args.a c.args.b c.members_of.result.now c.members_of-2.result.now
    c.members_of.ensures.row c.members_of-2.ensures.row)
