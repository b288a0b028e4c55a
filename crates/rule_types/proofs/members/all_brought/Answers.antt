use Rattle.std.proofs.Common.{arith}
use Rattle.rule_types.proofs.MemberLemmas.{member_at, brought_next, brought_end}
use Rattle.rule_types.proofs.members.all_brought.Goals as goal

pub push_brought-requires : goal.push_brought-requires
push_brought-requires c = member_at c.args.s.now c.args.kids.now c.loop-i.i c.in-Some.kid.now c.requires c.in-Some.ensures.found

pub loop-i-preserved : goal.loop-i-preserved
loop-i-preserved c f l =
    brought_next f c.args.kids.now c.loop-i.i c.in-Some.kid.now c.loop-i.ids.items c.push_brought.new.ids.items _ c.in-Some.ensures.found
    (c.in_ok-push_brought.ensures f l) (c.loop-i.invariant f l)

pub returns : goal.returns
returns c f l = brought_end f c.args.kids.now c.loop-i.i c.loop-i.ids.items _ (omega arith) (c.loop-i.invariant f l)
