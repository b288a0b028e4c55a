use Rattle.std.proofs.Common.{◌∙◌, arith, length}
use Rattle.hare_assign.proofs.MemberLemmas.{below}
use Rattle.hare_const.proofs.PayloadLemmas.{tag_missed, tag_met}
use Rattle.hare_const.proofs.payloads.member_tagged.Goals as goal

pub loop-m-preserved : goal.loop-m-preserved
loop-m-preserved c =
    let inside = below (length c.args.s.now.rows) c.args.members.now c.loop-m.m-index c.m-item.result c.requires c.loop-m-test.true
    c.m-item.is in
    tag_missed c.args.s.now c.declarations-law.ensures.sound c.args.tag c.args.members.now c.loop-m.m-index c.m-item.result
    c.loop-m-test.true c.m-item.is
    inside (λ g. c.if-from-tag.false (omega (arith, g, c.from.ensures, c.index.ensures))) ∙ c.loop-m.invariant

pub returns-then-from-tag : goal.returns-then-from-tag
returns-then-from-tag c =
    let inside = below (length c.args.s.now.rows) c.args.members.now c.loop-m.m-index c.m-item.result c.requires c.loop-m-test.true
    c.m-item.is in
    tag_met c.args.s.now c.declarations-law.ensures.sound c.args.tag c.args.members.now c.loop-m.m-index c.m-item.result c.loop-m-test.true
    c.m-item.is
    inside (omega (arith, c.if-from-tag.true, c.from.ensures, c.index.ensures)) ∙ c.loop-m.invariant
