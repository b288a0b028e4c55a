use Rattle.std.proofs.Common.{not, ap, sym, ◌∙◌, arith}
use Rattle.hare_rules.specs.Written.{is_member_sized}
use Rattle.rule_types.proofs.MemberLemmas.{member_at, any_passed, any_here, any_end}
use Rattle.rule_types.proofs.members.are_sized.Goals as goal

pub is_sized-requires : goal.is_sized-requires
is_sized-requires c = member_at c.args.s.now c.args.kids.now c.loop-i.i c.in-Some.kid.now c.requires c.in-Some.ensures.found

pub returns-then-not-is_sized : goal.returns-then-not-is_sized
returns-then-not-is_sized c f l =
    ap not
    (any_here (λ x. not (is_member_sized f x)) c.args.kids.now c.loop-i.i c.in-Some.kid.now _ c.in-Some.ensures.found
    (ap not (sym (c.is_sized.ensures f l) ∙ c.if-not-is_sized.true)) (c.loop-i.invariant f l))

pub loop-i-preserved : goal.loop-i-preserved
loop-i-preserved c f l =
    any_passed (λ x. not (is_member_sized f x)) c.args.kids.now c.loop-i.i c.in-Some.kid.now _ c.in-Some.ensures.found
    (ap not (sym (c.is_sized.ensures f l) ∙ c.if-not-is_sized.false)) (c.loop-i.invariant f l)

pub returns : goal.returns
returns c f l = ap not (any_end (λ x. not (is_member_sized f x)) c.args.kids.now c.loop-i.i _ (omega arith) (c.loop-i.invariant f l))
