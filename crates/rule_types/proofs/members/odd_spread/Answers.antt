use Rattle.std.proofs.Common.{Some, ap, sym, ◌∙◌, arith}
use Rattle.std.specs.Prelude.{option_map}
use Rattle.hare_rules.specs.Context.{place_of}
use Rattle.hare_rules.specs.Written.{odd_spread}
use Rattle.rule_types.specs.Members.{is_odd_spread}
use Rattle.rule_types.proofs.MemberLemmas.{member_at, find_passed, find_here, find_end}
use Rattle.rule_types.proofs.members.odd_spread.Goals as goal

pub is_odd-requires : goal.is_odd-requires
is_odd-requires c = member_at c.args.s.now c.args.kids.now c.loop-i.i c.in-Some.kid.now c.requires c.in-Some.ensures.found

pub returns-then-is_odd : goal.returns-then-is_odd
returns-then-is_odd c f l =
    ap (λ p. Some p) (ap place_of c.kid.view_is)
    ∙ ap (option_map place_of)
    (find_here (is_odd_spread f) c.args.kids.now c.loop-i.i c.in-Some.kid.now (odd_spread f c.args.kids.now) c.in-Some.ensures.found
    (sym (c.is_odd.ensures f l) ∙ c.if-is_odd.true) (c.loop-i.invariant f l))

pub loop-i-preserved : goal.loop-i-preserved
loop-i-preserved c f l =
    find_passed (is_odd_spread f) c.args.kids.now c.loop-i.i c.in-Some.kid.now (odd_spread f c.args.kids.now) c.in-Some.ensures.found
    (sym (c.is_odd.ensures f l) ∙ c.if-is_odd.false) (c.loop-i.invariant f l)

pub returns : goal.returns
returns c f l = ap (option_map place_of) (find_end (is_odd_spread f) c.args.kids.now c.loop-i.i (odd_spread f c.args.kids.now) (omega arith)
    (c.loop-i.invariant f l))
