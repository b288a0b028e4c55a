use Rattle.std.proofs.Common.{◌||◌, map, drop, ap, arith}
use Rattle.hare_rules.specs.Control.{pattern_of, stands_among}
use Rattle.rule_match.specs.Patterns.{meant}
use Rattle.rule_match.proofs.ListedLemmas.{listed_more, listed_all}
use Rattle.rule_match.proofs.listed.Patterns.of_cases.Goals as goal

pub loop-i-init : goal.loop-i-init
loop-i-init c p = ap (λ b. b || stands_among (map pattern_of (drop 1 c.args.kids.now)) p) (c.new-all.ensures p)

pub loop-i-preserved : goal.loop-i-preserved
loop-i-preserved c p =
    listed_more c.args.kids.now c.loop-i.i p (meant c.pattern_at.result) _ _ _ (omega arith) c.pattern_at.ensures.value
    (c.in_ok-insert.ensures p) (c.loop-i.invariant p)

pub returns : goal.returns
returns c p = listed_all c.args.kids.now c.loop-i.i p _ _ (omega arith) (c.loop-i.invariant p)
