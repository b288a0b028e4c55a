use Rattle.std.proofs.Common.{drop, sym, arith}
use Rattle.rule_match.specs.Patterns.{meant}
use Rattle.rule_match.proofs.DistinctLemmas.{none_earlier, earlier_more, repeats_here, none_repeats}
use Rattle.rule_match.proofs.distinct.repeated.Goals as goal

pub loop-i-init : goal.loop-i-init
loop-i-init c = none_earlier c.new-earlier.result (drop 1 c.args.kids.now) c.new-earlier.ensures

pub loop-i-preserved : goal.loop-i-preserved
loop-i-preserved c =
    earlier_more c.loop-i.earlier (drop 1 c.args.kids.now) c.args.kids.now c.loop-i.i c.loop-i.invariant
    (meant c.pattern_at-pattern.result) (omega arith)
    c.pattern_at-pattern.ensures.value c.insert.new.self (sym c.if-contains.ensures) c.in_ok-insert.ensures

pub returns-then-contains : goal.returns-then-contains
returns-then-contains c =
    repeats_here c.loop-i.earlier (drop 1 c.args.kids.now) c.args.kids.now c.loop-i.i c.loop-i.invariant
    (meant c.pattern_at-pattern.result) (omega arith)
    c.pattern_at-pattern.ensures.value _ (sym c.if-contains.ensures) c.place_at.ensures

pub returns : goal.returns
returns c = none_repeats c.loop-i.earlier (drop 1 c.args.kids.now) c.args.kids.now c.loop-i.i c.loop-i.invariant (omega arith)
