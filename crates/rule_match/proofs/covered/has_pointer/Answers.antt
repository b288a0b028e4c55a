use Rattle.std.proofs.Common.{map, drop, sym, arith}
use Rattle.std.specs.List.{list_any}
use Rattle.hare_rules.specs.Control.{pattern_of}
use Rattle.rule_match.specs.Patterns.{meant, points_to}
use Rattle.rule_match.proofs.CoverLemmas.{some_here, some_later, some_nowhere}
use Rattle.rule_match.proofs.covered.has_pointer.Goals as goal

pub is_pointer_to-requires : goal.is_pointer_to-requires
is_pointer_to-requires c = c.pattern_at.ensures.defined c.args.s.now c.requires

pub returns-then-is_pointer_to : goal.returns-then-is_pointer_to
returns-then-is_pointer_to c f l =
    some_here (points_to f c.args.pointee) c.args.kids.now c.loop-i.i
    (list_any (points_to f c.args.pointee) (map pattern_of (drop 1 c.args.kids.now)))
    (c.loop-i.invariant f l) (meant c.pattern_at.result) (omega arith) c.pattern_at.ensures.value (sym (c.if-is_pointer_to.ensures f l))

pub loop-i-preserved : goal.loop-i-preserved
loop-i-preserved c f l =
    some_later (points_to f c.args.pointee) c.args.kids.now c.loop-i.i
    (list_any (points_to f c.args.pointee) (map pattern_of (drop 1 c.args.kids.now)))
    (c.loop-i.invariant f l) (meant c.pattern_at.result) (omega arith) c.pattern_at.ensures.value (sym (c.if-is_pointer_to.ensures f l))

pub returns : goal.returns
returns c f l =
    some_nowhere (points_to f c.args.pointee) c.args.kids.now c.loop-i.i
    (list_any (points_to f c.args.pointee) (map pattern_of (drop 1 c.args.kids.now)))
    (c.loop-i.invariant f l) (omega arith)
