use Rattle.std.proofs.Common.{drop}
use Rattle.rule_match.proofs.DistinctLemmas.{AreEarlier}
use Rattle.rule_match.proofs.distinct.repeated.Given as goal

abbrev pub invariant-loop-i : goal.invariant-loop-i
invariant-loop-i l = AreEarlier l.earlier (drop 1 l.kids) (drop l.i l.kids)
