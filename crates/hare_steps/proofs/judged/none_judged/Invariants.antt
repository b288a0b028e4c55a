use Rattle.std.proofs.Common.{◌≡◌, false, replicate}
use Rattle.hare_steps.proofs.judged.none_judged.Given as goal

abbrev pub invariant-loop : goal.invariant-loop
invariant-loop l = l.judged.items ≡ replicate l.counter false
