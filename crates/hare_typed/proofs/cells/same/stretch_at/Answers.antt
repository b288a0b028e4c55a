use Rattle.std.proofs.Common.{◌-◌, length, take, arith}
use Rattle.hare_typed.proofs.RepeatLemmas.{proper_at}
use Rattle.hare_typed.proofs.StretchLemmas.{recurs_found, agree_back}
use Rattle.hare_typed.proofs.cells.same.stretch_at.Goals as goal

pub copies_at-requires-clause-proper : goal.copies_at-requires-clause-proper
copies_at-requires-clause-proper c =
    proper_at c.args.repeats.now (c.loop-left.left - 1) (record { from = 0; to = 0; more = 0 }) c.requires.fit.0 (omega arith)
    c.requires.fit.1

pub returns-then-r-place-clause-recurs : goal.returns-then-r-place-clause-recurs
returns-then-r-place-clause-recurs c =
    recurs_found c.args.repeats.now c.loop-left.left c.loop-left.end (record { from = 0; to = 0; more = 0 }) (omega arith) (omega arith)
    c.loop-left.invariant.same c.copies_at.result c.copies_at.ensures.within c.copies_at.ensures.recurs

pub loop-left-preserved : goal.loop-left-preserved
loop-left-preserved c = record {
  within = omega arith;
  before = omega arith;
  same = λ cs f. agree_back c.args.repeats.now c.loop-left.left c.loop-left.end c.min-end.result (record { from = 0; to = 0; more = 0 }) cs
      (omega arith) (omega arith) f (c.loop-left.invariant.same cs f) (omega arith) (omega arith);
}
