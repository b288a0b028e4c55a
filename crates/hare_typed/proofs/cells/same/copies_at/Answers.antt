use Rattle.std.proofs.Common.{arith}
use Rattle.hare_typed.proofs.StretchLemmas.{copy_recurs}
use Rattle.hare_typed.proofs.cells.same.copies_at.Goals as goal

pub returns-clause-recurs : goal.returns-clause-recurs
returns-clause-recurs c cs h = record {
  proper = omega arith;
  within = omega arith;
  same = λ i b l. copy_recurs c.args.r cs i c.requires.proper h b (omega arith);
}
