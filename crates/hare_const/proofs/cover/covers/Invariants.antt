use Rattle.std.proofs.Common.{◌≡◌, drop, pos}
use Rattle.std.specs.Prelude.{◌≤ℤ◌, ◌^◌, neg_ℤ}
use Rattle.std.specs.List.{filter_map}
use Rattle.hare_const.specs.Numbers.{number_of, numbers_of}
use Rattle.hare_const.proofs.CoverLemmas.{open_after}
use Rattle.hare_const.proofs.cover.covers.Given as goal

abbrev pub invariant-loop-case : goal.invariant-loop-case
invariant-loop-case l =
    record {
      passed : open_after l.limits.least (numbers_of l.s l.t l.cases)
          ≡ open_after l.open (filter_map (number_of l.s l.t) (drop l.case-index l.case-items));
      low : neg_ℤ (pos (2 ^ 63)) ≤ℤ l.open;
      high : l.open ≤ℤ pos (2 ^ 64);
    }
