use Rattle.std.proofs.Common.{◌≡◌, ◌++◌, drop}
use Rattle.std.specs.Prelude.{map}
use Rattle.hare_rules.specs.Aggregates.{but_last}
use Rattle.hare_whole.specs.Parts.{written_id}
use Rattle.hare_known.proofs.entries.parameters_of.Given as goal

abbrev pub invariant-loop-i : goal.invariant-loop-i
invariant-loop-i l = l.params ++ map written_id (but_last (drop l.i l.types)) ≡ map written_id (but_last l.types)
