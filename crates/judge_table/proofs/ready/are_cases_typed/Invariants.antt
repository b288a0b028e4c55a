use Rattle.std.proofs.Common.{ℕ, ◌<◌}
use Rattle.std.specs.Prelude.{IsSome}
use Rattle.hare_typed.specs.Order.{tree_from_front}
use Rattle.hare_rules.specs.Context.{own_type}
use Rattle.hare_rules.specs.Words.{id_in}
use Rattle.judge_table.proofs.ready.are_cases_typed.Given as goal

abbrev pub invariant-loop-i : goal.invariant-loop-i
invariant-loop-i l = (k : ℕ) → 0 < k → k < l.i → IsSome (id_in (own_type (tree_from_front k l.kids)))
