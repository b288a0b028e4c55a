use Rattle.std.proofs.Common.{◌≡◌, ◌++◌, drop}
use Rattle.std.specs.Prelude.{filter, not, ◌==◌}
use Rattle.hare_tags.proofs.allocated.push_except.Given as goal

-- what has been put, and what is left to be put
abbrev pub invariant-loop-member : goal.invariant-loop-member
invariant-loop-member l =
    l.types.items ++ filter (λ u. not (u == l.t)) (drop l.member-index l.members)
    ≡ l.initial.types.items ++ filter (λ u. not (u == l.t)) l.members
