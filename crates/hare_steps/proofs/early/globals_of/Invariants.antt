use Rattle.std.proofs.Common.{◌≡◌, drop, filter}
use Rattle.hare_types.specs.Unions.{ascending, put_all}
use Rattle.hare_depends.specs.Sorts.{is_global}
use Rattle.hare_depends.specs.Dependence.{is_at}
use Rattle.hare_steps.proofs.early.globals_of.Given as goal

-- what has been put into the set, and what is left to be put
abbrev pub invariant-loop-i : goal.invariant-loop-i
invariant-loop-i l =
    put_all (filter (is_at is_global l.saids) (drop l.i l.named)) l.globals.keys
    ≡ ascending (filter (is_at is_global l.saids) (drop l.initial.i l.named))
