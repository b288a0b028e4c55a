use Rattle.std.proofs.Common.{◌≡◌, ◌++◌, drop, map}
use Rattle.hare_whole.specs.Turns.{Types}
use Rattle.hare_steps.specs.Plans.{step_of}
use Rattle.hare_steps.proofs.turns.push_types.Given as goal

-- what has been put, and what is left to be put
abbrev pub invariant-loop-decl : goal.invariant-loop-decl
invariant-loop-decl l =
    map step_of l.steps.items ++ map Types (drop l.decl-index l.decls) ≡ map step_of l.initial.steps.items ++ map Types l.decls
