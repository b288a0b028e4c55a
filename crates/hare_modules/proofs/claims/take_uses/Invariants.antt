use Rattle.std.proofs.Common.{◌≡◌, ◌++◌, map, drop}
use Rattle.hare_modules.specs.Takings.{using, using_of}
use Rattle.hare_modules.proofs.claims.take_uses.Given as goal

-- what was collected, and the imports that are left
abbrev pub invariant-loop-i : goal.invariant-loop-i
invariant-loop-i l =
    map using l.collected.items ++ map (using_of l.known l.home) (drop l.i l.uses)
    ≡ map using l.fn.collected.items ++ map (using_of l.known l.home) l.uses
