use Rattle.std.proofs.Common.{◌≡◌, ◌++◌, map, drop}
use Rattle.std.specs.List.{flat_map}
use Rattle.hare_modules.specs.Takings.{taking, use_takings}
use Rattle.hare_modules.proofs.claims.take_imports.Given as goal

-- what was taken, and the imports that are left
abbrev pub invariant-loop-i : goal.invariant-loop-i
invariant-loop-i l =
    map taking l.claims.items ++ flat_map (use_takings l.known l.spot.file l.spot.home) (drop l.i l.uses)
    ≡ map taking l.fn.claims.items ++ flat_map (use_takings l.known l.spot.file l.spot.home) l.uses
