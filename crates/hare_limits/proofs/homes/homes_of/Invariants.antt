use Rattle.std.proofs.Common.{◌≡◌, take}
use Rattle.hare_limits.specs.Homes.{belonging}
use Rattle.hare_limits.proofs.homes.homes_of.Given as goal

-- of each path so far it is kept whether its file belongs to the module
abbrev pub invariant-loop-path : goal.invariant-loop-path
invariant-loop-path l = l.kept.items ≡ belonging l.first.items (take l.path-index l.paths)
