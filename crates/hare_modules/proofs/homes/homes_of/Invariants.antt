use Rattle.std.proofs.Common.{map, take}
use Rattle.hare_modules.specs.Modules.{module_of}
use Rattle.hare_modules.specs.Numbering.{IsNumbering}
use Rattle.hare_modules.proofs.homes.homes_of.Given as goal

abbrev pub invariant-loop-path : goal.invariant-loop-path
invariant-loop-path l = IsNumbering (map module_of (take l.path-index l.paths)) l.known l.homes.items
