use Rattle.std.proofs.Common.{◌≡◌, map, take}
use Rattle.hare_bytes.specs.Bytes.{told_bytes}
use Rattle.hare_bytes.proofs.globals.bytes_of_globals.Given as goal

-- those of the declarations so far
abbrev pub invariant-loop-i : goal.invariant-loop-i
invariant-loop-i l = l.bytes.items ≡ map (told_bytes l.s) (take l.i l.decls)
