use Rattle.std.proofs.Common.{◌≡◌, ◌++◌, map, take}
use Rattle.hare_signatures.specs.Listed.{written_of, types_among}
use Rattle.hare_signatures.proofs.listed.push_params.Given as goal

-- the types of the parameters so far stand behind the others
abbrev pub invariant-loop-i : goal.invariant-loop-i
invariant-loop-i l = map written_of l.written.items ≡ map written_of l.fn.written.items ++ types_among (take l.i l.params)
