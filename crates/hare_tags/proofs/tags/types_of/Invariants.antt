use Rattle.std.proofs.Common.{◌≡◌, ◌++◌, drop}
use Rattle.std.specs.Prelude.{flat_map}
use Rattle.hare_tags.specs.Lists.{types_of, body_types}
use Rattle.hare_tags.proofs.tags.types_of.Given as goal

-- what has been put, and what is left to be put
abbrev pub invariant-loop-i : goal.invariant-loop-i
invariant-loop-i l = l.types.items ++ flat_map (body_types l.s) (drop l.i l.decls) ≡ types_of l.s l.decls
