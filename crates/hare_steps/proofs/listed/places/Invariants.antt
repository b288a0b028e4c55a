use Rattle.std.proofs.Common.{◌≡◌, ◌++◌, drop, map, Some}
use Rattle.hare_saids.specs.Saids.{decls}
use Rattle.hare_steps.specs.Plans.{decl_at}
use Rattle.hare_steps.proofs.listed.places.Given as goal

-- what has been put, and what is left to be put
abbrev pub invariant-loop-file : goal.invariant-loop-file
invariant-loop-file l = map (decl_at l.files) l.places.items ++ map Some (decls (drop l.file l.files)) ≡ map Some (decls l.files)
