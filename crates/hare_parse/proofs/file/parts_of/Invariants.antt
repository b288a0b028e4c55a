use Rattle.std.proofs.Common.{◌≡◌}
use Rattle.hare_parse.specs.Files.{imports, others}
use Rattle.hare_parse.proofs.file.parts_of.Given as goal

abbrev pub invariant-loop-tree : goal.invariant-loop-tree
invariant-loop-tree l = record { uses : l.parts.uses ≡ imports l.yielded; decls : l.parts.decls ≡ others l.yielded }
