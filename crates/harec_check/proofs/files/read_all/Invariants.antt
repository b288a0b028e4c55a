use Rattle.std.proofs.Common.{◌≡◌, ℕ, List, take}
use Rattle.harec_check.specs.Files.{AreTold}
use Rattle.harec_check.proofs.files.read_all.Given as goal

-- the files in front were read, and nothing failed
abbrev pub invariant-loop-i : goal.invariant-loop-i
invariant-loop-i g l = record {
  told : AreTold (g.F.Files.content l.initial.files) (take l.i l.paths) l.srcs;
  stands : g.F.Files.faults l.files ≡ g.F.Files.faults l.initial.files;
  same : (p : List ℕ) → g.F.Files.content l.files p ≡ g.F.Files.content l.initial.files p;
}
