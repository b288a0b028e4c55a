use Rattle.std.proofs.Common.{◌≡◌, ◌++◌, map, drop}
use Rattle.hare_names.specs.Answers.{meaning_in}
use Rattle.hare_declare.specs.Outlines.{outline_of}
use Rattle.hare_declare.proofs.outline.push_file.Given as goal

-- what has been put, and what is left to be put
abbrev pub invariant-loop-i : goal.invariant-loop-i
invariant-loop-i l =
    l.outlines.items ++ map (outline_of l.count (meaning_in l.names)) (drop l.i l.decls)
    ≡ l.initial.outlines.items ++ map (outline_of l.count (meaning_in l.names)) l.decls
