use Rattle.std.proofs.Common.{◌≡◌, ◌++◌, map, drop}
use Rattle.hare_names.specs.Answers.{meaning_in}
use Rattle.hare_saids.specs.Saids.{decls}
use Rattle.hare_declare.specs.Outlines.{outline_of}
use Rattle.hare_declare.proofs.outline.outlines_of.Given as goal

-- what has been put, and what is left to be put
abbrev pub invariant-loop-file : goal.invariant-loop-file
invariant-loop-file l =
    l.outlines.items ++ map (outline_of l.count (meaning_in l.names)) (decls (drop l.file-index l.files))
    ≡ map (outline_of l.count (meaning_in l.names)) (decls l.files)
