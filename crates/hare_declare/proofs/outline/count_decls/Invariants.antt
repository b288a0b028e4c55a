use Rattle.std.proofs.Common.{◌≡◌, ◌+◌, length, drop}
use Rattle.hare_saids.specs.Saids.{decls}
use Rattle.hare_declare.proofs.outline.count_decls.Given as goal

-- those counted, and those left to be counted
abbrev pub invariant-loop-file : goal.invariant-loop-file
invariant-loop-file l = l.count + length (decls (drop l.file-index l.files)) ≡ length (decls l.files)
