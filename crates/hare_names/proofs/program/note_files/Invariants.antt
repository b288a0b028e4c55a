use Rattle.std.proofs.Common.{◌≡◌, fold, drop}
use Rattle.std.specs.List.{flat_map}
use Rattle.hare_directory.specs.Seen.{tables_of}
use Rattle.hare_modules.specs.Order.{earlier}
use Rattle.hare_names.specs.Doubled.{doubled_names}
use Rattle.hare_names.specs.Noted.{files_noted}
use Rattle.hare_names.proofs.program.note_files.Given as goal

-- what is left of the files comes to the same as all of them
abbrev pub invariant-loop-file : goal.invariant-loop-file
invariant-loop-file l = record {
  noted : files_noted (tables_of l.directory) l.file l.notes (drop l.file l.files) ≡ files_noted
      (tables_of l.directory) 0 l.initial.notes l.files;
  doubled : fold earlier l.doubled.first (flat_map doubled_names (drop l.file l.files)) ≡ fold earlier l.initial.doubled.first
      (flat_map doubled_names l.files);
}
