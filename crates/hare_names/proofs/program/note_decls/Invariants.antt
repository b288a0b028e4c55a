use Rattle.std.proofs.Common.{◌≡◌, [], fold, drop}
use Rattle.std.specs.List.{flat_map}
use Rattle.hare_directory.specs.Seen.{tables_of}
use Rattle.hare_modules.specs.Order.{earlier}
use Rattle.hare_names.specs.Doubled.{doubled_in}
use Rattle.hare_names.specs.Noted.{decl_noted}
use Rattle.hare_names.proofs.program.note_decls.Given as goal

-- no locals are visible, and what is left of the declarations comes to the same as all of them
abbrev pub invariant-loop-i : goal.invariant-loop-i
invariant-loop-i l = record {
  none : l.locals ≡ [];
  noted : fold (decl_noted (tables_of l.setting.directory.now) l.setting.file) l.notes (drop l.i l.decls) ≡ fold
      (decl_noted (tables_of l.setting.directory.now) l.setting.file) l.initial.notes l.decls;
  doubled : fold earlier l.doubled.first (flat_map doubled_in (drop l.i l.decls)) ≡ fold earlier l.initial.doubled.first
      (flat_map doubled_in l.decls);
}
