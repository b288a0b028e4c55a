use Rattle.std.proofs.Common.{◌≤◌, sym, arith}
use Rattle.std.specs.Prelude.{sum_by}
use Rattle.hare_tree.specs.Node.{nodes_of}
use Rattle.hare_directory.specs.Seen.{tables_of}
use Rattle.hare_names.specs.Scopes.{bindings_among}
use Rattle.hare_names.specs.Doubled.{doubled_names}
use Rattle.hare_names.proofs.NotedLemmas.{file-le, files-on, files-done, faults-on, faults-done}
use Rattle.hare_names.proofs.program.note_files.Goals as goal

pub note_decls-requires : goal.note_decls-requires
note_decls-requires c =
    let l : bindings_among (nodes_of c.in-Some.tree.now.decls) ≤ sum_by (λ u. bindings_among (nodes_of u.decls)) c.args.files.now =
    file-le c.args.files.now c.loop-file.file c.in-Some.tree.now (sym c.in-Some.ensures) in
    omega arith

pub loop-file-preserved : goal.loop-file-preserved
loop-file-preserved c = record {
  noted = files-on (tables_of c.args.directory.now) c.args.files.now c.loop-file.file c.in-Some.tree.now c.loop-file.notes
      c.note_decls.new.notes _ (sym c.in-Some.ensures) c.in_ok-note_decls.ensures.noted c.loop-file.invariant.noted;
  doubled = faults-on doubled_names c.args.files.now c.loop-file.file c.in-Some.tree.now c.loop-file.doubled.first
      c.note_decls.new.doubled.first _ (sym c.in-Some.ensures) c.in_ok-note_decls.ensures.doubled c.loop-file.invariant.doubled;
}

pub returns-clause-noted : goal.returns-clause-noted
returns-clause-noted c = files-done (tables_of c.args.directory.now) c.args.files.now c.loop-file.file c.loop-file.notes _
    (omega arith) c.loop-file.invariant.noted

pub returns-clause-doubled : goal.returns-clause-doubled
returns-clause-doubled c = faults-done doubled_names c.args.files.now c.loop-file.file c.loop-file.doubled.first _
    (omega arith) c.loop-file.invariant.doubled
