use Rattle.std.proofs.Common.{◌≤◌, arith}
use Rattle.hare_tree.specs.Node.{nodes_of}
use Rattle.hare_directory.specs.Seen.{tables_of}
use Rattle.hare_names.specs.Scopes.{bindings_in, bindings_among}
use Rattle.hare_names.specs.Doubled.{doubled_in}
use Rattle.hare_names.proofs.NotedLemmas.{decl-le, decls-on, decls-done, faults-on, faults-done}
use Rattle.hare_names.proofs.program.note_decls.Goals as goal

pub note_decl-requires-clause-room : goal.note_decl-requires-clause-room
note_decl-requires-clause-room c =
    let l : bindings_in c.in-Some.decl.now ≤ bindings_among (nodes_of c.args.decls.now) =
    decl-le c.args.decls.now c.loop-i.i c.in-Some.decl.now c.in-Some.ensures.found in
    omega arith

pub loop-i-preserved : goal.loop-i-preserved
loop-i-preserved c = record {
  none = c.in_ok-note_decl.ensures.none;
  noted = decls-on (tables_of c.args.setting.directory.now) c.args.setting.file c.args.decls.now c.loop-i.i c.in-Some.decl.now
      c.loop-i.notes c.note_decl.new.notes _ c.in-Some.ensures.found c.in_ok-note_decl.ensures.noted c.loop-i.invariant.noted;
  doubled = faults-on doubled_in c.args.decls.now c.loop-i.i c.in-Some.decl.now c.loop-i.doubled.first c.note_decl.new.doubled.first _
      c.in-Some.ensures.found c.in_ok-note_decl.ensures.doubled c.loop-i.invariant.doubled;
}

pub returns-clause-doubled : goal.returns-clause-doubled
returns-clause-doubled c =
    faults-done doubled_in c.args.decls.now c.loop-i.i c.loop-i.doubled.first _ (omega arith) c.loop-i.invariant.doubled

pub returns-clause-noted : goal.returns-clause-noted
returns-clause-noted c =
    decls-done (tables_of c.args.setting.directory.now) c.args.setting.file c.args.decls.now c.loop-i.i c.loop-i.notes _ (omega arith)
    c.loop-i.invariant.noted
