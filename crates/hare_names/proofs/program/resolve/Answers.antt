use Rattle.std.proofs.Common.{None, subst, sym, ap, ◌∙◌, refl}
use Rattle.std.specs.Prelude.{fold, flat_map}
use Rattle.hare_directory.specs.Seen.{tables_of}
use Rattle.hare_modules.specs.Modules.{sources}
use Rattle.hare_modules.specs.Order.{earlier}
use Rattle.hare_names.specs.declared.notes.Notes.{Notes}
use Rattle.hare_names.specs.Violations.{AreMeanings}
use Rattle.hare_names.specs.Answers.{meaning_in}
use Rattle.hare_names.specs.Doubled.{doubled_names}
use Rattle.hare_names.proofs.ResolveLemmas.{files-numbered, resolved-first, resolved-meanings}
use Rattle.hare_names.proofs.program.resolve.Goals as goal

pub look-requires : goal.look-requires
look-requires c = files-numbered c.args.paths.now c.args.files.now c.requires

pub returns-in-Some-clause-err : goal.returns-in-Some-clause-err
returns-in-Some-clause-err c =
    let start : Notes = record { places = c.new.result; first = None } in
    let t = resolved-first c.args.paths.now c.args.files.now
    (tables_of c.in_ok-directory.directory) c.requires c.in_ok-directory.ensures.tables c.in_ok-directory.first
    c.note_files.new.doubled.first start c.note_files.new.notes c.in_ok-directory.ensures.first
    (c.in_ok-note_files.ensures.doubled ∙ ap (λ f. fold earlier f (flat_map doubled_names c.args.files.now)) c.doubled_from-doubled.ensures) refl
    c.in_ok-note_files.ensures.noted in
    t.first c.in-Some.fault (sym c.earlier_of.ensures ∙ c.in-Some.is)

pub returns-clause-sound : goal.returns-clause-sound
returns-clause-sound c =
    let start : Notes = record { places = c.new.result; first = None } in
    let t = resolved-first c.args.paths.now c.args.files.now
    (tables_of c.in_ok-directory.directory) c.requires c.in_ok-directory.ensures.tables c.in_ok-directory.first
    c.note_files.new.doubled.first start c.note_files.new.notes c.in_ok-directory.ensures.first
    (c.in_ok-note_files.ensures.doubled ∙ ap (λ f. fold earlier f (flat_map doubled_names c.args.files.now)) c.doubled_from-doubled.ensures) refl
    c.in_ok-note_files.ensures.noted in
    t.none (sym c.earlier_of.ensures ∙ c.in-None.is)

pub returns-clause-ok : goal.returns-clause-ok
returns-clause-ok c =
    let start : Notes = record { places = c.new.result; first = None } in
    let t = resolved-first c.args.paths.now c.args.files.now
    (tables_of c.in_ok-directory.directory) c.requires c.in_ok-directory.ensures.tables c.in_ok-directory.first
    c.note_files.new.doubled.first start c.note_files.new.notes c.in_ok-directory.ensures.first
    (c.in_ok-note_files.ensures.doubled ∙ ap (λ f. fold earlier f (flat_map doubled_names c.args.files.now)) c.doubled_from-doubled.ensures) refl
    c.in_ok-note_files.ensures.noted in
    let m = resolved-meanings c.args.paths.now c.args.files.now
    (tables_of c.in_ok-directory.directory) c.requires c.in_ok-directory.ensures.tables start c.note_files.new.notes
    (t.none (sym c.earlier_of.ensures ∙ c.in-None.is)) c.new.ensures c.in_ok-note_files.ensures.noted in
    subst (λ es. AreMeanings (sources c.args.paths.now c.args.files.now) (meaning_in es)) (sym c.new-in-None.ensures) m
