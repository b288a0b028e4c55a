use Rattle.std.proofs.Common.{refl, subst, ◌∙◌}
use Rattle.hare_names.specs.Answers.{meaning_in}
use Rattle.hare_saids.specs.Saids.{decls}
use Rattle.hare_sources.specs.Named.{AreNamed, IsEarlyFault}
use Rattle.hare_decl.specs.Answers.{Stops}
use Rattle.hare_filed.specs.Filed.{AreFiled}
use Rattle.hare_walk.proofs.Steps.{err_same}
use Rattle.hare_unit.specs.Programs.{IsProgramStop, IsOnlyProgramStop, IsEnded, IsLimitStop, listing_of}
use Rattle.hare_sources.proofs.ReadLemmas.{length-read}
use Rattle.hare_unit.proofs.WholeProgram.Bound.{locals-bound}
use Rattle.hare_unit.proofs.WholeProgram.Complete.{is-complete}
use Rattle.hare_unit.proofs.WholeProgram.Together.{Names, Phases, early-stops, phase-stops, ended-stops, is-seen, judged-here, told-judged, only-early, only-phase, only-limit, is-faultless}
use Rattle.hare_unit.proofs.checked.program.Goals as goal

pub returns-in_err-named-clause-err : goal.returns-in_err-named-clause-err
returns-in_err-named-clause-err c =
    let paths = c.args.paths in
    let srcs = c.args.srcs.now in
    let e = c.in_err-named.field-0.0 in
    err_same c.from_residual.result e (IsProgramStop paths srcs) c.from_residual.ensures.1
    (early-stops paths srcs e (subst (λ ps. Stops (IsEarlyFault ps srcs) e) c.as_slice.ensures c.in_err-named.ensures.err))

pub returns-in_err-named-clause-only_fault : goal.returns-in_err-named-clause-only_fault
returns-in_err-named-clause-only_fault c =
    let paths = c.args.paths in
    let srcs = c.args.srcs.now in
    let e = c.in_err-named.field-0.0 in
    let names : Names =
    record {
      one = c.law_one_early_fault.ensures.one;
      none = c.law_one_early_fault.ensures.none;
      trees = c.law_one_early_fault.ensures.trees;
    } in
    err_same c.from_residual.result e (IsOnlyProgramStop paths srcs) c.from_residual.ensures.1
    (only-early names paths srcs e
    (subst (λ ps. Stops (IsEarlyFault ps srcs) e) c.as_slice.ensures c.in_err-named.ensures.err))

pub judge-requires : goal.judge-requires
judge-requires c =
    let paths = c.args.paths in
    let srcs = c.args.srcs.now in
    let n = c.in_ok-named.named in
    let named : AreNamed paths srcs n.files (meaning_in n.names) =
    subst (λ ps. AreNamed ps srcs n.files (meaning_in n.names)) c.as_slice.ensures c.in_ok-named.ensures.ok in
    record { filed = (paths, c.law_programs_are_filed.ensures paths srcs n.files (meaning_in n.names) c.requires named) }

pub returns-in_err-typing-clause-err : goal.returns-in_err-typing-clause-err
returns-in_err-typing-clause-err c =
    let paths = c.args.paths in
    let srcs = c.args.srcs.now in
    let n = c.in_ok-named.named in
    let e = c.in_err-typing.field-0.0 in
    let named : AreNamed paths srcs n.files (meaning_in n.names) =
    subst (λ ps. AreNamed ps srcs n.files (meaning_in n.names)) c.as_slice.ensures c.in_ok-named.ensures.ok in
    err_same c.from_residual-in_err-typing.result e (IsProgramStop paths srcs) c.from_residual-in_err-typing.ensures.1
    (phase-stops paths srcs n e named c.in_err-typing.ensures.err)

pub returns-in_err-typing-clause-only_fault : goal.returns-in_err-typing-clause-only_fault
returns-in_err-typing-clause-only_fault c =
    let paths = c.args.paths in
    let srcs = c.args.srcs.now in
    let n = c.in_ok-named.named in
    let e = c.in_err-typing.field-0.0 in
    let named : AreNamed paths srcs n.files (meaning_in n.names) =
    subst (λ ps. AreNamed ps srcs n.files (meaning_in n.names)) c.as_slice.ensures c.in_ok-named.ensures.ok in
    let names : Names =
    record {
      one = c.law_one_early_fault.ensures.one;
      none = c.law_one_early_fault.ensures.none;
      trees = c.law_one_early_fault.ensures.trees;
    } in
    let phases : Phases =
    record {
      one = c.law_one_fault_of_phases.ensures.one;
      none = c.law_one_fault_of_phases.ensures.none;
      left = c.law_one_fault_of_phases.ensures.left;
    } in
    err_same c.from_residual-in_err-typing.result e (IsOnlyProgramStop paths srcs) c.from_residual-in_err-typing.ensures.1
    (only-phase names phases paths srcs n named e c.in_err-typing.ensures.err)

pub returns-in_err-entry-clause-err : goal.returns-in_err-entry-clause-err
returns-in_err-entry-clause-err c =
    let paths = c.args.paths in
    let srcs = c.args.srcs.now in
    let n = c.in_ok-named.named in
    let e = c.in_err-entry.field-0.0 in
    let named : AreNamed paths srcs n.files (meaning_in n.names) =
    subst (λ ps. AreNamed ps srcs n.files (meaning_in n.names)) c.as_slice.ensures c.in_ok-named.ensures.ok in
    let stop : IsLimitStop paths n e = subst (λ ps. IsLimitStop ps n e) c.as_slice-2.ensures c.in_err-entry.ensures.err in
    err_same c.from_residual-in_err-entry.result e (IsProgramStop paths srcs) c.from_residual-in_err-entry.ensures.1
    (ended-stops paths srcs n e named stop)

pub returns-in_err-entry-clause-only_fault : goal.returns-in_err-entry-clause-only_fault
returns-in_err-entry-clause-only_fault c =
    let paths = c.args.paths in
    let srcs = c.args.srcs.now in
    let n = c.in_ok-named.named in
    let e = c.in_err-entry.field-0.0 in
    let named : AreNamed paths srcs n.files (meaning_in n.names) =
    subst (λ ps. AreNamed ps srcs n.files (meaning_in n.names)) c.as_slice.ensures c.in_ok-named.ensures.ok in
    let stop : IsLimitStop paths n e = subst (λ ps. IsLimitStop ps n e) c.as_slice-2.ensures c.in_err-entry.ensures.err in
    let names : Names =
    record {
      one = c.law_one_early_fault.ensures.one;
      none = c.law_one_early_fault.ensures.none;
      trees = c.law_one_early_fault.ensures.trees;
    } in
    let phases : Phases =
    record {
      one = c.law_one_fault_of_phases.ensures.one;
      none = c.law_one_fault_of_phases.ensures.none;
      left = c.law_one_fault_of_phases.ensures.left;
    } in
    err_same c.from_residual-in_err-entry.result e (IsOnlyProgramStop paths srcs) c.from_residual-in_err-entry.ensures.1
    (only-limit names phases paths srcs n named e stop)

pub returns-clause-ok : goal.returns-clause-ok
returns-clause-ok c =
    let paths = c.args.paths in
    let srcs = c.args.srcs.now in
    let n = c.in_ok-named.named in
    let t = c.entry_of.new.typing in
    let entry = c.in_ok-entry.entry in
    let named : AreNamed paths srcs n.files (meaning_in n.names) =
    subst (λ ps. AreNamed ps srcs n.files (meaning_in n.names)) c.as_slice.ensures c.in_ok-named.ensures.ok in
    let filed : AreFiled paths (decls n.files) =
    c.law_programs_are_filed.ensures paths srcs n.files (meaning_in n.names) c.requires named in
    let ended : IsEnded paths n t entry = subst (λ ps. IsEnded ps n t entry) c.as_slice-2.ensures c.in_ok-entry.ensures.ok in
    record {
      trees = n.files;
      named = named;
      paths_are = refl;
      erases = (judged-here n t ended.sound ended.judged).typed.erases;
      complete = is-complete paths (listing_of n) t.types t.decls entry (is-seen paths n t entry filed ended);
    }

pub returns-clause-only : goal.returns-clause-only
returns-clause-only c =
    let paths = c.args.paths in
    let srcs = c.args.srcs.now in
    let n = c.in_ok-named.named in
    let t = c.entry_of.new.typing in
    let entry = c.in_ok-entry.entry in
    let named : AreNamed paths srcs n.files (meaning_in n.names) =
    subst (λ ps. AreNamed ps srcs n.files (meaning_in n.names)) c.as_slice.ensures c.in_ok-named.ensures.ok in
    let ended : IsEnded paths n t entry = subst (λ ps. IsEnded ps n t entry) c.as_slice-2.ensures c.in_ok-entry.ensures.ok in
    let names : Names =
    record {
      one = c.law_one_early_fault.ensures.one;
      none = c.law_one_early_fault.ensures.none;
      trees = c.law_one_early_fault.ensures.trees;
    } in
    let phases : Phases =
    record {
      one = c.law_one_fault_of_phases.ensures.one;
      none = c.law_one_fault_of_phases.ensures.none;
      left = c.law_one_fault_of_phases.ensures.left;
    } in
    is-faultless names phases paths srcs n t entry named ended

pub returns-clause-whole : goal.returns-clause-whole
returns-clause-whole c = λ files.
    let paths = c.args.paths in
    let srcs = c.args.srcs.now in
    let n = c.in_ok-named.named in
    let t = c.entry_of.new.typing in
    let entry = c.in_ok-entry.entry in
    let named : AreNamed paths srcs n.files (meaning_in n.names) =
    subst (λ ps. AreNamed ps srcs n.files (meaning_in n.names)) c.as_slice.ensures c.in_ok-named.ensures.ok in
    let filed : AreFiled paths (decls n.files) =
    c.law_programs_are_filed.ensures paths srcs n.files (meaning_in n.names) c.requires named in
    let ended : IsEnded paths n t entry = subst (λ ps. IsEnded ps n t entry) c.as_slice-2.ensures c.in_ok-entry.ensures.ok in
    record {
      files = files;
      bound = locals-bound c.law_locals_are_in_scope.ensures paths n.files (meaning_in n.names) t.decls
          (length-read 0 0 srcs n.files named.read ∙ c.requires.paired) named.meanings
          (judged-here n t ended.sound ended.judged).typed.erases;
      complete = is-complete paths (listing_of n) t.types t.decls entry (is-seen paths n t entry filed ended);
      judged = told-judged n t ended.sound ended.judged;
    }
