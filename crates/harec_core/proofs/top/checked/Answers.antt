use Rattle.std.proofs.Common.{refl}
use Rattle.std.proofs.lemmas.Result.{err_from_is_err_and}
use Rattle.harec_check.proofs.FileLemmas.{length-AreTold}
use Rattle.harec_core.specs.Outside.{Count}
use Rattle.harec_core.proofs.CausesOfAnswers.Causes.{Checks-command_on, files_of-command_on, silent, stop_found}
use Rattle.harec_core.proofs.top.checked.Goals as goal

pub returns-in_err-srcs-clause-cause : goal.returns-in_err-srcs-clause-cause
returns-in_err-srcs-clause-cause g c =
    let p = err_from_is_err_and c.from_residual.result c.from_residual.ensures.1 in
    let checks = Checks-command_on c.args.paths.now c.args.purpose in
    let same = files_of-command_on c.args.paths.now c.args.purpose in
    rw (p.1, p.2)
    (stop_found _ _ _ _ c.requires.count_of_files _ _ (silent _ _) c.args.fill _ _ c.requires.empty refl _ checks same
    c.in_err-srcs.ensures.err)

pub check-requires : goal.check-requires
check-requires g c = record { few = c.requires.files.few }

pub carry_out-requires-clause-checked : goal.carry_out-requires-clause-checked
carry_out-requires-clause-checked g c =
    let read = c.in_ok-srcs.ensures.ok in
    (read.program, read.checked, read.faultless, read.whole c.requires.files)

pub carry_out-requires-clause-paired : goal.carry_out-requires-clause-paired
carry_out-requires-clause-paired g c = length-AreTold _ _ _ c.in_ok-srcs.ensures.ok.told

pub returns-clause-cause : goal.returns-clause-cause
returns-clause-cause g c =
    let read = c.in_ok-srcs.ensures.ok in
    let files : Count = record { before = g.F.Files.faults c.args.files.now; now = g.F.Files.faults c.check.new.files } in
    (c.in_ok-srcs.srcs, read.told, c.carry_out.ensures.cause files read.stands)
