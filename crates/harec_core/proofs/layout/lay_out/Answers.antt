use Rattle.std.proofs.Common.{◌∙◌}
use Rattle.std.proofs.lemmas.Result.{err_from_is_err_and}
use Rattle.harec_check.proofs.FileLemmas.{length-AreTold}
use Rattle.harec_core.proofs.CausesOfAnswers.Causes.{read_stop_found, silent}
use Rattle.harec_core.proofs.CausesOfAnswers.Layouts.{laid_out_found, layout_stop_found}
use Rattle.harec_core.proofs.layout.lay_out.Goals as goal

pub returns-in_err-srcs-clause-cause : goal.returns-in_err-srcs-clause-cause
returns-in_err-srcs-clause-cause g c =
    let p = err_from_is_err_and c.from_residual.result c.from_residual.ensures.1 in
    rw (p.1, p.2) (read_stop_found _ _ _ _ c.requires.count_of_files _ _ (silent _ _) _ c.in_err-srcs.ensures.err)

pub sole_layout-requires : goal.sole_layout-requires
sole_layout-requires g c = record { one = length-AreTold _ _ _ c.in_ok-srcs.ensures.ok.0 ∙ c.requires.one }

pub returns-in_err-layout-clause-cause : goal.returns-in_err-layout-clause-cause
returns-in_err-layout-clause-cause g c =
    let p = err_from_is_err_and c.from_residual-in_err-layout.result c.from_residual-in_err-layout.ensures.1 in
    let read = c.in_ok-srcs.ensures.ok in
    let (source, one, stop) = c.in_err-layout.ensures.err in
    rw (p.1, p.2) (layout_stop_found _ _ _ _ _ _ read.0 read.1 source one _ (silent _ _) stop)

pub returns-clause-cause : goal.returns-clause-cause
returns-clause-cause g c =
    let read = c.in_ok-srcs.ensures.ok in
    let (source, one, laid) = c.in_ok-layout.ensures.ok in
    laid_out_found _ _ _ _ _ _ read.0 read.1 source one _ _ laid (rw c.bytes.ensures at c.emit.ensures)
