use Rattle.std.proofs.Common.{List, ℕ, [], ◌∷◌, refl, sym, subst}
use Rattle.std.proofs.lemmas.Result.{err_from_is_err_and}
use Rattle.harec_check.proofs.CountLemmas.{Rose-one_more, StopsAtFault-one_more, StopsAtFault-stands}
use Rattle.harec_check.specs.declared.stopped.Stopped.TheVariants.{Unread, Memory}
use Rattle.harec_core.specs.Stages.{IsTextRefusal}
use Rattle.harec_core.proofs.CausesOfAnswers.Causes.{read_stop_found, silent}
use Rattle.harec_core.proofs.CausesOfAnswers.Executing.{sole_path, told_one, unread_one, text_refused_found, text_memory_found}
use Rattle.harec_core.proofs.CausesOfAnswers.Executing.{text_ran_found}
use Rattle.harec_core.proofs.EndsOfRuns.Leaves.{exec_leaves, ran_unread}
use Rattle.harec_core.proofs.execute.execute.Goals as goal

pub returns-in-Err-Failed-clause-cause : goal.returns-in-Err-Failed-clause-cause
returns-in-Err-Failed-clause-cause g c =
    let one = sole_path c.args.paths.now c.index-paths-0.result c.requires.one c.index-paths-0.is in
    let risen = rw c.in-Err-Failed.field-0-is at c.in-Err-Failed.ensures.count.cause in
    let (srcs, told, found) =
    read_stop_found (g.F.Files.content c.args.files.now) c.args.paths.now _ _ c.requires.count_of_files _ _ (silent _ _) (Unread 0)
    (unread_one _ c.args.paths.now c.index-paths-0.result one _ _ (Rose-one_more _ _ risen)) in
    (srcs, told, found _ _ _ c.requires.empty refl)

pub returns-in-Err-Memory-clause-cause : goal.returns-in-Err-Memory-clause-cause
returns-in-Err-Memory-clause-cause g c =
    let stands = rw c.in-Err-Memory.field-0-is at c.in-Err-Memory.ensures.count.cause in
    let (srcs, told, found) =
    read_stop_found (g.F.Files.content c.args.files.now) c.args.paths.now _ _ c.requires.count_of_files _ _ (silent _ _) Memory stands in
    (srcs, told, found _ _ _ c.requires.empty refl)

pub returns-in-Err-Fault-clause-cause : goal.returns-in-Err-Fault-clause-cause
returns-in-Err-Fault-clause-cause g c =
    let one = sole_path c.args.paths.now c.index-paths-0.result c.requires.one c.index-paths-0.is in
    let refusal = rw (c.in-Err-Fault.field-0-is, c.bytes.ensures) at c.in-Err-Fault.ensures.err in
    rw c.in-Err-Fault.field-0-is (
      c.in-Ok.content ∷ [],
      told_one _ c.args.paths.now c.index-paths-0.result one c.in-Ok.content c.in-Ok.ensures.bytes,
      text_refused_found c.args.units c.args.fill c.args.paths.now c.args.args.now c.in-Ok.content _ _ _ c.in-Ok.ensures.count.cause
          c.in-Err-Fault.refusal
          (subst (λ (ps : List (List ℕ)). IsTextRefusal ps c.in-Ok.content c.in-Err-Fault.refusal) (sym one) refusal) (silent _ _),
    )

pub returns-in-Err-Memory-module_of-clause-cause : goal.returns-in-Err-Memory-module_of-clause-cause
returns-in-Err-Memory-module_of-clause-cause g c =
    let one = sole_path c.args.paths.now c.index-paths-0.result c.requires.one c.index-paths-0.is in (
      c.in-Ok.content ∷ [],
      told_one _ c.args.paths.now c.index-paths-0.result one c.in-Ok.content c.in-Ok.ensures.bytes,
      text_memory_found c.args.units c.args.fill c.args.paths.now c.args.args.now c.in-Ok.content _ _ _ c.in-Ok.ensures.count.cause refl
          (silent _ _),
    )

pub returns-in_err-ran-clause-cause : goal.returns-in_err-ran-clause-cause
returns-in_err-ran-clause-cause g c =
    let one = sole_path c.args.paths.now c.index-paths-0.result c.requires.one c.index-paths-0.is in
    let p = err_from_is_err_and c.from_residual.result c.from_residual.ensures.1 in
    let same = c.in_err-ran.ensures in
    rw (p.1, p.2) (
      c.in-Ok.content ∷ [],
      told_one _ c.args.paths.now c.index-paths-0.result one c.in-Ok.content c.in-Ok.ensures.bytes,
      text_memory_found c.args.units c.args.fill c.args.paths.now c.args.args.now c.in-Ok.content _ _ _ c.in-Ok.ensures.count.cause
          (rw same.unread refl) (rw same.unwritten (silent _ _)),
    )

pub returns-clause-cause : goal.returns-clause-cause
returns-clause-cause g c =
    let one = sole_path c.args.paths.now c.index-paths-0.result c.requires.one c.index-paths-0.is in
    let printed = rw c.bytes.ensures at c.in-Ok-module_of.ensures.ok in (
      c.in-Ok.content ∷ [],
      told_one _ c.args.paths.now c.index-paths-0.result one c.in-Ok.content c.in-Ok.ensures.bytes,
      text_ran_found c.args.units c.args.fill c.args.paths.now c.args.args.now c.in-Ok.content _ _ _ c.in-Ok.ensures.count.cause
          c.in-Ok-module_of.module printed c.in_ok-ran.ran c.in_ok-ran.ensures.ran,
    )

pub returns-clause-unread : goal.returns-clause-unread
returns-clause-unread g c = ran_unread _ _ c.in_ok-ran.ran.end

pub returns-clause-leaves : goal.returns-clause-leaves
returns-clause-leaves g c = exec_leaves _ _ c.args.units c.args.paths.now c.args.args.now c.in_ok-ran.ran.end

-- ---- the one read

pub returns-in-Err-Failed-clause-last : goal.returns-in-Err-Failed-clause-last
returns-in-Err-Failed-clause-last g c =
    let risen = rw c.in-Err-Failed.field-0-is at c.in-Err-Failed.ensures.count.cause in
    StopsAtFault-one_more _ _ _ risen (rw c.in-Err-Failed.field-0-is at c.in-Err-Failed.ensures.last)

pub returns-in-Err-Memory-clause-last : goal.returns-in-Err-Memory-clause-last
returns-in-Err-Memory-clause-last g c =
    StopsAtFault-stands _ _ _ (rw c.in-Err-Memory.field-0-is at c.in-Err-Memory.ensures.count.cause)

pub returns-in-Err-Fault-clause-last : goal.returns-in-Err-Fault-clause-last
returns-in-Err-Fault-clause-last g c = StopsAtFault-stands _ _ _ c.in-Ok.ensures.count.cause

pub returns-in-Err-Memory-module_of-clause-last : goal.returns-in-Err-Memory-module_of-clause-last
returns-in-Err-Memory-module_of-clause-last g c = StopsAtFault-stands _ _ _ c.in-Ok.ensures.count.cause

pub returns-in_err-ran-clause-last : goal.returns-in_err-ran-clause-last
returns-in_err-ran-clause-last g c = StopsAtFault-stands _ _ _ c.in-Ok.ensures.count.cause

pub returns-clause-last : goal.returns-clause-last
returns-clause-last g c = StopsAtFault-stands _ _ _ c.in-Ok.ensures.count.cause
