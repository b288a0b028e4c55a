use Rattle.std.proofs.Common.{ap, refl, subst, sym}
use Rattle.std.proofs.lemmas.Result.{err_from_is_err_and}
use Rattle.harec_core.specs.Asked.{Compiles}
use Rattle.harec_core.specs.Stages.{IsTextOf, command_on}
use Rattle.harec_core.proofs.CausesOfAnswers.Causes.{compiled_memory_found, compiled_on, emit_found, passed_found, ran_found, silent}
use Rattle.harec_core.proofs.CausesOfAnswers.Causes.{sound_on, unbuilt_found}
use Rattle.harec_core.proofs.EndsOfRuns.Leaves.{ran_unread, run_leaves}
use Rattle.harec_core.proofs.carry.carry_out.Goals as goal

pub run_text-requires-clause-few : goal.run_text-requires-clause-few
run_text-requires-clause-few g c = rw c.in-Run.is at c.requires.few

pub returns-in-Check-clause-cause : goal.returns-in-Check-clause-cause
returns-in-Check-clause-cause g c = λ files s.
    let e = ap (command_on c.args.paths.now) c.in-Check.is in
    let sound = sound_on c.args.paths.now c.args.purpose _ _ _ _ _ _ s c.requires.checked in
    passed_found _ c.args.paths.now _ e sound (silent _ _) c.requires.empty

pub returns-in_ok-build-in-Emit-clause-cause : goal.returns-in_ok-build-in-Emit-clause-cause
returns-in_ok-build-in-Emit-clause-cause g c = λ files s.
    let e = ap (command_on c.args.paths.now) c.in-Emit.is in
    let (m, built) = c.in_ok-build-in-Emit.ensures.ok in
    let k : Compiles (command_on c.args.paths.now c.args.purpose) = subst Compiles (sym e) tt in
    let compiled = compiled_on c.args.paths.now c.args.purpose _ _ _ _ _ _ s c.requires.checked m k c.requires.paired built in
    emit_found _ m _ c.args.paths.now _ e compiled (rw c.bytes.ensures at c.emit.ensures)

pub returns-in_ok-ran-in-Run-clause-cause : goal.returns-in_ok-ran-in-Run-clause-cause
returns-in_ok-ran-in-Run-clause-cause g c = λ files s.
    let e = ap (command_on c.args.paths.now) c.in-Run.is in
    let (m, built) = c.in_ok-build-in-Run.ensures.ok in
    let k : Compiles (command_on c.args.paths.now c.args.purpose) = subst Compiles (sym e) tt in
    let compiled = compiled_on c.args.paths.now c.args.purpose _ _ _ _ _ _ s c.requires.checked m k c.requires.paired built in
    let text : IsTextOf built.source c.bytes-in-Run.result.now m = rw c.bytes-in-Run.ensures built.made in
    ran_found _ m c.in-Run.units c.args.paths.now c.in-Run.args.now _ c.in_ok-ran-in-Run.ran e compiled
    (c.in_ok-ran-in-Run.ensures.ran built.source m text)

pub returns-in_ok-ran-in-Run-clause-unread : goal.returns-in_ok-ran-in-Run-clause-unread
returns-in_ok-ran-in-Run-clause-unread g c = rw c.in-Run.is (ran_unread _ _ c.in_ok-ran-in-Run.ran.end)

pub returns-in_ok-ran-in-Run-clause-leaves : goal.returns-in_ok-ran-in-Run-clause-leaves
returns-in_ok-ran-in-Run-clause-leaves g c = rw c.in-Run.is (run_leaves _ _ c.in-Run.units c.args.paths.now c.in-Run.args.now c.in_ok-ran-in-Run.ran.end)

pub returns-in_err-ran-in-Run-clause-cause : goal.returns-in_err-ran-in-Run-clause-cause
returns-in_err-ran-in-Run-clause-cause g c = λ files s.
    let e = ap (command_on c.args.paths.now) c.in-Run.is in
    let (m, built) = c.in_ok-build-in-Run.ensures.ok in
    let k : Compiles (command_on c.args.paths.now c.args.purpose) = subst Compiles (sym e) tt in
    let compiled = compiled_on c.args.paths.now c.args.purpose _ _ _ _ _ _ s c.requires.checked m k c.requires.paired built in
    let p = err_from_is_err_and c.from_residual-in_err-ran-in-Run.result c.from_residual-in_err-ran-in-Run.ensures.1 in
    let same = c.in_err-ran-in-Run.ensures in
    rw (p.1, p.2) (compiled_memory_found _ m _ compiled (rw same.unread refl) (rw same.unwritten (silent _ _)))

pub returns-in_err-build-in-Emit-clause-cause : goal.returns-in_err-build-in-Emit-clause-cause
returns-in_err-build-in-Emit-clause-cause g c = λ files s.
    let e = ap (command_on c.args.paths.now) c.in-Emit.is in
    let k : Compiles (command_on c.args.paths.now c.args.purpose) = subst Compiles (sym e) tt in
    let p = err_from_is_err_and c.from_residual.result c.from_residual.ensures.1 in
    let built = c.in_err-build-in-Emit.ensures in
    rw (p.1, p.2)
    (unbuilt_found c.args.paths.now c.args.purpose _ _ _ _ _ _ s c.requires.checked _ k refl (silent _ _) built.untouched built.err)

pub returns-in_err-build-in-Run-clause-cause : goal.returns-in_err-build-in-Run-clause-cause
returns-in_err-build-in-Run-clause-cause g c = λ files s.
    let e = ap (command_on c.args.paths.now) c.in-Run.is in
    let k : Compiles (command_on c.args.paths.now c.args.purpose) = subst Compiles (sym e) tt in
    let p = err_from_is_err_and c.from_residual-in_err-build-in-Run.result c.from_residual-in_err-build-in-Run.ensures.1 in
    let built = c.in_err-build-in-Run.ensures in
    rw (p.1, p.2)
    (unbuilt_found c.args.paths.now c.args.purpose _ _ _ _ _ _ s c.requires.checked _ k refl (silent _ _) built.untouched built.err)
