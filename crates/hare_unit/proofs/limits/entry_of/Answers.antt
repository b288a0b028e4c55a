use Rattle.std.proofs.Common.{sym, subst}
use Rattle.hare_whole.specs.Limits.{AreWithinLimits}
use Rattle.hare_walk.proofs.Steps.{err_same}
use Rattle.hare_unit.specs.Programs.{IsLimitStop}
use Rattle.hare_unit.proofs.WholeProgram.Together.{IsListed, limit-stops, is-ended}
use Rattle.hare_unit.proofs.limits.entry_of.Goals as goal

pub returns-in_err-number-clause-err : goal.returns-in_err-number-clause-err
returns-in_err-number-clause-err c =
    let n = c.args.named.now in
    let paths = c.args.paths.now in
    let t = c.args.typing.now in
    let r = c.list_tags.new.s in
    let e = c.in_err-number.field-0.0 in
    let listed : IsListed n t r =
    record { typed = c.requires.typed; sound = c.declarations-sound.ensures.sound; listed = c.in_ok-list_tags.ensures.ok } in
    err_same c.from_residual-in_err-number.result e (IsLimitStop paths n) c.from_residual-in_err-number.ensures.1
    (limit-stops paths n t r e listed c.in_err-number.ensures.err)

pub returns-in-Ok-clause-ok : goal.returns-in-Ok-clause-ok
returns-in-Ok-clause-ok c =
    let n = c.args.named.now in
    let paths = c.args.paths.now in
    let t = c.args.typing.now in
    let r = c.list_tags.new.s in
    let listed : IsListed n t r =
    record { typed = c.requires.typed; sound = c.declarations-sound.ensures.sound; listed = c.in_ok-list_tags.ensures.ok } in
    is-ended paths n t r c.in-Ok.entry listed
    (subst (λ k. AreWithinLimits paths r t.decls k) (sym (c.in-Ok.ensures.1)) c.in_ok-number.ensures.ok)
