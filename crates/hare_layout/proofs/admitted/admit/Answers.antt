use Rattle.std.proofs.lemmas.Result.{err_from_is_err_and}
use Rattle.hare_tree.specs.declared.stop.Stop.TheVariants as stop
use Rattle.hare_layout.proofs.AdmitLemmas.{reduction-here, small_known, small_fresh, fits, stops-large, admitted, only-ok, only-err, stops-early}
use Rattle.hare_layout.proofs.admitted.admit.Goals as goal

pub is_too_large-requires : goal.is_too_large-requires
is_too_large-requires c = reduction-here c.args.s.now c.args.r.now c.in_ok-reduced.reduced c.in_ok-reduced.ensures.ok

pub returns-then-is_too_large-clause-err : goal.returns-then-is_too_large-clause-err
returns-then-is_too_large-clause-err c =
    stops-large c.args.s.now c.args.r.now c.args.place c.in_ok-reduced.reduced c.in_ok-reduced.ensures.passes c.in_ok-reduced.ensures.ok
    (c.is_too_large.ensures.0 c.if-is_too_large.true)

pub returns-in-Known-clause-small : goal.returns-in-Known-clause-small
returns-in-Known-clause-small c =
    small_known c.args.s.now c.in_ok-reduced.reduced c.in-Known.t c.in-Known.is
    (λ h. let yes = c.is_too_large.ensures.1 h in let no = c.if-is_too_large.false in absurd cc)

pub returns-in_ok-t-in-Fresh-clause-small : goal.returns-in_ok-t-in-Fresh-clause-small
returns-in_ok-t-in-Fresh-clause-small c =
    small_fresh c.args.s.now c.intern.new.self c.in_ok-reduced.ensures.sound c.in_ok-t-in-Fresh.ensures.rest
    c.in_ok-t-in-Fresh.ensures.grows c.in_ok-reduced.reduced c.in-Fresh.row c.in_ok-t-in-Fresh.t c.in-Fresh.is
    c.in_ok-t-in-Fresh.ensures.stands (λ h. let yes = c.is_too_large.ensures.1 h in let no = c.if-is_too_large.false in absurd cc)

pub returns-in-Known-clause-fits : goal.returns-in-Known-clause-fits
returns-in-Known-clause-fits c = fits c.args.s.now c.in_ok-reduced.ensures.sound c.in-Known.t (returns-in-Known-clause-small c)

pub returns-in_ok-t-in-Fresh-clause-fits : goal.returns-in_ok-t-in-Fresh-clause-fits
returns-in_ok-t-in-Fresh-clause-fits c =
    fits c.intern.new.self c.in_ok-t-in-Fresh.ensures.later.sound c.in_ok-t-in-Fresh.t (returns-in_ok-t-in-Fresh-clause-small c)

pub returns-in-Known-clause-admitted : goal.returns-in-Known-clause-admitted
returns-in-Known-clause-admitted c =
    admitted c.args.s.now c.args.r.now c.args.place c.in_ok-reduced.ensures.sound c.in_ok-reduced.reduced c.in_ok-reduced.ensures.passes
    c.in_ok-reduced.ensures.ok
    (λ h. let yes = c.is_too_large.ensures.1 h in let no = c.if-is_too_large.false in absurd cc)

pub returns-in_ok-t-in-Fresh-clause-admitted : goal.returns-in_ok-t-in-Fresh-clause-admitted
returns-in_ok-t-in-Fresh-clause-admitted c =
    admitted c.args.s.now c.args.r.now c.args.place c.in_ok-reduced.ensures.sound c.in_ok-reduced.reduced c.in_ok-reduced.ensures.passes
    c.in_ok-reduced.ensures.ok
    (λ h. let yes = c.is_too_large.ensures.1 h in let no = c.if-is_too_large.false in absurd cc)

pub returns-in_err-reduced-clause-only : goal.returns-in_err-reduced-clause-only
returns-in_err-reduced-clause-only c =
    let p = err_from_is_err_and c.from_residual.result c.from_residual.ensures.1 in
    let early = c.in_err-reduced.ensures.err in
    rw (p.1, p.2) (only-err c.args.s.now c.args.r.now c.args.place c.in_err-reduced.field-0.0
    (stops-early c.args.s.now c.args.r.now c.args.place c.in_err-reduced.field-0.0 early))

pub returns-then-is_too_large-clause-only : goal.returns-then-is_too_large-clause-only
returns-then-is_too_large-clause-only c =
    only-err c.args.s.now c.args.r.now c.args.place (stop.Fault (record { number = 18; place = c.args.place }))
    (stops-large c.args.s.now c.args.r.now c.args.place c.in_ok-reduced.reduced c.in_ok-reduced.ensures.passes c.in_ok-reduced.ensures.ok
    (c.is_too_large.ensures.0 c.if-is_too_large.true))

pub returns-in-Known-clause-only : goal.returns-in-Known-clause-only
returns-in-Known-clause-only c =
    only-ok c.args.s.now c.args.r.now c.args.place c.in-Known.t
    (admitted c.args.s.now c.args.r.now c.args.place c.in_ok-reduced.ensures.sound c.in_ok-reduced.reduced c.in_ok-reduced.ensures.passes
    c.in_ok-reduced.ensures.ok
    (λ h. let yes = c.is_too_large.ensures.1 h in let no = c.if-is_too_large.false in absurd cc))

pub returns-in_ok-t-in-Fresh-clause-only : goal.returns-in_ok-t-in-Fresh-clause-only
returns-in_ok-t-in-Fresh-clause-only c =
    only-ok c.args.s.now c.args.r.now c.args.place c.in_ok-t-in-Fresh.t
    (admitted c.args.s.now c.args.r.now c.args.place c.in_ok-reduced.ensures.sound c.in_ok-reduced.reduced c.in_ok-reduced.ensures.passes
    c.in_ok-reduced.ensures.ok
    (λ h. let yes = c.is_too_large.ensures.1 h in let no = c.if-is_too_large.false in absurd cc))
