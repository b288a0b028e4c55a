use Rattle.std.proofs.Common.{◌∙◌, ap, sym}
use Rattle.hare_typed.specs.Folded.{inconstant}
use Rattle.hare_const.specs.NodeValues.{Refuses, cells_of}
use Rattle.hare_const.proofs.WalkLemmas.{err-same}
use Rattle.hare_const.proofs.Tagged.{folded_cells, folded_refused}
use Rattle.hare_const.proofs.folded.cells_and_objects.Goals as goal

pub returns-in_err-outcome-clause-err : goal.returns-in_err-outcome-clause-err
returns-in_err-outcome-clause-err c =
    let e = c.in_err-outcome.field-0.0 in
    err-same c.from_residual.result e (Refuses (inconstant c.args.s.now c.args.own c.args.t.now)) c.from_residual.ensures.1
    (folded_refused c.args.s.now c.declarations-law.ensures.sound c.args.own c.args.t.now c.requires.settled c.requires.coherent e
    c.in_err-outcome.ensures.err)

pub returns-clause-ok : goal.returns-clause-ok
returns-clause-ok c =
    let found = folded_cells c.args.s.now c.declarations-law.ensures.sound c.args.own c.args.t.now c.requires.settled c.requires.coherent
    c.in_ok-outcome.ensures.ok.1 in
    (found.0, found.1 ∙ ap cells_of (sym c.in_ok-outcome.ensures.ok.0) ∙ sym c.cells_of.ensures)
