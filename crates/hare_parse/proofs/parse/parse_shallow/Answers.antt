use Rattle.std.proofs.Common.{◌-◌, drop, ap, ◌∙◌, subst}
use Rattle.hare_ll_table.specs.Places.{IsPlace}
use Rattle.hare_parse.specs.Runs.{outcome_of, place_of}
use Rattle.hare_parse.specs.Answers.{IsRead}
use Rattle.hare_parse.proofs.ClosedRun.Answered.{done_is_parsed, stuck_is_fault}
use Rattle.hare_parse.proofs.parse.parse_shallow.Goals as goal

pub returns-in-Done-clause-ok : goal.returns-in-Done-clause-ok
returns-in-Done-clause-ok c =
    let ts = c.args.t.now in
    let us = drop c.args.at ts in
    let e = c.in_ok-tree.ensures.run ∙ ap (λ o. outcome_of o ts) c.in-Done.is in
    let p = subst (λ o. IsPlace ts c.args.at (place_of o)) c.in-Done.is c.in_ok-tree.ensures.place in
    let q = done_is_parsed c.args.sort c.requires.sort c.file_at.result ts c.args.at c.in-Done.next c.in-Done.tree c.requires.within e p
    c.requires.shallow c.requires.fits in
    (q.0, subst (λ f. IsRead c.args.sort f us c.in-Done.tree (c.in-Done.next - c.args.at)) c.file_at.ensures q.1)

pub returns-in-Stuck-clause-err : goal.returns-in-Stuck-clause-err
returns-in-Stuck-clause-err c =
    let ts = c.args.t.now in
    let e = c.in_ok-tree.ensures.run ∙ ap (λ o. outcome_of o ts) c.in-Stuck.is in
    let p = subst (λ o. IsPlace ts c.args.at (place_of o)) c.in-Stuck.is c.in_ok-tree.ensures.place in
    stuck_is_fault c.args.sort c.requires.sort c.file_at.result ts c.args.at c.in-Stuck.n c.fault_up_to.result c.requires.within e p
    c.requires.shallow c.fault_up_to.ensures
