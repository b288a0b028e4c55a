use Rattle.std.proofs.Common.{rules, ◌≡◌, true}
use Rattle.hare_bodies.proofs.ReadyLemmas.{can-judge-ok}
use Rattle.hare_bodies.proofs.bodies.can_judge.Goals as goal

pub returns : goal.returns
returns c =
    let yes : c.in_ok-is_named.field-0 ≡ true = search (rules, c.if-not-branch.false) in
    can-judge-ok c.args.s.now c.args.known.now c.are_ready.result (c.in_ok-is_named.ensures.value yes) c.are_ready.ensures.value
