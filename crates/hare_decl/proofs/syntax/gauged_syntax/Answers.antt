use Rattle.std.proofs.Common.{arith}
use Rattle.hare_decl.proofs.RunOutcomes.Stuck.{depth_first, no_depth, stuck_at_token, stuck_at_end, end_not_used}
use Rattle.hare_decl.proofs.syntax.gauged_syntax.Goals as goal

pub returns-in-Some-clause-value : goal.returns-in-Some-clause-value
returns-in-Some-clause-value c = depth_first c.args.tokens.now c.in_ok-n.field-0 c.in-Some.n c.in_ok-n.ensures.value c.in-Some.is

pub returns-in-Stuck-clause-value : goal.returns-in-Stuck-clause-value
returns-in-Stuck-clause-value c =
    let shallow = no_depth c.args.tokens.now c.in_ok-n.field-0 c.in_ok-n.ensures.value c.in_default.is in
    let stuck = rw c.in-Stuck.is at c.in_ok-uses.ensures.run in
    let stands = rw c.in-Stuck.is at c.in_ok-uses.ensures.place in
    stuck_at_token c.args.file c.args.tokens.now c.in-Stuck.n shallow stuck stands (omega (arith, c.if-n-len.true, c.len.ensures))

pub returns-in-Stuck-2-clause-value : goal.returns-in-Stuck-2-clause-value
returns-in-Stuck-2-clause-value c =
    let shallow = no_depth c.args.tokens.now c.in_ok-n.field-0 c.in_ok-n.ensures.value c.in_default.is in
    let stuck = rw c.in-Stuck.is at c.in_ok-uses.ensures.run in
    stuck_at_end c.args.file c.args.tokens.now c.in-Stuck.n shallow stuck (omega (arith, c.if-n-len.false, c.len.ensures))

pub returns-in-Stuck-2-clause-ended : goal.returns-in-Stuck-2-clause-ended
returns-in-Stuck-2-clause-ended c =
    let stuck = rw c.in-Stuck.is at c.in_ok-uses.ensures.run in
    λ k e. end_not_used c.args.file c.args.tokens.now c.in-Stuck.n stuck (omega (arith, c.if-n-len.false, c.len.ensures)) k
