use Rattle.hare_values.proofs.ReadyToJudge.CanJudge.{can-judge-ok}
use Rattle.hare_values.proofs.judging.can_judge.Goals as goal

pub returns-clause-value : goal.returns-clause-value
returns-clause-value c =
    can-judge-ok c.args.program.now.names.now c.args.program.now.files.now c.args.program.now.known.now c.make_ready.new.ready c.args.s.now
    c.args.hint.now c.args.value.now c.is_defined.result (c.is_readable.ensures.value c.if-not-is_readable.false)
    (c.in_ok-make_ready.ensures.value c.if-not-branch.false) (c.in_ok-is_named.ensures.value c.if-not-branch-2.false)
    c.make_ready.ensures.taken.ready c.is_defined.ensures.value
