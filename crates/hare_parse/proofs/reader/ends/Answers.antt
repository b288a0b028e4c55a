use Rattle.std.proofs.Common.{inl, inr}
use Rattle.hare_ll_table.specs.declared.answer.Answer.TheVariants as an
use Rattle.hare_ll_table.specs.Seen.{waited}
use Rattle.hare_parse.proofs.ClosedRun.AtEnd.{at_end, says_at}
use Rattle.hare_parse.proofs.reader.ends.Goals as goal

pub returns-in-Ends : goal.returns-in-Ends
returns-in-Ends c =
    at_end c.args.file (waited c.args.stack.now) c.args.groups.now an.Ends (waited c.step.new.stack) c.step.new.groups
    (says_at c.args.file c.end_token-end.result c.class_of.result (waited c.args.stack.now) c.args.groups.now c.in_ok-step.field-0
    an.Ends (waited c.step.new.stack) c.step.new.groups c.end_token-end.ensures c.class_of.ensures.value c.in-Ends.is
    c.in_ok-step.ensures)

pub returns : goal.returns
returns c = elim c.in-Goes.is [
  | inl i ↦ at_end c.args.file (waited c.args.stack.now) c.args.groups.now an.Goes (waited c.step.new.stack) c.step.new.groups
      (says_at c.args.file c.end_token-end.result c.class_of.result (waited c.args.stack.now) c.args.groups.now c.in_ok-step.field-0 an.Goes
      (waited c.step.new.stack) c.step.new.groups c.end_token-end.ensures c.class_of.ensures.value i c.in_ok-step.ensures)
  | inr i ↦ at_end c.args.file (waited c.args.stack.now) c.args.groups.now an.Stuck (waited c.step.new.stack) c.step.new.groups
      (says_at c.args.file c.end_token-end.result c.class_of.result (waited c.args.stack.now) c.args.groups.now c.in_ok-step.field-0
      an.Stuck (waited c.step.new.stack) c.step.new.groups c.end_token-end.ensures c.class_of.ensures.value i c.in_ok-step.ensures)
]
