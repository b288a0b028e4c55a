use Rattle.std.proofs.Common.{ap, ◌∙◌}
use Rattle.hare_tree.specs.Node.{nodes_of, kids_of}
use Rattle.judge_table.proofs.judged.judged.Goals as goal

pub judged_over-requires-clause-kids : goal.judged_over-requires-clause-kids
judged_over-requires-clause-kids c = ap nodes_of c.in_ok-kids.ensures ∙ ap kids_of c.node.view_is
