-- What the answer at a node's turn means in each store that may come later.
use Rattle.hare_tree.specs.declared.place.Fault.{Fault}
use Rattle.hare_tree.specs.declared.stop.Stop.{Stop}
use Rattle.hare_types.specs.Store.{Store}
use Rattle.hare_rules.specs.declared.judged.Verdict.{Verdict}
use Rattle.rule_judge.specs.declared.turn.Turn.{Turn}
use Rattle.rule_judge.specs.Told.{IsJudgedNode, IsStoppedNode}

-- The node meets its whole list, and this is what it is found to be.
abbrev pub IsJudged : Store → Turn → Verdict → Type 0
IsJudged s t v = IsJudgedNode s t.decls.now t.locals.now t.case.now t.node.now t.kids.now v

-- Where a fault is told, it is that of the first row that the node fails.
abbrev pub IsStopped : Store → Turn → Stop Fault → Type 0
IsStopped s t e = IsStoppedNode s t.decls.now t.locals.now t.case.now t.node.now t.kids.now e
