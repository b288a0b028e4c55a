-- A node whose turn has come: its context, and what a judge may rely on.
use Rattle.std.specs.Prelude.{List}
use Rattle.hare_tree.specs.declared.kind.Kind.{Kind}
use Rattle.hare_tree.specs.Node.{Head, head}
use Rattle.hare_types.specs.Store.{Store}
use Rattle.hare_rules.specs.declared.judged.Yielded.{Yielded}
use Rattle.hare_rules.specs.Context.{Context}
use Rattle.hare_rules.specs.Judged.{context_of}
use Rattle.rule_judge.specs.declared.turn.Turn.{Turn}
use Rattle.rule_judge.specs.Told.{IsToldNode}

abbrev pub head_in : Turn → Head
head_in t = head t.node.now

abbrev pub kind_in : Turn → Kind
kind_in t = (head_in t).kind

-- the context of the node in a store
abbrev pub context_in : Store → Turn → Context
context_in s t = context_of s t.decls.now t.locals.now t.case.now (head_in t) t.kids.now

abbrev pub yields_in : Turn → List Yielded
yields_in t = t.case.now.yields

-- what a judge may rely on
abbrev pub IsTurn : Store → Turn → Type 0
IsTurn s t = IsToldNode s t.case.now t.node.now t.kids.now
