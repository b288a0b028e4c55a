use Rattle.rule_switch.proofs.TextLemmas.{size_past, not_within}
use Rattle.rule_switch.proofs.texts.size_at.Goals as goal

pub returns-then-not-read : goal.returns-then-not-read
returns-then-not-read c = size_past c.args.cells.now c.args.at (not_within _ _ _ c.read.ensures.known c.if-not-read.true)
