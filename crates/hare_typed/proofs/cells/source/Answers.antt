use Rattle.hare_typed.proofs.RepeatLemmas.{get_copy, get_past_copies}
use Rattle.hare_typed.proofs.cells.source.Goals as goal

pub returns-then-beyond-part : goal.returns-then-beyond-part
returns-then-beyond-part c cs h = get_copy c.args.r cs c.args.at c.requires c.if-at-r.false h c.if-beyond-part.true

pub returns-else-beyond-part : goal.returns-else-beyond-part
returns-else-beyond-part c cs h = get_past_copies c.args.r cs c.args.at c.requires c.if-at-r.false h c.if-beyond-part.false
