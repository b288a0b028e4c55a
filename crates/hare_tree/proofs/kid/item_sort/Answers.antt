use Rattle.std.proofs.Common.{◌∙◌, Some}
use Rattle.hare_tree.proofs.TreeKids.KidSorts.{comma-behind}
use Rattle.hare_tree.proofs.kid.item_sort.Goals as goal

pub returns : goal.returns
returns c = rw (← c.saturating_sub.ensures) (c.repeated.ensures ∙ comma-behind (Some c.args.s) c.saturating_sub.result c.args.i)
