use Rattle.std.proofs.Common.{◌∙◌, Some}
use Rattle.hare_tree.specs.declared.form.Sort.TheVariants as so
use Rattle.hare_tree.proofs.TreeKids.KidSorts.{dots-behind}
use Rattle.hare_tree.proofs.kid.element_sort.Goals as goal

pub returns-else-i-items : goal.returns-else-i-items
returns-else-i-items c =
    rw (← c.saturating_sub-items.ensures)
    (c.repeated.ensures ∙ dots-behind (Some c.args.s) (Some so.Dots) c.saturating_sub-items.result c.args.i c.if-i-items.false)
