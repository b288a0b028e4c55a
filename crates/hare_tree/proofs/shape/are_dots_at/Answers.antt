use Rattle.std.proofs.Common.{ap, sym, ◌∙◌}
use Rattle.hare_tree.specs.Shape.{is_none_or_dots}
use Rattle.hare_tree.specs.Judged.{first_is}
use Rattle.hare_tree.proofs.TreeKids.KidsFrom.{nodes_from-get, nodes_from-past}
use Rattle.hare_tree.proofs.shape.are_dots_at.Goals as goal

pub returns-in-Some : goal.returns-in-Some
returns-in-Some c =
    c.are_last_dots.ensures ∙ ap (first_is is_none_or_dots)
    (sym (nodes_from-get c.args.kids.now c.args.i c.in-Some.t.now c.in-Some.ensures.found))

pub returns-in-None : goal.returns-in-None
returns-in-None c = ap (first_is is_none_or_dots) (sym (nodes_from-past c.args.kids.now c.args.i c.in-None.ensures.none))
