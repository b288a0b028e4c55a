use Rattle.std.proofs.Common.{ap, sym, ◌∙◌}
use Rattle.hare_tree.specs.Node.{head}
use Rattle.hare_tree.proofs.TreeKids.KidsFrom.{nodes_from-get, nodes_from-past}
use Rattle.hare_ways.specs.Breaks.{wants_behind}
use Rattle.hare_ways.specs.Parts.{wants_behind_first}
use Rattle.hare_ways.proofs.inside.wants_behind.Goals as goal

pub returns-in-Some : goal.returns-in-Some
returns-in-Some c =
    let kid = c.in-Some.kid.now in
    c.wants_after.ensures ∙ ap (λ k. wants_behind k c.args.wants c.ends_before_comma.result) (ap (λ u. (head u).kind) c.kid.view_is)
    ∙ ap (wants_behind (head kid).kind c.args.wants) c.ends_before_comma.ensures
    ∙ ap (wants_behind_first c.args.wants) (sym (nodes_from-get c.args.kids.now c.args.i kid c.in-Some.ensures.found))

pub returns-in-None : goal.returns-in-None
returns-in-None c = ap (wants_behind_first c.args.wants) (sym (nodes_from-past c.args.kids.now c.args.i c.in-None.ensures.none))
