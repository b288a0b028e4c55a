use Rattle.std.proofs.Common.{◌≡◌, List, ap, sym, ◌∙◌}
use Rattle.hare_tree.specs.Node.{Node}
use Rattle.hare_automaton.specs.Engine.{Group, last_kid}
use Rattle.hare_parse.proofs.Kids.Heights.{bound_last}
use Rattle.hare_parse.proofs.group.Group.split_last.Goals as goal

same_last : (g h : Group) → g ≡ h → last_kid g.kids ≡ last_kid h.kids
same_last g h e = let last : Group → List Node = λ x. last_kid x.kids in ap last e

pub invariant_of-result : goal.invariant_of-result
invariant_of-result c =
    let ts = c.self.inside.kids.items in
    let e : c.in_ok-kids.kids.items ≡ last_kid ts = c.in_ok-kids.ensures.alone ∙ sym (same_last _ _ c.self.view_is) in
    rw e (c.self.invariant.1, bound_last c.self.inside.last ts c.self.invariant.1)
