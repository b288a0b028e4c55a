use Rattle.std.proofs.Common.{◌≡◌, List, ◌++◌, ap, sym, ◌∙◌}
use Rattle.hare_tree.specs.Node.{Node}
use Rattle.hare_automaton.specs.Engine.{Group}
use Rattle.hare_parse.proofs.Kids.Heights.{bound_append, bound_append_last}
use Rattle.hare_parse.proofs.group.Group.lift.Goals as goal

same_kids : (g h : Group) → g ≡ h → g.kids ≡ h.kids
same_kids g h e = let kids : Group → List Node = λ x. x.kids in ap kids e

pub invariant_of-self-2 : goal.invariant_of-self-2
invariant_of-self-2 c =
    let b = c.self.inside.highest in
    let d = c.inner.inside.highest in
    let ts = c.self.inside.kids.items in
    let us = c.inner.inside.kids.items in
    let k : c.args.inner.kids ≡ us = sym (same_kids _ _ c.inner.view_is) in
    let e : c.append.new.self.items ≡ ts ++ us =
    c.in_ok-append.ensures.items ∙ ap (λ l. ts ++ l) (c.into_kids-kids.ensures ∙ k) in
    rw (c.max-highest.ensures, e)
    (bound_append b d ts us c.self.invariant.0 c.inner.invariant.0, bound_append_last b d ts us c.self.invariant.0 c.inner.invariant.0)
