use Rattle.std.proofs.Common.{◌<◌, ◌∷◌, ◌++◌, [], length, ap, sym, ◌∙◌, subst, take, arith}
use Rattle.std.specs.Prelude.{not, is_some}
use Rattle.hare_types.specs.ByIds.{extent_at}
use Rattle.hare_waits.specs.Lists.{Awaits}
use Rattle.hare_waits.proofs.ElementLemmas.{take-item}
use Rattle.hare_waits.proofs.AwaitLemmas.{awaits-known, awaits-more, known_some}
use Rattle.hare_waits.proofs.waits.wait_each.Goals as goal
use Rattle.hare_waits.proofs.waits.wait_each.Goals.{then-is_none+in_ok-name+in_ok-put, else-is_none}

pub loop-node-preserved : goal.loop-node-preserved
loop-node-preserved c =
    let s = c.args.s.now in
    let nodes = c.args.nodes.now in
    let ws = take c.loop-node.node-index nodes in
    let w = c.node-item.result in
    let l : c.loop-node.node-index < length nodes = omega arith in
    subst (Awaits s c.args.lists.now c.if-is_none.lists) (sym (take-item nodes c.loop-node.node-index w l c.node-item.is))
    (elim c.if-is_none.branch [
      | then-is_none+in_ok-name+in_ok-put b ↦
          subst (λ q. Awaits s c.args.lists.now q (ws ++ w ∷ [])) (sym b.lists-is)
          (awaits-more s c.args.lists.now c.loop-node.lists ws w c.loop-node.invariant b.in_ok-name.name b.in_ok-name.ensures b.put.new.self
          b.in_ok-put.ensures.ok)
      | else-is_none b ↦
          subst (λ q. Awaits s c.args.lists.now q (ws ++ w ∷ [])) (sym b.lists-is)
          (awaits-known s c.args.lists.now c.loop-node.lists ws w c.loop-node.invariant
          (known_some (extent_at s w.ty) (ap is_some (sym c.extent.ensures.value) ∙ c.is_none.ensures ∙ ap not b.if-is_none.false)))
    ])
