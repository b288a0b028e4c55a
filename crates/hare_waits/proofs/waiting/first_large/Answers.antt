use Rattle.std.proofs.Common.{◌<◌, ◌≤◌, ◌++◌, ◌∷◌, [], length, sym, ◌∙◌, subst, take, arith}
use Rattle.std.proofs.lemmas.List.{take_all}
use Rattle.hare_seen.specs.Sizes.{is_small_at}
use Rattle.hare_waits.specs.Nodes.{IsFirstOf}
use Rattle.hare_waits.proofs.ElementLemmas.{take-item}
use Rattle.hare_waits.proofs.FirstLemmas.{not_true, not_false, first-small, first-behind, first-before}
use Rattle.hare_waits.proofs.waiting.first_large.Goals as goal
use Rattle.hare_waits.proofs.waiting.first_large.Goals.{then-is_large+then-is_earlier, else-is_large, else-is_large-via-then-is_large+else-is_earlier, else-is_large-via-else-is_large}

pub loop-node-preserved : goal.loop-node-preserved
loop-node-preserved c =
    let s = c.args.s.now in
    let nodes = c.args.nodes.now in
    let ws = take c.loop-node.node-index nodes in
    let w = c.node-item.result in
    let l : c.loop-node.node-index < length nodes = omega arith in
    subst (λ vs. IsFirstOf s vs c.if-is_large.first) (sym (take-item nodes c.loop-node.node-index w l c.node-item.is))
    (elim c.if-is_large.branch [
      | then-is_large+then-is_earlier b ↦
          subst (IsFirstOf s (ws ++ w ∷ [])) (sym b.first-is)
          (first-before s ws w c.loop-node.first c.loop-node.invariant
          (not_true (is_small_at s w.ty) (sym c.is_large.ensures ∙ b.if-is_large.true))
          (b.is_earlier.ensures.before b.if-is_earlier.true))
      | else-is_large b ↦
          subst (IsFirstOf s (ws ++ w ∷ [])) (sym b.first-is)
          (elim b.else-is_large.branch [
            | else-is_large-via-then-is_large+else-is_earlier d ↦
                first-behind s ws w c.loop-node.first c.loop-node.invariant (d.is_earlier.ensures.behind d.if-is_earlier.false)
            | else-is_large-via-else-is_large d ↦
                first-small s ws w c.loop-node.first c.loop-node.invariant
                (not_false (is_small_at s w.ty) (sym c.is_large.ensures ∙ d.if-is_large.false))
          ])
    ])

pub returns : goal.returns
returns c =
    let l : length c.args.nodes.now ≤ c.loop-node.node-index = omega arith in
    subst (λ vs. IsFirstOf c.args.s.now vs c.loop-node.first) (take_all c.loop-node.node-index c.args.nodes.now l) c.loop-node.invariant
