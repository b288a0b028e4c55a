use Rattle.std.proofs.Common.{◌≡◌, length, ◌∙◌, arith}
use Rattle.std.proofs.lemmas.Grind.{common_steps}
use Rattle.hare_typed.specs.Coats.{coat}
use Rattle.hare_typed.proofs.CoatLemmas.{visits, trees_coated}
use Rattle.hare_typed.proofs.typed.coats.+coat.Goals as goal

pub coat_kids-loop-t-preserved : goal.coat_kids-loop-t-preserved
coat_kids-loop-t-preserved t c =
    let xs = c.deref_mut-t-items.result.now in
    record {
      unvisited = (grind (arith, common_steps), λ k d h. grind (arith, common_steps, c.loop-t.invariant.unvisited.1 k d));
      visited =
          visits (coat c.args.cs.now) xs c.loop-t.t-items c.loop-t.t-index c.t-item.result _ c.loop-t-test.true
          c.loop-t.invariant.visited
          c.coat.ensures;
    }

pub coat_kids-returns : goal.coat_kids-returns
coat_kids-returns t c =
    let xs = c.deref_mut-t-items.result.now in
    let m = c.ts.inside.trees.len in
    let n : m ≡ length c.loop-t.t-items = omega arith in
    trees_coated c.args.cs.now m xs c.loop-t.t-items _ c.loop-t.t-index c.args.ts.now n c.loop-t-test.false
    c.loop-t.invariant.visited
    (c.deref_mut-t-items.ensures.value ∙ c.ts.view_is)
