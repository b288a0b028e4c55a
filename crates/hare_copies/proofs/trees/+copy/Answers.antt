use Rattle.std.proofs.Common.{◌<◌, List, [], ◌∷◌, ◌++◌, take, ap, sym, ◌∙◌, arith}
use Rattle.hare_typed.specs.Typed.{TypedNode, typed_nodes, size_of, sizes_of}
use Rattle.hare_typed.proofs.KidLemmas.{kid_size, take-get}
use Rattle.hare_copies.proofs.trees.+copy.Goals as goal

pub copy_kids-copy_tree-requires : goal.copy_kids-copy_tree-requires
copy_kids-copy_tree-requires t c =
    let ts : List TypedNode = c.args.ts.now in
    let x : TypedNode = c.in-Some.t.now in
    let h : size_of x < sizes_of (typed_nodes ts) = kid_size ts c.loop-i.i x c.in-Some.ensures.found in
    (omega arith, tt)

pub copy_kids-loop-i-preserved : goal.copy_kids-loop-i-preserved
copy_kids-loop-i-preserved t c =
    let i = c.loop-i.i in
    let ts : List TypedNode = c.args.ts.now in
    record {
      within = omega arith;
      copied =
          c.in_ok-push.ensures.ok
          ∙ ap (λ (zs : List TypedNode). zs ++ c.in_ok-copy_tree.field-0 ∷ []) c.loop-i.invariant.copied
          ∙ ap (λ (z : TypedNode). take i ts ++ z ∷ []) c.in_ok-copy_tree.ensures
          ∙ sym (take-get ts i c.in-Some.t.now c.in-Some.ensures.found);
    }
