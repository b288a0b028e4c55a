use Rattle.std.proofs.Common.{◌+◌, [], ◌∷◌, ◌++◌, drop, ap, sym, ◌∙◌, arith, append_assoc}
use Rattle.hare_tree.proofs.Spelling.Spelled.{drop-past}
use Rattle.hare_ways.specs.Walk.{at_depth, mark_ways, path_behind}
use Rattle.hare_ways.proofs.Depths.{at_depth-append}
use Rattle.hare_ways.proofs.Paths.{path-step, path-put}
use Rattle.hare_ways.proofs.single.put_path.Goals as goal

pub loop-i-preserved : goal.loop-i-preserved
loop-i-preserved c =
    let d = c.args.depth in
    let k = c.args.k in
    let m = c.is_path_mark-taken.result in
    let old = c.loop-i.out.items in
    let rest = path_behind k m (drop (c.loop-i.i + 1) c.args.text.now) in
    ap (λ ws. ws ++ at_depth d rest) c.in_ok-put_mark.ensures ∙ append_assoc old (at_depth d (mark_ways k m)) (at_depth d rest)
    ∙ ap (λ ws. old ++ ws) (sym (at_depth-append d (mark_ways k m) rest))
    ∙ ap (λ ws. old ++ at_depth d ws) (sym (path-step k c.loop-i.taken m c.args.text.now c.loop-i.i
    (omega arith) c.is_path_mark-taken.ensures))
    ∙ c.loop-i.invariant

pub returns : goal.returns
returns c =
    path-put c.args.k c.args.depth c.loop-i.taken c.args.text.now _ c.args.out.now.items c.push.new.self.items c.loop-i.out.items
    (drop-past c.args.text.now c.loop-i.i (omega arith))
    (c.in_ok-push.ensures.items ∙ ap (λ w. c.args.out.now.items ++ w ∷ []) c.plain.ensures) c.loop-i.invariant
