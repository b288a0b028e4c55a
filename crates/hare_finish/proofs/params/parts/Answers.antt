use Rattle.std.proofs.Common.{◌≡◌, ◌+◌, ◌<◌, length, ap, ◌∙◌, arith}
use Rattle.hare_tree.specs.Node.{head}
use Rattle.hare_finish.specs.Made.{taken_by, parts_as}
use Rattle.hare_finish.proofs.OneByOne.Lists.{within-there}
use Rattle.hare_finish.proofs.FinishedTrees.Parameters.{parts-next, shaped-next}
use Rattle.hare_finish.proofs.params.parts.Goals as goal

pub loop-i-preserved : goal.loop-i-preserved
loop-i-preserved c =
    let ns = c.args.kids.now in
    let ts = c.args.types.now in
    let t = c.in-Some.t.now in
    let i = c.loop-i.i in
    let taken : c.in_ok-taken.taken ≡ c.loop-i.taken + taken_by (head t).kind =
    c.in_ok-taken.ensures ∙ ap (λ k. c.loop-i.taken + k) (c.taken_by.ensures ∙ ap (λ u. taken_by (head u).kind) c.t.view_is) in
    record {
      made =
          parts-next c.args.void c.args.first c.loop-i.taken c.in_ok-taken.taken c.in_ok-number.number i ns ts c.loop-i.trees
          c.push.new.self (parts_as c.args.void c.args.first ns ts) t c.in_ok-tree.tree c.in-Some.ensures.found c.in_ok-number.ensures
          c.in_ok-tree.ensures.tree c.in_ok-push.ensures.ok taken c.loop-i.invariant.made;
      shaped = shaped-next ns i t c.in-Some.ensures.found c.in_ok-tree.ensures.shaped c.loop-i.invariant.shaped;
    }

pub returns-clause-shaped : goal.returns-clause-shaped
returns-clause-shaped c = λ k t g.
    let h : k < length c.args.kids.now = within-there c.args.kids.now k t g in
    c.loop-i.invariant.shaped k t (omega arith) g
