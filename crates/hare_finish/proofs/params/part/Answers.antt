use Rattle.std.proofs.Common.{◌≡◌, [], ◌∷◌, true, drop, sym, ap, ◌∙◌, rules}
use Rattle.hare_tree.specs.Node.{head}
use Rattle.hare_typed.specs.Numbers.{is_param}
use Rattle.hare_typed.specs.Typed.{marked, typed_nodes}
use Rattle.hare_whole.specs.Declared.{unnumbered}
use Rattle.hare_finish.specs.Made.{void_mark, part_as}
use Rattle.hare_finish.proofs.OneByOne.Lists.{ok-map}
use Rattle.hare_finish.proofs.FinishedTrees.Parameters.{part-param}
use Rattle.hare_finish.proofs.params.part.Goals as goal

pub returns-clause-tree : goal.returns-clause-tree
returns-clause-tree c =
    let t = c.args.t.now in
    let v = c.args.void in
    let k = c.args.number in
    let y = c.in-Some.written.now in
    let yes : c.is_param.result ≡ true = search (rules, c.if-not-is_param.false) in
    let kind = sym (ap (λ u. is_param (head u).kind) c.t.view_is) ∙ sym c.is_param.ensures ∙ yes in
    ok-map (λ x. x ≡ marked (head t) (void_mark v k) (typed_nodes (unnumbered y ∷ [])))
    (λ x. x ≡ part_as v k t (drop c.args.taken c.args.types.now))
    c.param.result (λ x e. e ∙ part-param v k c.args.taken t c.args.types.now y kind c.in-Some.ensures.found) c.param.ensures
