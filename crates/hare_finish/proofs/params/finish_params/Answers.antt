use Rattle.std.proofs.Common.{◌≡◌, sym, ap, ◌∙◌, subst}
use Rattle.hare_tree.specs.Node.{head}
use Rattle.hare_typed.specs.Typed.{marked, typed_nodes}
use Rattle.hare_modules.specs.Uses.{kids}
use Rattle.hare_modules.proofs.Trees.{kids-seen}
use Rattle.hare_finish.specs.Made.{void_mark, parts_as, params_as, ArePartsShaped}
use Rattle.hare_finish.proofs.OneByOne.Lists.{ok-map}
use Rattle.hare_finish.proofs.params.finish_params.Goals as goal

pub returns-clause-tree : goal.returns-clause-tree
returns-clause-tree c =
    let t = c.args.t.now in
    let v = c.args.void in
    let ts = c.args.types.now in
    let xs = c.in_ok-trees.trees in
    let same : xs ≡ parts_as v c.args.first (kids t) ts =
    c.in_ok-trees.ensures.trees ∙ ap (λ ns. parts_as v c.args.first ns ts) (sym (kids-seen _ _ _ c.t.view_is)) in
    ok-map (λ x. x ≡ marked (head t) (void_mark v 0) (typed_nodes xs)) (λ x. x ≡ params_as v c.args.first t ts) c.node.result
    (λ x e. e ∙ ap (λ ys. marked (head t) (void_mark v 0) (typed_nodes ys)) same) c.node.ensures

pub returns-clause-shaped : goal.returns-clause-shaped
returns-clause-shaped c =
    let t = c.args.t.now in
    let xs = c.in_ok-trees.trees in
    ok-map (λ x. x ≡ marked (head t) (void_mark c.args.void 0) (typed_nodes xs)) (λ x. ArePartsShaped (kids t)) c.node.result
    (λ x e. subst ArePartsShaped (sym (kids-seen _ _ _ c.t.view_is)) c.in_ok-trees.ensures.shaped) c.node.ensures
