use Rattle.std.proofs.Common.{◌≡◌, [], ◌∷◌, ◌++◌, true, refl, sym, ap, ◌∙◌, rules}
use Rattle.hare_tree.specs.Node.{head}
use Rattle.hare_typed.specs.Order.{tree_from_front}
use Rattle.hare_typed.specs.Typed.{marked, typed_nodes}
use Rattle.hare_whole.specs.Declared.{unnumbered}
use Rattle.hare_finish.specs.Made.{void_mark, IsTypeMade}
use Rattle.hare_finish.proofs.PutTogether.PlainNodes.{declaration-made}
use Rattle.hare_finish.proofs.OneByOne.Lists.{first-there, ok-map}
use Rattle.hare_finish.proofs.types.finish_type.Goals as goal

pub returns : goal.returns
returns c =
    let t = c.args.decl.now in
    let v = c.args.void in
    let ts = c.args.types.now in
    let yes : c.has_kids.result ≡ true = search (rules, c.if-not-has_kids.false) in
    let type = c.in_ok-copy_unnumbered.ensures ∙ ap unnumbered (sym (first-there ts 0 c.in-Some.written.now c.in-Some.ensures.found)) in
    let kids = c.in_ok-push.ensures.ok ∙ ap (λ x. c.in_ok-kids.kids ++ x ∷ []) type in
    ok-map (λ d. d ≡ marked (head t) (void_mark v 0) (typed_nodes c.push.new.self)) (IsTypeMade v t ts) c.node.result
    (λ d e. declaration-made v 3 t c.in_ok-kids.kids (unnumbered (tree_from_front 0 ts) ∷ []) c.push.new.self d (c.has_kids.ensures yes)
    refl c.in_ok-kids.ensures kids e) c.node.ensures
