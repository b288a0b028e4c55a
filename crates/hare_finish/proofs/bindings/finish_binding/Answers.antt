use Rattle.std.proofs.Common.{◌≡◌, true, Some, refl, sym, ap, ◌∙◌, rules}
use Rattle.std.specs.Prelude.{Option}
use Rattle.hare_tree.specs.Node.{head}
use Rattle.hare_types.proofs.LaterLemmas.{later_trans}
use Rattle.hare_typed.specs.Typed.{TypedNode}
use Rattle.hare_finish.specs.Finished.{IsFinished}
use Rattle.hare_finish.specs.Made.{is_binding, IsVoid, IsBindingMade}
use Rattle.hare_finish.proofs.OneByOne.Lists.{ok-map}
use Rattle.hare_finish.proofs.FinishedTrees.Kinds.{by-kind}
use Rattle.hare_finish.proofs.FinishedTrees.Bindings.{binding-finished}
use Rattle.hare_finish.proofs.bindings.finish_binding.Goals as goal

pub returns-clause-ok : goal.returns-clause-ok
returns-clause-ok c =
    let t = c.args.decl.now in
    let v = c.args.void in
    let ts = c.args.types.now in
    let x = c.args.value in
    let r = c.in_ok-coerce.coerce in
    let s = c.declared_coercion.new.s in
    let yes : c.is_binding.result ≡ true = search (rules, c.if-not-is_binding.false) in
    let kind = sym (ap (λ u. is_binding (head u).kind) c.decl.view_is) ∙ sym c.is_binding.ensures ∙ yes in
    let void : IsVoid s v = λ f l. c.requires.void f (later_trans c.args.s.now s f c.declared_coercion.ensures.grown.later l) in
    ok-map (IsBindingMade v t ts x r) (λ d. (b : Option TypedNode) → IsFinished s t ts (Some x) b d) c.binding.result
    (λ d m b.
    binding-finished s v t (head t).kind void (by-kind (head t).kind kind) refl ts x b r d c.in_ok-coerce.ensures.value m) c.binding.ensures
