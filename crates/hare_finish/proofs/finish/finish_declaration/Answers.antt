use Rattle.std.proofs.Common.{Some, sym, ap, ◌∙◌, subst}
use Rattle.std.specs.Prelude.{Option, IfOk}
use Rattle.hare_tree.specs.Node.{head}
use Rattle.hare_types.specs.Store.{Store}
use Rattle.hare_typed.specs.Typed.{TypedNode}
use Rattle.hare_walk.proofs.Grows.{grown-trans}
use Rattle.hare_finish.specs.Finished.{IsFinished}
use Rattle.hare_finish.specs.Made.{IsTypeMade, IsFunctionMade}
use Rattle.hare_finish.proofs.OneByOne.Lists.{ok-map}
use Rattle.hare_finish.proofs.FinishedTrees.Types.{type-finished}
use Rattle.hare_finish.proofs.FinishedTrees.Functions.{function-finished}
use Rattle.hare_finish.proofs.finish.finish_declaration.Goals as goal

pub returns-in-TypeDecl-clause-ok : goal.returns-in-TypeDecl-clause-ok
returns-in-TypeDecl-clause-ok c =
    let t = c.args.decl.now in
    let v = c.in_ok-void.void in
    let ts = c.args.types.now in
    let s = c.void_in.new.s in
    let kind = sym (ap (λ u. (head u).kind) c.decl.view_is) ∙ c.in-TypeDecl.is in
    ok-map (IsTypeMade v t ts) (IsFinished s t ts c.args.value c.args.body) c.finish_type.result
    (λ d m. type-finished s v t ts c.args.value c.args.body d c.in_ok-void.ensures.void kind m) c.finish_type.ensures

pub returns-in-Some-clause-ok : goal.returns-in-Some-clause-ok
returns-in-Some-clause-ok c =
    let t = c.args.decl.now in
    let v = c.in_ok-void.void in
    let ts = c.args.types.now in
    let s = c.void_in.new.s in
    let x = c.in-Some.body in
    let kind = sym (ap (λ u. (head u).kind) c.decl.view_is) ∙ c.in-Fn.is in
    ok-map (IsFunctionMade v t ts x) (IsFinished s t ts c.args.value c.args.body) c.finish_function.result
    (λ d m. subst (λ o. IsFinished s t ts c.args.value o d) (sym c.in-Some.is)
    (function-finished s v t ts c.args.value x d c.in_ok-void.ensures.void kind m)) c.finish_function.ensures

pub returns-in-Some-value : goal.returns-in-Some-value
returns-in-Some-value c =
    let t = c.args.decl.now in
    let ts = c.args.types.now in
    let r = c.finish_binding.new.s in
    let x = c.in-Some-value.value in
    let grown = c.finish_binding.ensures.grown in
    record {
      ok =
          subst (λ o. IfOk c.finish_binding.result (IsFinished r t ts o c.args.body)) (sym c.in-Some-value.is)
          (ok-map (λ d. (b : Option TypedNode) → IsFinished r t ts (Some x) b d) (IsFinished r t ts (Some x) c.args.body)
          c.finish_binding.result
          (λ d h. h c.args.body) c.finish_binding.ensures.ok);
      defined = c.finish_binding.ensures.known;
      grown =
          grown-trans c.args.s.now c.void_in.new.s r c.void_in.ensures.grown
          (record { grows = grown.grows; declared = ap (λ (u : Store). u.declared) grown.rest });
      sound = grown.later.sound;
    }
