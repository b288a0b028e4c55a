use Rattle.hare_rules.specs.Context.{own_type}
use Rattle.rule_judge.specs.Defined.{IsDefinedTy}
use Rattle.rule_judge.proofs.DefinedLemmas.{defined_stays, ty_stays}
use Rattle.hare_bindings.specs.Bindings.{IsBinding, IsBindingStop}
use Rattle.hare_bindings.specs.Own.{MeetsRows, IsRowsStop}
use Rattle.hare_bindings.proofs.FoundOfDeclaration.OverKids.{ok_then, ok_always, err_then, binding_meets, binding_stops}
use Rattle.hare_bindings.proofs.binding.judge_binding.Goals as goal

pub returns-clause-ok : goal.returns-clause-ok
returns-clause-ok c =
    let now = c.known_kids.new.s in
    let later = c.judge_node.new.s in
    let n = c.args.own in
    let t = c.args.decl.now in
    let ts = c.args.types.now in
    let v = c.args.value.now in
    let xs = c.in_ok-kids.kids in
    ok_then c.judge_node.result (MeetsRows later n t xs) (IsBinding later n t ts v)
    (binding_meets now later c.judge_node.ensures.grown.later n t ts v xs c.in_ok-kids.ensures.kids) c.judge_node.ensures.ok

pub returns-clause-typed : goal.returns-clause-typed
returns-clause-typed c =
    let now = c.known_kids.new.s in
    let later = c.judge_node.new.s in
    let a = own_type c.args.value.now in
    ok_always c.judge_node.result (IsDefinedTy later a)
    (ty_stays now later c.known_kids.ensures.grown.later.sound c.judge_node.ensures.grown.later a c.in_ok-kids.ensures.typed)

pub returns-clause-err : goal.returns-clause-err
returns-clause-err c =
    let now = c.known_kids.new.s in
    let later = c.judge_node.new.s in
    let n = c.args.own in
    let t = c.args.decl.now in
    let ts = c.args.types.now in
    let v = c.args.value.now in
    let xs = c.in_ok-kids.kids in
    err_then c.judge_node.result (IsRowsStop later n t xs) (IsBindingStop later n t ts v)
    (binding_stops now later c.judge_node.ensures.grown.later n t ts v xs c.in_ok-kids.ensures.kids) c.judge_node.ensures.err

pub returns-clause-defined : goal.returns-clause-defined
returns-clause-defined c t h =
    defined_stays c.known_kids.new.s c.judge_node.new.s c.known_kids.ensures.grown.later.sound c.judge_node.ensures.grown.later t
    (c.known_kids.ensures.defined t h)
