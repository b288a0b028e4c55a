use Rattle.std.proofs.Common.{◌≡◌, ◌∙◌, sym, ap, subst, ◌<◌, ◌≤◌, arith, rules, true, false, take, length, ◌+◌, ◌++◌, ◌∷◌, [], ap₂}
use Rattle.std.proofs.lemmas.List.{length-take, length-append}
use Rattle.hare_const.proofs.MadeLemmas.{type-made, hidden-made, length-valued, made_more, made_all}
use Rattle.std.specs.Prelude.{None, OnOk, if◌then◌else◌}
use Rattle.std.proofs.lemmas.Result.{IfErr-weaker}
use Rattle.hare_tree.specs.Levels.{is_type}
use Rattle.hare_typed.specs.Typed.{typed_nodes, size_of, sizes_of, kids_of}
use Rattle.hare_typed.specs.Folded.{tagged_by_id}
use Rattle.hare_typed.specs.Constants.{own_kind}
use Rattle.hare_typed.specs.Constancy.{hides_kids}
use Rattle.hare_typed.proofs.KidLemmas.{kid_size}
use Rattle.hare_const.specs.Made.{is_taken}
use Rattle.hare_const.specs.NodeValues.{kid_at, operands_of, node_value, tree_value, kid_values, first_refused, first_refused_of, Refuses, RefusesNode}
use Rattle.hare_const.proofs.WalkLemmas.{kids_asked, err-same, refuse-kid, refuse-node, valued-more, settled-kid, settled-kids, hidden-asked, hidden-value, seen-value, seen-asked}
use Rattle.hare_const.proofs.walk.+walk.Goals as goal

pub kid_values-tree_value-requires : goal.kid_values-tree_value-requires
kid_values-tree_value-requires t c =
    let h : size_of c.in-Some.kid.now < sizes_of (typed_nodes c.args.kids.now) =
    kid_size c.args.kids.now c.loop-i.i c.in-Some.kid.now c.in-Some.ensures.found in (
      omega arith,
      (
        c.requires.own,
        settled-kid c.args.s.now c.args.kids.now c.loop-i.i c.in-Some.kid.now c.in-Some.ensures.found
            c.requires.settled,
      ),
    )

pub kid_values-loop-i-preserved : goal.kid_values-loop-i-preserved
kid_values-loop-i-preserved t c =
    let s = c.args.s.now in
    let own = c.args.own in
    let ts = c.args.kids.now in
    let os = c.loop-i.values.items in
    let o = c.in_ok-tree_value.field-0 in
    let inside : length (take c.loop-i.i ts) ≡ c.loop-i.i = simp length-take (omega (arith, c.loop-i-test.true, c.len-i-end.ensures)) in
    record {
      valued =
          valued-more s own ts c.loop-i.i c.in-Some.kid.now os c.push.new.self.items o c.loop-i.invariant.valued c.in-Some.ensures.found
          c.in_ok-tree_value.ensures.ok.0 c.in_ok-tree_value.ensures.ok.1 c.in_ok-push.ensures.items;
      made =
          made_more s own c.args.node.now ts c.loop-i.i c.in-Some.kid.now c.args.made.now c.loop-i.made c.tree_value.new.made
          c.keep_if.new.made os
          c.push.new.self.items o c.is_taken-taken.result c.loop-i.invariant.valued c.in-Some.ensures.found inside
          c.in_ok-push.ensures.items
          c.loop-i.invariant.made c.in_ok-tree_value.ensures.made
          (c.is_taken-taken.ensures
          ∙ ap₂ (λ x vs. is_taken c.args.node.now x (kid_at 0 vs) c.loop-i.i)
          (c.operands_of-operands.ensures ∙ ap (λ y. operands_of (own_kind y)) c.node.view_is) c.as_slice.ensures.value)
          (c.keep_if.ensures
          ∙ ap (λ n. if c.is_taken-taken.result then c.tree_value.new.made else take n c.tree_value.new.made) c.len-before.ensures);
    }

pub kid_values-returns-in_err-tree_value-clause-err : goal.kid_values-returns-in_err-tree_value-clause-err
kid_values-returns-in_err-tree_value-clause-err t c =
    let e = c.in_err-tree_value.field-0.0 in
    err-same c.from_residual-in_err-tree_value.result e (Refuses (first_refused_of c.args.s.now c.args.own (typed_nodes c.args.kids.now)))
    c.from_residual-in_err-tree_value.ensures.1
    (refuse-kid c.args.s.now c.args.own c.args.kids.now c.loop-i.i c.in-Some.kid.now e c.in-Some.ensures.found
    c.loop-i.invariant.valued.passed
    c.in_err-tree_value.ensures.err)

pub tree_value-returns-clause-err : goal.tree_value-returns-clause-err
tree_value-returns-clause-err t c =
    let s = c.args.s.now in
    let own = c.args.own in
    let u = c.args.t.now in
    let os = c.as_slice.result.now in
    let plain : false ≡ is_type (own_kind u) = sym c.if-is_type.false ∙ c.is_type.ensures ∙ ap (λ y. is_type (own_kind y)) c.t.view_is in
    let seen : false ≡ hides_kids (own_kind u) (kids_of u) = sym c.if-hides_kids.false ∙ c.hides_kids.ensures in
    let passed : kids_asked s own u ≡ None =
    seen-asked s own u seen ∙ sym (ap (λ y. first_refused_of s own (kids_of y)) c.t.view_is) ∙ c.in_ok-kids.ensures.ok.1 in
    let value : node_value (tagged_by_id s) own u os ≡ tree_value (tagged_by_id s) own u =
    seen-value s own u os (c.as_slice.ensures.value ∙ c.in_ok-kids.ensures.ok.0 ∙ ap (λ y. kid_values (tagged_by_id s) own (kids_of y))
    c.t.view_is) in
    IfErr-weaker c.own_outcome-2.result (RefusesNode s own u os) (Refuses (first_refused s own u))
    (λ e r. refuse-node s own u os e plain passed value r) c.own_outcome-2.ensures.err

pub kid_values-is_taken-taken-requires : goal.kid_values-is_taken-taken-requires
kid_values-is_taken-taken-requires t c =
    let ts = c.args.kids.now in
    let os = c.loop-i.values.items in
    let o = c.in_ok-tree_value.field-0 in
    let inside : length (take c.loop-i.i ts) ≡ c.loop-i.i = simp length-take (omega (arith, c.loop-i-test.true, c.len-i-end.ensures)) in
    let values : length c.as_slice.result.now ≡ length os + 1 =
    ap length (c.as_slice.ensures.value ∙ c.in_ok-push.ensures.items) ∙ length-append os (o ∷ []) in
    omega (arith, values, inside, length-valued c.args.s.now c.args.own ts c.loop-i.i os c.loop-i.invariant.valued)

pub kid_values-returns-clause-made : goal.kid_values-returns-clause-made
kid_values-returns-clause-made t c =
    let past : length c.args.kids.now ≤ c.loop-i.i = omega (arith, c.loop-i-test.false, c.len-i-end.ensures) in
    made_all c.args.s.now c.args.own c.args.node.now c.args.kids.now c.loop-i.i c.args.made.now c.loop-i.made c.loop-i.values.items past
    c.loop-i.invariant.made

pub tree_value-returns-then-is_type-clause-made : goal.tree_value-returns-then-is_type-clause-made
tree_value-returns-then-is_type-clause-made t c =
    type-made c.args.s.now c.args.own c.args.t.now c.args.made.now (c.if-is_type.ensures ∙ ap (λ y. is_type (own_kind y)) c.t.view_is)

pub tree_value-returns-then-hides_kids-clause-made : goal.tree_value-returns-then-hides_kids-clause-made
tree_value-returns-then-hides_kids-clause-made t c =
    let same = hidden-made c.args.s.now c.args.own c.args.t.now (sym c.if-hides_kids.true ∙ c.hides_kids.ensures) in
    subst (λ x. OnOk c.own_outcome.result (c.own_outcome.new.made ≡ c.args.made.now ++ x)) same c.own_outcome.ensures.made

pub tree_value-returns-then-hides_kids-clause-err : goal.tree_value-returns-then-hides_kids-clause-err
tree_value-returns-then-hides_kids-clause-err t c =
    let s = c.args.s.now in
    let own = c.args.own in
    let u = c.args.t.now in
    let plain : false ≡ is_type (own_kind u) = sym c.if-is_type.false ∙ c.is_type.ensures ∙ ap (λ y. is_type (own_kind y)) c.t.view_is in
    let hidden : true ≡ hides_kids (own_kind u) (kids_of u) = sym c.if-hides_kids.true ∙ c.hides_kids.ensures in
    IfErr-weaker c.own_outcome.result (RefusesNode s own u []) (Refuses (first_refused s own u))
    (λ e r. refuse-node s own u [] e plain (hidden-asked s own u hidden) (hidden-value s own u hidden) r) c.own_outcome.ensures.err

pub tree_value-kid_values-requires : goal.tree_value-kid_values-requires
tree_value-kid_values-requires t c =
    (search rules, (c.requires.own, settled-kids c.args.s.now c.args.t.now _ _ _ c.t.view_is c.requires.settled))
