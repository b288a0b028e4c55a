use Rattle.std.proofs.Common.{◌<◌, Some, None, ap, sym, ◌∙◌, arith}
use Rattle.std.proofs.lemmas.List.{append-nil}
use Rattle.hare_typed.specs.Typed.{typed_nodes, size_of, sizes_of}
use Rattle.hare_waits.proofs.TreeLemmas.{kid_size, AreIn-kid, counted-more, found-more, size-kids, AreIn-kids, AreIn-itself, counted-itself, found-itself}
use Rattle.hare_waits.proofs.nodes.+collect.Goals as goal
use Rattle.hare_waits.proofs.nodes.+collect.Goals.{collect_tree-in-Some+in_ok-push, collect_tree-in_default}

pub collect-collect_tree-requires : goal.collect-collect_tree-requires
collect-collect_tree-requires t c =
    let h : size_of c.in-Some.t.now < sizes_of (typed_nodes c.args.ts.now) =
    kid_size c.args.ts.now c.loop-i.i c.in-Some.t.now c.in-Some.ensures.found in
    (omega arith, AreIn-kid c.args.s.now c.args.ts.now c.loop-i.i c.in-Some.t.now c.in-Some.ensures.found c.requires)

pub collect-loop-i-preserved : goal.collect-loop-i-preserved
collect-loop-i-preserved t c = record {
  order = counted-more c.args.ts.now c.loop-i.i c.in-Some.t.now c.in-Some.ensures.found c.args.order c.loop-i.next c.in_ok-next-in-Some.next
      c.loop-i.invariant.order
      c.in_ok-next-in-Some.ensures.order;
  found = found-more c.args.ts.now c.loop-i.i c.in-Some.t.now c.in-Some.ensures.found c.args.s.now c.args.decl c.args.order c.loop-i.next
      c.args.found.now.items
      c.loop-i.found.items c.collect_tree.new.found.items c.loop-i.invariant.order c.loop-i.invariant.found
      c.in_ok-next-in-Some.ensures.found;
}

pub collect_tree-collect-requires : goal.collect_tree-collect-requires
collect_tree-collect-requires t c =
    let h : sizes_of (typed_nodes c.t.inside.kids) < size_of c.args.t.now = size-kids _ _ c.t.inside.kids c.args.t.now c.t.view_is in
    (omega arith, AreIn-kids _ _ c.t.inside.kids c.args.t.now c.t.view_is c.args.s.now c.requires)

pub collect_tree-unmeasured_type-requires : goal.collect_tree-unmeasured_type-requires
collect_tree-unmeasured_type-requires t c = AreIn-itself _ _ c.t.inside.kids c.args.t.now c.t.view_is c.args.s.now c.requires

pub collect_tree-returns-in-Some-checked_add-clause-order : goal.collect_tree-returns-in-Some-checked_add-clause-order
collect_tree-returns-in-Some-checked_add-clause-order t c =
    counted-itself _ _ c.t.inside.kids c.args.t.now c.t.view_is c.args.order c.in_ok-order.order c.in-Some-checked_add.next
    c.in_ok-order.ensures.order
    c.in-Some-checked_add.ensures.1

pub collect_tree-returns-in-Some-checked_add-clause-found : goal.collect_tree-returns-in-Some-checked_add-clause-found
collect_tree-returns-in-Some-checked_add-clause-found t c =
    elim c.match-unmeasured_type.branch [
      | collect_tree-in-Some+in_ok-push w ↦
          found-itself _ _ c.t.inside.kids c.args.t.now c.t.view_is c.args.s.now c.args.decl c.args.order c.in_ok-order.order
          c.args.found.now.items
          c.collect.new.found.items c.match-unmeasured_type.found.items (Some w.in-Some.ty) c.in_ok-order.ensures.order
          c.in_ok-order.ensures.found
          (sym c.unmeasured_type.ensures ∙ w.in-Some.is) (ap (λ v. v.items) w.found-is ∙ w.in_ok-push.ensures.items)
      | collect_tree-in_default w ↦
          found-itself _ _ c.t.inside.kids c.args.t.now c.t.view_is c.args.s.now c.args.decl c.args.order c.in_ok-order.order
          c.args.found.now.items
          c.collect.new.found.items c.match-unmeasured_type.found.items None c.in_ok-order.ensures.order c.in_ok-order.ensures.found
          (sym c.unmeasured_type.ensures ∙ w.in_default.is) (ap (λ v. v.items) w.found-is ∙ sym (append-nil c.collect.new.found.items))
    ]
