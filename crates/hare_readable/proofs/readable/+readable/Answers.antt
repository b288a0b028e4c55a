use Rattle.std.proofs.Common.{rules, IsTrue, arith}
use Rattle.hare_tree.specs.Node.{Head}
use Rattle.hare_steps.specs.Plans.{listing}
use Rattle.hare_readable.specs.Heads.{IsReadableHead}
use Rattle.hare_readable.proofs.HeadLemmas.{InKids-next, InKids-all, InTree-branch}
use Rattle.hare_readable.proofs.readable.+readable.Goals as goal

pub are_kids_readable-loop-i-preserved : goal.are_kids_readable-loop-i-preserved
are_kids_readable-loop-i-preserved t c =
    let so : Head → Type 0 = IsReadableHead (listing c.args.names.now c.args.files.now) c.args.known.now in
    let yes : IsTrue c.is_tree_readable.result = search (rules, c.if-not-is_tree_readable.false) in
    record {
      within = omega arith;
      readable =
          InKids-next so c.args.ts.now c.loop-i.i c.in-Some.t.now c.in-Some.ensures.found c.loop-i.invariant.readable
          (c.is_tree_readable.ensures.value yes);
    }

pub are_kids_readable-returns : goal.are_kids_readable-returns
are_kids_readable-returns t c =
    let so : Head → Type 0 = IsReadableHead (listing c.args.names.now c.args.files.now) c.args.known.now in
    record { value = λ yes. InKids-all so c.args.ts.now c.loop-i.i (omega arith) c.loop-i.invariant.readable }

pub is_tree_readable-returns : goal.is_tree_readable-returns
is_tree_readable-returns t c =
    let so : Head → Type 0 = IsReadableHead (listing c.args.names.now c.args.files.now) c.args.known.now in
    let own : IsTrue c.is_readable_at.result = search (rules, c.if-not-is_readable_at.false) in
    record {
      value = λ yes.
          InTree-branch so _ c.t.inside.kids c.args.t.now c.t.view_is (c.is_readable_at.ensures.value own)
          (c.are_kids_readable.ensures.value yes);
    }
