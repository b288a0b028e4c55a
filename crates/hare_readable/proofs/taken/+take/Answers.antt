use Rattle.std.proofs.Common.{rules, IsTrue, List, take, arith}
use Rattle.std.proofs.lemmas.Result.{IfOk-weaker}
use Rattle.hare_tree.specs.Node.{Head, Node}
use Rattle.hare_rules.specs.declared.declared.DeclType.{DeclType}
use Rattle.hare_readable.specs.Heads.{InTree}
use Rattle.hare_readable.specs.Taking.{IsEnoughAt, IsEnoughHead}
use Rattle.hare_readable.proofs.HeadLemmas.{InKids-next, InKids-all, InKids-implied, InTree-branch}
use Rattle.hare_readable.proofs.TakenLemmas.{TakesMore-then, enough-kept}
use Rattle.hare_readable.proofs.taken.+take.Goals as goal

pub take_kids-loop-i-preserved : goal.take_kids-loop-i-preserved
take_kids-loop-i-preserved t c =
    let ns = c.args.names.now in
    let s = c.args.s.now in
    let known : List DeclType = c.args.known.now in
    let old : List DeclType = c.loop-i.ready in
    let new : List DeclType = c.take_tree.new.ready in
    let before : List Node = take c.loop-i.i c.args.ts.now in
    let more = c.take_tree.ensures.more in
    let yes : IsTrue c.in_ok-take_tree.field-0 = search (rules, c.if-not-branch.false) in
    record {
      within = omega arith;
      defined = c.take_tree.ensures.defined;
      more = TakesMore-then s known c.args.ready.now old new c.loop-i.invariant.more more;
      enough =
          InKids-next (IsEnoughHead ns known new) c.args.ts.now c.loop-i.i c.in-Some.t.now c.in-Some.ensures.found
          (InKids-implied (IsEnoughHead ns known old) (IsEnoughHead ns known new) before (enough-kept ns s known old new more)
          c.loop-i.invariant.enough)
          (c.in_ok-take_tree.ensures.value yes);
    }

pub take_kids-returns-clause-value : goal.take_kids-returns-clause-value
take_kids-returns-clause-value t c =
    let so : Head → Type 0 = IsEnoughHead c.args.names.now c.args.known.now c.loop-i.ready in
    λ yes. InKids-all so c.args.ts.now c.loop-i.i (omega arith) c.loop-i.invariant.enough

pub take_tree-returns-clause-value : goal.take_tree-returns-clause-value
take_tree-returns-clause-value t c =
    let ns = c.args.names.now in
    let s = c.args.s.now in
    let known : List DeclType = c.args.known.now in
    let old : List DeclType = c.take_kids.new.ready in
    let new : List DeclType = c.take_at.new.ready in
    let kids : List Node = c.t.inside.kids in
    let yes : IsTrue c.in_ok-take_kids.field-0 = search (rules, c.if-not-branch.false) in
    let before =
    InKids-implied (IsEnoughHead ns known old) (IsEnoughHead ns known new) kids (enough-kept ns s known old new c.take_at.ensures.more)
    (c.in_ok-take_kids.ensures.value yes) in
    IfOk-weaker c.take_at.result (λ b. IsTrue b → IsEnoughAt ns known new c.t.inside.kind c.t.inside.place)
    (λ b. IsTrue b → InTree (IsEnoughHead ns known new) c.args.t.now)
    (λ b own so. InTree-branch (IsEnoughHead ns known new) _ kids c.args.t.now c.t.view_is (own so) before) c.take_at.ensures.value
