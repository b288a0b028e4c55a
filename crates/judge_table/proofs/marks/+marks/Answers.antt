use Rattle.std.proofs.Common.{◌∙◌}
use Rattle.judge_table.proofs.MarkLemmas.{tree-erases, erased-push}
use Rattle.judge_table.proofs.marks.+marks.Goals as goal

pub typed-returns : goal.typed-returns
typed-returns t c =
    tree-erases _ c.in_ok-text.text c.in_ok-kids.kids c.tree.inside.kids c.args.tree.now c.tree.view_is
    (c.in_ok-text.ensures ∙ c.bytes.ensures) c.in_ok-kids.ensures

pub typed_kids-loop-i-preserved : goal.typed_kids-loop-i-preserved
typed_kids-loop-i-preserved t c =
    erased-push c.args.kids.now c.loop-i.done c.push.new.self c.loop-i.i c.in-Some.kid.now c.in_ok-x.x c.in_ok-x-2.x
    c.in-Some.ensures.found c.loop-i.invariant c.in_ok-x.ensures c.in_ok-x-2.ensures c.in_ok-push.ensures.ok
