use Rattle.std.proofs.Common.{sym, ◌∙◌}
use Rattle.hare_depends.proofs.SearchLemmas.{passed-more}
use Rattle.hare_depends.proofs.search.skip_done.Goals as goal

pub loop-frame-preserved : goal.loop-frame-preserved
loop-frame-preserved c = record {
  decl = c.loop-frame.invariant.decl;
  left = c.loop-frame.invariant.left;
  passed =
      passed-more c.args.spent.now c.args.frame.left.items c.deref.result.now c.args.frame.next c.loop-frame.frame.next
      (c.deref.ensures.value ∙ c.loop-frame.invariant.left) (sym c.is_passed.ensures ∙ c.loop-frame-test.true)
      c.loop-frame.invariant.passed;
}
