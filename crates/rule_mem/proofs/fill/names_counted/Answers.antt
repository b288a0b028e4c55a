use Rattle.std.proofs.Common.{ap, sym, ◌∙◌, arith}
use Rattle.hare_rules.specs.Context.{text_of}
use Rattle.rule_mem.proofs.FillLemmas.{counted-more, counted-all, counted-few}
use Rattle.rule_mem.proofs.fill.names_counted.Goals as goal

pub loop-i-preserved : goal.loop-i-preserved
loop-i-preserved c = record {
  counted = λ n.
      counted-more c.args.s.now c.args.kids.now c.loop-i.i n c.in-Some.value.now _ _ _ c.bytes.result.now c.in-Some.ensures.found
      (omega arith)
      (c.bytes.ensures ∙ ap text_of c.value.view_is) (c.in_ok-count_spelled.ensures n) (c.loop-i.invariant.counted n);
  few = λ n. counted-few _ _ _ c.loop-i.i (c.in_ok-count_spelled.ensures n) (c.loop-i.invariant.few n);
}

pub returns : goal.returns
returns c n = counted-all c.args.s.now c.args.kids.now c.loop-i.i n _ _ (omega arith) (c.loop-i.invariant.counted n)
