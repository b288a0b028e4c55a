use Rattle.std.proofs.Common.{◌∙◌, sym, arith}
use Rattle.hare_lines.proofs.Steps.Trimmed.{trimmed_less, trimmed_done, trimmed_none}
use Rattle.hare_lines.proofs.read.trimmed.Goals as goal
use Rattle.hare_lines.proofs.read.trimmed.Goals.{then-blanks-test+else-is_blank, else-blanks-test}

pub blanks-preserved : goal.blanks-preserved
blanks-preserved c =
    let kept = c.blanks.invariant in
    record {
      within = omega (arith, kept.within);
      same = trimmed_less c.args.s.now c.blanks.end c.blanks-test.true kept.within (sym c.is_blank.ensures ∙ c.if-is_blank.true) kept.same;
    }

pub returns : goal.returns
returns c =
    let kept = c.blanks.invariant in
    c.split_at.ensures.front
    ∙ elim c.blanks-test.branch [
      | then-blanks-test+else-is_blank w ↦
          trimmed_done c.args.s.now c.blanks.end w.blanks-test.true kept.within (sym w.is_blank.ensures ∙ w.if-is_blank.false) kept.same
      | else-blanks-test w ↦ trimmed_none c.args.s.now c.blanks.end (omega (arith, w.blanks-test.false)) kept.same
    ]
