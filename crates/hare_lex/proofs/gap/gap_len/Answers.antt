use Rattle.std.proofs.Common.{Some, ap, ◌∙◌, drop, sym, subst, arith, false}
use Rattle.std.proofs.lemmas.List.{drop-drop}
use Rattle.hare_lex.specs.Fronts.{IsGapPart}
use Rattle.hare_lex.specs.Lexing.{skipped}
use Rattle.hare_lex.proofs.Turns.GapParts.{past_part}
use Rattle.hare_lex.proofs.gap.gap_len.Goals as goal

pub parts-preserved : goal.parts-preserved
parts-preserved c =
    let part = c.in-Some.part in
    let gap : IsGapPart (drop c.parts.len c.args.s.now) (Some part) =
    subst (λ s. IsGapPart s (Some part)) c.split_at.ensures.back c.in-Some.ensures in
    record {
      same = ap (skipped false) (sym (drop-drop part.len c.parts.len c.args.s.now))
          ∙ past_part (drop c.parts.len c.args.s.now) part gap ∙ c.parts.invariant.same;
      within = omega (arith, c.in-Some.ensures.1, c.split_at.ensures.back_len);
    }
