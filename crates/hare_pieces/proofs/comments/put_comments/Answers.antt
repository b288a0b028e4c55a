use Rattle.std.proofs.Common.{Some, drop, subst, refl, arith}
use Rattle.hare_lex.specs.Fronts.{IsGapPart}
use Rattle.hare_pieces.proofs.Walk.Passed.{leads_part}
use Rattle.hare_pieces.proofs.comments.put_comments.Goals as goal

pub gap-preserved : goal.gap-preserved
gap-preserved c =
    let part = c.in-Some.part in
    let gap : IsGapPart (drop c.gap.len c.args.s.now) (Some part) =
    subst (λ s. IsGapPart s (Some part)) c.split_at.ensures.back c.in-Some.ensures in
    record {
      within = omega (arith, c.in-Some.ensures.1, c.split_at.ensures.back_len);
      leads = leads_part c.args.at c.args.s.now c.args.pieces.now c.gap.pieces c.put_part.new.pieces c.gap.len _ part
          c.gap.invariant.leads gap refl c.in_ok-put_part.ensures;
    }
