use Rattle.std.proofs.Common.{inl, inr, ◌∙◌}
use Rattle.hare_tree.proofs.TreeKids.KidSorts.{step-fixed, step-own, step-kid, step-optional, step-led, step-followed, step-value}
use Rattle.hare_tree.proofs.kid.sort_in_form.Goals as goal
use Rattle.hare_tree.proofs.kid.sort_in_form.Goals.{in-Fixed, in-Kid+else-number-eq0}

pub loop-piece-preserved : goal.loop-piece-preserved
loop-piece-preserved c =
    let form = c.args.form.now in
    let j = c.loop-piece.piece-index in
    let n = c.loop-piece.left in
    let i = c.loop-piece.number in
    let lt = c.loop-piece-test.true in
    elim c.match-piece.branch [
      | in-Fixed w ↦ rw (w.left-is, w.number-is)
          (elim w.in-Fixed.is [ inl e ↦ step-fixed form j n i _ e.0 lt e.1 | inr e ↦ step-own form j n i _ e.0 lt e.1 ] ∙
          c.loop-piece.invariant)
      | in-Kid+else-number-eq0 w ↦ rw (w.left-is, w.saturating_sub-left.ensures, w.number-is)
          (elim w.in-Kid.is [
            | inl e ↦ step-kid form j n i _ _ lt w.if-number-eq0.false e
            | inr (inl e) ↦ step-optional form j n i _ _ lt w.if-number-eq0.false e
            | inr (inr (inl e)) ↦ step-led form j n i _ _ e.0 lt w.if-number-eq0.false e.1
            | inr (inr (inr (inl e))) ↦ step-followed form j n i _ _ e.0 lt w.if-number-eq0.false e.1
            | inr (inr (inr (inr e))) ↦ step-value form j n i _ _ lt w.if-number-eq0.false e
          ] ∙ c.loop-piece.invariant)
    ]
