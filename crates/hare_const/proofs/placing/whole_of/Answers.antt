use Rattle.std.proofs.Common.{◌≡◌, ◌∙◌, ◌+◌, sym, subst, get_or}
use Rattle.std.specs.Prelude.{IsPermutation}
use Rattle.std.proofs.lemmas.List.{get_or_default}
use Rattle.hare_const.specs.declared.placing.Part.{Part}
use Rattle.hare_const.proofs.PlacingLemmas.{filled_all}
use Rattle.hare_const.proofs.PlacedLemmas.{Laid, laid_none, laid_known, laid_unknown, laid_all}
use Rattle.hare_const.proofs.placing.whole_of.Goals.{in-Known+in_ok-whole, in_default}
use Rattle.hare_const.proofs.placing.whole_of.Goals as goal

pub loop-part-init : goal.loop-part-init
loop-part-init c =
    let ps = c.as_slice-part-items.result.now in
    subst (Laid c.args.kids.now ps c.args.size 0) (sym c.new-whole.ensures) (laid_none c.args.kids.now ps c.args.size)

pub loop-part-preserved : goal.loop-part-preserved
loop-part-preserved c =
    let os = c.args.kids.now in
    let ps = c.as_slice-part-items.result.now in
    let i = c.loop-part.part-index in
    let none : Part = record { start = 0; kid = 0 } in
    let p : Part = get_or ps i none in
    let here : get_or ps i p ≡ p = sym (get_or_default ps i none p c.loop-part-test.true) in
    elim c.match-kid_at.branch [
      | in-Known+in_ok-whole w ↦
          subst (Laid os ps c.args.size (i + 1)) (sym w.whole-is)
          (laid_known os ps c.args.size i c.loop-part.whole w.in_ok-whole.whole p c.loop-part.invariant c.loop-part-test.true here
          w.in-Known.cells (sym c.kid_at.ensures ∙ w.in-Known.is) w.in_ok-whole.ensures.within w.in_ok-whole.ensures.value
          w.in_ok-whole.ensures.grows w.in_ok-whole.ensures.behind)
      | in_default w ↦
          laid_unknown os ps c.args.size i c.loop-part.whole c.match-kid_at.whole p c.loop-part.invariant c.loop-part-test.true here
          (λ x e. w.in_default.not-Known x (c.kid_at.ensures ∙ e)) w.whole-is
    ]

pub returns : goal.returns
returns c =
    let ps = c.as_slice-part-items.result.now in
    let sorted : IsPermutation c.args.parts.items ps =
    subst (IsPermutation c.args.parts.items) (sym c.as_slice-part-items.ensures.value) c.in_ok-sort_by_key.ensures.permutation in
    laid_all c.args.kids.now ps c.args.parts.items c.args.size c.loop-part.part-index c.loop-part.whole c.in_ok-filled.filled
    c.loop-part.invariant c.loop-part-test.false sorted
    (filled_all c.args.size c.len.result c.loop-part.whole c.in_ok-filled.filled c.len.ensures c.in_ok-filled.ensures)
