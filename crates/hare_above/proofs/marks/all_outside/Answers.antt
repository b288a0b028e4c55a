use Rattle.std.proofs.Common.{ap, ◌∙◌, ◌≤◌, length, map, arith}
use Rattle.std.proofs.lemmas.List.{take_all}
use Rattle.hare_above.specs.Frames.{unmarked}
use Rattle.hare_above.proofs.FrameLemmas.{copied-next}
use Rattle.hare_above.proofs.marks.all_outside.Goals as goal

pub loop-l-preserved : goal.loop-l-preserved
loop-l-preserved c =
    copied-next c.as_slice-l-items.result.now c.loop-l.copies c.push.new.self c.loop-l.l-index c.l-item.result c.in_ok-outside.field-0
    (omega arith)
    c.l-item.is c.in_ok-outside.ensures c.in_ok-push.ensures.ok c.loop-l.invariant

pub returns : goal.returns
returns c =
    let past : length c.as_slice-l-items.result.now ≤ c.loop-l.l-index = omega arith in
    c.loop-l.invariant ∙ ap (map unmarked) (take_all c.loop-l.l-index c.as_slice-l-items.result.now past ∙ c.as_slice-l-items.ensures)
