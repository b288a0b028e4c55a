use Rattle.std.proofs.Common.{◌≡◌, ◌∙◌, arith, Some, None, rules}
use Rattle.std.specs.Prelude.{slice_get}
use Rattle.hare_typed.proofs.RepeatLemmas.{copied-there}
use Rattle.hare_typed.proofs.OriginLemmas.{within-more}
use Rattle.hare_typed.proofs.cells.Cells.copied_part.Goals.{in-Some+in_ok-push, in_default}
use Rattle.hare_typed.proofs.cells.Cells.copied_part.Goals as goal

pub loop-place-preserved : goal.loop-place-preserved
loop-place-preserved c =
    let cs = c.args.self.now in
    elim c.match-get.branch [
      | in-Some+in_ok-push w ↦
          let found : slice_get cs c.loop-place.place ≡ Some w.in-Some.cell = search rules in
          within-more cs c.loop-place.part c.match-get.part c.args.from c.loop-place.place w.in-Some.cell (omega arith) found
          c.loop-place.invariant (w.part-is ∙ w.in_ok-push.ensures.ok)
      | in_default w ↦
          let none : slice_get cs c.loop-place.place ≡ None = search rules in
          absurd (copied-there cs c.loop-place.place (omega arith) none)
    ]
