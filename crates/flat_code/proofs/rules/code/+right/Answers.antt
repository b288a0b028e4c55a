-- A statement that keeps the rules is passed over.
use Rattle.std.proofs.Common.{◌≡◌, true, sym, ◌∙◌, arith}
use Rattle.std.proofs.lemmas.Grind.{common_steps}
use Rattle.flat_code.proofs.Rights.{right_more}
use Rattle.flat_code.proofs.rules.code.+right.Goals as goal
use Rattle.flat_code.proofs.rules.code.+right.Goals.{are_right-in-Some+else-not-is_right, are_right-in_default}

pub are_right-loop-i-preserved : goal.are_right-loop-i-preserved
are_right-loop-i-preserved t c =
    elim c.match-get.branch [
      | are_right-in-Some+else-not-is_right w ↦
          let kept : w.is_right.result ≡ true = grind (arith, common_steps) in
          let place = c.args.place.now in
          sym (right_more place.program.now place.function.now c.args.around c.args.kids.now c.loop-i.i _ w.in-Some.ensures.found
          (sym w.is_right.ensures ∙ kept)) ∙ c.loop-i.invariant
      | are_right-in_default w ↦ absurd (grind (arith, common_steps))
    ]
