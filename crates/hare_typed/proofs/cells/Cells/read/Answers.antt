use Rattle.std.proofs.Common.{◌≡◌, ◌+◌, ◌<◌, length, take, ◌∙◌, ap, Some, None, arith, rules}
use Rattle.std.specs.Prelude.{slice_get}
use Rattle.hare_typed.proofs.RepeatLemmas.{copied-more, copied-there}
use Rattle.hare_typed.proofs.cells.Cells.read.Goals.{in-Some, in_default}
use Rattle.hare_typed.proofs.cells.Cells.read.Goals as goal

pub loop-i-preserved : goal.loop-i-preserved
loop-i-preserved c =
    let cs = c.args.self.now in
    elim c.match-get.branch [
      | in-Some w ↦
          let found : slice_get cs (c.args.at + c.loop-i.i) ≡ Some w.in-Some.cell = search rules in
          let within : c.loop-i.i < length c.loop-i.out = omega arith in
          ap (take (c.loop-i.i + 1)) w.out-is
          ∙ copied-more cs c.loop-i.out c.args.at c.loop-i.i w.in-Some.cell within c.loop-i.invariant found
      | in_default w ↦
          let none : slice_get cs (c.args.at + c.loop-i.i) ≡ None = search rules in
          absurd (copied-there cs (c.args.at + c.loop-i.i) (omega arith) none)
    ]
