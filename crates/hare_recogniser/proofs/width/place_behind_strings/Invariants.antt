use Rattle.std.proofs.Common.{◌≡◌, ◌+◌, ◌-◌, length, drop}
use Rattle.hare_recogniser.specs.Width.{strings_in_front}
use Rattle.hare_recogniser.proofs.width.place_behind_strings.Given as goal

abbrev pub invariant-loop-token : goal.invariant-loop-token
invariant-loop-token l = l.next + strings_in_front (drop l.next l.tokens) ≡ l.at + strings_in_front (drop l.at l.tokens)

abbrev pub decreases-loop-token : goal.decreases-loop-token
decreases-loop-token l = length l.tokens - l.next
