use Rattle.std.proofs.Common.{◌≡◌, ◌-◌, length, drop}
use Rattle.hare_names.proofs.locals.Locals.back_to.Given as goal

-- what is to be left is the same
abbrev pub invariant-loop-self : goal.invariant-loop-self
invariant-loop-self l = drop (length l.self - l.mark) l.self ≡ drop (length l.initial.self - l.mark) l.initial.self

abbrev pub decreases-loop-self : goal.decreases-loop-self
decreases-loop-self l = length l.self
