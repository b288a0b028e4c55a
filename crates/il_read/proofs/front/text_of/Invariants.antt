use Rattle.std.proofs.Common.{◌≡◌, take}
use Rattle.il_read.proofs.front.text_of.Given as goal

-- the bytes so far
abbrev pub invariant-loop-c : goal.invariant-loop-c
invariant-loop-c l = l.text ≡ take l.c-index l.ascii
