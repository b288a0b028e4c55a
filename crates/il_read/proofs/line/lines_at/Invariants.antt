use Rattle.std.proofs.Common.{◌≡◌, ◌-◌, length}
use Rattle.il_read.specs.Lines.{lines}
use Rattle.il_read.proofs.Loops.{also_lines}
use Rattle.il_read.proofs.line.lines_at.Given as goal

-- what was read and what the rest reads as is all
abbrev pub invariant-loop-turn : goal.invariant-loop-turn
invariant-loop-turn l = also_lines l.phis l.insts (lines (l._turn-end - l._turn) l.rest) ≡ lines (length l.fn.s) l.fn.s
