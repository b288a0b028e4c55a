use Rattle.std.proofs.Common.{◌≡◌, ◌++◌, drop, length, false}
use Rattle.hare_lines.specs.Read.{seen}
use Rattle.hare_lines.specs.Gaps.{placed, laid, at_start}
use Rattle.hare_lines.specs.Write.{left}
use Rattle.hare_lines.specs.Layout.{InOrder, laid_bytes}
use Rattle.hare_lines.proofs.write.write_pieces.Given as goal

-- what is written, and behind it what is left, is the whole
abbrev pub invariant-loop-i : goal.invariant-loop-i
invariant-loop-i l = record {
  order : InOrder l.state.at (length l.src) (drop l.i l.pieces);
  text : l.out ++ left l.src l.state (drop l.i l.pieces) ≡ laid_bytes (laid at_start (placed false 0 l.ways (seen l.src l.pieces)));
}
