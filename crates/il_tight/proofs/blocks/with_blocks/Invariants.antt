-- What is put and what is left are all blocks.
use Rattle.std.proofs.Common.{◌≡◌, length}
use Rattle.std.specs.Prelude.{reverse}
use Rattle.il_tight.specs.Tight.{with_blocks}
use Rattle.il_tight.proofs.blocks.with_blocks.Given as goal

abbrev pub invariant-each : goal.invariant-each
invariant-each l = with_blocks l.out l.begins (reverse l.left) ≡ with_blocks l.initial.out l.initial.begins (reverse l.initial.left)

abbrev pub decreases-each : goal.decreases-each
decreases-each l = length l.left
