use Rattle.std.proofs.Common.{◌≡◌, true, length}
use Rattle.std.specs.Prelude.{not, filter}
use Rattle.hx_base.specs.Memory.{in_range}
use Rattle.il_mem.specs.Laid.{are_laid}
use Rattle.il_mem.proofs.ranges.remove.Given as goal

-- only what is to go has gone
abbrev pub invariant-loop-start : goal.invariant-loop-start
invariant-loop-start l =
    (filter (λ r. not (in_range l.at l.n r.0)) l.ends.entries ≡ filter (λ r. not (in_range l.at l.n r.0)) l.initial.ends.entries)
    × (are_laid 0 l.ends.entries ≡ true)

abbrev pub decreases-loop-start : goal.decreases-loop-start
decreases-loop-start l = length l.ends.entries
