use Rattle.std.proofs.Common.{◌≡◌, drop}
use Rattle.hare_rules.specs.declared.hint.Hint.TheVariants as hint
use Rattle.hare_rules.specs.Control.{takes_yield}
use Rattle.hare_above.specs.Frames.{opens}
use Rattle.hare_above.proofs.JumpLemmas.{last_hint}
use Rattle.hare_above.proofs.jumps.yielded_hint.Given as goal

abbrev pub invariant-loop-i : goal.invariant-loop-i
invariant-loop-i l =
    last_hint (takes_yield l.name) l.nearest (drop l.i (opens l.labels l.hints)) ≡ last_hint (takes_yield l.name) hint.None
    (opens l.labels l.hints)
