use Rattle.std.proofs.Common.{◌≡◌}
use Rattle.hare_declare.specs.Entered.{AreEntered}
use Rattle.hare_declare.proofs.entered.enter_types.Given as goal

-- the types so far are entered
abbrev pub invariant-loop-decl : goal.invariant-loop-decl
invariant-loop-decl l = record { entered : AreEntered l.s l.outlines l.lacking l.decl; empty : l.s.listed ≡ l.initial.s.listed }
