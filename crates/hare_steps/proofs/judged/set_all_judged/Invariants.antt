use Rattle.std.proofs.Common.{◌≡◌, drop}
use Rattle.hare_steps.specs.Taken.{with_all_judged}
use Rattle.hare_steps.proofs.judged.set_all_judged.Given as goal

-- what has been noted, and what is left to be noted
abbrev pub invariant-loop-decl : goal.invariant-loop-decl
invariant-loop-decl l = with_all_judged l.judged.items (drop l.decl-index l.decls) ≡ with_all_judged l.initial.judged.items l.decls
