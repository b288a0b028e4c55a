use Rattle.hare_typed.specs.Erased.{erase}
use Rattle.hare_limits.specs.Homes.{is_main_by}
use Rattle.hare_limits.proofs.EntryFound.First.{NoneBelow}
use Rattle.hare_limits.proofs.entries.main_among.Given as goal

-- none so far is `main`
abbrev pub invariant-loop-i : goal.invariant-loop-i
invariant-loop-i l = NoneBelow (λ t. is_main_by l.homes.first.items l.homes.kept.items (erase t)) l.decls l.i
