use Rattle.std.proofs.Common.{◌≡◌, drop}
use Rattle.hare_typed.specs.Leads.{leads}
use Rattle.hare_typed.proofs.leads.lead_nowhere.Given as goal

-- none of those so far leads on
abbrev pub invariant-loop-cell : goal.invariant-loop-cell
invariant-loop-cell l = leads l.cells ≡ leads (drop l.cell-index l.cells)
