-- What the gauge waits for.
use Rattle.std.specs.Prelude.{◌≡◌}
use Rattle.hare_nesting.specs.Gauge.{nodes_in}
use Rattle.hare_recogniser.specs.declared.agenda.Agenda.{Agenda}
use Rattle.hare_ll_table.specs.Seen.{waited}

-- the nodes are those among the trees that what is waited for brings to their end
abbrev pub IsPaired : Agenda → Type 0
IsPaired a = a.nodes ≡ nodes_in (waited a.waits)
