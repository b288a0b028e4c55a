-- What is settled late, as the rules have it.
use Rattle.hare_rules.specs.Settles.{Settled}
use Rattle.hare_find.specs.declared.late.Late.{Late}

abbrev pub settled_in : Late → Settled
settled_in x = record { node = x.node; coercion = x.coercion }
