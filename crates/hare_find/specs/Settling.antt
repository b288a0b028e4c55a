-- What is settled of one kid: its coercion, or none where it stays as it is.
use Rattle.std.specs.Prelude.{cond, Option, Some, None}
use Rattle.hare_types.specs.declared.coercion.Coercion.{Coercion}
use Rattle.hare_find.specs.declared.listed.Settling.{Settling}

abbrev pub option_in : Settling → Option Coercion
option_in x = cond x.moves (Some x.coercion) None
