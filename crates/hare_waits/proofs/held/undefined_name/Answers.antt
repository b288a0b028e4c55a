use Rattle.std.proofs.Common.{Some, ap, sym, ◌∙◌}
use Rattle.hare_waits.specs.Held.{undefined}
use Rattle.hare_waits.proofs.held.undefined_name.Goals as goal

pub returns-in-None : goal.returns-in-None
returns-in-None c = undefined c.args.t c.in-Named.decl (c.row.ensures.row ∙ ap Some c.in-Named.is) (sym c.in-None.ensures.value)
