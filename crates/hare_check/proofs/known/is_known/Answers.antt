use Rattle.std.proofs.Common.{◌<◌, length, sym, subst, arith}
use Rattle.rule_judge.specs.Meant.{IsMeant}
use Rattle.hare_check.proofs.Walks.Steps.{local-known}
use Rattle.hare_check.proofs.known.is_known.Goals as goal

pub returns-in-Local : goal.returns-in-Local
returns-in-Local c less s d h =
    let told = c.args.told.now in
    let within : c.in-Local.n < length told = grind arith in
    subst (IsMeant s c.args.decls.now told) (sym c.in-Local.is) (local-known s told c.in-Local.n within h)
