use Rattle.std.proofs.Common.{subst}
use Rattle.hare_lex.specs.Stops.{Stops}
use Rattle.hare_decl.proofs.OneAnswer.Once.{least_stops}
use Rattle.hare_decl.proofs.source.source_of.Goals as goal

pub returns-in-Err-Fault-clause-err : goal.returns-in-Err-Fault-clause-err
returns-in-Err-Fault-clause-err c =
    let b = subst (Stops c.args.file c.args.src.now) c.in-Err-Fault.field-0-is c.in-Err-Fault.ensures.err in
    least_stops c.args.file c.args.src.now c.in-Err-Fault.fault c.in-Err-Fault.kept c.least.result b c.least.ensures
