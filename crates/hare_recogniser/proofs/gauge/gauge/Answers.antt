use Rattle.std.proofs.Common.{◌≡◌}
use Rattle.std.specs.Prelude.{Some, None}
use Rattle.hare_recogniser.specs.Gauged.{gauged_from}
use Rattle.hare_recogniser.specs.Least.{least}
use Rattle.hare_ll_table.specs.Seen.{waited}
use Rattle.hare_recogniser.proofs.Told.NumbersWithin.{told_within, told_from_start}
use Rattle.hare_recogniser.proofs.Told.Least.{told_place, nothing_told}
use Rattle.hare_recogniser.proofs.gauge.gauge.Goals as goal

pub returns-in-Some-clause-fault : goal.returns-in-Some-clause-fault
returns-in-Some-clause-fault c =
    let ts = c.args.tokens.now in
    let st = waited c.args.symbols.now in
    let t : least (gauged_from ts c.args.from st).faults ≡ Some c.in-Some.number =
    told_from_start ts c.args.from st _ c.in_ok-frames.frames c.in_ok-told.field-0.told (Some c.in-Some.number)
    c.in_ok-told.ensures.told c.in_ok-agenda.ensures.waits c.in_ok-frames.ensures c.in-Some.is in
    told_place (gauged_from ts c.args.from st).faults c.args.from c.in-Some.number c.place_of.result t
    (told_within ts c.args.from st c.in-Some.number t).0 c.place_of.ensures.value

pub returns-clause-fault : goal.returns-clause-fault
returns-clause-fault c =
    let ts = c.args.tokens.now in
    let st = waited c.args.symbols.now in
    let t : least (gauged_from ts c.args.from st).faults ≡ None =
    told_from_start ts c.args.from st _ c.in_ok-frames.frames c.in_ok-told.field-0.told None c.in_ok-told.ensures.told
    c.in_ok-agenda.ensures.waits c.in_ok-frames.ensures c.in-None.is in
    nothing_told (gauged_from ts c.args.from st).faults c.args.from t
