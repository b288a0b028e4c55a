use Rattle.hare_values.specs.Judging.{listing_of}
use Rattle.hare_values.proofs.SaidOfValue.Agreement.{trees-known, stops-known}
use Rattle.hare_values.proofs.typing.typed_value.Goals as goal

pub returns-clause-ok : goal.returns-clause-ok
returns-clause-ok c =
    let p = listing_of c.args.program.now in
    trees-known c.law_values_are_enough.ensures p c.args.program.now.known.now c.args.ready.now c.args.s.now c.check_value.new.s c.args.own
    c.args.hint c.args.value.now c.requires.can.enough c.check_value.result c.check_value.ensures.ok

pub returns-clause-err : goal.returns-clause-err
returns-clause-err c =
    let p = listing_of c.args.program.now in
    stops-known c.law_values_are_enough.ensures p c.args.program.now.known.now c.args.ready.now c.args.s.now c.check_value.new.s c.args.own
    c.args.hint c.args.value.now c.requires.can.enough c.check_value.result c.check_value.ensures.err
