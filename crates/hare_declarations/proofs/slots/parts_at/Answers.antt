use Rattle.std.proofs.Common.{◌∙◌, length, Some, refl, ap}
use Rattle.std.proofs.lemmas.Option.{slice_get_read}
use Rattle.hare_declarations.proofs.slots.parts_at.Goals as goal

pub returns-in-Some-Some : goal.returns-in-Some-Some
returns-in-Some-Some c =
    slice_get_read c.args.slots.now (length c.args.slots.now) c.args.own c.in-Some-Some.field-0.now refl c.in-Some-Some.ensures.lookup.3.0
    c.in-Some-Some.ensures.lookup.1 ∙ ap Some c.in-Some-Some.field-0-is
