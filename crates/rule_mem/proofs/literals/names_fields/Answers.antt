use Rattle.hare_types.proofs.LaterLemmas.{later_here}
use Rattle.rule_mem.proofs.StructLemmas.{struct_named}
use Rattle.rule_mem.proofs.literals.names_fields.Goals as goal

pub is_filled-requires : goal.is_filled-requires
is_filled-requires c =
    let sound = c.declarations-law.ensures.sound in
    struct_named c.args.s.now sound c.own-path.result c.in-Some-Struct.field-0.now c.in-Some-Struct.fields c.as_slice.result.now
    (c.in-Some-Struct.ensures.value c.args.s.now (later_here c.args.s.now sound))
    c.in-Some-Struct.field-0-is c.as_slice.ensures
