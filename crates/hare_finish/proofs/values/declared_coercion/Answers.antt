use Rattle.hare_defined.proofs.StayLemmas.{defined_types_stay}
use Rattle.hare_finish.proofs.values.declared_coercion.Goals as goal

pub returns-clause-known : goal.returns-clause-known
returns-clause-known c =
    defined_types_stay c.args.s.now c.coercion_to.new.s c.is_defined_type.new.defined c.declarations-law.ensures.sound
    c.coercion_to.ensures.grown.later c.is_defined_type.ensures.known
