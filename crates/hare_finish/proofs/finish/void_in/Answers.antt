use Rattle.hare_defined.proofs.StayLemmas.{defined_types_stay}
use Rattle.hare_finish.proofs.finish.void_in.Goals as goal

pub returns-clause-known : goal.returns-clause-known
returns-clause-known c =
    defined_types_stay c.args.s.now c.word.new.s c.args.defined.now c.declarations-law.ensures.sound c.word.ensures.grown.later c.requires
