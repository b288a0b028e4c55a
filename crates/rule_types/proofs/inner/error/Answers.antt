use Rattle.rule_types.proofs.KnownLemmas.{known_of, known_stays}
use Rattle.rule_types.proofs.OwnLemmas.{error_is}
use Rattle.rule_types.proofs.inner.error.Goals as goal

pub returns-clause-ok : goal.returns-clause-ok
returns-clause-ok c =
    error_is c.entered.new.s c.args.t.now c.in_ok-made.made c.part-u.result c.part-u.ensures
    (c.in_ok-made.ensures.known
    (known_stays c.args.s.now c.entered.new.s c.declarations-law.ensures.sound c.entered.ensures.grown.later c.part-u.result
    (known_of c.args.s.now _ c.part-u.result c.part-u.ensures c.requires)).sized)
    c.in_ok-made.ensures.id
