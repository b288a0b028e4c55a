use Rattle.rule_judge.proofs.KidLemmas.{own_defined}
use Rattle.hare_find.proofs.bindings.known_behind.Goals as goal

pub returns-in-PatternLet-clause-defined : goal.returns-in-PatternLet-clause-defined
returns-in-PatternLet-clause-defined c =
    c.known-in-PatternLet.ensures.defined c.args.s.now
    (c.id_in.ensures.defined c.args.s.now (rw c.type_at-operand.ensures (own_defined c.args.s.now c.args.kids.now 0 c.requires)))
