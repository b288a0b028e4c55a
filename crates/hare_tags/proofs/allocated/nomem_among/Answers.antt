use Rattle.hare_tags.proofs.TreeLemmas.{nomem-there}
use Rattle.hare_tags.proofs.allocated.nomem_among.Goals as goal

pub returns-then-is_nomem : goal.returns-then-is_nomem
returns-then-is_nomem c =
    nomem-there c.args.s.now c.declarations-law.ensures.sound c.member-item.result c.in_ok-row_of.field-0.now _ c.in_ok-row_of.ensures
    c.is_nomem.ensures c.if-is_nomem.true
