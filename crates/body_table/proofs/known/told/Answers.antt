use Rattle.std.proofs.Common.{rules, IsTrue}
use Rattle.body_table.proofs.known.told.Goals as goal

pub returns-clause-known : goal.returns-clause-known
returns-clause-known c =
    let yes : IsTrue c.in_ok-has_refusal.field-0 = search rules in
    record {
      nomem = c.in_ok-has_refusal.ensures.value yes;
      params = λ n i t d e k. c.loop-signature.invariant.told.params n d e i t k;
    }
