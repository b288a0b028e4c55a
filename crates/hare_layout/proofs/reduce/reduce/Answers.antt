use Rattle.std.proofs.Common.{length, subst}
use Rattle.hare_types.specs.Rows.{IsWithin}
use Rattle.hare_layout.proofs.SpreadLemmas.{AreIds-AllBelow}
use Rattle.hare_layout.proofs.reduce.reduce.Goals as goal

pub reduce_union-requires-clause-within : goal.reduce_union-requires-clause-within
reduce_union-requires-clause-within c =
    AreIds-AllBelow c.args.s.now c.in-Union.members (subst (λ q. IsWithin (length c.args.s.now.rows) q) c.in-Union.is c.requires.within)
