use Rattle.std.proofs.Common.{◌≡◌, List, ℕ, Option, Some, None, refl}
use Rattle.std.specs.Prelude.{IsSome}
use Rattle.hare_types.specs.ByIds.{members_at, payload_at}
use Rattle.hare_layout.proofs.PlacesLemmas.{payload-align}
use Rattle.hare_layout.proofs.payload.payload_of.Goals as goal

pub returns-clause-value : goal.returns-clause-value
returns-clause-value c = by (members_at c.args.s.now c.args.t) refl c.requires.union
  where
    by : (o : Option (List ℕ)) → members_at c.args.s.now c.args.t ≡ o → IsSome o →
        payload_at c.args.s.now c.args.t ≡ Some c.extent_of.result.align
    by None e h = absurd cc
    by (Some is) e h = payload-align c.args.s.now c.args.t c.extent_of.result is c.extent_of.ensures.at e
