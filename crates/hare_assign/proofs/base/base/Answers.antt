use Rattle.std.proofs.Common.{◌<◌, ℕ, length, Option, Some, None}
use Rattle.std.specs.Prelude.{IfSome}
use Rattle.hare_types.specs.Bases.{IsBaseOf}
use Rattle.hare_layout.proofs.SpreadLemmas.{id-tree_at}
use Rattle.hare_assign.proofs.NamesLemmas.{base-of-id}
use Rattle.hare_assign.proofs.base.base.Goals as goal

pub returns : goal.returns
returns c = record {
  value = base-of-id c.args.s.now c.base.ensures.sound c.args.t c.requires c.base.result c.base.ensures.some c.base.ensures.none;
  within = within c.base.result c.base.ensures.some;
}
  where
    within : (o : Option ℕ) → IfSome o (λ b. IsBaseOf c.args.s.now c.args.t b) → IfSome o (λ b. b < length c.args.s.now.rows)
    within None h = tt
    within (Some b) h = (id-tree_at c.args.s.now b h.1 h.3).0
