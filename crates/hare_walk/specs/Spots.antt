-- Where a walk stands.
use Rattle.std.specs.Prelude.{ℕ, ◌+◌}
use Rattle.hare_tree.specs.declared.kind.Kind.{Kind}

-- a node that the walk stands in, and how many of its kids are done
pub record Spot : Type 0 where
  pub kind : Kind
  pub done : ℕ

abbrev pub spot : Kind → ℕ → Spot
spot k n = record { kind = k; done = n }

-- one kid more is done
abbrev pub one_more : Spot → Spot
one_more p = record p { done = p.done + 1 }
