use Rattle.std.proofs.Common.{ℕ, List, Option, subst}
use Rattle.std.specs.Prelude.{Contains, IfSome}
use Rattle.rule_judge.specs.Defined.{IsDefined}
use Rattle.rule_mem.proofs.tuples.are_sized.Goals as goal

pub all_sized-requires : goal.all_sized-requires
all_sized-requires c i h =
    (subst (λ (o : Option (List ℕ)). IfSome o (λ ts. (k : ℕ) → Contains ts k → IsDefined c.components.new.s k)) c.in-Some.is
    c.in_ok-types.ensures.defined) i
    (subst (λ (xs : List ℕ). Contains xs i) c.as_slice.ensures h)
