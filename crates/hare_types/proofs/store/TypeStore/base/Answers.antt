use Rattle.std.proofs.Common.{◌≡◌, ℕ, List, Option, Some, None, IfSome, IfNone, sym, ap, ◌∙◌}
use Rattle.hare_types.specs.Bases.{IsBaseOf}
use Rattle.hare_types.specs.ByIds.{base_at}
use Rattle.hare_types.specs.Packed.{base_in}
use Rattle.hare_types.specs.Store.{Store}
use Rattle.hare_types.specs.Waiting.{root_at, AreKept}
use Rattle.hare_types.specs.declared.kept.Kept.{Kept}
use Rattle.hare_types.proofs.ReadLemmas.{base_is, base_some, base_none}
use Rattle.hare_types.proofs.store.TypeStore.base.Goals as goal

-- what is told is what is kept
read : (c : goal.After-base_at) → c.base_at.result ≡ base_in (root_at c.self.inside.kept.items c.args.t)
read c = c.base_at.ensures.value ∙ ap (λ l. base_in (root_at l c.args.t)) c.as_slice.ensures.value

some : (s : Store) (ks : List Kept) → AreKept s ks → (t : ℕ) (o : Option ℕ) → o ≡ base_at s t → IfSome o (λ b. IsBaseOf s t b)
some s ks v t None e = tt
some s ks v t (Some b) e = base_some s ks v t b (sym e)

none : (s : Store) (ks : List Kept) → AreKept s ks → (t : ℕ) (o : Option ℕ) → o ≡ base_at s t → IfNone o ((b : ℕ) → ¬ IsBaseOf s t b)
none s ks v t None e = base_none s ks v t (sym e)
none s ks v t (Some b) e = tt

pub returns-clause-value : goal.returns-clause-value
returns-clause-value c = read c ∙ rw (← c.self.view_is) (base_is _ _ c.self.invariant.kept c.args.t)

pub returns-clause-some : goal.returns-clause-some
returns-clause-some c =
    rw (← c.self.view_is) (some _ _ c.self.invariant.kept c.args.t c.base_at.result (read c ∙ base_is _ _ c.self.invariant.kept c.args.t))

pub returns-clause-none : goal.returns-clause-none
returns-clause-none c =
    rw (← c.self.view_is) (none _ _ c.self.invariant.kept c.args.t c.base_at.result (read c ∙ base_is _ _ c.self.invariant.kept c.args.t))
