-- A type that has a base is in the store, and so has each type that is defined.
use Rattle.std.proofs.Common.{◌≡◌, ℕ, ◌<◌, true, false, length, Option, Some, None, ap, sym, ◌∙◌, arith, true≢false, is_some}
use Rattle.std.specs.Prelude.{IfSome}
use Rattle.std.proofs.lemmas.Option.{slice_get_within}
use Rattle.hare_types.specs.Bases.{IsBaseOf}
use Rattle.hare_types.specs.ByIds.{base_at}
use Rattle.hare_types.specs.Rows.{trees}
use Rattle.hare_types.specs.Sound.{IsStore}
use Rattle.hare_types.specs.Store.{Store}
use Rattle.hare_types.proofs.TreeLemmas.{length-trees}
use Rattle.rule_judge.specs.Defined.{IsDefined}
use Rattle.rule_judge.proofs.NameLemmas.{base_known}

pub baseless : (s : Store) → IsStore s → (t : ℕ) (o : Option ℕ) → o ≡ base_at s t → is_some o ≡ false → ¬ IsDefined s t
baseless s v t o e none h = true≢false (sym (ap is_some (e ∙ (base_known s v t h).1)) ∙ none)

pub based_within : (s : Store) (t : ℕ) (o : Option ℕ) → IfSome o (λ b. IsBaseOf s t b) → is_some o ≡ true → t < length s.rows
based_within s t None h some = absurd (true≢false (sym some))
based_within s t (Some b) h some = omega (arith, slice_get_within (trees s.rows) t h.0 h.2, length-trees s.rows)
