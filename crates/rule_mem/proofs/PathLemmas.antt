-- Types that are named.
use Rattle.std.proofs.Common.{◌≡◌, ℕ, List, [], Some, Option, refl, ap, sym, ◌∙◌, subst}
use Rattle.std.specs.Prelude.{Contains, IsSome}
use Rattle.std.specs.List.{cons_option}
use Rattle.hare_types.specs.declared.row.Row.TheVariants as row
use Rattle.hare_types.specs.Store.{Store, definition_of}
use Rattle.hare_types.specs.Sound.{IsStore}
use Rattle.hare_types.specs.ByIds.{row_at}
use Rattle.hare_types.specs.Later.{IsLater}
use Rattle.rule_judge.specs.Defined.{IsDefined, IsDefinedName}
use Rattle.rule_judge.proofs.HeldLemmas.{only_of}
use Rattle.rule_judge.proofs.DefinedLemmas.{defined_by_row, defined_stays}

-- the type of a name that is defined
pub named_defined : (now later : Store) → IsStore now → IsLater now later → (d u : ℕ) → row_at later u ≡ Some (row.Named d) →
    IsDefinedName now d → IsDefined later u
named_defined now later v l d u e (t, g, h) =
    let there : definition_of later d ≡ Some t = l.grows.defined d t g in
    defined_by_row later u (row.Named d) e
    (λ i c.
    let same : t ≡ i = only_of t i (subst (λ (o : Option ℕ). Contains (cons_option o []) i) there c) in
    subst (IsDefined later) same (defined_stays now later v l t h))
    (λ q k.
    let same : d ≡ q = cc in
    subst (λ x. IsSome (definition_of later x)) same (subst (λ (o : Option ℕ). IsSome o) (sym there) refl))
