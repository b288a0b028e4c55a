-- What is told of declarations.
use Rattle.std.specs.Prelude.{◌≡◌, ℕ, List, slice_get, find, nat_eq, Some}
use Rattle.hare_types.specs.Store.{Store}
use Rattle.hare_rules.specs.declared.declared.DeclType.{DeclType}
use Rattle.rule_judge.specs.Defined.{IsDefined}
use Rattle.rule_judge.specs.Meant.{IsKnownKind}
use Rattle.hare_check.specs.Walking.{AreKnownDecls}

-- none of these types mentions a name that is not defined
abbrev pub AreDefinedTypes : Store → List ℕ → Type 0
AreDefinedTypes s ts = (i t : ℕ) → slice_get ts i ≡ Some t → IsDefined s t

-- nor does a type of the declaration
pub record IsTold (s : Store) (d : DeclType) : Type 0 where
  pub kind : (n : ℕ) → IsKnownKind s n d d.kind
  pub params : AreDefinedTypes s d.params

-- nor does one of these, by their numbers
pub record AreTold (s : Store) (ds : List DeclType) : Type 0 where
  pub decls : AreKnownDecls s ds
  pub params : (n : ℕ) (d : DeclType) → find (λ e. nat_eq e.decl n) ds ≡ Some d → AreDefinedTypes s d.params
