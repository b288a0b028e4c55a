-- Declarations by which values and bodies can be judged: all types that are told of them mention only names that are defined.
use Rattle.std.specs.Prelude.{◌≡◌, ℕ, List, slice_get, Some, Contains}
use Rattle.hare_types.specs.Store.{Store}
use Rattle.hare_rules.specs.declared.declared.DeclType.{DeclType}
use Rattle.hare_rules.specs.Words.{nomem}
use Rattle.rule_judge.specs.Defined.{IsDefined, IsDefinedName}
use Rattle.rule_judge.specs.Meant.{IsKnownKind}

-- a declared type is defined, any other declaration has a type that is, and so have the parameters of a function
pub record IsReadyDecl (s : Store) (d : DeclType) : Type 0 where
  pub own : IsKnownKind s d.decl d d.kind
  pub params : (i t : ℕ) → slice_get d.params i ≡ Some t → IsDefined s t

-- each of them is so
abbrev pub AreReady : Store → List DeclType → Type 0
AreReady s ds = (d : DeclType) → Contains ds d → IsReadyDecl s d

-- the refusal of memory is defined
abbrev pub HasNomem : Store → Type 0
HasNomem s = IsDefinedName s nomem
