-- What is known of what a path means.
use Rattle.std.specs.Prelude.{◌≡◌, ℕ, List, slice_get, Option, Some, None}
use Rattle.hare_tree.specs.declared.kind.Kind.{Kind}
use Rattle.hare_tree.specs.declared.kind.Kind.TheVariants as ki
use Rattle.hare_tree.specs.declared.token.Meaning.{Meaning}
use Rattle.hare_tree.specs.declared.token.Meaning.TheVariants as means
use Rattle.hare_types.specs.Store.{Store}
use Rattle.hare_rules.specs.declared.declared.Local.{Local}
use Rattle.hare_rules.specs.declared.declared.DeclType.{DeclType}
use Rattle.hare_rules.specs.Words.{nomem}
use Rattle.hare_rules.specs.Context.{declaration}
use Rattle.rule_judge.specs.Defined.{IsDefined, IsDefinedName}
use Rattle.rule_judge.specs.Settings.{setting_of}

-- of a declared type its name is defined, and of any other declaration the type of its value
abbrev pub IsKnownKind : Store → ℕ → DeclType → Kind → Type 0
IsKnownKind s n d ki.TypeDecl = IsDefinedName s n
IsKnownKind s n d k = IsDefined s d.ty

-- the declaration is known, or it is that of the refusal of memory
abbrev pub IsKnownDecl : Store → ℕ → Option DeclType → Type 0
IsKnownDecl s n (Some d) = IsKnownKind s n d d.kind
IsKnownDecl s n None = n ≡ nomem

-- the local is one of those that are told
abbrev pub IsKnownLocal : Store → Option Local → Type 0
IsKnownLocal s (Some l) = IsDefined s l.ty
IsKnownLocal s None = ⊥

-- what the path means is known: a local that is told, or a declaration
abbrev pub IsMeant : Store → List DeclType → List Local → Meaning → Type 0
IsMeant s decls locals (means.Local n) = IsKnownLocal s (slice_get locals n)
IsMeant s decls locals (means.Decl n) = IsKnownDecl s n (declaration (setting_of s decls) n)
IsMeant s decls locals (means.Rt n) = Unit {0}
IsMeant s decls locals means.None = Unit {0}
