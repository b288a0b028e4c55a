-- What the program reads of a whole file: imports, and behind them declarations.
use Rattle.std.specs.Prelude.{◌≡◌, ℕ, List, [], ◌∷◌, ◌++◌, Bool, true, false, not, drop}
use Rattle.std.specs.List.{list_all, filter}
use Rattle.hare_tree.specs.declared.kind.Kind.{Kind}
use Rattle.hare_tree.specs.declared.kind.Kind.TheVariants as ki
use Rattle.hare_tree.specs.declared.form.Sort.TheVariants as so
use Rattle.hare_tree.specs.declared.token.Token.{Token}
use Rattle.hare_tree.specs.Node.{Node, head}
use Rattle.hare_tree.specs.Spell.{start_of}
use Rattle.hare_tree.specs.Shape.{is_shaped}
use Rattle.hare_automaton.specs.Engine.{Group, Outcome, Done, Fails, begun}
use Rattle.hare_tree.specs.Grammar.{joined}
use Rattle.hare_parse.specs.declared.file.FileOutcome.{FileOutcome}
use Rattle.hare_parse.specs.declared.file.FileOutcome.TheVariants as ou

-- ---- parts of a file

abbrev pub is_import : Kind → Bool
is_import ki.Use = true
is_import ki.UseAlias = true
is_import ki.UseNames = true
is_import _ = false

abbrev pub imports : List Node → List Node
imports ts = filter (λ t. is_import (head t).kind) ts

abbrev pub others : List Node → List Node
others ts = filter (λ t. not (is_import (head t).kind)) ts

-- imports and declarations, all of them shaped
pub record HaveSorts (uses decls : List Node) : Type 0 where
  pub uses_shaped : list_all (is_shaped so.Use) uses ≡ true
  pub decls_shaped : list_all (is_shaped so.Decl) decls ≡ true

-- nothing is under way but a file, with imports and declarations
abbrev pub file_made : List Node → List Node → List Group
file_made uses decls = begun (start_of 0) (uses ++ decls) ∷ []

pub record HoldsFile (gs : List Group) : Type 0 where
  pub uses : List Node
  pub decls : List Node
  pub sorts : HaveSorts uses decls
  pub is : gs ≡ file_made uses decls

-- ---- what is answered

-- The outcome of the machine's run that this answer says. Its tokens are the joined tokens from the place on that is answered.
abbrev pub outcome_of : FileOutcome → List Token → Outcome
outcome_of (ou.Done uses decls n) ts = Done (joined (drop n ts)) (file_made uses decls)
outcome_of (ou.Stuck n) ts = Fails (joined (drop n ts))

abbrev pub HasSorts : FileOutcome → Type 0
HasSorts (ou.Done uses decls n) = HaveSorts uses decls
HasSorts (ou.Stuck n) = Unit {0}

abbrev pub place_of : FileOutcome → ℕ
place_of (ou.Done uses decls n) = n
place_of (ou.Stuck n) = n
