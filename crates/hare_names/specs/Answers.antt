-- What `resolve` asks for, and what it answers.
use Rattle.std.specs.Prelude.{◌≡◌, ℕ, ◌<◌, ◌-◌, ◌^◌, List, true, length, sum_by, slice_get, Option, Some, None}
use Rattle.hare_tree.specs.declared.place.Place.{Place}
use Rattle.hare_tree.specs.declared.place.Fault.{Fault}
use Rattle.hare_tree.specs.declared.stop.Stop.{Stop}
use Rattle.hare_tree.specs.declared.stop.Stop.TheVariants as stop
use Rattle.hare_tree.specs.declared.token.Meaning.{Meaning}
use Rattle.hare_tree.specs.declared.token.Meaning.TheVariants as me
use Rattle.hare_tree.specs.declared.token.Token.{Token}
use Rattle.hare_tree.specs.declared.tree.FileTree.{FileTree}
use Rattle.hare_tree.specs.Depth.{fits_file}
use Rattle.hare_lex.specs.Order.{StandsOver}
use Rattle.hare_modules.specs.Order.{IsFirst}
use Rattle.hare_modules.specs.Modules.{Source}
use Rattle.hare_names.specs.Tables.{meaning_at}
use Rattle.hare_names.specs.Violations.{IsViolation, AreFewBindings}

-- The tree is that of the file with this number: it is in the language, and stands over tokens of the file.
pub record IsFileOf (number : ℕ) (tree : FileTree) : Type 0 where
  pub file_is : tree.file ≡ number
  pub fits : fits_file tree ≡ true
  pub tokens : List Token
  pub stands : StandsOver tokens tree

-- one tree for each path, each that of the file with its number, and numbers enough for declarations and bindings
pub record AreFiles (paths : List (List ℕ)) (ts : List FileTree) : Type 0 where
  pub paired : length ts ≡ length paths
  pub files : (k : ℕ) (t : FileTree) → slice_get ts k ≡ Some t → IsFileOf k t
  pub few_decls : sum_by (λ t. length t.decls) ts < 2 ^ 32 - 1
  pub few_bindings : AreFewBindings ts

-- ---- answers

abbrev pub or_no_meaning : Option Meaning → Meaning
or_no_meaning None = me.None
or_no_meaning (Some m) = m

-- what stands at a place of a list of meanings by places
abbrev pub meaning_in : List (Place × Meaning) → Place → Meaning
meaning_in es p = or_no_meaning (meaning_at p es)

-- a stop at the first violation, or for want of memory
abbrev pub StopsAtFirst : List Source → Stop Fault → Type 0
StopsAtFirst ss (stop.Fault f) = IsFirst (IsViolation ss) f
StopsAtFirst ss stop.Memory = Unit {0}
