-- The violations of names in a program, and what its paths mean.
use Rattle.std.specs.Prelude.{◌≡◌, ◌<◌, ◌-◌, ◌^◌, List, Some, sum_by, Contains}
use Rattle.hare_tree.specs.declared.token.Meaning.{Meaning}
use Rattle.hare_tree.specs.declared.token.Meaning.TheVariants as me
use Rattle.hare_tree.specs.declared.place.Place.{Place}
use Rattle.hare_tree.specs.declared.place.Fault.{Fault}
use Rattle.hare_tree.specs.declared.tree.FileTree.{FileTree}
use Rattle.hare_tree.specs.Node.{nodes_of}
use Rattle.hare_modules.specs.Modules.{Source}
use Rattle.hare_modules.specs.Faults.{IsModuleFault}
use Rattle.hare_names.specs.Scopes.{bindings_among}
use Rattle.hare_names.specs.Paths.{Path, paths_of_file}
use Rattle.hare_names.specs.Meanings.{Meant, meant, path_violation}
use Rattle.hare_names.specs.Doubled.{doubled_names}

-- a path of a file of the program
pub record IsPathOf (ss : List Source) (s : Source) (p : Path) : Type 0 where
  pub is_source : Contains ss s
  pub is_path : Contains (paths_of_file s.tree) p

-- a violation of names: of the six sorts E11 to E16
pub data IsViolation (ss : List Source) (f : Fault) : Type 0 where
  -- E11, E12, E14 to E16, at files, imports, what stands between their braces, and declarations
  of_modules : IsModuleFault ss f → IsViolation ss f
  -- E12, at a parameter or a field
  doubled : (s : Source) → Contains ss s → Contains (doubled_names s.tree) f → IsViolation ss f
  -- E13 to E15, at a path
  of_path : (s : Source) (p : Path) → IsPathOf ss s p → path_violation ss s p ≡ Some f → IsViolation ss f

-- This is what the path means, which is not nothing.
pub record IsMeaningOf (ss : List Source) (s : Source) (p : Path) (m : Meaning) : Type 0 where
  pub meant_as : Meant
  pub is_meant : meant ss s p ≡ Some meant_as
  pub meaning_is : m ≡ meant_as.meaning
  pub something : m ≡ me.None → ⊥

-- The meanings of a program by places: at the place of each path what it means, and None where no path stands.
pub record AreMeanings (ss : List Source) (means : Place → Meaning) : Type 0 where
  pub at_path : (s : Source) (p : Path) → IsPathOf ss s p → IsMeaningOf ss s p (means p.place)
  pub elsewhere : (q : Place) → ((s : Source) (p : Path) → IsPathOf ss s p → p.place ≡ q → ⊥) → means q ≡ me.None

-- the bindings of a program are few enough to have numbers
abbrev pub AreFewBindings : List FileTree → Type 0
AreFewBindings ts = sum_by (λ t. bindings_among (nodes_of t.decls)) ts < 2 ^ 32 - 1
