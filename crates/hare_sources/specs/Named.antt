-- The files of a program with what their paths mean, and the first fault of files and names.
use Rattle.std.specs.Prelude.{◌≡◌, ◌≤◌, ℕ, List, length}
use Rattle.hare_tree.specs.declared.place.Place.{Place}
use Rattle.hare_tree.specs.declared.place.Fault.{Fault}
use Rattle.hare_tree.specs.declared.token.Meaning.{Meaning}
use Rattle.hare_tree.specs.declared.tree.FileTree.{FileTree}
use Rattle.hare_modules.specs.Order.{IsFirst}
use Rattle.hare_modules.specs.Modules.{sources}
use Rattle.hare_names.specs.Violations.{IsViolation, AreMeanings}
use Rattle.hare_sources.specs.Files.{AreRead, IsFaultOfFiles}

-- Files with one path for each. Of paths there are at most so many as a command may name.
pub record ArePaired (paths srcs : List (List ℕ)) : Type 0 where
  pub paired : length srcs ≡ length paths
  pub few : length paths ≤ 65536

-- The files have these trees, no name in them is violated, and at their places paths mean this.
pub record AreNamed (paths srcs : List (List ℕ)) (trees : List FileTree) (means : Place → Meaning) : Type 0 where
  pub read : AreRead srcs trees
  pub sound : (f : Fault) → ¬ IsViolation (sources paths trees) f
  pub meanings : AreMeanings (sources paths trees) means

-- The first fault of files and names. Names are looked at where the files have no fault: the violation that counts first.
pub data IsEarlyFault (paths srcs : List (List ℕ)) (f : Fault) : Type 0 where
  of_files : IsFaultOfFiles srcs f → IsEarlyFault paths srcs f
  of_names : (trees : List FileTree) → AreRead srcs trees → IsFirst (IsViolation (sources paths trees)) f → IsEarlyFault paths srcs f

-- the files of a program have at most one first fault, and none where their names are sound
abbrev pub EarlyFaultsAreOne : Type 0
EarlyFaultsAreOne = (paths srcs : List (List ℕ)) (f g : Fault) → IsEarlyFault paths srcs f → IsEarlyFault paths srcs g → f ≡ g

abbrev pub NamedOrFaulty : Type 0
NamedOrFaulty =
    (paths srcs : List (List ℕ)) (trees : List FileTree) (means : Place → Meaning) (f : Fault)
    → AreNamed paths srcs trees means
    → ¬ IsEarlyFault paths srcs f

-- and they have one list of trees
abbrev pub TreesAreOne : Type 0
TreesAreOne = (srcs : List (List ℕ)) (ts us : List FileTree) → AreRead srcs ts → AreRead srcs us → ts ≡ us
