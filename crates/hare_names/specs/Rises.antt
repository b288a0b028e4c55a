-- Paths in the order of their places. No public clause cites it.
use Rattle.std.specs.Prelude.{◌≡◌, ℕ, List, [], ◌∷◌, true, Contains}
use Rattle.hare_tree.specs.declared.tree.FileTree.{FileTree}
use Rattle.hare_lex.specs.Order.{is_before}
use Rattle.hare_names.specs.Paths.{Path, paths_of_file}

-- each path stands before those behind it
abbrev pub Rises : List Path → Type 0
Rises [] = Unit {0}
Rises (p ∷ ps) = ((q : Path) → Contains ps q → is_before p.place q.place ≡ true) × Rises ps

-- the paths of a file stand in it, in their order
pub record IsOrdered (number : ℕ) (tree : FileTree) : Type 0 where
  pub of_file : (p : Path) → Contains (paths_of_file tree) p → p.place.file ≡ number
  pub rises : Rises (paths_of_file tree)
