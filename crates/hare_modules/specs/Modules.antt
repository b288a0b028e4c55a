-- Modules: which one a file belongs to, and which are known.
--
-- The file `a/b/x.ha` belongs to the module `a::b`, and `x.ha` to the root module, which has no name. A leading `./` says nothing.
use Rattle.std.specs.Prelude.{ℕ, List, [], ◌∷◌, ◌++◌, codes, Bool, ◌||◌, ◌==◌, bytes_eq, nat_eq, drop, if◌then◌else◌}
use Rattle.std.specs.List.{list_any, starts_with}
use Rattle.hare_tree.specs.declared.tree.FileTree.{FileTree}

-- a module, by its path as it is spelled: names with `::` between them, and nothing for the root module
abbrev pub Module : Type 0
Module = List ℕ

abbrev pub same_module : Module → Module → Bool
same_module = bytes_eq

-- names with `::` between them
abbrev pub spelled : List (List ℕ) → List ℕ
spelled [] = []
spelled (x ∷ []) = x
spelled (x ∷ y ∷ xs) = x ++ 58 ∷ 58 ∷ spelled (y ∷ xs)

-- a name behind the others of a path, of which it is or is not the first
abbrev pub next_name : Bool → List ℕ → List ℕ
next_name is_first x = if is_first then x else 58 ∷ 58 ∷ x

-- ---- the module of a file

-- the names that stand before a `/`, of which the first begins with `name`; what stands behind the last `/` is the file's own
abbrev pub directories_behind : List ℕ → List ℕ → List (List ℕ)
directories_behind name [] = []
directories_behind name (c ∷ s) = if c == 47 then name ∷ directories_behind [] s else directories_behind (name ++ c ∷ []) s

-- the path without a leading `./`
abbrev pub without_dot : List ℕ → List ℕ
without_dot path = if starts_with nat_eq path (codes "./") then drop 2 path else path

abbrev pub module_of : List ℕ → Module
module_of path = spelled (directories_behind [] (without_dot path))

-- ---- the files of a program

-- a file with the module that it belongs to
pub record Source : Type 0 where
  pub home : Module
  pub tree : FileTree

-- the files in the order of the command line, from their paths and trees
abbrev pub sources : List (List ℕ) → List FileTree → List Source
sources [] trees = []
sources (p ∷ ps) [] = []
sources (p ∷ ps) (t ∷ ts) = record { home = module_of p; tree = t } ∷ sources ps ts

-- ---- known modules

-- the module that is built in
abbrev pub runtime : Module
runtime = codes "rt"

-- A module is known where a file belongs to it, or it is built in. A file of `a::b` does not make `a` known.
abbrev pub is_known : List Source → Module → Bool
is_known ss m = same_module m runtime || list_any (λ s. same_module s.home m) ss
