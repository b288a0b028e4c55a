-- What the tables of a program tell: of each module what its names mean, and of each file what the names that it imports stand for.
use Rattle.std.specs.Prelude.{◌≡◌, ℕ, ◌<◌, ◌-◌, ◌^◌, List, bytes_eq, find, position, length, sum_by, slice_get, is_some, option_map, option_and_then, Option, Some}
use Rattle.hare_tree.specs.declared.tree.FileTree.{FileTree}
use Rattle.hare_modules.specs.declared.imports.Imported.{Imported}
use Rattle.hare_modules.specs.declared.items.Entry.{Entry}
use Rattle.hare_modules.specs.Modules.{Module, Source, is_known}
use Rattle.hare_modules.specs.Uses.{Import, imports}
use Rattle.hare_modules.specs.Declarations.{item_named}
use Rattle.hare_modules.specs.Entries.{entry}
use Rattle.hare_modules.specs.Tables.{value_of}
use Rattle.hare_modules.specs.Taken.{table_at}

-- the number of the module of each file, what the names of each module mean, and what the names that each file imports stand for
pub record Directory : Type 0 where
  pub homes : List ℕ
  pub items : List (List (List ℕ × Entry))
  pub imports : List (List (List ℕ × Imported))

-- what a name of the module with this number means
abbrev pub item_at : Directory → ℕ → List ℕ → Option Entry
item_at d n x = value_of x (table_at d.items n)

-- what a name of the module of a file means
abbrev pub own_at : Directory → ℕ → List ℕ → Option Entry
own_at d f x = option_and_then (λ n. item_at d n x) (slice_get d.homes f)

-- what a name that a file imports stands for
abbrev pub import_at : Directory → ℕ → List ℕ → Option Imported
import_at d f x = value_of x (table_at d.imports f)

-- what an import stands for, where these modules are known by their numbers
abbrev pub imported : List Module → Import → Imported
imported known i = record { number = position (bytes_eq i.from) known; whole = i.whole }

-- The tables tell of a program what its modules declare and its files import.
pub record IsDirectoryOf (ss : List Source) (d : Directory) : Type 0 where
  pub known : List Module
  pub all_known : (m : Module) → is_some (position (bytes_eq m) known) ≡ is_known ss m
  pub items : (m : Module) (n : ℕ) (x : List ℕ) → position (bytes_eq m) known ≡ Some n →
      item_at d n x ≡ option_map entry (item_named ss m x)
  pub own : (f : ℕ) (s : Source) (x : List ℕ) → slice_get ss f ≡ Some s → own_at d f x ≡ option_map entry (item_named ss s.home x)
  pub imports_are : (f : ℕ) (s : Source) (x : List ℕ) → slice_get ss f ≡ Some s →
      import_at d f x ≡ option_map (imported known) (find (λ i. bytes_eq i.name x) (imports s.tree))

-- one tree for each path, each with the number of its file, and numbers enough for the declarations
pub record AreNumbered (paths : List (List ℕ)) (ts : List FileTree) : Type 0 where
  pub paired : length ts ≡ length paths
  pub numbered : (k : ℕ) (t : FileTree) → slice_get ts k ≡ Some t → t.file ≡ k
  pub few_decls : sum_by (λ t. length t.decls) ts < 2 ^ 32 - 1
