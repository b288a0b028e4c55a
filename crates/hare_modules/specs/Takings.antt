-- The names that are taken in a program and its imports, by the numbers of modules.
use Rattle.std.specs.Prelude.{ℕ, ◌+◌, List, [], ◌∷◌, ◌++◌, Bool, true, false, not, ◌&&◌, ◌||◌, ◌==◌, map, bytes_eq, length, position, Option, Some, None, is_none, if◌then◌else◌}
use Rattle.std.specs.List.{flat_map, cons_option}
use Rattle.hare_tree.specs.declared.place.Place.{Place}
use Rattle.hare_tree.specs.declared.place.Fault.{Fault}
use Rattle.hare_tree.specs.declared.tree.FileTree.{FileTree}
use Rattle.hare_tree.specs.Node.{Node, head}
use Rattle.hare_tree.specs.Spell.{start_of}
use Rattle.hare_modules.specs.declared.claims.Claim.{Claim}
use Rattle.hare_modules.specs.declared.claims.Used.{Used}
use Rattle.hare_modules.specs.declared.claims.Taker.{Taker}
use Rattle.hare_modules.specs.declared.claims.Taker.TheVariants as ta
use Rattle.hare_modules.specs.Order.{fault}
use Rattle.hare_modules.specs.Uses.{text_of, place_of, path_in, module_used, names_brought, is_braced}
use Rattle.hare_modules.specs.Declarations.{name_in}
use Rattle.hare_modules.specs.Entries.{entry_of}

-- ---- imports

-- an import of a file whose module has a number, with the number of the module that it names, where that is known
pub record Using : Type 0 where
  pub home : ℕ
  pub to : Option ℕ
  pub tree : Node

abbrev pub using : Used → Using
using u = record { home = u.home; to = u.to; tree = u.tree.now }

-- the number of the module that an import names
abbrev pub number_used : List (List ℕ) → Node → Option ℕ
number_used known u = position (bytes_eq (module_used u)) known

abbrev pub using_of : List (List ℕ) → ℕ → Node → Using
using_of known home u = record { home = home; to = number_used known u; tree = u }

abbrev pub usings : List (List ℕ) → List ℕ → List FileTree → List Using
usings known [] ts = []
usings known (h ∷ hs) [] = []
usings known (h ∷ hs) (t ∷ ts) = map (using_of known h) t.uses ++ usings known hs ts

-- ---- names that are taken

-- a name that is taken in the module of a file
pub record Taking : Type 0 where
  pub home : ℕ
  pub file : ℕ
  pub name : List ℕ
  pub place : Place
  pub taker : Taker

abbrev pub taking : Claim → Taking
taking c = record { home = c.home; file = c.file; name = c.name.now; place = c.place; taker = c.taker }

abbrev pub named : ℕ → ℕ → Taker → Node → Taking
named file home taker t = record { home = home; file = file; name = text_of t; place = place_of t; taker = taker }

-- what the names of an import stand for
abbrev pub import_taker : Option ℕ → Bool → Taker
import_taker to whole = ta.Import record { number = to; whole = whole }

-- the names that an import brings in
abbrev pub use_takings : List (List ℕ) → ℕ → ℕ → Node → List Taking
use_takings known file home u = map (named file home (import_taker (number_used known u) (not (is_braced (head u).kind)))) (names_brought u)

-- the names of declarations, of which the first has this number
abbrev pub decl_takings : ℕ → ℕ → ℕ → List Node → List Taking
decl_takings file home n [] = []
decl_takings file home n (t ∷ ts) = named file home (ta.Declaration (entry_of t n)) (name_in t) ∷ decl_takings file home (n + 1) ts

-- the names that files take, of which the first has this number and its first declaration the next
abbrev pub takings : List (List ℕ) → ℕ → ℕ → List ℕ → List FileTree → List Taking
takings known file n [] ts = []
takings known file n (h ∷ hs) [] = []
takings known file n (h ∷ hs) (t ∷ ts) =
    flat_map (use_takings known file h) t.uses ++ decl_takings file h n t.decls ++ takings known (file + 1) (n + length t.decls) hs ts

-- ---- equal names

abbrev pub is_import : Taker → Bool
is_import (ta.Import i) = true
is_import (ta.Declaration e) = false

abbrev pub clashes : Taking → Taking → Bool
clashes a b = a.home == b.home && bytes_eq a.name b.name && (not (is_import a.taker && is_import b.taker) || a.file == b.file)

-- ---- faults

abbrev pub unknown_module : Using → Option Fault
unknown_module u = if is_none u.to then Some (fault 11 (place_of (path_in u.tree))) else None

abbrev pub runtime_file : ℕ → FileTree → Option Fault
runtime_file home t = if home == 0 then Some (fault 12 (start_of t.file)) else None

abbrev pub runtime_files : List ℕ → List FileTree → List Fault
runtime_files [] ts = []
runtime_files (h ∷ hs) [] = []
runtime_files (h ∷ hs) (t ∷ ts) = cons_option (runtime_file h t) (runtime_files hs ts)
