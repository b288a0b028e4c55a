-- Which files belong to the module of the first, as it is kept. No public clause cites this.
use Rattle.std.specs.Prelude.{◌≡◌, ℕ, List, [], Bool, ◌&&◌, bytes_eq, codes, map, slice_get, Option, Some, None}
use Rattle.hare_modules.specs.Modules.{Module, module_of, same_module}
use Rattle.hare_tree.specs.Node.{Node, head}
use Rattle.hare_modules.specs.Uses.{text_of, place_of}
use Rattle.hare_modules.specs.Declarations.{name_in}
use Rattle.hare_whole.specs.Limits.{home_of, is_function}

-- of each file, whether it belongs to this module
abbrev pub belonging : Module → List (List ℕ) → List Bool
belonging first paths = map (λ p. same_module (module_of p) first) paths

abbrev pub kept_or : Module → Option Bool → Bool
kept_or first None = same_module [] first
kept_or first (Some b) = b

-- whether the file with this number belongs to it; a file that is not there belongs to the module without a name
abbrev pub is_home : Module → List Bool → ℕ → Bool
is_home first kept file = kept_or first (slice_get kept file)

-- this is kept of the module of the first file
pub record AreHomes (paths : List (List ℕ)) (first : Module) (kept : List Bool) : Type 0 where
  pub first_is : first ≡ home_of paths 0
  pub kept_is : kept ≡ belonging first paths

-- a function `main` of that module
abbrev pub is_main_by : Module → List Bool → Node → Bool
is_main_by first kept t =
    (is_function (head t).kind && bytes_eq (text_of (name_in t)) (codes "main")) && is_home first kept (place_of t).file
