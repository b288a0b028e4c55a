-- What is known of the untyped declarations of a program once its files have been read and its names are sound.
use Rattle.std.specs.Prelude.{◌≡◌, ℕ, ◌<◌, ◌≤◌, ◌-◌, ◌^◌, true, List, length, slice_get, sum_by, Some, Contains}
use Rattle.hare_tree.specs.declared.form.Sort.TheVariants as sorts
use Rattle.hare_tree.specs.declared.place.Place.{Place}
use Rattle.hare_tree.specs.declared.token.Meaning.{Meaning}
use Rattle.hare_tree.specs.declared.tree.FileTree.{FileTree}
use Rattle.hare_tree.specs.Node.{Head, Node}
use Rattle.hare_tree.specs.Shape.{is_shaped}
use Rattle.hare_tree.specs.Size.{text_bytes}
use Rattle.hare_typed.specs.Erased.{heads}
use Rattle.hare_modules.specs.Uses.{place_of, text_of}
use Rattle.hare_modules.specs.Declarations.{name_in}
use Rattle.hare_sources.specs.Named.{ArePaired, AreNamed}
use Rattle.hare_saids.specs.Saids.{decls}
use Rattle.hare_whole.specs.Limits.{home_of}
use Rattle.hare_whole.specs.Programs.{StandsBefore, most_of_texts}

-- the module of a declaration, by the path of its file
abbrev pub home_in : List (List ℕ) → Node → List ℕ
home_in paths t = home_of paths (place_of t).file

pub record AreFiled (paths : List (List ℕ)) (ts : List Node) : Type 0 where
  pub shaped : (t : Node) → Contains ts t → is_shaped sorts.Decl t ≡ true
  pub few : length ts < 2 ^ 32 - 1
  pub files : (t : Node) → Contains ts t → (place_of t).file < length paths
  pub whole : (t : Node) (h : Head) → Contains ts t → Contains (heads t) h → h.place.file ≡ (place_of t).file
  pub ascend : (i j : ℕ) (t u : Node) → i < j → slice_get ts i ≡ Some t → slice_get ts j ≡ Some u → StandsBefore (place_of t) (place_of u)
  pub names_differ : (i j : ℕ) (t u : Node) → slice_get ts i ≡ Some t → slice_get ts j ≡ Some u → home_in paths t ≡ home_in paths u →
      text_of (name_in t) ≡ text_of (name_in u) → i ≡ j
  pub few_texts : sum_by text_bytes ts ≤ most_of_texts

abbrev pub ProgramsAreFiled : Type 0
ProgramsAreFiled =
    (paths srcs : List (List ℕ)) (trees : List FileTree) (means : Place → Meaning)
    → ArePaired paths srcs
    → AreNamed paths srcs trees means
    → AreFiled paths (decls trees)
