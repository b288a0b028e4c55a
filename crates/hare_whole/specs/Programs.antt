-- What a whole program is, apart from its names.
use Rattle.std.specs.Prelude.{◌≡◌, ℕ, ◌<◌, ◌≤◌, List, true, false, length, slice_get, sum_by, Some, Contains}
use Rattle.hare_tree.specs.declared.place.Place.{Place}
use Rattle.hare_tree.specs.declared.token.Meaning.{Meaning}
use Rattle.hare_tree.specs.declared.form.Sort.TheVariants as sorts
use Rattle.hare_tree.specs.Node.{Head}
use Rattle.hare_tree.specs.Shape.{is_shaped}
use Rattle.hare_tree.specs.Size.{text_bytes}
use Rattle.hare_types.specs.Store.{Store, definition_of}
use Rattle.hare_types.specs.Sound.{IsStore}
use Rattle.hare_typed.specs.Typed.{TypedNode}
use Rattle.hare_typed.specs.Erased.{erase, heads}
use Rattle.hare_typed.specs.Numbers.{kind_of}
use Rattle.hare_rules.specs.Context.{Setting}
use Rattle.hare_modules.specs.Uses.{place_of, text_of}
use Rattle.hare_modules.specs.Modules.{Module}
use Rattle.hare_modules.specs.Order.{decides}
use Rattle.hare_modules.specs.Declarations.{name_in, is_type_decl}
use Rattle.hare_whole.specs.Parts.{known, type_part, written_id}
use Rattle.hare_whole.specs.Declared.{IsWellDecl}
use Rattle.hare_whole.specs.Listing.{DefinesNomem}
use Rattle.hare_whole.specs.Tags.{tag_list}
use Rattle.hare_whole.specs.Limits.{home_of, AreWithinLimits}

-- ---- trees

-- what is known of a finished program where its trees are judged
abbrev pub setting_of : Store → List TypedNode → (Place → Meaning) → Setting
setting_of s ds means = record { store = s; decls = known s ds; means = means }

-- each declaration is well typed, among all the others
abbrev pub AreWell : Setting → List TypedNode → Type 0
AreWell w ds = (n : ℕ) (d : TypedNode) → slice_get ds n ≡ Some d → IsWellDecl w n d

-- each is shaped as a declaration, so that its names are names
abbrev pub AreShaped : List TypedNode → Type 0
AreShaped ds = (d : TypedNode) → Contains ds d → is_shaped sorts.Decl (erase d) ≡ true

-- ---- places

-- the first place stands before the second
abbrev pub StandsBefore : Place → Place → Type 0
StandsBefore p q = decides p.file q.file (decides p.line q.line (decides p.column q.column false)) ≡ true

-- Each tree stands in a file of these paths, whole, and each stands before those behind it.
pub record AreInFiles (paths : List (List ℕ)) (ds : List TypedNode) : Type 0 where
  pub files : (d : TypedNode) → Contains ds d → (place_of (erase d)).file < length paths
  pub whole : (d : TypedNode) (h : Head) → Contains ds d → Contains (heads (erase d)) h → h.place.file ≡ (place_of (erase d)).file
  pub ascend : (i j : ℕ) (d e : TypedNode) → i < j → slice_get ds i ≡ Some d → slice_get ds j ≡ Some e →
      StandsBefore (place_of (erase d)) (place_of (erase e))

-- ---- names

abbrev pub name_of : TypedNode → List ℕ
name_of d = text_of (name_in (erase d))

abbrev pub module_at : List (List ℕ) → TypedNode → Module
module_at paths d = home_of paths (place_of (erase d)).file

-- no two declarations of one module have one name
abbrev pub NamesDiffer : List (List ℕ) → List TypedNode → Type 0
NamesDiffer paths ds =
    (i j : ℕ) (d e : TypedNode)
    → slice_get ds i ≡ Some d
    → slice_get ds j ≡ Some e
    → module_at paths d ≡ module_at paths e
    → name_of d ≡ name_of e
    → i ≡ j

-- ---- types and texts

-- each type is defined as its declaration says
abbrev pub AreDefined : Store → List TypedNode → Type 0
AreDefined s ds =
    (n : ℕ) (d : TypedNode)
    → slice_get ds n ≡ Some d
    → is_type_decl (kind_of d) ≡ true
    → definition_of s n ≡ Some (written_id (type_part d))

abbrev pub most_of_texts : ℕ
most_of_texts = 4194304

-- the bytes of all string literals and messages
abbrev pub bytes_of_texts : List TypedNode → ℕ
bytes_of_texts ds = sum_by (λ d. text_bytes (erase d)) ds

-- ---- programs

-- What a whole program is, but for two things that are said of names elsewhere: that its paths are words that name files, and that each
-- local of a path is a binding in scope there.
pub record IsComplete (s : Store) (paths : List (List ℕ)) (ds : List TypedNode) (means : Place → Meaning) (entry : ℕ) : Type 0 where
  pub sound : IsStore s
  pub shaped : AreShaped ds
  pub in_files : AreInFiles paths ds
  pub names_differ : NamesDiffer paths ds
  pub few_texts : bytes_of_texts ds ≤ most_of_texts
  pub well : AreWell (setting_of s ds means) ds
  pub defined : AreDefined s ds
  pub nomem_defined : DefinesNomem s
  pub tags : s.listed ≡ tag_list s ds
  pub limits : AreWithinLimits paths s ds entry
