-- Equal names, of which the later one is a fault.
use Rattle.std.specs.Prelude.{ℕ, List, [], ◌∷◌, ◌++◌, Bool, true, false, not, ◌&&◌, ◌||◌, ◌==◌, map, bytes_eq, if◌then◌else◌}
use Rattle.std.specs.List.{list_any, flat_map}
use Rattle.hare_tree.specs.declared.place.Place.{Place}
use Rattle.hare_tree.specs.Node.{Node}
use Rattle.hare_tree.specs.Spell.{start_of}
use Rattle.hare_modules.specs.Modules.{Module, Source, same_module}
use Rattle.hare_modules.specs.Uses.{Import, imports, text_of, place_of}
use Rattle.hare_modules.specs.Declarations.{Item, built_in, name_in}

-- those of a list that clash with one that stands before them; these stand before all
abbrev pub repeated_behind : {A : Type 0} → (A → A → Bool) → List A → List A → List A
repeated_behind clash before [] = []
repeated_behind clash before (b ∷ bs) =
    (if list_any (λ a. clash a b) before then b ∷ [] else []) ++ repeated_behind clash (before ++ b ∷ []) bs

abbrev pub repeated : {A : Type 0} → (A → A → Bool) → List A → List A
repeated clash bs = repeated_behind clash [] bs

-- ---- the names of modules

-- a name that a declaration or an import takes, in the module of its file
pub record Claim : Type 0 where
  pub home : Module
  pub file : ℕ
  pub imported : Bool
  pub name : List ℕ
  pub place : Place

abbrev import_claim : Source → Import → Claim
import_claim s i = record { home = s.home; file = s.tree.file; imported = true; name = i.name; place = i.place }

abbrev declaration_claim : Source → Node → Claim
declaration_claim s t = record {
  home = s.home;
  file = s.tree.file;
  imported = false;
  name = text_of (name_in t);
  place = place_of
      (name_in t);
}

-- the names that a file takes, in the order of the source
abbrev pub claims_of : Source → List Claim
claims_of s = map (import_claim s) (imports s.tree) ++ map (declaration_claim s) s.tree.decls

-- One name is taken twice: by two declarations of a module, by two imports of a file, or by an import and a declaration of its file's
-- module, in whatever file.
abbrev pub clash : Claim → Claim → Bool
clash a b = same_module a.home b.home && bytes_eq a.name b.name && (not (a.imported && b.imported) || a.file == b.file)

-- a name that is built in, which stands before all others
abbrev built_in_claim : Item → Claim
built_in_claim i = record { home = i.home; file = 0; imported = false; name = i.name; place = start_of 0 }

abbrev pub repeated_claims : List Source → List Claim
repeated_claims ss = repeated_behind clash (map built_in_claim built_in) (flat_map claims_of ss)
