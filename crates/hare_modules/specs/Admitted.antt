-- The names that a file admits: triples of a spelled path, a module and what the path means there. They are made of what the file's own
-- module declares, in whatever file, and of what the file imports. Only exported names are admitted from another module.
use Rattle.std.specs.Prelude.{ℕ, List, [], ◌∷◌, ◌++◌, Bool, ◌&&◌, map, bytes_eq, filter, find, Option, if◌then◌else◌}
use Rattle.std.specs.List.{flat_map}
use Rattle.std.specs.Cmp.Lexicographic.{pointwise}
use Rattle.hare_modules.specs.Modules.{Module, Source, is_known}
use Rattle.hare_modules.specs.Uses.{Import, imports}
use Rattle.hare_modules.specs.Declarations.{Item, items, exports, firsts}

-- a path as it is spelled, and what it means, with the module where that is declared
pub record Triple : Type 0 where
  pub path : List (List ℕ)
  pub item : Item

-- what the file's own module declares, under its name alone
abbrev pub own_triples : List Source → Module → List Triple
own_triples ss m = map (λ i. record { path = i.name ∷ []; item = i }) (items ss m)

-- what an import admits: the exported members of a module behind the import's name, or the one exported member of that name
abbrev pub imported_triples : List Source → Import → List Triple
imported_triples ss i =
    if i.whole
    then map (λ e. record { path = i.name ∷ e.name ∷ []; item = e }) (exports ss i.from)
    else map (λ e. record { path = e.name ∷ []; item = e }) (filter (λ e. bytes_eq e.name i.name) (exports ss i.from))

-- the names that a file imports, one import for each name
abbrev pub first_imports : Source → List Import
first_imports s = firsts (λ i. i.name) (imports s.tree)

abbrev pub triples : List Source → Source → List Triple
triples ss s = own_triples ss s.home ++ flat_map (imported_triples ss) (first_imports s)

abbrev pub same_names : List (List ℕ) → List (List ℕ) → Bool
same_names = pointwise bytes_eq

-- The triple of a path. A name is its module's own before it is imported.
abbrev pub admitted : List Source → Source → List (List ℕ) → Option Triple
admitted ss s path = find (λ t. same_names t.path path) (triples ss s)

-- the import by which a file admits a module under a name
abbrev pub admitted_module : List Source → Source → List ℕ → Option Import
admitted_module ss s x = find (λ i. bytes_eq i.name x && i.whole && is_known ss i.from) (first_imports s)
