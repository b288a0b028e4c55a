-- What modules declare: the declarations of their files, and what is built into the module `rt`.
use Rattle.std.specs.Prelude.{ℕ, List, [], ◌∷◌, ◌++◌, codes, Bool, true, false, not, map, bytes_eq, filter, find, Option}
use Rattle.std.specs.List.{flat_map, enumerate_from}
use Rattle.hare_tree.specs.declared.kind.Kind.{Kind}
use Rattle.hare_tree.specs.declared.kind.Kind.TheVariants as ki
use Rattle.hare_tree.specs.declared.token.Meaning.{Meaning}
use Rattle.hare_tree.specs.declared.token.Meaning.TheVariants as me
use Rattle.hare_tree.specs.Node.{Node, head}
use Rattle.hare_modules.specs.Modules.{Module, Source, same_module, runtime}
use Rattle.hare_modules.specs.Uses.{kid, text_of}

-- ---- declarations

-- a declaration in the module of its file
pub record Declared : Type 0 where
  pub home : Module
  pub tree : Node

-- the declarations of a program, in the order of files and source: a declaration's number is how many stand before it
abbrev pub declarations : List Source → List Declared
declarations ss = flat_map (λ s. map (λ t. record { home = s.home; tree = t }) s.tree.decls) ss

-- the tree of a declaration's name
abbrev pub name_in : Node → Node
name_in t = kid t 1

abbrev pub is_export : Kind → Bool
is_export ki.Export = true
is_export _ = false

abbrev pub is_type_decl : Kind → Bool
is_type_decl ki.TypeDecl = true
is_type_decl _ = false

abbrev pub is_exported : Node → Bool
is_exported t = is_export (head (kid t 0)).kind

abbrev pub declares_type : Node → Bool
declares_type t = is_type_decl (head t).kind

-- ---- items: what names of modules mean

-- what a name of a module means
pub record Item : Type 0 where
  pub home : Module
  pub name : List ℕ
  pub exported : Bool
  pub is_type : Bool
  pub meaning : Meaning

abbrev item_of : ℕ × Declared → Item
item_of e = record {
  home = e.1.home;
  name = text_of (name_in e.1.tree);
  exported = is_exported e.1.tree;
  is_type = declares_type e.1.tree;
  meaning = me.Decl e.0;
}

-- a function of the module `rt`
abbrev runtime_function : ℕ → List ℕ → Item
runtime_function n x = record { home = runtime; name = x; exported = true; is_type = false; meaning = me.Rt n }

-- the number of the type `rt::nomem`, which no file declares
abbrev pub nomem : ℕ
nomem = 4294967295

-- what is built in: the functions of `rt` by their numbers, and its type `nomem`
abbrev pub built_in : List Item
built_in =
    runtime_function 0 (codes "puts") ∷ runtime_function 1 (codes "write") ∷ runtime_function 2 (codes "read")
    ∷ runtime_function 3 (codes "bytes") ∷ runtime_function 4 (codes "nargs") ∷ runtime_function 5 (codes "arg")
    ∷ runtime_function 6 (codes "exit")
    ∷ record { home = runtime; name = codes "nomem"; exported = true; is_type = true; meaning = me.Decl nomem } ∷ []

-- Of those with one name the first: a later one is a fault, and names nothing.
abbrev pub firsts : {A : Type 0} → (A → List ℕ) → List A → List A
firsts name [] = []
firsts name (a ∷ as') = a ∷ filter (λ b. not (bytes_eq (name a) (name b))) (firsts name as')

-- what the names of a module mean, one item for each name
abbrev pub items : List Source → Module → List Item
items ss m =
    firsts (λ i. i.name) (filter (λ i. same_module i.home m) (built_in ++ map item_of (enumerate_from 0 (declarations ss))))

-- the item that a module has under a name
abbrev pub item_named : List Source → Module → List ℕ → Option Item
item_named ss m x = find (λ i. bytes_eq i.name x) (items ss m)

-- what a module exports
abbrev pub exports : List Source → Module → List Item
exports ss m = filter (λ i. i.exported) (items ss m)
