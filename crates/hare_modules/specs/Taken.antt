-- How the names that are taken stand in tables: what `built_in`, `take_all` and `unknown_member` promise. Directory.antt looks up in such
-- tables.
use Rattle.std.specs.Prelude.{◌≡◌, ℕ, ◌<◌, List, [], ◌∷◌, Bool, not, ◌&&◌, ◌||◌, ◌==◌, map, find, bytes_eq, length, nat_lt, replicate, slice_set, slice_index_or, option_and_then, Option, Some, None, All, if◌then◌else◌}
use Rattle.std.specs.List.{list_any, cons_option}
use Rattle.hare_tree.specs.declared.place.Fault.{Fault}
use Rattle.hare_tree.specs.declared.place.Place.{Place}
use Rattle.hare_tree.specs.Spell.{start_of}
use Rattle.hare_modules.specs.declared.imports.Imported.{Imported}
use Rattle.hare_modules.specs.declared.items.Entry.{Entry}
use Rattle.hare_modules.specs.declared.claims.Taker.{Taker}
use Rattle.hare_modules.specs.declared.claims.Taker.TheVariants as ta
use Rattle.hare_modules.specs.declared.taken.Taken.{Taken}
use Rattle.hare_modules.specs.Order.{fault}
use Rattle.hare_modules.specs.Entries.{built_in}
use Rattle.hare_modules.specs.Tables.{value_of, has, put}
use Rattle.hare_modules.specs.Takings.{Taking, is_import}

-- the table with a number; one that is not there is empty
abbrev pub table_at : {T : Type 0} → List (List (List ℕ × T)) → ℕ → List (List ℕ × T)
table_at ts n = slice_index_or ts n []

-- ---- what is taken, by the names in their order

-- what is built in, as names that are taken
abbrev pub built_in_taking : List ℕ × Entry → Taking
built_in_taking e = record { home = 0; file = 0; name = e.0; place = start_of 0; taker = ta.Declaration e.1 }

abbrev pub built_in_takings : List Taking
built_in_takings = map built_in_taking built_in

abbrev pub declared : Taker → Option Entry
declared (ta.Import i) = None
declared (ta.Declaration e) = Some e

abbrev pub imported : Taker → Option Imported
imported (ta.Import i) = Some i
imported (ta.Declaration e) = None

abbrev pub declares : ℕ → List ℕ → Taking → Bool
declares m x k = not (is_import k.taker) && k.home == m && bytes_eq x k.name

abbrev pub imports_in : ℕ → List ℕ → Taking → Bool
imports_in m x k = is_import k.taker && k.home == m && bytes_eq x k.name

abbrev pub imports_at : ℕ → List ℕ → Taking → Bool
imports_at f x k = is_import k.taker && k.file == f && bytes_eq x k.name

-- the first declaration of a name in a module
abbrev pub declared_among : List Taking → ℕ → List ℕ → Option Entry
declared_among ks m x = option_and_then (λ k. declared k.taker) (find (declares m x) ks)

-- a file of a module imports the name
abbrev pub is_imported_among : List Taking → ℕ → List ℕ → Bool
is_imported_among ks m x = list_any (imports_in m x) ks

-- the first import of a name in a file
abbrev pub imported_among : List Taking → ℕ → List ℕ → Option Imported
imported_among ks f x = option_and_then (λ k. imported k.taker) (find (imports_at f x) ks)

-- tables that tell of names what was taken
pub record Tells (ks : List Taking) (items : List (List (List ℕ × Entry))) (imports_of : List (List (List ℕ × Unit {0})))
    (imports : List (List (List ℕ × Imported))) : Type 0 where
  pub items_told : (m : ℕ) (x : List ℕ) → value_of x (table_at items m) ≡ declared_among ks m x
  pub imported_told : (m : ℕ) (x : List ℕ) → has x (table_at imports_of m) ≡ is_imported_among ks m x
  pub imports_told : (f : ℕ) (x : List ℕ) → value_of x (table_at imports f) ≡ imported_among ks f x

-- the modules and the files of the names are among so many
abbrev pub AreWithin : ℕ → ℕ → List Taking → Type 0
AreWithin modules files ks = All (λ k. (k.home < modules) × (k.file < files)) ks

-- ---- faults

-- a name that is not to be had from another module
abbrev pub not_had : Option Entry → Place → Option Fault
not_had None place = Some (fault 15 place)
not_had (Some e) place = if e.exported then None else Some (fault 14 place)

-- of a name of a module with this number, if it is known
abbrev pub member_of : List (List (List ℕ × Entry)) → Taking → Option ℕ → Option Fault
member_of items k None = None
member_of items k (Some m) = not_had (value_of k.name (table_at items m)) k.place

abbrev pub member_by : List (List (List ℕ × Entry)) → Taking → Option Imported → Option Fault
member_by items k None = None
member_by items k (Some i) = if i.whole then None else member_of items k i.number

-- the fault of a name between the braces of an import of a module that is known
abbrev pub member_fault : List (List (List ℕ × Entry)) → Taking → Option Fault
member_fault items k = member_by items k (imported k.taker)

-- ---- tables by number

abbrev pub empty_tables : {T : Type 0} → ℕ → List (List (List ℕ × T))
empty_tables n = replicate n []

-- the tables, with this value under the name in one of them, if it is there
abbrev pub put_at : {T : Type 0} → List (List (List ℕ × T)) → ℕ → List ℕ → T → List (List (List ℕ × T))
put_at ts n x v = if nat_lt n (length ts) then slice_set ts n (put (table_at ts n) x v) else ts

-- ---- taking names one by one

-- the tables of what modules declare, with a name that is taken
abbrev pub items_by : List (List (List ℕ × Entry)) → Taking → Taker → List (List (List ℕ × Entry))
items_by ts k (ta.Import i) = ts
items_by ts k (ta.Declaration e) = put_at ts k.home k.name e

abbrev pub items_with : List (List (List ℕ × Entry)) → Taking → List (List (List ℕ × Entry))
items_with ts k = items_by ts k k.taker

-- of what the files of modules import
abbrev pub imported_with : List (List (List ℕ × Unit {0})) → Taking → List (List (List ℕ × Unit {0}))
imported_with ts k = if is_import k.taker then put_at ts k.home k.name tt else ts

-- and of what files import
abbrev pub imports_by : List (List (List ℕ × Imported)) → Taking → Taker → List (List (List ℕ × Imported))
imports_by ts k (ta.Import i) = put_at ts k.file k.name i
imports_by ts k (ta.Declaration e) = ts

abbrev pub imports_with : List (List (List ℕ × Imported)) → Taking → List (List (List ℕ × Imported))
imports_with ts k = imports_by ts k k.taker

-- the tables
pub record Tables : Type 0 where
  pub items : List (List (List ℕ × Entry))
  pub imported : List (List (List ℕ × Unit {0}))
  pub imports : List (List (List ℕ × Imported))

abbrev pub tables_with : Tables → Taking → Tables
tables_with t k = record { items = items_with t.items k; imported = imported_with t.imported k; imports = imports_with t.imports k }

-- an earlier name clashes with this one
abbrev pub is_taken : Tables → Taking → Bool
is_taken t k = has k.name (table_at t.items k.home) ||
    (if is_import k.taker then has k.name (table_at t.imports k.file) else has k.name (table_at t.imported k.home))

abbrev pub repeated_fault : Tables → Taking → Option Fault
repeated_fault t k = if is_taken t k then Some (fault 12 k.place) else None

-- the faults at names that are taken already
abbrev pub repeated_faults : Tables → List Taking → List Fault
repeated_faults t [] = []
repeated_faults t (k ∷ ks) = cons_option (repeated_fault t k) (repeated_faults (tables_with t k) ks)

abbrev pub tables_of : Taken → Tables
tables_of t = record { items = t.items.items; imported = t.imported.items; imports = t.imports.items }

-- what is built in, where there are so many modules and files
abbrev pub first_tables : ℕ → ℕ → Tables
first_tables modules files = record {
  items = slice_set (empty_tables modules) 0 built_in;
  imported = empty_tables modules;
  imports = empty_tables files;
}
