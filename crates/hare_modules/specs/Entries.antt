-- What names of modules mean, as a table has it.
use Rattle.std.specs.Prelude.{ℕ, List, true, false, map}
use Rattle.hare_tree.specs.declared.token.Meaning.TheVariants as me
use Rattle.hare_tree.specs.Node.{Node}
use Rattle.hare_modules.specs.declared.items.Entry.{Entry}
use Rattle.hare_modules.specs.Declarations.{Item, is_exported, declares_type, nomem, built_in as items_built_in}

abbrev pub entry : Item → Entry
entry i = record { exported = i.exported; is_type = i.is_type; meaning = i.meaning }

-- what a declaration with this number declares
abbrev pub entry_of : Node → ℕ → Entry
entry_of t n = record { exported = is_exported t; is_type = declares_type t; meaning = me.Decl n }

-- the table of what is built in
abbrev pub built_in : List (List ℕ × Entry)
built_in = map (λ i. (i.name, entry i)) items_built_in

-- what a function of `rt` with this number, and the type `rt::nomem`, mean
abbrev pub runtime_function : ℕ → Entry
runtime_function n = record { exported = true; is_type = false; meaning = me.Rt n }

abbrev pub nomem_entry : Entry
nomem_entry = record { exported = true; is_type = true; meaning = me.Decl nomem }
