-- Items, and the module that a text may be of. No public clause cites it.
use Rattle.std.specs.Prelude.{ℕ, List, [], ◌∷◌, Option, Some, Bool, true, false, length, codes}
use Rattle.il_code.specs.declared.types.IlItem.{IlItem}
use Rattle.il_code.specs.declared.types.Module.{Module}
use Rattle.il_read.specs.Front.{◌>>=◌, branch, behind}
use Rattle.il_read.specs.Lists.{each}
use Rattle.il_read.specs.Functions.{function_at}
use Rattle.il_read.specs.Data.{data_at}

-- an item behind its `export`, if it has one
unfoldable pub definition_at : Bool → List ℕ → Option (IlItem × List ℕ)
definition_at export s = branch (behind (codes "data ") s) (data_at export) (behind (codes "function ") s >>= function_at export)

unfoldable pub item_at : List ℕ → Option (IlItem × List ℕ)
item_at s = branch (behind (codes "export ") s) (definition_at true) (definition_at false s)

-- the text goes on
abbrev pub begins_item : List ℕ → Bool
begins_item [] = false
begins_item (c ∷ s) = true

-- the module of the items at the front
unfoldable pub module_at : List ℕ → Option Module
module_at s = each item_at begins_item (length s) s >>= λ items. Some (record { items = items.0 })
