-- How the program's rows and waits are read as those of the table.
use Rattle.std.specs.Prelude.{◌<◌, List, [], ◌∷◌, Option, Some, None}
use Rattle.std.specs.List.{flat_map}
use Rattle.hare_tree.specs.declared.form.Sign.{Sign}
use Rattle.hare_automaton.specs.declared.rule.Symbol.{Symbol}
use Rattle.hare_automaton.specs.declared.rule.Change.{Change}
use Rattle.hare_automaton.specs.declared.class.Class.{Class}
use Rattle.hare_automaton.specs.declared.class.Class.TheVariants as cl
use Rattle.hare_automaton.specs.Rows as rows
use Rattle.hare_automaton.specs.Rows.{rest_of}
use Rattle.hare_ll_table.specs.declared.row.Wait.{Wait}
use Rattle.hare_ll_table.specs.declared.row.Wait.TheVariants as wa
use Rattle.hare_ll_table.specs.declared.row.Row.{Row}
use Rattle.hare_ll_table.specs.declared.row.Row.TheVariants as ro
use Rattle.hare_ll_table.specs.declared.row.Action.{Action}
use Rattle.hare_ll_table.specs.declared.row.Action.TheVariants as ac
use Rattle.hare_ll_table.specs.declared.row.RowBuffer.{RowBuffer}

-- the symbols that are waited for
abbrev pub symbols_in : Wait → List Symbol
symbols_in (wa.One s) = s ∷ []
symbols_in (wa.Rest n k) = rest_of n k

-- those of all waits, the first of them first
abbrev pub waited : List Wait → List Symbol
waited ws = flat_map symbols_in ws

-- the row of the table that a row is
abbrev pub seen : Row → rows.Row
seen ro.Fault = rows.Fault
seen (ro.Skips cs) = rows.Skips cs.now
seen (ro.Uses cs ws) = rows.Uses cs.now (waited ws.now)

-- the row of the table with this action, these changes and these waits
abbrev pub row_of : Action → List Change → List Wait → rows.Row
row_of ac.Faults cs ws = rows.Fault
row_of ac.Skips cs ws = rows.Skips cs
row_of ac.Uses cs ws = rows.Uses cs (waited ws)

-- the row of the table that was made last
abbrev pub row_in : RowBuffer → rows.Row
row_in b = row_of b.action b.changes.items b.waits.items

-- a binary operator of this class has a level above it
abbrev pub has_room : Class → Type 0
has_room (cl.Binary m) = m < 255
has_room _ = Unit {0}

-- the class of a sign that was found, or else another class
abbrev pub sign_or_else : Option Sign → Class → Class
sign_or_else None other = other
sign_or_else (Some s) other = cl.Sign s
