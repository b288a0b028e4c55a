-- Going over the kids of one tree, with the names of those before in a table. No public clause cites it.
use Rattle.std.specs.Prelude.{ℕ, List, [], Option, if◌then◌else◌}
use Rattle.hare_tree.specs.declared.place.Fault.{Fault}
use Rattle.hare_tree.specs.Node.{Node, branch, head}
use Rattle.hare_modules.specs.Order.{earlier}
use Rattle.hare_modules.specs.Tables.{has, put}
use Rattle.hare_modules.specs.Uses.{text_of}
use Rattle.hare_names.specs.Doubled.{has_names, is_named, doubled_fault, doubled_kids}

-- the names with that of a kid
abbrev pub names_with : List (List ℕ × Unit {0}) → Node → List (List ℕ × Unit {0})
names_with names t = if is_named (head t).kind then put names (text_of t) tt else names

-- the first fault, where the kid may have a name of those
abbrev pub first_with : List (List ℕ × Unit {0}) → Node → Option Fault → Option Fault
first_with names t first = if is_named (head t).kind then
    (if has (text_of t) names then earlier first (doubled_fault t) else first) else first

-- E12 at the kids of a tree, and not deeper
abbrev pub doubled_own : Node → List Fault
doubled_own (branch h ts) = if has_names h.kind then doubled_kids ts else []
