-- The faults of modules, imports and declarations, each with its place.
use Rattle.std.specs.Prelude.{◌≡◌, List, [], ◌∷◌, not, map, filter, Contains, Option, Some, None, if◌then◌else◌}
use Rattle.std.specs.List.{flat_map}
use Rattle.hare_tree.specs.declared.place.Place.{Place}
use Rattle.hare_tree.specs.declared.place.Fault.{Fault}
use Rattle.hare_tree.specs.Node.{Node}
use Rattle.hare_tree.specs.Spell.{start_of}
use Rattle.hare_modules.specs.Order.{fault}
use Rattle.hare_modules.specs.Modules.{Source, same_module, runtime, is_known}
use Rattle.hare_modules.specs.Uses.{Import, imports, path_in, module_used, place_of}
use Rattle.hare_modules.specs.Declarations.{Item, item_named}
use Rattle.hare_modules.specs.Repeated.{repeated_claims}
use Rattle.hare_modules.specs.Circles.{LeadsTo}

-- E11, at the path of an import of no known module
abbrev pub unknown_modules : List Source → List Fault
unknown_modules ss =
    map (λ u. fault 11 (place_of (path_in u))) (filter (λ u. not (is_known ss (module_used u))) (flat_map (λ s. s.tree.uses) ss))

-- E12, at the later of two equal names
abbrev pub repeated_names : List Source → List Fault
repeated_names ss = map (λ c. fault 12 c.place) (repeated_claims ss)

-- E12, at the start of a file of the module `rt`
abbrev pub runtime_files : List Source → List Fault
runtime_files ss = map (λ s. fault 12 (start_of s.tree.file)) (filter (λ s. same_module s.home runtime) ss)

-- a name of a known module that is not to be had from outside: E14 where the module declares it without `export`, E15 where it does not
-- declare it
abbrev pub member_fault : Option Item → Place → List Fault
member_fault None place = fault 15 place ∷ []
member_fault (Some i) place = if i.exported then [] else fault 14 place ∷ []

-- E14 and E15, at a name between the braces of an import of a known module
abbrev pub member_faults : List Source → Import → List Fault
member_faults ss i = if i.whole then [] else if is_known ss i.from then member_fault (item_named ss i.from i.name) i.place else []

abbrev pub unknown_members : List Source → List Fault
unknown_members ss = flat_map (member_faults ss) (flat_map (λ s. imports s.tree) ss)

-- E16, at an import whose module leads back to the module of its file
abbrev pub IsCircle : List Source → Fault → Type 0
IsCircle ss f =
    (s : Source) × Contains ss s × ((u : Node) × Contains s.tree.uses u × LeadsTo ss s.home (module_used u) × (f ≡ fault 16 (place_of u)))

-- a fault of the modules, imports and declarations of a program
pub data IsModuleFault (ss : List Source) (f : Fault) : Type 0 where
  unknown_module : Contains (unknown_modules ss) f → IsModuleFault ss f
  repeated_name : Contains (repeated_names ss) f → IsModuleFault ss f
  runtime_file : Contains (runtime_files ss) f → IsModuleFault ss f
  unknown_member : Contains (unknown_members ss) f → IsModuleFault ss f
  circle : IsCircle ss f → IsModuleFault ss f
