-- The steps of small programs, worked out by hand. A path's column is the number of the declaration that it means.
use Rattle.std.proofs.Common.{◌≡◌, List, [], ◌∷◌, refl}
use Rattle.hare_tree.specs.Node.{Node}
use Rattle.hare_rules.specs.Context.{Ordinary, BindingType}
use Rattle.hare_depends.proofs.Samples.{absent, type_path, path, by_column, type_decl, def, global, function, param, pointer, array}
use Rattle.hare_whole.specs.Listing.{Listing, written_types}
use Rattle.hare_whole.specs.Turns.{Types, Value, Done, early, turn}

abbrev listing : List Node → Listing
listing ts = record { decls = ts; means = by_column }

-- ---- a type: what is written in it

abbrev a_type : Node
a_type = type_decl (pointer (type_path 0))

type_turn : turn (listing (a_type ∷ [])) [] 0 a_type ≡ Types 0 ∷ Done 0 ∷ []
type_turn = refl

type_written : written_types a_type ≡ (Ordinary, pointer (type_path 0)) ∷ []
type_written = refl

-- ---- a function: the types of its parameters, and then its result's

abbrev a_function : Node
a_function = function (param (type_path 0) ∷ param (type_path 1) ∷ []) (type_path 2) (path 3)

function_written :
    written_types a_function ≡ (BindingType, type_path 0) ∷ (BindingType, type_path 1) ∷ (Ordinary, type_path 2) ∷ []
function_written = refl

-- ---- a def without a type has nothing written, and a value

abbrev a_def : Node
a_def = def absent (path 0)

def_turn : turn (listing (a_def ∷ [])) [] 0 a_def ≡ Types 0 ∷ Value 0 ∷ Done 0 ∷ []
def_turn = refl

def_written : written_types a_def ≡ []
def_written = refl

-- ---- globals with types that point at each other: the type of the other is judged right before the value that names it, and not again at
-- its turn

abbrev first_global : Node
first_global = global (pointer (type_path 9)) (path 1)

abbrev other_global : Node
other_global = global (pointer (type_path 9)) (path 0)

abbrev two_globals : Listing
two_globals = listing (first_global ∷ other_global ∷ [])

first_turn : turn two_globals [] 0 first_global ≡ Types 0 ∷ Types 1 ∷ Value 0 ∷ Done 0 ∷ []
first_turn = refl

other_turn : turn two_globals (0 ∷ 1 ∷ []) 1 other_global ≡ Value 1 ∷ Done 1 ∷ []
other_turn = refl

-- ---- a global that names itself has had its type judged

abbrev own_global : Node
own_global = global (pointer (type_path 9)) (path 0)

own_turn : turn (listing (own_global ∷ [])) [] 0 own_global ≡ Types 0 ∷ Value 0 ∷ Done 0 ∷ []
own_turn = refl

-- ---- several are judged in the order of the source, each once

abbrev three_globals : Listing
three_globals =
    listing (global (type_path 9) (array (path 2) (array (path 1) (path 2))) ∷ global (type_path 9) (path 9) ∷ global (type_path 9) (path 9)
    ∷ [])

several : early three_globals (0 ∷ []) (global (type_path 9) (array (path 2) (array (path 1) (path 2)))) ≡ 1 ∷ 2 ∷ []
several = refl
