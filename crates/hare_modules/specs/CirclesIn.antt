-- Circles of imports by the numbers of modules.
use Rattle.std.specs.Prelude.{◌≡◌, ◌⊎◌, ℕ, ◌<◌, List, Bool, false, not, fold, Option, Some, None, Contains}
use Rattle.hare_tree.specs.declared.place.Fault.{Fault}
use Rattle.hare_modules.specs.Order.{fault, counts_before, TellsFirst}
use Rattle.hare_modules.specs.Uses.{place_of}
use Rattle.hare_graph.specs.Graphs.{Graph, Reached, edgeless, with_edge}
use Rattle.hare_modules.specs.Takings.{Using}

-- the graph with an import more
abbrev pub with_target : Graph → ℕ → Option ℕ → Graph
with_target g a None = g
with_target g a (Some b) = with_edge g a b

abbrev pub with_import : Graph → Using → Graph
with_import g u = with_target g u.home u.to

-- the other way round
abbrev pub with_source : Graph → ℕ → Option ℕ → Graph
with_source g a None = g
with_source g a (Some b) = with_edge g b a

abbrev pub with_import_back : Graph → Using → Graph
with_import_back g u = with_source g u.home u.to

-- the graph of imports, where there are so many modules
abbrev pub imports_graph : ℕ → List Using → Graph
imports_graph modules us = fold with_import (edgeless modules) us

abbrev pub imports_graph_back : ℕ → List Using → Graph
imports_graph_back modules us = fold with_import_back (edgeless modules) us

-- the modules of an import are among so many
pub record IsUsingWithin (modules : ℕ) (u : Using) : Type 0 where
  pub home : u.home < modules
  pub to : (n : ℕ) → u.to ≡ Some n → n < modules

abbrev pub AreUsingsWithin : ℕ → List Using → Type 0
AreUsingsWithin modules us = (u : Using) → Contains us u → IsUsingWithin modules u

-- the fault of an import whose module leads back to that of its file
pub record IsCircleAt (g : Graph) (u : Using) (f : Fault) : Type 0 where
  pub to : ℕ
  pub known : u.to ≡ Some to
  pub back : Reached g to u.home
  pub fault_is : f ≡ fault 16 (place_of u.tree)

abbrev pub IsCircleIn : Graph → List Using → Fault → Type 0
IsCircleIn g us f = (u : Using) × Contains us u × IsCircleAt g u f

-- ---- following imports

abbrev pub is_later : Option Fault → Fault → Bool
is_later None f = false
is_later (Some g) f = not (counts_before f g)

-- One import more was followed: what is found then tells the first of what was found before and of its circle.
abbrev pub Follows : Graph → Using → Option Fault → Option Fault → Type 0
Follows g u found new = TellsFirst (λ f. (found ≡ Some f) ⊎ IsCircleAt g u f) new
