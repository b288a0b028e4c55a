-- Which modules lead to which, by the imports of their files.
use Rattle.std.specs.Prelude.{◌≡◌, List, Contains}
use Rattle.hare_tree.specs.Node.{Node}
use Rattle.hare_modules.specs.Modules.{Module, Source}
use Rattle.hare_modules.specs.Uses.{module_used}

-- some file of the first module imports the second, or members of it
abbrev pub Imports : List Source → Module → Module → Type 0
Imports ss m n = (s : Source) × Contains ss s × (s.home ≡ m) × ((u : Node) × Contains s.tree.uses u × (module_used u ≡ n))

-- the module is the goal, or imports one that leads to it
pub data LeadsTo (ss : List Source) (goal : Module) : Module → Type 0 where
  there : LeadsTo ss goal goal
  onward : (m n : Module) → Imports ss m n → LeadsTo ss goal n → LeadsTo ss goal m
