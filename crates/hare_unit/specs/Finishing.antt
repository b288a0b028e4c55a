-- Where the finishing of all declarations stands. No public clause cites this.
use Rattle.std.specs.Prelude.{◌≡◌, ◌≢◌, ℕ, List, ◌++◌, take, reverse, Option, None, IsSome}
use Rattle.std.specs.Option.{option_to_list}
use Rattle.hare_tree.specs.Node.{Node}
use Rattle.hare_types.specs.Store.{Store}
use Rattle.hare_typed.specs.Typed.{TypedNode}
use Rattle.hare_depends.specs.declared.said.Sort.TheVariants as so
use Rattle.hare_depends.specs.Sorts.{sort_of}
use Rattle.hare_declarations.specs.declared.parts.Parts.{Parts}
use Rattle.hare_joined.specs.Joined.{AreFinished}

-- a function takes the last body of those that are left, any other declaration none
pub record TakesBody (t : Node) (old new : List TypedNode) (b : Option TypedNode) : Type 0 where
  pub rest : old ≡ new ++ option_to_list b
  pub function : sort_of t ≡ so.Function → IsSome b
  pub other : sort_of t ≢ so.Function → b ≡ None

-- The first of these declarations, so many, have been finished; parts and bodies of the others are left, the next at the end.
pub record AreFinishedTo (s : Store) (ts : List Node) (qs : List Parts) (bs : List TypedNode) (n : ℕ) (parts : List Parts)
    (bodies ds : List TypedNode) :
    Type 0 where
  pub used : List Parts
  pub taken : List TypedNode
  pub finished : AreFinished s (take n ts) used taken ds
  pub parts_left : qs ≡ used ++ reverse parts
  pub bodies_left : bs ≡ taken ++ reverse bodies
