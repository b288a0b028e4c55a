-- To which blocks and cases values go at a node.
use Rattle.std.specs.Prelude.{◌≡◌, List, length}
use Rattle.hare_tree.specs.declared.kind.Kind.TheVariants as ki
use Rattle.hare_tree.specs.Node.{Head}
use Rattle.hare_rules.specs.Context.{Open}
use Rattle.hare_rules.specs.Control.{yield_level}
use Rattle.hare_find.specs.declared.yields.Levels.{Levels}

-- these are the levels of a node with this head, round which these labels stand
pub record AreLevels (ls : List Open) (h : Head) (x : Levels) : Type 0 where
  pub own : length ls ≡ x.own
  pub meant : h.kind ≡ ki.Yield → yield_level h.text ls ≡ x.meant
