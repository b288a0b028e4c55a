-- `null` is a tree of the grammar.
use Rattle.std.proofs.Common.{◌≡◌, IsTrue, ℕ, List, [], refl}
use Rattle.hare_tree.specs.declared.kind.Kind.TheVariants as ki
use Rattle.hare_tree.specs.declared.place.Place.{Place}
use Rattle.hare_tree.specs.declared.token.Suffix.TheVariants as suffix
use Rattle.hare_tree.specs.Node.{Node, branch, nodes_of}
use Rattle.hare_tree.specs.Shape.{is_shaped}
use Rattle.hare_rules.specs.Finished.{expression}

null_here : (p : Place) → IsTrue (is_shaped expression (branch (record {
  kind = ki.Null;
  place = p;
  text = [];
  number =
      0;
  suffix = suffix.None;
}) (nodes_of [])))
unfolding is_shaped
null_here p = refl

pub null_is_shaped : (p : Place) (text : List ℕ) (kids : List Node) → text ≡ [] → kids ≡ [] →
    IsTrue (is_shaped expression (branch (record {
      kind = ki.Null;
      place = p;
      text = text;
      number = 0;
      suffix =
          suffix.None;
    }) (nodes_of kids)))
null_is_shaped p text kids e d = rw (e, d) (null_here p)
