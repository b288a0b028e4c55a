-- Where kids end in an operand: behind a leaf and behind a tree that is closed, where these are nodes.
use Rattle.std.proofs.Common.{◌≡◌, List, [], ◌∷◌, ◌++◌, true, ◌∙◌}
use Rattle.hare_tree.specs.declared.kind.Kind.{Kind}
use Rattle.hare_tree.specs.Depth.{is_node}
use Rattle.hare_prefixes.proofs.Outcomes.Breaks.{both}
use Rattle.hare_nesting.specs.Marks.{Mark, Frame, mark_as}
use Rattle.hare_nesting.proofs.UnderWay.Stacks.{is_ordered, ends_in_operand}
use Rattle.hare_nesting.proofs.UnderWay.Grown.{is_behind}
use Rattle.hare_nesting.proofs.UnderWay.Over.{operand_last}
use Rattle.hare_nesting.proofs.UnderWay.Orders.{close_behind}

pub put_operand : (m : Mark) (f : Frame) → m.node ≡ true → is_behind f.at f.kids m ≡ true → ends_in_operand f.at (f.kids ++ m ∷ []) ≡ true
put_operand m f e i = operand_last f.at f.kids m ∙ both m.node (is_behind f.at f.kids m) e i

pub close_operand : (k : Kind) (f g : Frame) (fs : List Frame) → is_node k ≡ true → is_ordered (f ∷ g ∷ fs) ≡ true →
    ends_in_operand g.at (g.kids ++ mark_as k f.at f.kids ∷ []) ≡ true
close_operand k f g fs e i = put_operand (mark_as k f.at f.kids) g e (close_behind k f g fs i)
