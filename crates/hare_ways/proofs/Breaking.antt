-- How the form of a tree is broken, from its parts.
use Rattle.std.proofs.Common.{◌≡◌, ℕ, List, Bool, refl, if◌then◌else◌}
use Rattle.hare_tree.specs.declared.kind.Kind.{Kind}
use Rattle.hare_tree.specs.Node.{Node, head, kids_of}
use Rattle.hare_tree.specs.Spell.{kids_spelled}
use Rattle.hare_ways.specs.Breaks.{is_case, breaks_of}
use Rattle.hare_ways.specs.Parts.{items_of}
use Rattle.hare_ways.specs.Broken.{is_broken_node, case_has_own_lines, adds_comma}

pub breaks-parts : (cs : List ℕ) (n : ℕ) (t : Node) (k : Kind) (brackets statements comma : Bool) → k ≡ (head t).kind
    → brackets ≡ is_broken_node cs n t → statements ≡ (if is_case (head t).kind then case_has_own_lines cs n t else brackets)
    → comma ≡ adds_comma brackets t
    → record { kind = k; brackets = brackets; statements = statements; comma = comma }
    ≡ breaks_of cs (head t) n (kids_spelled 0 t) (items_of (kids_of t))
breaks-parts cs n t k brackets statements comma e f g h = rw (h, g, f, e) refl
