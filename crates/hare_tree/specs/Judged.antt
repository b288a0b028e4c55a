-- The words in which the calls that judge a tree speak of it: from its root on, with its kids from one of them on. No public clause cites
-- them.
use Rattle.std.specs.Prelude.{ℕ, zero, suc, ◌+◌, List, [], ◌∷◌, Bool, true, false, ◌&&◌, nat_le, min, Option, Some, None, if◌then◌else◌}
use Rattle.hare_tree.specs.declared.kind.Kind.{Kind}
use Rattle.hare_tree.specs.declared.form.Sign.{Sign}
use Rattle.hare_tree.specs.declared.form.Sign.TheVariants as si
use Rattle.hare_tree.specs.declared.form.Sort.{Sort}
use Rattle.hare_tree.specs.declared.form.Piece.{Piece}
use Rattle.hare_tree.specs.declared.form.Piece.TheVariants as pi
use Rattle.hare_tree.specs.declared.form.Own.TheVariants as ow
use Rattle.hare_tree.specs.declared.edge.Ends.{Ends}
use Rattle.hare_tree.specs.declared.shape.At.{At}
use Rattle.hare_tree.specs.declared.shape.Step.{Step}
use Rattle.hare_tree.specs.declared.shape.Step.TheVariants as st
use Rattle.hare_tree.specs.Node.{Head, Node, Nodes, none, more, head}
use Rattle.hare_tree.specs.Spell.{parts_from}
use Rattle.hare_tree.specs.Levels.{level}
use Rattle.hare_tree.specs.Shape.{is_shaped, are_kids, are_names, kid_pieces, kids_end, stops, stops_each, form_stops, Edge, edges, ends_before, behind_item, is_none, is_absent, is_leaf, is_none_or_comma, is_none_or_dots}
use Rattle.hare_tree.specs.Depth.{height, greatest_height, deep, deep_each, is_nil, is_operator}

-- the kids from one on
abbrev pub nodes_from : ℕ → Nodes → Nodes
nodes_from zero ts = ts
nodes_from (suc i) none = none
nodes_from (suc i) (more t ts) = nodes_from i ts

-- the kind of the first kid
abbrev pub first_kind : Nodes → Option Kind
first_kind none = None
first_kind (more t ts) = Some (head t).kind

-- ---- shape

-- of the sort, shaped, and no higher than so many nodes
abbrev pub is_low : ℕ → Sort → Node → Bool
is_low room s t = is_shaped s t && nat_le (height t) room

abbrev pub ends_of : Node → Ends
ends_of t = record { before_else = stops si.Else t; before_comma = stops si.Comma t }

-- before both signs
abbrev pub both : Ends
both = record { before_else = true; before_comma = true }

-- a low tree, by where it ends
abbrev pub judged_tree : ℕ → Sort → Node → Option Ends
judged_tree room s t = if is_low room s t then Some (ends_of t) else None

-- a tree as a kid, with where it ends
abbrev pub edge_of : Node → Edge
edge_of t = record { kind = (head t).kind; before_else = stops si.Else t; before_comma = stops si.Comma t }

-- the first kid, which is low and ends before the sign; the kid behind it is the next
abbrev pub judged_first : ℕ → Sort → Option Sign → ℕ → Nodes → Option At
judged_first room s c i none = None
judged_first room s c i (more t ts) =
    if is_low room s t && ends_before c (edge_of t) then Some record { kid = i + 1; ends = ends_of t } else None

-- the same of a kid that may be absent; then what stands before it ends there
abbrev pub judged_optional : ℕ → Sort → Option Sign → At → Nodes → Option At
judged_optional room s c at none = None
judged_optional room s c at (more t ts) =
    if is_none (head t).kind then (if is_absent t then Some record { kid = at.kid + 1; ends = at.ends } else None)
    else judged_first room s c at.kid (more t ts)

-- the same of a kid behind which a sign stands
abbrev pub judged_followed : ℕ → Sort → At → Nodes → Option At
judged_followed room s at none = None
judged_followed room s at (more t ts) =
    if is_none (head t).kind then (if is_absent t then Some record { kid = at.kid + 1; ends = at.ends } else None)
    else (if is_low room s t then Some record { kid = at.kid + 1; ends = both } else None)

-- the kids are low, and those of these pieces of a form with this level
abbrev pub are_low : ℕ → ℕ → List Piece → Nodes → Bool
are_low room n ps ts = are_kids n (kid_pieces ps) ts && (kids_end ps (edges ts) && nat_le (greatest_height ts) room)

abbrev pub form_ends : Head → Ends → List Piece → Nodes → Ends
form_ends h e ps ts = record {
  before_else = form_stops si.Else h e.before_else ps (stops_each si.Else ts);
  before_comma = form_stops si.Comma h e.before_comma ps (stops_each si.Comma ts);
}

-- what is left of a form and of the kids, by where they end
abbrev pub judged : ℕ → Head → Ends → List Piece → Nodes → Option Ends
judged room h e ps ts = if are_low room (level h.kind h.text) ps ts then Some (form_ends h e ps ts) else None

-- what is left behind a piece
abbrev pub judged_behind : ℕ → Head → List Piece → Nodes → Option Step → Option Ends
judged_behind room h ps ts None = None
judged_behind room h ps ts (Some (st.Next at)) = judged room h at.ends ps (nodes_from at.kid ts)
judged_behind room h ps ts (Some st.Last) = Some both

-- ---- the left edge

-- the form begins with a label
abbrev pub begins_with_label : List Piece → Bool
begins_with_label (pi.Own ow.Label ∷ ps) = true
begins_with_label _ = false

-- the form begins with a kid
abbrev pub begins_with_kid : List Piece → Bool
begins_with_kid (pi.Kid s ∷ ps) = true
begins_with_kid _ = false

-- ---- lists

-- each kid is low
abbrev pub all_low : ℕ → Sort → Nodes → Bool
all_low room s none = true
all_low room s (more t ts) = is_low room s t && all_low room s ts

-- the first kid is low
abbrev pub kid_low : ℕ → Sort → Nodes → Bool
kid_low room s none = false
kid_low room s (more t ts) = is_low room s t

-- the first kid is an item of a list
abbrev pub item_low : ℕ → Sort → Nodes → Bool
item_low room s none = false
item_low room s (more t ts) = is_low room s t && ends_before (behind_item (edges ts)) (edge_of t)

-- items, and last of all a comma or nothing
abbrev pub more_low : ℕ → Sort → Nodes → Bool
more_low room s none = false
more_low room s (more t none) = is_leaf is_none_or_comma t
more_low room s (more t (more u ts)) = item_low room s (more t (more u ts)) && more_low room s (more u ts)

-- nothing, or such a list
abbrev pub list_low : ℕ → Sort → Nodes → Bool
list_low room s none = false
list_low room s (more t none) = is_absent t
list_low room s (more t (more u ts)) = more_low room s (more t (more u ts))

-- items, then `...` or nothing, and last of all a comma or nothing
abbrev pub more_elements_low : ℕ → Sort → Nodes → Bool
more_elements_low room s none = false
more_elements_low room s (more t none) = false
more_elements_low room s (more t (more u none)) = is_leaf is_none_or_dots t && is_leaf is_none_or_comma u
more_elements_low room s (more t (more u (more v ts))) =
    item_low room s (more t (more u (more v ts))) && more_elements_low room s (more u (more v ts))

-- nothing, or such elements
abbrev pub elements_low : ℕ → Sort → Nodes → Bool
elements_low room s none = false
elements_low room s (more t none) = false
elements_low room s (more t (more u none)) = is_absent t && is_absent u
elements_low room s (more t (more u (more v ts))) = more_elements_low room s (more t (more u (more v ts)))

-- the first kid is a leaf of such a kind that says nothing else
abbrev pub first_is : (Kind → Bool) → Nodes → Bool
first_is p none = false
first_is p (more t ts) = is_leaf p t

-- ---- paths

-- the part in hand and the bytes behind it are names with `::` between them
abbrev pub names_left : Bool → Bool → List ℕ → List ℕ → Bool
names_left behind_path taken part left = are_names behind_path (parts_from taken part left)

-- ---- depth

-- the tree keeps the limits, and is no higher than so many nodes
abbrev pub keeps_low : ℕ → ℕ → Bool → Node → Bool
keeps_low room opened is_left t = is_nil (deep 0 opened is_left t) && nat_le (height t) room

-- the same of kids, of which the first is or is not a left operand
abbrev pub keep_low : ℕ → ℕ → Bool → Nodes → Bool
keep_low room opened is_left ts = is_nil (deep_each [] opened is_left ts) && nat_le (greatest_height ts) room

-- the first kid, if there is one, does so
abbrev pub kid_keeps : ℕ → ℕ → Bool → Nodes → Bool
kid_keeps room opened is_left none = true
kid_keeps room opened is_left (more t ts) = keeps_low room opened is_left t

-- how high the first kid of a tree may be where its kids may be so high
abbrev pub left_room : ℕ → Kind → ℕ
left_room room k = if is_operator k then min room 255 else room
