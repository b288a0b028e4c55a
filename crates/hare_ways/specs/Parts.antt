-- What a piece of a form asks for, and the kids of a form from one of them on. No public clause cites it.
use Rattle.std.specs.Prelude.{ℕ, List, [], ◌∷◌, Bool}
use Rattle.hare_tree.specs.declared.kind.Kind.{Kind}
use Rattle.hare_tree.specs.declared.kind.Kind.TheVariants as ki
use Rattle.hare_tree.specs.declared.form.Sign.TheVariants as si
use Rattle.hare_tree.specs.declared.form.Piece.{Piece}
use Rattle.hare_tree.specs.declared.form.Piece.TheVariants as pi
use Rattle.hare_tree.specs.declared.form.Lead.TheVariants as le
use Rattle.hare_tree.specs.declared.token.Token.{Token}
use Rattle.hare_tree.specs.Node.{Head, Node, Nodes, none, more, head}
use Rattle.hare_tree.specs.Spell.{Spelled, sign_token, own_tokens, value_lead, one_led, all_led, listed}
use Rattle.hare_tree.specs.Shape.{stops}
use Rattle.hare_tree.specs.Judged.{nodes_from}
use Rattle.hare_ways.specs.declared.part.Part.{Part}
use Rattle.hare_ways.specs.declared.part.Part.TheVariants as pa
use Rattle.hare_ways.specs.Breaks.{Item, wants_behind}

-- ---- parts

-- what a piece asks for, of a form with this text
abbrev pub part_of : Piece → List ℕ → Part
part_of (pi.Fixed s) text = pa.Sign s
part_of (pi.Own o) text = pa.Own o
part_of (pi.Kid s) text = pa.One le.Nothing
part_of (pi.Optional s) text = pa.One le.Nothing
part_of (pi.Led c s) text = pa.One (le.Before c)
part_of (pi.Followed s c) text = pa.One (le.Behind c)
part_of (pi.Value s) text = pa.One (value_lead text)
part_of (pi.Each s) text = pa.All le.Nothing
part_of (pi.EachLed c s) text = pa.All (le.Before c)
part_of (pi.EachFollowed s c) text = pa.All (le.Behind c)
part_of (pi.More s) text = pa.All (le.Before si.Comma)
part_of (pi.List s) text = pa.Listed
part_of (pi.Elements s) text = pa.Listed
part_of (pi.MoreElements s) text = pa.All (le.Before si.Comma)

-- the tokens of a part, in front of which these kids are left
abbrev pub part_tokens : Head → Part → List Spelled → List Token
part_tokens h (pa.Sign s) us = sign_token 0 s ∷ []
part_tokens h (pa.Own o) us = own_tokens 0 h o
part_tokens h (pa.One l) us = one_led 0 l us
part_tokens h (pa.All l) us = all_led 0 l us
part_tokens h pa.Listed us = listed 0 us

-- ---- kids

-- the kids that are left behind a part
abbrev pub nodes_behind : Part → Nodes → Nodes
nodes_behind (pa.Sign s) ts = ts
nodes_behind (pa.Own o) ts = ts
nodes_behind (pa.One l) ts = nodes_from 1 ts
nodes_behind (pa.All l) ts = none
nodes_behind pa.Listed ts = none

abbrev pub first_kind : Nodes → Kind
first_kind none = ki.None
first_kind (more t ts) = (head t).kind

abbrev pub item_of : Node → Item
item_of t = record { kind = (head t).kind; ends = stops si.Comma t }

abbrev pub items_of : Nodes → List Item
items_of none = []
items_of (more t ts) = item_of t ∷ items_of ts

abbrev pub wants_behind_first : Bool → Nodes → Bool
wants_behind_first wants none = wants
wants_behind_first wants (more t ts) = wants_behind (head t).kind wants (stops si.Comma t)
