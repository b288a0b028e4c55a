-- The two limits on depth, by the letter: which trees keep them, and at which tokens of a tree's spelling they are passed.
--
-- Types, expressions and statements are the nodes. A node is open round another where it is an ancestor of it and does not begin with the
-- same token as an operator or postfix node over it. A node with 256 nodes open round it is too deep, at its first token. An operator or
-- postfix node whose left operand has height 256 is too deep, at its operator. The height of a node is 1 and the greatest height of its
-- kids.
use Rattle.std.specs.Prelude.{ℕ, ◌+◌, max, List, [], ◌∷◌, ◌++◌, Bool, true, false, ◌&&◌, not, nat_le, length, take, if◌then◌else◌}
use Rattle.std.specs.List.{list_all}
use Rattle.hare_tree.specs.declared.kind.Kind.{Kind}
use Rattle.hare_tree.specs.declared.kind.Kind.TheVariants as ki
use Rattle.hare_tree.specs.declared.form.Piece.{Piece}
use Rattle.hare_tree.specs.declared.form.Piece.TheVariants as pi
use Rattle.hare_tree.specs.declared.form.Lead.{Lead}
use Rattle.hare_tree.specs.declared.form.Lead.TheVariants as le
use Rattle.hare_tree.specs.declared.form.Sign.TheVariants as si
use Rattle.hare_tree.specs.declared.form.Sort.{Sort}
use Rattle.hare_tree.specs.declared.tree.FileTree.{FileTree}
use Rattle.hare_tree.specs.Node.{Head, Node, Nodes, branch, none, more, nodes_of}
use Rattle.hare_tree.specs.Forms.{form_of}
use Rattle.hare_tree.specs.Spell.{Spelled, spell, spells, with_lead, stands_alone, value_lead, piece_tokens, left_behind}
use Rattle.hare_tree.specs.Shape.{is_shaped, is_shaped_file}

-- ---- nodes, operators, heights

-- what is no type, no expression and no statement, and hands on height
abbrev pub is_node : Kind → Bool
is_node ki.None = false
is_node ki.Use = false
is_node ki.UseAlias = false
is_node ki.UseNames = false
is_node ki.ImportPath = false
is_node ki.Def = false
is_node ki.GlobalLet = false
is_node ki.GlobalConst = false
is_node ki.TypeDecl = false
is_node ki.Fn = false
is_node ki.Params = false
is_node ki.Param = false
is_node ki.StructField = false
is_node ki.Name = false
is_node ki.Export = false
is_node ki.TrailingComma = false
is_node ki.Dots = false
is_node ki.ByRef = false
is_node ki.Spread = false
is_node ki.FieldValue = false
is_node ki.Binding = false
is_node ki.Case = false
is_node ki.PatternLet = false
is_node ki.PatternNull = false
is_node ki.SwitchCase = false
is_node ki.Values = false
is_node _ = true

-- binary operators, assignments, casts and postfix forms: their first kid is their left operand
abbrev pub is_operator : Kind → Bool
is_operator ki.Arith = true
is_operator ki.Shift = true
is_operator ki.Less = true
is_operator ki.Equal = true
is_operator ki.Logic = true
is_operator ki.OpAssign = true
is_operator ki.Assign = true
is_operator ki.Cast = true
is_operator ki.As = true
is_operator ki.Is = true
is_operator ki.Call = true
is_operator ki.Index = true
is_operator ki.Slice = true
is_operator ki.Field = true
is_operator ki.Try = true
is_operator ki.Force = true
is_operator _ = false

abbrev pub counted : Kind → ℕ
counted k = if is_node k then 1 else 0

unfoldable mutual
  pub height : Node → ℕ
  height (branch h ts) = counted h.kind + greatest_height ts

  pub greatest_height : Nodes → ℕ
  greatest_height none = 0
  greatest_height (more t ts) = max (height t) (greatest_height ts)

-- the height of the first kid
abbrev pub left_height : Nodes → ℕ
left_height none = 0
left_height (more t ts) = height t

-- ---- places in the spelling

-- how many tokens stand in front of a kid's own
abbrev pub lead_length : Lead → Spelled → ℕ
lead_length le.Nothing u = 0
lead_length (le.Before s) u = if stands_alone u.0 then 0 else 1
lead_length (le.Behind s) u = 0

-- where the tokens of kids begin, of which the first stand behind `n` tokens
abbrev pub begins_led : Lead → ℕ → List Spelled → List ℕ
begins_led l n [] = []
begins_led l n (u ∷ us) = (n + lead_length l u) ∷ begins_led l (n + length (with_lead 0 l u)) us

abbrev pub begins_listed : ℕ → List Spelled → List ℕ
begins_listed n [] = []
begins_listed n (u ∷ us) = n ∷ begins_led (le.Before si.Comma) (n + length u.1) us

abbrev pub begins_in : Head → Piece → ℕ → List Spelled → List ℕ
begins_in h (pi.Fixed s) n us = []
begins_in h (pi.Own o) n us = []
begins_in h (pi.Kid s) n us = begins_led le.Nothing n (take 1 us)
begins_in h (pi.Optional s) n us = begins_led le.Nothing n (take 1 us)
begins_in h (pi.Led c s) n us = begins_led (le.Before c) n (take 1 us)
begins_in h (pi.Followed s c) n us = begins_led (le.Behind c) n (take 1 us)
begins_in h (pi.Value s) n us = begins_led (value_lead h.text) n (take 1 us)
begins_in h (pi.Each s) n us = begins_led le.Nothing n us
begins_in h (pi.EachLed c s) n us = begins_led (le.Before c) n us
begins_in h (pi.EachFollowed s c) n us = begins_led (le.Behind c) n us
begins_in h (pi.More s) n us = begins_led (le.Before si.Comma) n us
begins_in h (pi.List s) n us = begins_listed n us
begins_in h (pi.Elements s) n us = begins_listed n us
begins_in h (pi.MoreElements s) n us = begins_led (le.Before si.Comma) n us

-- where the tokens of each kid begin, where those of the pieces begin behind `n` tokens
abbrev pub begins : Head → List Piece → ℕ → List Spelled → List ℕ
begins h [] n us = []
begins h (p ∷ ps) n us = begins_in h p n us ++ begins h ps (n + length (piece_tokens 0 h p us)) (left_behind p us)

-- the first number of a list, and the numbers behind it
abbrev pub first_number : List ℕ → ℕ
first_number [] = 0
first_number (n ∷ ns) = n

abbrev pub numbers_behind : List ℕ → List ℕ
numbers_behind [] = []
numbers_behind (n ∷ ns) = ns

-- where a node has its place: at its operator, which stands behind the left operand, or else at its first token
abbrev pub place_in : Head → Nodes → ℕ
place_in h none = 0
place_in h (more t ts) = if is_operator h.kind then length (spell 0 t) else 0

-- ---- limits

-- the nodes open round the kids, where `opened` are open round the node, and it is or is not the left operand of an operator
abbrev pub open_within : ℕ → Bool → Kind → ℕ
open_within opened is_left k = if is_node k && not is_left then opened + 1 else opened

-- the tokens at which a limit is passed, of a node that begins behind `n` tokens
abbrev pub node_faults : ℕ → ℕ → Head → Nodes → List ℕ
node_faults n opened h ts =
    (if is_node h.kind && nat_le 256 opened then n ∷ [] else [])
    ++ (if is_operator h.kind && nat_le 256 (left_height ts) then (n + place_in h ts) ∷ [] else [])

unfoldable mutual
  -- The tokens at which a tree passes a limit; the tree begins behind `n` tokens, and `opened` nodes are open round it.
  pub deep : ℕ → ℕ → Bool → Node → List ℕ
  deep n opened is_left (branch h ts) =
      node_faults n opened h ts ++ deep_each (begins h (form_of h.kind) n (spells 0 ts)) (open_within opened is_left h.kind)
      (is_operator h.kind) ts

  pub deep_each : List ℕ → ℕ → Bool → Nodes → List ℕ
  deep_each ns opened is_left none = []
  deep_each ns opened is_left (more t ts) = deep (first_number ns) opened is_left t ++ deep_each (numbers_behind ns) opened false ts

-- the tokens of a root at which it passes a limit
abbrev pub deep_root : Node → List ℕ
deep_root t = deep 0 0 false t

-- of trees side by side
abbrev pub deep_all : ℕ → List Node → List ℕ
deep_all n ts = deep_each (begins_led le.Nothing n (spells 0 (nodes_of ts))) 0 false (nodes_of ts)

abbrev pub is_nil : List ℕ → Bool
is_nil [] = true
is_nil (n ∷ ns) = false

-- the tree keeps both limits
abbrev pub is_shallow : Node → Bool
is_shallow t = is_nil (deep_root t)

-- the tree is of this sort in the language: it is shaped, and keeps the limits
abbrev pub fits_as : Sort → Node → Bool
fits_as s t = is_shaped s t && is_shallow t

-- a file is in the language where it is shaped and each of its trees keeps the limits
abbrev pub fits_file : FileTree → Bool
fits_file t = is_shaped_file t && list_all is_shallow t.uses && list_all is_shallow t.decls
