-- The words in which `spell` speaks of what it has left to put. No public clause cites them.
use Rattle.std.specs.Prelude.{ℕ, suc, ◌+◌, ◌-◌, min, List, [], ◌∷◌, ◌++◌, length, drop}
use Rattle.hare_tree.specs.declared.token.Token.{Token}
use Rattle.hare_tree.specs.declared.form.Piece.{Piece}
use Rattle.hare_tree.specs.declared.form.Piece.TheVariants as pi
use Rattle.hare_tree.specs.declared.unparse.left.Pieces.{Pieces}
use Rattle.hare_tree.specs.declared.unparse.left.Entry.{Entry}
use Rattle.hare_tree.specs.declared.unparse.left.Entry.TheVariants as en
use Rattle.hare_tree.specs.Node.{Node, Nodes, branch, none, more, head, kids_of, nodes_of}
use Rattle.hare_tree.specs.Forms.{form_of}
use Rattle.hare_tree.specs.Spell.{sign_token, all_led, pieces_tokens, spells, kids_spelled}
use Rattle.hare_tree.specs.Judged.{nodes_from}

-- ---- tokens

-- the tokens of the pieces of a tree's form from one on
abbrev pub form_tokens : ℕ → Pieces → List Token
form_tokens f p = pieces_tokens f (head p.tree.now) (drop p.piece (form_of (head p.tree.now).kind)) (drop p.kid (kids_spelled f p.tree.now))

-- the tokens of an entry
abbrev pub entry_tokens : ℕ → Entry → List Token
entry_tokens f (en.Sign s) = sign_token f s ∷ []
entry_tokens f (en.Row r) = all_led f r.lead (drop r.from (spells f (nodes_of r.kids.now)))
entry_tokens f (en.Pieces p) = form_tokens f p

-- the tokens of a stack, whose last entry is put first
abbrev pub left_tokens : ℕ → List Entry → List Token
left_tokens f [] = []
left_tokens f (e ∷ es) = left_tokens f es ++ entry_tokens f e

-- ---- weights: how many steps it takes at most

abbrev mutual
  pub weight : Node → ℕ
  weight (branch h ts) = suc (length (form_of h.kind) + weights ts)

  pub weights : Nodes → ℕ
  weights none = 0
  weights (more t ts) = suc (suc (weight t)) + weights ts

-- the pieces of a tree's form from one on
abbrev pub form_weight : Pieces → ℕ
form_weight p = suc ((length (form_of (head p.tree.now).kind) - p.piece) + weights (nodes_from p.kid (kids_of p.tree.now)))

abbrev pub entry_weight : Entry → ℕ
entry_weight (en.Sign s) = 1
entry_weight (en.Row r) = suc (weights (nodes_from r.from (nodes_of r.kids.now)))
entry_weight (en.Pieces p) = form_weight p

abbrev pub left_weight : List Entry → ℕ
left_weight [] = 0
left_weight (e ∷ es) = left_weight es + entry_weight e

-- ---- kids

abbrev pub count_of : Nodes → ℕ
count_of none = 0
count_of (more t ts) = suc (count_of ts)

-- the number of the first kid that a piece leaves, of so many kids
abbrev pub kid_behind : Piece → ℕ → ℕ → ℕ
kid_behind (pi.Fixed s) i n = i
kid_behind (pi.Own o) i n = i
kid_behind (pi.Kid s) i n = min (i + 1) n
kid_behind (pi.Optional s) i n = min (i + 1) n
kid_behind (pi.Led c s) i n = min (i + 1) n
kid_behind (pi.Followed s c) i n = min (i + 1) n
kid_behind (pi.Value s) i n = min (i + 1) n
kid_behind (pi.Each s) i n = n
kid_behind (pi.EachLed c s) i n = n
kid_behind (pi.EachFollowed s c) i n = n
kid_behind (pi.More s) i n = n
kid_behind (pi.List s) i n = n
kid_behind (pi.Elements s) i n = n
kid_behind (pi.MoreElements s) i n = n
