-- The way of each token, from the tree: by one recursion beside the one that spells it.
use Rattle.std.specs.Prelude.{◌≡◌, ℕ, ◌+◌, List, [], ◌∷◌, ◌++◌, Bool, true, false, ◌&&◌, ◌||◌, not, map, length, take, drop, if◌then◌else◌}
use Rattle.std.specs.List.{flat_map}
use Rattle.hare_tree.specs.declared.kind.Kind.{Kind}
use Rattle.hare_tree.specs.declared.form.Sign.{Sign}
use Rattle.hare_tree.specs.declared.form.Sign.TheVariants as si
use Rattle.hare_tree.specs.declared.form.Own.{Own}
use Rattle.hare_tree.specs.declared.form.Own.TheVariants as ow
use Rattle.hare_tree.specs.declared.form.Piece.{Piece}
use Rattle.hare_tree.specs.declared.form.Piece.TheVariants as pi
use Rattle.hare_tree.specs.declared.form.Lead.{Lead}
use Rattle.hare_tree.specs.declared.form.Lead.TheVariants as le
use Rattle.hare_tree.specs.declared.tree.FileTree.{FileTree}
use Rattle.hare_tree.specs.Node.{Head, Node, Nodes, branch, none, more, head, nodes_of}
use Rattle.hare_tree.specs.Signs.{is_sign}
use Rattle.hare_tree.specs.Forms.{form_of}
use Rattle.hare_tree.specs.Spell.{Spelled, parts, spell, spells, spell_all, spell_file, stands_alone, value_lead, left_behind}
use Rattle.hare_tree.specs.Depth.{begins, begins_led, first_number, numbers_behind}
use Rattle.hare_tree.specs.Shape.{stops}
use Rattle.hare_ways.specs.declared.way.Start.{Start}
use Rattle.hare_ways.specs.declared.way.Start.TheVariants.{Within, Begins, Outdented}
use Rattle.hare_ways.specs.declared.way.Way.{Way}
use Rattle.hare_ways.specs.Joins.{joins_before, joins_behind}
use Rattle.hare_ways.specs.declared.breaks.Breaks.{Breaks}
use Rattle.hare_ways.specs.Breaks.{Item, breaks_of, opening, closing, is_braced}

-- ---- tokens

-- a token with a blank on both sides
abbrev pub plain : Way
plain = record { start = Within; depth = 0; joins_before = false; joins_behind = false; comma = false }

-- a sign in a form of the kind
abbrev pub sign_way : Kind → Sign → Way
sign_way k s = record { start = Within; depth = 0; joins_before = joins_before s k; joins_behind = joins_behind s k; comma = false }

-- names with `::` between them
abbrev pub path_ways : Kind → List (List ℕ) → List Way
path_ways k [] = []
path_ways k (part ∷ []) = plain ∷ []
path_ways k (part ∷ part' ∷ rest) = plain ∷ sign_way k si.PathMark ∷ path_ways k (part' ∷ rest)

-- a label, whose `:` stands directly in front of its name
abbrev pub label_ways : List ℕ → List Way
label_ways [] = []
label_ways (c ∷ s) = record { start = Within; depth = 0; joins_before = false; joins_behind = true; comma = false } ∷ plain ∷ []

-- a tree's own tokens
abbrev pub own_ways : Head → Own → List Way
own_ways h ow.Nothing = []
own_ways h ow.Path = path_ways h.kind (parts h.text)
own_ways h ow.Label = label_ways h.text
own_ways h _ = plain ∷ []

-- ---- lines and tabs

-- the first token begins a line so
abbrev pub starting : Start → List Way → List Way
starting s [] = []
starting s (w ∷ ws) =
    record { start = s; depth = w.depth; joins_before = w.joins_before; joins_behind = w.joins_behind; comma = w.comma } ∷ ws

-- one more broken list or brace is open
abbrev pub deeper : Way → Way
deeper w = record { start = w.start; depth = w.depth + 1; joins_before = w.joins_before; joins_behind = w.joins_behind; comma = w.comma }

-- Between broken brackets each item begins a line, and each case, which has one tab less than a statement there would have.
abbrev pub item_start : Breaks → Bool → Start
item_start b inside = if b.brackets && inside then (if is_braced b.kind then Outdented else Begins) else Within

abbrev pub statement_start : Breaks → Start
statement_start b = if b.statements then Begins else Within

-- The closing bracket: of broken ones it begins a line with one tab less, and a comma is added before it or not. Empty braces are `{}`.
abbrev pub closing_way : Breaks → Sign → Way
closing_way b s =
    if b.brackets then record {
      start = Outdented;
      depth = 0;
      joins_before = joins_before s b.kind;
      joins_behind = joins_behind s b.kind;
      comma = b.comma;
    }
    else record {
      start = Within;
      depth = 0;
      joins_before = joins_before s b.kind || is_braced b.kind;
      joins_behind = joins_behind s b.kind;
      comma = false;
    }

abbrev pub fixed_way : Breaks → Bool → Sign → Way
fixed_way b inside s = if inside && is_sign s (closing b.kind) then closing_way b s else sign_way b.kind s

-- ---- kids

-- a kid: its item, and the ways of its tokens
pub record Laid : Type 0 where
  pub item : Item
  pub ways : List Way

-- a kid with the sign that stands with it
abbrev pub led_ways : Kind → Start → Lead → Laid → List Way
led_ways k s le.Nothing u = starting s u.ways
led_ways k s (le.Before c) u = if stands_alone u.item.kind then u.ways else sign_way k c ∷ starting s u.ways
led_ways k s (le.Behind c) u = if stands_alone u.item.kind then u.ways else starting s u.ways ++ sign_way k c ∷ []

abbrev pub all_ways : Kind → Start → Lead → List Laid → List Way
all_ways k s l us = flat_map (led_ways k s l) us

abbrev pub one_way : Kind → Start → Lead → List Laid → List Way
one_way k s l us = all_ways k s l (take 1 us)

-- items with a comma before each but the first
abbrev pub listed_ways : Kind → Start → List Laid → List Way
listed_ways k s us = one_way k s le.Nothing us ++ all_ways k s (le.Before si.Comma) (drop 1 us)

-- the ways of a piece of a form, in front of which these kids are left; it stands inside the form's brackets or not
abbrev pub piece_ways : Head → Breaks → Bool → Piece → List Laid → List Way
piece_ways h b inside (pi.Fixed s) us = fixed_way b inside s ∷ []
piece_ways h b inside (pi.Own o) us = own_ways h o
piece_ways h b inside (pi.Kid s) us = one_way h.kind (item_start b inside) le.Nothing us
piece_ways h b inside (pi.Optional s) us = one_way h.kind Within le.Nothing us
piece_ways h b inside (pi.Led c s) us = one_way h.kind Within (le.Before c) us
piece_ways h b inside (pi.Followed s c) us = one_way h.kind Within (le.Behind c) us
piece_ways h b inside (pi.Value s) us = one_way h.kind Within (value_lead h.text) us
piece_ways h b inside (pi.Each s) us = all_ways h.kind (item_start b inside) le.Nothing us
piece_ways h b inside (pi.EachLed c s) us = all_ways h.kind Within (le.Before c) us
piece_ways h b inside (pi.EachFollowed s c) us = all_ways h.kind (statement_start b) (le.Behind c) us
piece_ways h b inside (pi.More s) us = all_ways h.kind (item_start b inside) (le.Before si.Comma) us
piece_ways h b inside (pi.List s) us = listed_ways h.kind (item_start b inside) us
piece_ways h b inside (pi.Elements s) us = listed_ways h.kind (item_start b inside) us
piece_ways h b inside (pi.MoreElements s) us = all_ways h.kind (item_start b inside) (le.Before si.Comma) us

-- what stands behind a piece stands inside the brackets
abbrev pub inside_behind : Breaks → Bool → Piece → Bool
inside_behind b inside (pi.Fixed s) = if inside then not (is_sign s (closing b.kind)) else is_sign s (opening b.kind)
inside_behind b inside _ = inside

-- inside broken brackets all is one deeper, the closing one too
abbrev pub within_brackets : Breaks → Bool → List Way → List Way
within_brackets b inside ws = if b.brackets && inside then map deeper ws else ws

abbrev pub pieces_ways : Head → Breaks → Bool → List Piece → List Laid → List Way
pieces_ways h b inside [] us = []
pieces_ways h b inside (p ∷ ps) us =
    within_brackets b inside (piece_ways h b inside p us) ++ pieces_ways h b (inside_behind b inside p) ps (left_behind p us)

-- ---- trees

-- a tree of which these are the kids, behind `n` tokens of the file
abbrev pub node_ways : List ℕ → ℕ → Head → List Spelled → List Laid → List Way
node_ways comments n h us kids = pieces_ways h (breaks_of comments h n us (map (λ u. u.item) kids)) false (form_of h.kind) kids

unfoldable mutual
  -- the ways of a tree's tokens, behind `n` tokens of the file, where so many comments stand in front of each token
  pub ways : List ℕ → ℕ → Node → List Way
  ways comments n (branch h ts) =
      node_ways comments n h (spells 0 ts) (kids_laid comments (begins h (form_of h.kind) n (spells 0 ts)) ts)

  pub kids_laid : List ℕ → List ℕ → Nodes → List Laid
  kids_laid comments ns none = []
  kids_laid comments ns (more t ts) =
      record { item = record { kind = (head t).kind; ends = stops si.Comma t }; ways = ways comments (first_number ns) t }
      ∷ kids_laid comments (numbers_behind ns) ts

-- trees side by side behind `n` tokens, each of which begins a line
abbrev pub roots_ways : List ℕ → ℕ → List Node → List Way
roots_ways comments n ts =
    flat_map (λ u. starting Begins u.ways) (kids_laid comments (begins_led le.Nothing n (spells 0 (nodes_of ts))) (nodes_of ts))

-- the end of the file, in front of which comments begin lines
abbrev pub end_way : Way
end_way = record { start = Begins; depth = 0; joins_before = false; joins_behind = false; comma = false }

-- the ways of a file's tokens, and of its end
abbrev pub file_ways : List ℕ → FileTree → List Way
file_ways comments t =
    roots_ways comments 0 t.uses ++ (roots_ways comments (length (spell_all 0 t.uses)) t.decls ++ end_way ∷ [])

-- ---- as many ways as tokens

-- each token of a tree has one way
abbrev pub TreesHaveWays : Type 0
TreesHaveWays = (comments : List ℕ) (n : ℕ) (t : Node) → length (ways comments n t) ≡ length (spell 0 t)

-- and each token of a file, and its end
abbrev pub FilesHaveWays : Type 0
FilesHaveWays = (comments : List ℕ) (t : FileTree) → t.file ≡ 0 → length (file_ways comments t) ≡ length (spell_file t)
