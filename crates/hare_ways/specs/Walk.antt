-- What the private functions of the walk over a tree speak of. No public clause cites it.
use Rattle.std.specs.Prelude.{ℕ, ◌+◌, List, [], ◌∷◌, ◌++◌, Bool, true, false, ◌&&◌, ◌==◌, not, map, length, slice_index, if◌then◌else◌}
use Rattle.hare_tree.specs.declared.kind.Kind.{Kind}
use Rattle.hare_tree.specs.declared.form.Sign.TheVariants as si
use Rattle.hare_tree.specs.declared.form.Piece.{Piece}
use Rattle.hare_tree.specs.declared.form.Piece.TheVariants as pi
use Rattle.hare_tree.specs.declared.form.Lead.{Lead}
use Rattle.hare_tree.specs.declared.form.Lead.TheVariants as le
use Rattle.hare_tree.specs.Node.{Head, Node, Nodes, none, more}
use Rattle.hare_tree.specs.Signs.{is_sign}
use Rattle.hare_tree.specs.Spell.{spelled_kid}
use Rattle.hare_tree.specs.Depth.{lead_length}
use Rattle.hare_tree.specs.Judged.{nodes_from}
use Rattle.hare_ways.specs.declared.way.Start.{Start}
use Rattle.hare_ways.specs.declared.way.Start.TheVariants.{Within}
use Rattle.hare_ways.specs.declared.way.Way.{Way}
use Rattle.hare_ways.specs.declared.breaks.Breaks.{Breaks}
use Rattle.hare_ways.specs.declared.part.Part.{Part}
use Rattle.hare_ways.specs.declared.part.Part.TheVariants as pa
use Rattle.hare_ways.specs.Breaks.{opening, closing}
use Rattle.hare_ways.specs.Ways.{Laid, ways, plain, sign_way, own_ways, fixed_way, item_start, statement_start, led_ways, within_brackets}
use Rattle.hare_ways.specs.Parts.{item_of, part_of, nodes_behind}

-- ---- depth

-- so many more broken lists and braces are open
abbrev pub deepened : ℕ → Way → Way
deepened d w =
    record { start = w.start; depth = d + w.depth; joins_before = w.joins_before; joins_behind = w.joins_behind; comma = w.comma }

abbrev pub at_depth : ℕ → List Way → List Way
at_depth d ws = map (deepened d) ws

-- one deeper inside broken brackets
abbrev pub depth_within : Breaks → Bool → ℕ → ℕ
depth_within b inside d = if b.brackets && inside then d + 1 else d

-- ---- paths

-- the ways of a `::` and of the name behind it, where a `::` stands there
abbrev pub mark_ways : Kind → Bool → List Way
mark_ways k true = sign_way k si.PathMark ∷ plain ∷ []
mark_ways k false = []

-- The ways of a path behind its first name, in front of these bytes of its text; the first of them is the second colon of a `::`, or not.
abbrev pub path_behind : Kind → Bool → List ℕ → List Way
path_behind k taken [] = []
path_behind k true (c ∷ s) = path_behind k false s
path_behind k false (c ∷ s) =
    if c == 58 && slice_index s 0 == 58 then sign_way k si.PathMark ∷ plain ∷ path_behind k true s else path_behind k false s

-- ---- ways

-- a tree as a kid behind `n` tokens, those of its sign among them
abbrev pub laid_kid : List ℕ → ℕ → Node → Laid
laid_kid comments n t = record { item = item_of t; ways = ways comments n t }

-- a kid with the sign that stands with it, behind `n` tokens
abbrev pub kid_ways : List ℕ → Kind → Start → Lead → ℕ → Node → List Way
kid_ways comments k s l n t = led_ways k s l (laid_kid comments (n + lead_length l (spelled_kid 0 t)) t)

-- at most the first of some kids
abbrev pub first_ways : List ℕ → Kind → Start → Lead → ℕ → Nodes → List Way
first_ways comments k s l n none = []
first_ways comments k s l n (more t ts) = kid_ways comments k s l n t

-- all of them
abbrev pub row_ways : List ℕ → Kind → Start → Lead → ℕ → Nodes → List Way
row_ways comments k s l n none = []
row_ways comments k s l n (more t ts) =
    kid_ways comments k s l n t ++ row_ways comments k s l (n + length (kid_ways comments k s l n t)) ts

-- all of them, with a comma before each but the first
abbrev pub listed_walk : List ℕ → Kind → Start → ℕ → Nodes → List Way
listed_walk comments k s n ts =
    first_ways comments k s le.Nothing n ts
    ++ row_ways comments k s (le.Before si.Comma) (n + length (first_ways comments k s le.Nothing n ts)) (nodes_from 1 ts)

-- how the kids of a piece begin lines
abbrev pub start_of : Breaks → Bool → Piece → Start
start_of b inside (pi.Kid s) = item_start b inside
start_of b inside (pi.Each s) = item_start b inside
start_of b inside (pi.More s) = item_start b inside
start_of b inside (pi.List s) = item_start b inside
start_of b inside (pi.Elements s) = item_start b inside
start_of b inside (pi.MoreElements s) = item_start b inside
start_of b inside (pi.EachFollowed s c) = statement_start b
start_of b inside _ = Within

-- the ways of a part of a form behind `n` tokens, in front of which these kids are left, where its kids begin lines so
abbrev pub part_ways : List ℕ → Head → Breaks → Bool → Start → Part → ℕ → Nodes → List Way
part_ways comments h b inside start (pa.Sign s) n ts = fixed_way b inside s ∷ []
part_ways comments h b inside start (pa.Own o) n ts = own_ways h o
part_ways comments h b inside start (pa.One l) n ts = first_ways comments h.kind start l n ts
part_ways comments h b inside start (pa.All l) n ts = row_ways comments h.kind start l n ts
part_ways comments h b inside start pa.Listed n ts = listed_walk comments h.kind start n ts

-- what stands behind a part stands inside the brackets
abbrev pub inside_behind_part : Breaks → Bool → Part → Bool
inside_behind_part b inside (pa.Sign s) = if inside then not (is_sign s (closing b.kind)) else is_sign s (opening b.kind)
inside_behind_part b inside _ = inside

-- the ways of a form's pieces
abbrev pub pieces_walk : List ℕ → Head → Breaks → Bool → List Piece → ℕ → Nodes → List Way
pieces_walk comments h b inside [] n ts = []
pieces_walk comments h b inside (p ∷ ps) n ts =
    let part = part_of p h.text in
    let here = part_ways comments h b inside (start_of b inside p) part n ts in
    within_brackets b inside here
    ++ pieces_walk comments h b (inside_behind_part b inside part) ps (n + length here) (nodes_behind part ts)
