-- A piece and the part that it asks for.
use Rattle.std.proofs.Common.{◌≡◌, ℕ, List, [], ◌∷◌, Bool, take, drop, refl, sym, ◌∙◌}
use Rattle.hare_tree.specs.declared.form.Piece.{Piece}
use Rattle.hare_tree.specs.declared.form.Piece.TheVariants as pi
use Rattle.hare_tree.specs.Node.{Head, Nodes, none, more}
use Rattle.hare_tree.specs.Spell.{Spelled, spells, piece_tokens, left_behind}
use Rattle.hare_tree.specs.Depth.{begins_led, begins_listed, begins_in}
use Rattle.hare_tree.specs.Judged.{nodes_from}
use Rattle.hare_ways.specs.declared.way.Start.{Start}
use Rattle.hare_ways.specs.declared.way.Way.{Way}
use Rattle.hare_ways.specs.declared.breaks.Breaks.{Breaks}
use Rattle.hare_ways.specs.declared.part.Part.{Part}
use Rattle.hare_ways.specs.declared.part.Part.TheVariants as pa
use Rattle.hare_ways.specs.Ways.{Laid, piece_ways, inside_behind, fixed_way, own_ways, one_way, all_ways, listed_ways}
use Rattle.hare_ways.specs.Parts.{part_of, part_tokens, nodes_behind, items_of}
use Rattle.hare_ways.specs.Walk.{start_of, inside_behind_part}

-- ---- a piece's tokens

pub tokens-part : (h : Head) (p : Piece) (us : List Spelled) → piece_tokens 0 h p us ≡ part_tokens h (part_of p h.text) us
tokens-part h (pi.Fixed s) us = refl
tokens-part h (pi.Own o) us = refl
tokens-part h (pi.Kid s) us = refl
tokens-part h (pi.Optional s) us = refl
tokens-part h (pi.Led c s) us = refl
tokens-part h (pi.Followed s c) us = refl
tokens-part h (pi.Value s) us = refl
tokens-part h (pi.Each s) us = refl
tokens-part h (pi.EachLed c s) us = refl
tokens-part h (pi.EachFollowed s c) us = refl
tokens-part h (pi.More s) us = refl
tokens-part h (pi.List s) us = refl
tokens-part h (pi.Elements s) us = refl
tokens-part h (pi.MoreElements s) us = refl

-- where the tokens of a part's kids begin
abbrev pub part_begins : Part → ℕ → List Spelled → List ℕ
part_begins (pa.Sign s) n us = []
part_begins (pa.Own o) n us = []
part_begins (pa.One l) n us = begins_led l n (take 1 us)
part_begins (pa.All l) n us = begins_led l n us
part_begins pa.Listed n us = begins_listed n us

pub begins-part : (h : Head) (p : Piece) (n : ℕ) (us : List Spelled) → begins_in h p n us ≡ part_begins (part_of p h.text) n us
begins-part h (pi.Fixed s) n us = refl
begins-part h (pi.Own o) n us = refl
begins-part h (pi.Kid s) n us = refl
begins-part h (pi.Optional s) n us = refl
begins-part h (pi.Led c s) n us = refl
begins-part h (pi.Followed s c) n us = refl
begins-part h (pi.Value s) n us = refl
begins-part h (pi.Each s) n us = refl
begins-part h (pi.EachLed c s) n us = refl
begins-part h (pi.EachFollowed s c) n us = refl
begins-part h (pi.More s) n us = refl
begins-part h (pi.List s) n us = refl
begins-part h (pi.Elements s) n us = refl
begins-part h (pi.MoreElements s) n us = refl

-- ---- a piece's ways

-- the ways of a part, in front of which these kids are left
abbrev pub part_laid : Head → Breaks → Bool → Start → Part → List Laid → List Way
part_laid h b inside start (pa.Sign s) us = fixed_way b inside s ∷ []
part_laid h b inside start (pa.Own o) us = own_ways h o
part_laid h b inside start (pa.One l) us = one_way h.kind start l us
part_laid h b inside start (pa.All l) us = all_ways h.kind start l us
part_laid h b inside start pa.Listed us = listed_ways h.kind start us

pub ways-part : (h : Head) (b : Breaks) (inside : Bool) (p : Piece) (us : List Laid)
    → piece_ways h b inside p us ≡ part_laid h b inside (start_of b inside p) (part_of p h.text) us
ways-part h b inside (pi.Fixed s) us = refl
ways-part h b inside (pi.Own o) us = refl
ways-part h b inside (pi.Kid s) us = refl
ways-part h b inside (pi.Optional s) us = refl
ways-part h b inside (pi.Led c s) us = refl
ways-part h b inside (pi.Followed s c) us = refl
ways-part h b inside (pi.Value s) us = refl
ways-part h b inside (pi.Each s) us = refl
ways-part h b inside (pi.EachLed c s) us = refl
ways-part h b inside (pi.EachFollowed s c) us = refl
ways-part h b inside (pi.More s) us = refl
ways-part h b inside (pi.List s) us = refl
ways-part h b inside (pi.Elements s) us = refl
ways-part h b inside (pi.MoreElements s) us = refl

pub inside-part : (b : Breaks) (inside : Bool) (p : Piece) (text : List ℕ)
    → inside_behind b inside p ≡ inside_behind_part b inside (part_of p text)
inside-part b inside (pi.Fixed s) text = refl
inside-part b inside (pi.Own o) text = refl
inside-part b inside (pi.Kid s) text = refl
inside-part b inside (pi.Optional s) text = refl
inside-part b inside (pi.Led c s) text = refl
inside-part b inside (pi.Followed s c) text = refl
inside-part b inside (pi.Value s) text = refl
inside-part b inside (pi.Each s) text = refl
inside-part b inside (pi.EachLed c s) text = refl
inside-part b inside (pi.EachFollowed s c) text = refl
inside-part b inside (pi.More s) text = refl
inside-part b inside (pi.List s) text = refl
inside-part b inside (pi.Elements s) text = refl
inside-part b inside (pi.MoreElements s) text = refl

-- ---- the kids that are left

-- what a part leaves of a list
abbrev pub part_left : {A : Type 0} → Part → List A → List A
part_left (pa.Sign s) us = us
part_left (pa.Own o) us = us
part_left (pa.One l) us = drop 1 us
part_left (pa.All l) us = []
part_left pa.Listed us = []

pub left-part : {A : Type 0} (p : Piece) (text : List ℕ) (us : List A) → left_behind p us ≡ part_left (part_of p text) us
left-part (pi.Fixed s) text us = refl
left-part (pi.Own o) text us = refl
left-part (pi.Kid s) text us = refl
left-part (pi.Optional s) text us = refl
left-part (pi.Led c s) text us = refl
left-part (pi.Followed s c) text us = refl
left-part (pi.Value s) text us = refl
left-part (pi.Each s) text us = refl
left-part (pi.EachLed c s) text us = refl
left-part (pi.EachFollowed s c) text us = refl
left-part (pi.More s) text us = refl
left-part (pi.List s) text us = refl
left-part (pi.Elements s) text us = refl
left-part (pi.MoreElements s) text us = refl

spells-one : (ts : Nodes) → spells 0 (nodes_from 1 ts) ≡ drop 1 (spells 0 ts)
unfolding spells
spells-one none = refl
spells-one (more t ts) = refl

pub spells-left : (q : Part) (ts : Nodes) → spells 0 (nodes_behind q ts) ≡ part_left q (spells 0 ts)
unfolding spells
spells-left (pa.Sign s) ts = refl
spells-left (pa.Own o) ts = refl
spells-left (pa.One l) ts = spells-one ts
spells-left (pa.All l) ts = refl
spells-left pa.Listed ts = refl

items-one : (ts : Nodes) → items_of (nodes_from 1 ts) ≡ drop 1 (items_of ts)
items-one none = refl
items-one (more t ts) = refl

pub items-left : (q : Part) (ts : Nodes) → items_of (nodes_behind q ts) ≡ part_left q (items_of ts)
items-left (pa.Sign s) ts = refl
items-left (pa.Own o) ts = refl
items-left (pa.One l) ts = items-one ts
items-left (pa.All l) ts = refl
items-left pa.Listed ts = refl

-- what a piece leaves is what its part leaves
pub spells-behind : (p : Piece) (text : List ℕ) (ts : Nodes) → left_behind p (spells 0 ts) ≡ spells 0 (nodes_behind (part_of p text) ts)
spells-behind p text ts = left-part p text (spells 0 ts) ∙ sym (spells-left (part_of p text) ts)

pub items-behind : (p : Piece) (text : List ℕ) (ts : Nodes) → left_behind p (items_of ts) ≡ items_of (nodes_behind (part_of p text) ts)
items-behind p text ts = left-part p text (items_of ts) ∙ sym (items-left (part_of p text) ts)
