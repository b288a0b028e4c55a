-- The ways of a tree, kid by kid in the order of its tokens.
use Rattle.std.proofs.Common.{◌≡◌, ℕ, ◌+◌, List, [], ◌∷◌, ◌++◌, Bool, false, map, length, take, drop, refl, sym, ap, ◌∙◌, arith}
use Rattle.std.proofs.lemmas.List.{append-nil}
use Rattle.hare_tree.specs.declared.kind.Kind.{Kind}
use Rattle.hare_tree.specs.declared.kind.Kind.TheVariants as ki
use Rattle.hare_tree.specs.declared.form.Piece.{Piece}
use Rattle.hare_tree.specs.declared.form.Lead.{Lead}
use Rattle.hare_tree.specs.declared.form.Lead.TheVariants as le
use Rattle.hare_tree.specs.declared.form.Sign.TheVariants as si
use Rattle.hare_tree.specs.Node.{Head, Node, Nodes, branch, none, more, head, kids_of, nodes_of}
use Rattle.hare_tree.specs.Forms.{form_of}
use Rattle.hare_tree.specs.Spell.{spell, spells, spelled_kid, kids_spelled, with_lead, piece_tokens, left_behind}
use Rattle.hare_tree.specs.Depth.{begins, begins_led, begins_listed, numbers_behind}
use Rattle.hare_tree.specs.Judged.{nodes_from}
use Rattle.hare_ways.specs.declared.way.Start.{Start}
use Rattle.hare_ways.specs.declared.way.Start.TheVariants.{Begins}
use Rattle.hare_ways.specs.declared.breaks.Breaks.{Breaks}
use Rattle.hare_ways.specs.declared.part.Part.{Part}
use Rattle.hare_ways.specs.declared.part.Part.TheVariants as pa
use Rattle.hare_ways.specs.Breaks.{breaks_of}
use Rattle.hare_ways.specs.Ways.{Laid, ways, kids_laid, led_ways, all_ways, piece_ways, pieces_ways, within_brackets, inside_behind, roots_ways}
use Rattle.hare_ways.specs.Parts.{part_of, nodes_behind, item_of, items_of}
use Rattle.hare_ways.specs.Walk.{laid_kid, kid_ways, first_ways, row_ways, listed_walk, start_of, part_ways, inside_behind_part, pieces_walk}
use Rattle.hare_ways.proofs.Counted.{kid_length, piece_length}
use Rattle.hare_ways.proofs.PartLemmas.{begins-part, part_begins, ways-part, part_laid, inside-part, left-part, part_left, spells-left}

-- ---- kids side by side

-- all kids with the sign that stands with each
row-laid : (cs : List ℕ) (k : Kind) (s : Start) (l : Lead) (n : ℕ) (xs : List ℕ) (ts : Nodes)
    → all_ways k s l (kids_laid cs (begins_led l n (spells 0 ts) ++ xs) ts) ≡ row_ways cs k s l n ts
unfolding spells ways
row-laid cs k s l n xs none = refl
row-laid cs k s l n xs (more t ts) =
    let many = kid_length cs k s l n t in
    ap (λ ws. kid_ways cs k s l n t ++ ws)
    (row-laid cs k s l (n + length (with_lead 0 l (spelled_kid 0 t))) xs ts ∙ ap (λ m. row_ways cs k s l (n + m) ts) (sym many))

-- at most the first kid
one-laid : (cs : List ℕ) (k : Kind) (s : Start) (l : Lead) (n : ℕ) (xs : List ℕ) (ts : Nodes)
    → all_ways k s l (take 1 (kids_laid cs (begins_led l n (take 1 (spells 0 ts)) ++ xs) ts)) ≡ first_ways cs k s l n ts
unfolding spells ways
one-laid cs k s l n xs none = refl
one-laid cs k s l n xs (more t ts) = append-nil (kid_ways cs k s l n t)

add-zero : (n : ℕ) → n ≡ n + 0
add-zero n = omega arith

-- all kids with a comma before each but the first
listed-laid : (cs : List ℕ) (h : Head) (b : Breaks) (inside : Bool) (s : Start) (n : ℕ) (xs : List ℕ) (ts : Nodes)
    → part_laid h b inside s pa.Listed (kids_laid cs (begins_listed n (spells 0 ts) ++ xs) ts) ≡ listed_walk cs h.kind s n ts
unfolding spells ways
listed-laid cs h b inside s n xs none = refl
listed-laid cs h b inside s n xs (more t ts) =
    let many = kid_length cs h.kind s le.Nothing n t in
    let first : led_ways h.kind s le.Nothing (laid_kid cs n t) ++ [] ≡ kid_ways cs h.kind s le.Nothing n t =
    append-nil (led_ways h.kind s le.Nothing (laid_kid cs n t)) ∙ ap (λ m. led_ways h.kind s le.Nothing (laid_kid cs m t)) (add-zero n) in
    let others : all_ways h.kind s (le.Before si.Comma)
    (kids_laid cs (begins_led (le.Before si.Comma) (n + length (spell 0 t)) (spells 0 ts) ++ xs) ts)
    ≡ row_ways cs h.kind s (le.Before si.Comma) (n + length (kid_ways cs h.kind s le.Nothing n t)) ts =
    row-laid cs h.kind s (le.Before si.Comma) (n + length (spell 0 t)) xs ts
    ∙ ap (λ m. row_ways cs h.kind s (le.Before si.Comma) (n + m) ts) (sym many) in
    ap (λ ws. ws ++ all_ways h.kind s (le.Before si.Comma)
    (kids_laid cs (begins_led (le.Before si.Comma) (n + length (spell 0 t)) (spells 0 ts) ++ xs) ts)) first
    ∙ ap (λ ws. kid_ways cs h.kind s le.Nothing n t ++ ws) others

-- ---- parts

part-laid : (cs : List ℕ) (h : Head) (b : Breaks) (inside : Bool) (s : Start) (q : Part) (n : ℕ) (xs : List ℕ) (ts : Nodes)
    → part_laid h b inside s q (kids_laid cs (part_begins q n (spells 0 ts) ++ xs) ts) ≡ part_ways cs h b inside s q n ts
part-laid cs h b inside s (pa.Sign c) n xs ts = refl
part-laid cs h b inside s (pa.Own o) n xs ts = refl
part-laid cs h b inside s (pa.One l) n xs ts = one-laid cs h.kind s l n xs ts
part-laid cs h b inside s (pa.All l) n xs ts = row-laid cs h.kind s l n xs ts
part-laid cs h b inside s pa.Listed n xs ts = listed-laid cs h b inside s n xs ts

left-one : (cs : List ℕ) (l : Lead) (n : ℕ) (xs : List ℕ) (ts : Nodes)
    → drop 1 (kids_laid cs (begins_led l n (take 1 (spells 0 ts)) ++ xs) ts) ≡ kids_laid cs xs (nodes_from 1 ts)
unfolding spells ways
left-one cs l n xs none = refl
left-one cs l n xs (more t ts) = refl

left-laid : (cs : List ℕ) (q : Part) (n : ℕ) (xs : List ℕ) (ts : Nodes)
    → part_left q (kids_laid cs (part_begins q n (spells 0 ts) ++ xs) ts) ≡ kids_laid cs xs (nodes_behind q ts)
unfolding spells ways
left-laid cs (pa.Sign c) n xs ts = refl
left-laid cs (pa.Own o) n xs ts = refl
left-laid cs (pa.One l) n xs ts = left-one cs l n xs ts
left-laid cs (pa.All l) n xs ts = refl
left-laid cs pa.Listed n xs ts = refl

-- ---- forms

-- the pieces of a form, one after the other
pub pieces-walk : (cs : List ℕ) (h : Head) (b : Breaks) (inside : Bool) (ps : List Piece) (n : ℕ) (ts : Nodes)
    → pieces_ways h b inside ps (kids_laid cs (begins h ps n (spells 0 ts)) ts) ≡ pieces_walk cs h b inside ps n ts
pieces-walk cs h b inside [] n ts = refl
pieces-walk cs h b inside (p ∷ ps) n ts =
    let q = part_of p h.text in
    let us = spells 0 ts in
    let n' = n + length (piece_tokens 0 h p us) in
    let xs = begins h ps n' (left_behind p us) in
    let laid = kids_laid cs (begins h (p ∷ ps) n us) ts in
    let starts : begins h (p ∷ ps) n us ≡ part_begins q n us ++ xs = ap (λ ys. ys ++ xs) (begins-part h p n us) in
    let here : piece_ways h b inside p laid ≡ part_ways cs h b inside (start_of b inside p) q n ts =
    ways-part h b inside p laid
    ∙ ap (λ ns. part_laid h b inside (start_of b inside p) q (kids_laid cs ns ts)) starts
    ∙ part-laid cs h b inside (start_of b inside p) q n xs ts in
    let kids : spells 0 (nodes_behind q ts) ≡ left_behind p us = spells-left q ts ∙ sym (left-part p h.text us) in
    let left : left_behind p laid ≡ kids_laid cs (begins h ps n' (spells 0 (nodes_behind q ts))) (nodes_behind q ts) =
    left-part p h.text laid
    ∙ ap (λ ns. part_left q (kids_laid cs ns ts)) starts
    ∙ left-laid cs q n xs ts
    ∙ ap (λ vs. kids_laid cs (begins h ps n' vs) (nodes_behind q ts)) (sym kids) in
    let many : length (part_ways cs h b inside (start_of b inside p) q n ts) ≡ length (piece_tokens 0 h p us) =
    ap length (sym here) ∙ piece_length cs h b inside p (begins h (p ∷ ps) n us) ts in
    let others : pieces_ways h b (inside_behind b inside p) ps (left_behind p laid)
    ≡ pieces_walk cs h b (inside_behind_part b inside q) ps (n + length (part_ways cs h b inside (start_of b inside p) q n ts))
    (nodes_behind q ts) =
    ap (λ vs. pieces_ways h b (inside_behind b inside p) ps vs) left
    ∙ pieces-walk cs h b (inside_behind b inside p) ps n' (nodes_behind q ts)
    ∙ ap (λ i. pieces_walk cs h b i ps n' (nodes_behind q ts)) (inside-part b inside p h.text)
    ∙ ap (λ m. pieces_walk cs h b (inside_behind_part b inside q) ps (n + m) (nodes_behind q ts)) (sym many) in
    ap (λ ws. within_brackets b inside ws ++ pieces_ways h b (inside_behind b inside p) ps (left_behind p laid)) here
    ∙ ap (λ ws. within_brackets b inside (part_ways cs h b inside (start_of b inside p) q n ts) ++ ws) others

items-laid : (cs ns : List ℕ) (ts : Nodes) → map (λ (u : Laid). u.item) (kids_laid cs ns ts) ≡ items_of ts
unfolding ways
items-laid cs ns none = refl
items-laid cs ns (more t ts) = ap (λ us. item_of t ∷ us) (items-laid cs (numbers_behind ns) ts)

-- a tree, from how its form is broken
pub tree-walk : (cs : List ℕ) (n : ℕ) (t : Node)
    → ways cs n t ≡ pieces_walk cs (head t) (breaks_of cs (head t) n (kids_spelled 0 t) (items_of (kids_of t))) false (form_of
    (head t).kind) n (kids_of t)
unfolding ways
tree-walk cs n (branch h ts) =
    let us = spells 0 ts in
    let laid = kids_laid cs (begins h (form_of h.kind) n us) ts in
    ap (λ is. pieces_ways h (breaks_of cs h n us is) false (form_of h.kind) laid) (items-laid cs (begins h (form_of h.kind) n us) ts)
    ∙ pieces-walk cs h (breaks_of cs h n us (items_of ts)) false (form_of h.kind) n ts

-- trees side by side, each of which begins a line
pub roots-walk : (cs : List ℕ) (n : ℕ) (ts : List Node) → roots_ways cs n ts ≡ row_ways cs ki.None Begins le.Nothing n (nodes_of ts)
roots-walk cs n ts =
    ap (λ ns. all_ways ki.None Begins le.Nothing (kids_laid cs ns (nodes_of ts))) (sym (append-nil (begins_led le.Nothing n
    (spells 0 (nodes_of ts)))))
    ∙ row-laid cs ki.None Begins le.Nothing n [] (nodes_of ts)
