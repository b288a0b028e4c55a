-- No comma is added in front of the first token of a tree.
use Rattle.std.proofs.Common.{◌≡◌, ℕ, ◌+◌, List, [], ◌∷◌, ◌++◌, Bool, true, false, ◌&&◌, map, length, refl, sym, subst, if◌then◌else◌, take, drop}
use Rattle.hare_tree.specs.declared.kind.Kind.{Kind}
use Rattle.hare_tree.specs.declared.kind.Kind.TheVariants as ki
use Rattle.hare_tree.specs.declared.tree.FileTree.{FileTree}
use Rattle.hare_ways.specs.declared.way.Start.TheVariants.{Begins}
use Rattle.hare_ways.specs.Walk.{laid_kid, kid_ways, row_ways}
use Rattle.hare_ways.proofs.Walked.{roots-walk}
use Rattle.hare_tree.specs.declared.form.Sign.TheVariants as si
use Rattle.hare_tree.specs.declared.form.Own.{Own}
use Rattle.hare_tree.specs.declared.form.Own.TheVariants as ow
use Rattle.hare_tree.specs.declared.form.Piece.{Piece}
use Rattle.hare_tree.specs.declared.form.Piece.TheVariants as pi
use Rattle.hare_tree.specs.declared.form.Lead.{Lead}
use Rattle.hare_tree.specs.declared.form.Lead.TheVariants as le
use Rattle.hare_tree.specs.Node.{Head, Node, Nodes, branch, none, more, nodes_of}
use Rattle.hare_tree.specs.Forms.{form_of}
use Rattle.hare_tree.specs.Spell.{parts, spells, spell_all, spelled_kid, stands_alone, value_lead, left_behind}
use Rattle.hare_tree.specs.Depth.{lead_length, begins, first_number, numbers_behind}
use Rattle.hare_ways.specs.declared.way.Start.{Start}
use Rattle.hare_ways.specs.declared.way.Way.{Way}
use Rattle.hare_ways.specs.declared.breaks.Breaks.{Breaks}
use Rattle.hare_ways.specs.Ways.{Laid, ways, kids_laid, pieces_ways, within_brackets, inside_behind, fixed_way, deeper, led_ways, all_ways, own_ways, path_ways, label_ways, end_way, roots_ways, file_ways}
use Rattle.hare_commas.proofs.AddedCommas.Flags.{IsPlain, plain-append, plain-starting, plain-within}

abbrev ArePlain : List Laid → Type 0
ArePlain [] = Unit {0}
ArePlain (u ∷ us) = IsPlain u.ways × ArePlain us

before_plain : (c : Bool) (a b : List Way) (w : Way) → IsPlain a → w.comma ≡ false → IsPlain (if c then a else w ∷ b)
before_plain true a b w p q = p
before_plain false a b w p q = q

behind_plain : (c : Bool) (a b : List Way) (w : Way) → IsPlain a → IsPlain b → w.comma ≡ false → IsPlain (if c then a else b ++ w ∷ [])
behind_plain true a b w p q e = p
behind_plain false a b w p q e = plain-append b (w ∷ []) q e

led_plain : (k : Kind) (s : Start) (l : Lead) (u : Laid) → IsPlain u.ways → IsPlain (led_ways k s l u)
led_plain k s le.Nothing u p = plain-starting s u.ways p
led_plain k s (le.Before c) u p = before_plain (stands_alone u.item.kind) u.ways _ _ p refl
led_plain k s (le.Behind c) u p = behind_plain (stands_alone u.item.kind) u.ways _ _ p (plain-starting s u.ways p) refl

all_plain : (k : Kind) (s : Start) (l : Lead) (us : List Laid) → ArePlain us → IsPlain (all_ways k s l us)
all_plain k s l [] h = tt
all_plain k s l (u ∷ us) h = plain-append (led_ways k s l u) (all_ways k s l us) (led_plain k s l u h.0) (all_plain k s l us h.1)

one_plain : (k : Kind) (s : Start) (l : Lead) (us : List Laid) → ArePlain us → IsPlain (all_ways k s l (take 1 us))
one_plain k s l [] h = tt
one_plain k s l (u ∷ us) h = plain-append (led_ways k s l u) [] (led_plain k s l u h.0) tt

path_plain : (k : Kind) (xs : List (List ℕ)) → IsPlain (path_ways k xs)
path_plain k [] = tt
path_plain k (x ∷ []) = refl
path_plain k (x ∷ y ∷ xs) = refl

label_plain : (s : List ℕ) → IsPlain (label_ways s)
label_plain [] = tt
label_plain (c ∷ s) = refl

pub own_plain : (h : Head) (o : Own) → IsPlain (own_ways h o)
own_plain h ow.Nothing = tt
own_plain h ow.Name = refl
own_plain h ow.PathName = refl
own_plain h ow.Path = path_plain h.kind (parts h.text)
own_plain h ow.Label = label_plain h.text
own_plain h ow.Scalar = refl
own_plain h ow.Bool = refl
own_plain h ow.Number = refl
own_plain h ow.Rune = refl
own_plain h ow.Text = refl
own_plain h ow.Operator = refl
own_plain h ow.Member = refl

rest_plain : (us : List Laid) → ArePlain us → ArePlain (drop 1 us)
rest_plain [] h = tt
rest_plain (u ∷ us) h = h.1

left_plain : (p : Piece) (us : List Laid) → ArePlain us → ArePlain (left_behind p us)
left_plain (pi.Fixed s) us h = h
left_plain (pi.Own o) us h = h
left_plain (pi.Kid s) us h = rest_plain us h
left_plain (pi.Optional s) us h = rest_plain us h
left_plain (pi.Led c s) us h = rest_plain us h
left_plain (pi.Followed s c) us h = rest_plain us h
left_plain (pi.Value s) us h = rest_plain us h
left_plain (pi.Each s) us h = tt
left_plain (pi.EachLed c s) us h = tt
left_plain (pi.EachFollowed s c) us h = tt
left_plain (pi.More s) us h = tt
left_plain (pi.List s) us h = tt
left_plain (pi.Elements s) us h = tt
left_plain (pi.MoreElements s) us h = tt

listed_plain : (k : Kind) (s : Start) (us : List Laid) → ArePlain us
    → IsPlain (all_ways k s le.Nothing (take 1 us) ++ all_ways k s (le.Before si.Comma) (drop 1 us))
listed_plain k s us h =
    plain-append (all_ways k s le.Nothing (take 1 us)) _ (one_plain k s le.Nothing us h)
    (all_plain k s (le.Before si.Comma) (drop 1 us) (rest_plain us h))

sign_plain : (c : Bool) (w : Way) → w.comma ≡ false → (v : List Way) → IsPlain ((if c then map deeper (w ∷ []) else w ∷ []) ++ v)
sign_plain true w e v = e
sign_plain false w e v = e

joined_plain : (b : Breaks) (u v : List Way) → IsPlain u → IsPlain v → IsPlain (within_brackets b false u ++ v)
joined_plain b u v p q = plain-append (within_brackets b false u) v (plain-within (b.brackets && false) u p) q

-- in front of the brackets of a form
pieces_plain : (h : Head) (b : Breaks) (ps : List Piece) (us : List Laid) → ArePlain us → IsPlain (pieces_ways h b false ps us)
pieces_plain h b [] us a = tt
pieces_plain h b (pi.Fixed s ∷ ps) us a =
    sign_plain (b.brackets && false) (fixed_way b false s) refl (pieces_ways h b (inside_behind b false (pi.Fixed s)) ps us)
pieces_plain h b (pi.Own o ∷ ps) us a = joined_plain b (own_ways h o) _ (own_plain h o) (pieces_plain h b ps us a)
pieces_plain h b (pi.Kid s ∷ ps) us a = joined_plain b _ _ (one_plain h.kind _ le.Nothing us a) (pieces_plain h b ps _ (rest_plain us a))
pieces_plain h b (pi.Optional s ∷ ps) us a =
    joined_plain b _ _ (one_plain h.kind _ le.Nothing us a) (pieces_plain h b ps _ (rest_plain us a))
pieces_plain h b (pi.Led c s ∷ ps) us a = joined_plain b _ _ (one_plain h.kind _ (le.Before c) us a)
    (pieces_plain h b ps _ (rest_plain us a))
pieces_plain h b (pi.Followed s c ∷ ps) us a =
    joined_plain b _ _ (one_plain h.kind _ (le.Behind c) us a) (pieces_plain h b ps _ (rest_plain us a))
pieces_plain h b (pi.Value s ∷ ps) us a =
    joined_plain b _ _ (one_plain h.kind _ (value_lead h.text) us a) (pieces_plain h b ps _ (rest_plain us a))
pieces_plain h b (pi.Each s ∷ ps) us a = joined_plain b _ _ (all_plain h.kind _ le.Nothing us a) (pieces_plain h b ps [] tt)
pieces_plain h b (pi.EachLed c s ∷ ps) us a = joined_plain b _ _ (all_plain h.kind _ (le.Before c) us a) (pieces_plain h b ps [] tt)
pieces_plain h b (pi.EachFollowed s c ∷ ps) us a = joined_plain b _ _ (all_plain h.kind _ (le.Behind c) us a) (pieces_plain h b ps [] tt)
pieces_plain h b (pi.More s ∷ ps) us a = joined_plain b _ _ (all_plain h.kind _ (le.Before si.Comma) us a) (pieces_plain h b ps [] tt)
pieces_plain h b (pi.List s ∷ ps) us a = joined_plain b _ _ (listed_plain h.kind _ us a) (pieces_plain h b ps [] tt)
pieces_plain h b (pi.Elements s ∷ ps) us a = joined_plain b _ _ (listed_plain h.kind _ us a) (pieces_plain h b ps [] tt)
pieces_plain h b (pi.MoreElements s ∷ ps) us a =
    joined_plain b _ _ (all_plain h.kind _ (le.Before si.Comma) us a) (pieces_plain h b ps [] tt)

mutual
  unfolding ways

  pub ways-plain : (cs : List ℕ) (n : ℕ) (t : Node) → IsPlain (ways cs n t)
  ways-plain cs n (branch h ts) = pieces_plain h _ (form_of h.kind) _ (kids-plain cs (begins h (form_of h.kind) n (spells 0 ts)) ts)

  kids-plain : (cs ns : List ℕ) (ts : Nodes) → ArePlain (kids_laid cs ns ts)
  kids-plain cs ns none = tt
  kids-plain cs ns (more t ts) = (ways-plain cs (first_number ns) t, kids-plain cs (numbers_behind ns) ts)

-- ---- files

row-plain : (cs : List ℕ) (k : Kind) (s : Start) (l : Lead) (n : ℕ) (ts : Nodes) → IsPlain (row_ways cs k s l n ts)
row-plain cs k s l n none = tt
row-plain cs k s l n (more t ts) =
    plain-append (kid_ways cs k s l n t) (row_ways cs k s l (n + length (kid_ways cs k s l n t)) ts)
    (led_plain k s l (laid_kid cs (n + lead_length l (spelled_kid 0 t)) t) (ways-plain cs (n + lead_length l (spelled_kid 0 t)) t))
    (row-plain cs k s l (n + length (kid_ways cs k s l n t)) ts)

roots-plain : (cs : List ℕ) (n : ℕ) (ts : List Node) → IsPlain (roots_ways cs n ts)
roots-plain cs n ts = subst IsPlain (sym (roots-walk cs n ts)) (row-plain cs ki.None Begins le.Nothing n (nodes_of ts))

pub file-plain : (cs : List ℕ) (t : FileTree) → IsPlain (file_ways cs t)
file-plain cs t =
    let n = length (spell_all 0 t.uses) in
    plain-append (roots_ways cs 0 t.uses) (roots_ways cs n t.decls ++ end_way ∷ []) (roots-plain cs 0 t.uses)
    (plain-append (roots_ways cs n t.decls) (end_way ∷ []) (roots-plain cs n t.decls) refl)
