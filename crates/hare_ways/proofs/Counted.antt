-- Each token of a tree has one way.
use Rattle.std.proofs.Common.{◌≡◌, ℕ, suc, ◌+◌, List, [], ◌∷◌, ◌++◌, Bool, true, false, ◌&&◌, map, length, take, drop, refl, sym, ap, ◌∙◌, arith, length-append, if◌then◌else◌}
use Rattle.std.specs.List.{flat_map}
use Rattle.hare_tree.specs.declared.kind.Kind.{Kind}
use Rattle.hare_tree.specs.declared.token.Token.{Token}
use Rattle.hare_tree.specs.declared.form.Sign.TheVariants as si
use Rattle.hare_tree.specs.declared.form.Own.{Own}
use Rattle.hare_tree.specs.declared.form.Own.TheVariants as ow
use Rattle.hare_tree.specs.declared.form.Piece.{Piece}
use Rattle.hare_tree.specs.declared.form.Piece.TheVariants as pi
use Rattle.hare_tree.specs.declared.form.Lead.{Lead}
use Rattle.hare_tree.specs.declared.form.Lead.TheVariants as le
use Rattle.hare_tree.specs.Node.{Head, Node, Nodes, branch, none, more, nodes_of}
use Rattle.hare_tree.specs.Forms.{form_of}
use Rattle.hare_tree.specs.Depth.{lead_length, begins, begins_led, first_number, numbers_behind}
use Rattle.hare_tree.specs.Spell.{Spelled, parts, path_tokens, label_tokens, own_tokens, stands_alone, with_lead, all_led, one_led, listed, value_lead, piece_tokens, pieces_tokens, left_behind, spell, spells, spelled_kid, spell_all, word_token}
use Rattle.hare_tree.specs.declared.token.TokenKind.TheVariants as tk
use Rattle.hare_ways.specs.declared.way.Start.{Start}
use Rattle.hare_ways.specs.declared.way.Start.TheVariants.{Begins}
use Rattle.hare_ways.specs.declared.way.Way.{Way}
use Rattle.hare_ways.specs.declared.breaks.Breaks.{Breaks}
use Rattle.hare_ways.specs.Ways.{Laid, ways, kids_laid, pieces_ways, piece_ways, within_brackets, inside_behind, deeper, starting, led_ways, all_ways, one_way, listed_ways, own_ways, path_ways, label_ways, roots_ways, file_ways, end_way, TreesHaveWays, FilesHaveWays}
use Rattle.hare_ways.specs.Walk.{laid_kid, kid_ways}

-- ---- kids side by side

-- a kid's ways are as many as its tokens
record IsLike (u : Laid) (v : Spelled) : Type 0 where
  kind : u.item.kind ≡ v.0
  many : length u.ways ≡ length v.1

abbrev AreLike : List Laid → List Spelled → Type 0
AreLike [] [] = Unit {0}
AreLike [] (v ∷ vs) = ⊥
AreLike (u ∷ us) [] = ⊥
AreLike (u ∷ us) (v ∷ vs) = IsLike u v × AreLike us vs

pub length-starting : (s : Start) (ws : List Way) → length (starting s ws) ≡ length ws
length-starting s [] = refl
length-starting s (w ∷ ws) = refl

behind_length : (c : Bool) (a b : List Way) (w : Way) (ts : List Token) (t : Token) → length a ≡ length ts → length b ≡ length ts
    → length (if c then a else b ++ w ∷ []) ≡ length (if c then ts else ts ++ t ∷ [])
behind_length true a b w ts t h k = h
behind_length false a b w ts t h k = omega (arith, k, length-append b (w ∷ []), length-append ts (t ∷ []))

before_length : (c : Bool) (a b : List Way) (w : Way) (ts : List Token) (t : Token) → length a ≡ length ts → length b ≡ length ts
    → length (if c then a else w ∷ b) ≡ length (if c then ts else t ∷ ts)
before_length true a b w ts t h k = h
before_length false a b w ts t h k = ap suc k

led_like : (k : Kind) (s : Start) (l : Lead) (u : Laid) (v : Spelled) → IsLike u v → length (led_ways k s l u) ≡ length (with_lead 0 l v)
led_like k s le.Nothing u v h = length-starting s u.ways ∙ h.many
led_like k s (le.Before c) u v h = rw h.kind
    (before_length (stands_alone v.0) u.ways (starting s u.ways) _ v.1 _ h.many (length-starting s u.ways ∙ h.many))
led_like k s (le.Behind c) u v h = rw h.kind
    (behind_length (stands_alone v.0) u.ways (starting s u.ways) _ v.1 _ h.many (length-starting s u.ways ∙ h.many))

all_like : (k : Kind) (s : Start) (l : Lead) (us : List Laid) (vs : List Spelled) → AreLike us vs
    → length (all_ways k s l us) ≡ length (all_led 0 l vs)
all_like k s l [] [] h = refl
all_like k s l [] (v ∷ vs) h = absurd h
all_like k s l (u ∷ us) [] h = absurd h
all_like k s l (u ∷ us) (v ∷ vs) h =
    let one = led_like k s l u v h.0 in
    let more = all_like k s l us vs h.1 in
    omega (arith, one, more, length-append (led_ways k s l u) (all_ways k s l us), length-append (with_lead 0 l v) (all_led 0 l vs))

take_like : (us : List Laid) (vs : List Spelled) → AreLike us vs → AreLike (take 1 us) (take 1 vs)
take_like [] [] h = tt
take_like [] (v ∷ vs) h = absurd h
take_like (u ∷ us) [] h = absurd h
take_like (u ∷ us) (v ∷ vs) h = (h.0, tt)

drop_like : (us : List Laid) (vs : List Spelled) → AreLike us vs → AreLike (drop 1 us) (drop 1 vs)
drop_like [] [] h = tt
drop_like [] (v ∷ vs) h = absurd h
drop_like (u ∷ us) [] h = absurd h
drop_like (u ∷ us) (v ∷ vs) h = h.1

one_like : (k : Kind) (s : Start) (l : Lead) (us : List Laid) (vs : List Spelled) → AreLike us vs
    → length (one_way k s l us) ≡ length (one_led 0 l vs)
one_like k s l us vs h = all_like k s l (take 1 us) (take 1 vs) (take_like us vs h)

listed_like : (k : Kind) (s : Start) (us : List Laid) (vs : List Spelled) → AreLike us vs
    → length (listed_ways k s us) ≡ length (listed 0 vs)
listed_like k s us vs h =
    let first = one_like k s le.Nothing us vs h in
    let others = all_like k s (le.Before si.Comma) (drop 1 us) (drop 1 vs) (drop_like us vs h) in
    omega (
      arith,
      first,
      others,
      length-append (one_way k s le.Nothing us) (all_ways k s (le.Before si.Comma) (drop 1 us)),
      length-append (one_led 0 le.Nothing vs) (all_led 0 (le.Before si.Comma) (drop 1 vs)),
    )

-- ---- a tree's own tokens

pub path_length : (k : Kind) (xs : List (List ℕ)) → length (path_ways k xs) ≡ length (path_tokens 0 xs)
path_length k [] = refl
path_length k (x ∷ []) = refl
path_length k (x ∷ y ∷ xs) = ap (λ n. suc (suc n)) (path_length k (y ∷ xs))

label_length : (s : List ℕ) → length (label_ways s) ≡ length (label_tokens 0 s)
label_length [] = refl
label_length (c ∷ s) = refl

own_like : (h : Head) (o : Own) → length (own_ways h o) ≡ length (own_tokens 0 h o)
own_like h ow.Nothing = refl
own_like h ow.Name = refl
own_like h ow.PathName = refl
own_like h ow.Path = path_length h.kind (parts h.text)
own_like h ow.Label = label_length h.text
own_like h ow.Scalar = refl
own_like h ow.Bool = refl
own_like h ow.Number = refl
own_like h ow.Rune = refl
own_like h ow.Text = refl
own_like h ow.Operator = refl
own_like h ow.Member = refl

-- ---- pieces

piece_like : (h : Head) (b : Breaks) (inside : Bool) (p : Piece) (us : List Laid) (vs : List Spelled) → AreLike us vs
    → length (piece_ways h b inside p us) ≡ length (piece_tokens 0 h p vs)
piece_like h b inside (pi.Fixed s) us vs e = refl
piece_like h b inside (pi.Own o) us vs e = own_like h o
piece_like h b inside (pi.Kid s) us vs e = one_like h.kind _ le.Nothing us vs e
piece_like h b inside (pi.Optional s) us vs e = one_like h.kind _ le.Nothing us vs e
piece_like h b inside (pi.Led c s) us vs e = one_like h.kind _ (le.Before c) us vs e
piece_like h b inside (pi.Followed s c) us vs e = one_like h.kind _ (le.Behind c) us vs e
piece_like h b inside (pi.Value s) us vs e = one_like h.kind _ (value_lead h.text) us vs e
piece_like h b inside (pi.Each s) us vs e = all_like h.kind _ le.Nothing us vs e
piece_like h b inside (pi.EachLed c s) us vs e = all_like h.kind _ (le.Before c) us vs e
piece_like h b inside (pi.EachFollowed s c) us vs e = all_like h.kind _ (le.Behind c) us vs e
piece_like h b inside (pi.More s) us vs e = all_like h.kind _ (le.Before si.Comma) us vs e
piece_like h b inside (pi.List s) us vs e = listed_like h.kind _ us vs e
piece_like h b inside (pi.Elements s) us vs e = listed_like h.kind _ us vs e
piece_like h b inside (pi.MoreElements s) us vs e = all_like h.kind _ (le.Before si.Comma) us vs e

left_like : (p : Piece) (us : List Laid) (vs : List Spelled) → AreLike us vs → AreLike (left_behind p us) (left_behind p vs)
left_like (pi.Fixed s) us vs e = e
left_like (pi.Own o) us vs e = e
left_like (pi.Kid s) us vs e = drop_like us vs e
left_like (pi.Optional s) us vs e = drop_like us vs e
left_like (pi.Led c s) us vs e = drop_like us vs e
left_like (pi.Followed s c) us vs e = drop_like us vs e
left_like (pi.Value s) us vs e = drop_like us vs e
left_like (pi.Each s) us vs e = tt
left_like (pi.EachLed c s) us vs e = tt
left_like (pi.EachFollowed s c) us vs e = tt
left_like (pi.More s) us vs e = tt
left_like (pi.List s) us vs e = tt
left_like (pi.Elements s) us vs e = tt
left_like (pi.MoreElements s) us vs e = tt

pub length-map : (ws : List Way) → length (map deeper ws) ≡ length ws
length-map [] = refl
length-map (w ∷ ws) = ap suc (length-map ws)

pub within_if : (c : Bool) (ws : List Way) → length (if c then map deeper ws else ws) ≡ length ws
within_if true ws = length-map ws
within_if false ws = refl

pieces_like : (h : Head) (b : Breaks) (inside : Bool) (ps : List Piece) (us : List Laid) (vs : List Spelled) → AreLike us vs
    → length (pieces_ways h b inside ps us) ≡ length (pieces_tokens 0 h ps vs)
pieces_like h b inside [] us vs e = refl
pieces_like h b inside (p ∷ ps) us vs e =
    let one = within_if (b.brackets && inside) (piece_ways h b inside p us) ∙ piece_like h b inside p us vs e in
    let others = pieces_like h b (inside_behind b inside p) ps (left_behind p us) (left_behind p vs) (left_like p us vs e) in
    omega (
      arith,
      one,
      others,
      length-append (within_brackets b inside (piece_ways h b inside p us))
          (pieces_ways h b (inside_behind b inside p) ps (left_behind p us)),
      length-append (piece_tokens 0 h p vs) (pieces_tokens 0 h ps (left_behind p vs)),
    )

-- ---- trees

mutual
  unfolding ways spell

  tree_like : (cs : List ℕ) (n : ℕ) (t : Node) → length (ways cs n t) ≡ length (spell 0 t)
  tree_like cs n (branch h ts) =
      pieces_like h _ false (form_of h.kind) (kids_laid cs (begins h (form_of h.kind) n (spells 0 ts)) ts) (spells 0 ts)
      (kids_like cs (begins h (form_of h.kind) n (spells 0 ts)) ts)

  kids_like : (cs ns : List ℕ) (ts : Nodes) → AreLike (kids_laid cs ns ts) (spells 0 ts)
  kids_like cs ns none = tt
  kids_like cs ns (more t ts) = (record { kind = refl; many = tree_like cs (first_number ns) t }, kids_like cs (numbers_behind ns) ts)

-- a kid with the sign that stands with it has as many ways as tokens
pub kid_length : (cs : List ℕ) (k : Kind) (s : Start) (l : Lead) (n : ℕ) (t : Node)
    → length (kid_ways cs k s l n t) ≡ length (with_lead 0 l (spelled_kid 0 t))
kid_length cs k s l n t =
    led_like k s l (laid_kid cs (n + lead_length l (spelled_kid 0 t)) t) (spelled_kid 0 t)
    record { kind = refl; many = tree_like cs (n + lead_length l (spelled_kid 0 t)) t }

-- and a piece of a form
pub piece_length : (cs : List ℕ) (h : Head) (b : Breaks) (inside : Bool) (p : Piece) (ns : List ℕ) (ts : Nodes)
    → length (piece_ways h b inside p (kids_laid cs ns ts)) ≡ length (piece_tokens 0 h p (spells 0 ts))
piece_length cs h b inside p ns ts = piece_like h b inside p (kids_laid cs ns ts) (spells 0 ts) (kids_like cs ns ts)

pub trees_have_ways : TreesHaveWays
trees_have_ways cs n t = tree_like cs n t

roots_like : (us : List Laid) (vs : List Spelled) → AreLike us vs
    → length (flat_map (λ (u : Laid). starting Begins u.ways) us) ≡ length (all_led 0 le.Nothing vs)
roots_like [] [] h = refl
roots_like [] (v ∷ vs) h = absurd h
roots_like (u ∷ us) [] h = absurd h
roots_like (u ∷ us) (v ∷ vs) h =
    let one = length-starting Begins u.ways ∙ h.0.many in
    let more = roots_like us vs h.1 in
    omega (
      arith,
      one,
      more,
      length-append (starting Begins u.ways)
          (flat_map (λ (w : Laid). starting Begins w.ways) us),
      length-append v.1 (all_led 0 le.Nothing vs),
    )

pub roots_length : (cs : List ℕ) (n : ℕ) (ts : List Node) → length (roots_ways cs n ts) ≡ length (spell_all 0 ts)
roots_length cs n ts =
    roots_like (kids_laid cs (begins_led le.Nothing n (spells 0 (nodes_of ts))) (nodes_of ts)) (spells 0 (nodes_of ts))
    (kids_like cs (begins_led le.Nothing n (spells 0 (nodes_of ts))) (nodes_of ts))

pub files_have_ways : FilesHaveWays
files_have_ways cs t e =
    let uses = roots_length cs 0 t.uses in
    let decls = roots_length cs (length (spell_all 0 t.uses)) t.decls in
    let both : length (file_ways cs t) ≡ length (spell_all 0 t.uses) + (length (spell_all 0 t.decls) + 1) =
    omega (
      arith,
      uses,
      decls,
      length-append (roots_ways cs 0 t.uses) (roots_ways cs (length (spell_all 0 t.uses)) t.decls ++ end_way ∷ []),
      length-append (roots_ways cs (length (spell_all 0 t.uses)) t.decls) (end_way ∷ []),
    ) in
    let spelled : (f : ℕ) → length (spell_all f t.uses ++ (spell_all f t.decls ++ word_token f tk.End [] ∷ [])) ≡ length
    (spell_all f t.uses) + (length (spell_all f t.decls) + 1) =
    λ f. omega (
      arith,
      length-append (spell_all f t.uses) (spell_all f t.decls ++ word_token f tk.End [] ∷ []),
      length-append
          (spell_all f t.decls) (word_token f tk.End [] ∷ []),
    ) in
    both ∙ ap (λ f. length (spell_all f t.uses) + (length (spell_all f t.decls) + 1)) (sym e) ∙ sym (spelled t.file)
