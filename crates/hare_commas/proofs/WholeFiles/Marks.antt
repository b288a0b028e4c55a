-- No blank is left out but beside a mark, and no comma is added but in front of one.
use Rattle.std.proofs.Common.{◌≡◌, ℕ, suc, ◌+◌, List, [], ◌∷◌, ◌++◌, Bool, true, false, ◌&&◌, map, length, refl, sym, ap, ◌∙◌, subst, arith, if◌then◌else◌}
use Rattle.std.proofs.lemmas.List.{append-nil}
use Rattle.hare_tree.specs.declared.kind.Kind.{Kind}
use Rattle.hare_tree.specs.declared.kind.Kind.TheVariants as ki
use Rattle.hare_tree.specs.declared.token.TokenKind.TheVariants as tk
use Rattle.hare_tree.specs.declared.token.Token.{Token}
use Rattle.hare_tree.specs.declared.form.Sign.{Sign}
use Rattle.hare_tree.specs.declared.form.Sign.TheVariants as si
use Rattle.hare_tree.specs.declared.form.Own.{Own}
use Rattle.hare_tree.specs.declared.form.Own.TheVariants as ow
use Rattle.hare_tree.specs.declared.form.Piece.{Piece}
use Rattle.hare_tree.specs.declared.form.Lead.{Lead}
use Rattle.hare_tree.specs.declared.form.Lead.TheVariants as le
use Rattle.hare_tree.specs.Node.{Head, Node, Nodes, branch, none, more, head, nodes_of}
use Rattle.hare_tree.specs.Signs.{is_sign}
use Rattle.hare_tree.specs.Forms.{form_of}
use Rattle.hare_tree.specs.Spell.{word_token, sign_token, parts, path_tokens, label_tokens, own_tokens, stands_alone, with_lead, all_led, listed, pieces_tokens, spell, spells, spelled_kid, spell_all, spell_file}
use Rattle.hare_ways.specs.declared.way.Start.{Start}
use Rattle.hare_ways.specs.declared.way.Start.TheVariants.{Begins}
use Rattle.hare_ways.specs.declared.way.Way.{Way}
use Rattle.hare_ways.specs.declared.breaks.Breaks.{Breaks}
use Rattle.hare_ways.specs.declared.part.Part.{Part}
use Rattle.hare_ways.specs.declared.part.Part.TheVariants as pa
use Rattle.hare_ways.specs.Breaks.{closing, breaks_of}
use Rattle.hare_ways.specs.Ways.{ways, starting, deeper, sign_way, path_ways, label_ways, own_ways, closing_way, fixed_way, within_brackets, end_way, roots_ways, file_ways}
use Rattle.hare_ways.specs.Parts.{part_of, part_tokens, nodes_behind, items_of}
use Rattle.hare_ways.specs.Walk.{kid_ways, row_ways, listed_walk, start_of, part_ways, inside_behind_part, pieces_walk}
use Rattle.hare_ways.proofs.Counted.{kid_length}
use Rattle.hare_ways.proofs.Puts.{kid-nothing, before-alone, before-sign, behind-alone, behind-sign}
use Rattle.hare_ways.proofs.Walked.{tree-walk, roots-walk}
use Rattle.hare_commas.specs.Commas.{IsPlainMark, asks, AreMarks, WaysAskAtMarks}
use Rattle.hare_commas.proofs.AddedCommas.Tokens.{alone-before, sign-before, alone-behind, sign-behind}
use Rattle.hare_commas.proofs.WaysAgain.Kids.{starts-long, listed-first}
use Rattle.hare_commas.proofs.WaysAgain.Parts.{part-length, row_length}
use Rattle.hare_commas.proofs.WaysAgain.Pieces.{within-length, pieces-first}

false-true : {A : Type 0} → false ≡ true → A
false-true h = cc

-- ---- ways side by side

less-one : (a b : ℕ) → suc a ≡ suc b → a ≡ b
less-one a b e = omega (arith, e)

marks-append : (u v : List Way) (s t : List Token) → length u ≡ length s → AreMarks u s → AreMarks v t → AreMarks (u ++ v) (s ++ t)
marks-append [] v [] t e m n = n
marks-append [] v (x ∷ s) t e m n = cc
marks-append (w ∷ u) v [] t e m n = cc
marks-append (w ∷ u) v (x ∷ s) t e m n = (m.0, marks-append u v s t (less-one (length u) (length s) e) m.1 n)

marks-starting : (s : Start) (u : List Way) (ts : List Token) → AreMarks u ts → AreMarks (starting s u) ts
marks-starting s [] ts m = tt
marks-starting s (w ∷ u) [] m = tt
marks-starting s (w ∷ u) (t ∷ ts) m = m

marks-deeper : (u : List Way) (ts : List Token) → AreMarks u ts → AreMarks (map deeper u) ts
marks-deeper [] ts m = tt
marks-deeper (w ∷ u) [] m = tt
marks-deeper (w ∷ u) (t ∷ ts) m = (m.0, marks-deeper u ts m.1)

marks-within : (c : Bool) (u : List Way) (ts : List Token) → AreMarks u ts → AreMarks (if c then map deeper u else u) ts
marks-within true u ts m = marks-deeper u ts m
marks-within false u ts m = m

-- ---- signs

sign-marks : (k : Kind) (s : Sign) → asks (sign_way k s) ≡ true → IsPlainMark (sign_token 0 s)
sign-marks k si.Bang e = (refl, refl)
sign-marks k si.Ampersand e = (refl, refl)
sign-marks k si.LeftParen e = (refl, refl)
sign-marks k si.RightParen e = (refl, refl)
sign-marks k si.Star e = (refl, refl)
sign-marks k si.Comma e = (refl, refl)
sign-marks k si.Minus e = (refl, refl)
sign-marks k si.Dot e = (refl, refl)
sign-marks k si.DotDot e = (refl, refl)
sign-marks k si.Dots e = (refl, refl)
sign-marks k si.Colon e = (refl, refl)
sign-marks k si.PathMark e = (refl, refl)
sign-marks k si.Semicolon e = (refl, refl)
sign-marks k si.Equals e = (refl, refl)
sign-marks k si.Arrow e = (refl, refl)
sign-marks k si.Question e = (refl, refl)
sign-marks k si.LeftBracket e = (refl, refl)
sign-marks k si.RightBracket e = (refl, refl)
sign-marks k si.LeftBrace e = (refl, refl)
sign-marks k si.Bar e = (refl, refl)
sign-marks k si.RightBrace e = (refl, refl)
sign-marks k si.Tilde e = (refl, refl)
sign-marks k _ e = false-true e

paren-marks : (c : Sign) → is_sign c si.RightParen ≡ true → IsPlainMark (sign_token 0 c)
paren-marks si.RightParen e = (refl, refl)
paren-marks _ e = false-true e

bracket-marks : (c : Sign) → is_sign c si.RightBracket ≡ true → IsPlainMark (sign_token 0 c)
bracket-marks si.RightBracket e = (refl, refl)
bracket-marks _ e = false-true e

brace-marks : (c : Sign) → is_sign c si.RightBrace ≡ true → IsPlainMark (sign_token 0 c)
brace-marks si.RightBrace e = (refl, refl)
brace-marks _ e = false-true e

closing-marks : (k : Kind) (c : Sign) → is_sign c (closing k) ≡ true → IsPlainMark (sign_token 0 c)
closing-marks ki.Params c e = paren-marks c e
closing-marks ki.Call c e = paren-marks c e
closing-marks ki.Tuple c e = paren-marks c e
closing-marks ki.TypeTuple c e = paren-marks c e
closing-marks ki.Array c e = bracket-marks c e
closing-marks _ c e = brace-marks c e

and-right : (x y : Bool) → (x && y) ≡ true → y ≡ true
and-right true y e = e
and-right false y e = false-true e

fixed-marks : (b : Breaks) (inside : Bool) (c : Sign) → asks (fixed_way b inside c) ≡ true → IsPlainMark (sign_token 0 c)
fixed-marks b inside c = by (inside && is_sign c (closing b.kind)) refl
  where
    by : (x : Bool) → (inside && is_sign c (closing b.kind)) ≡ x → asks (if x then closing_way b c else sign_way b.kind c) ≡ true
        → IsPlainMark (sign_token 0 c)
    by true k e = closing-marks b.kind c (and-right inside (is_sign c (closing b.kind)) k)
    by false k e = sign-marks b.kind c e

-- ---- a tree's own tokens

path-marks : (k : Kind) (xs : List (List ℕ)) → AreMarks (path_ways k xs) (path_tokens 0 xs)
path-marks k [] = tt
path-marks k (x ∷ []) = (λ e. false-true e, tt)
path-marks k (x ∷ y ∷ xs) = (λ e. false-true e, (sign-marks k si.PathMark, path-marks k (y ∷ xs)))

label-marks : (s : List ℕ) → AreMarks (label_ways s) (label_tokens 0 s)
label-marks [] = tt
label-marks (c ∷ s) = (λ e. (refl, refl), (λ e. false-true e, tt))

own-marks : (h : Head) (o : Own) → AreMarks (own_ways h o) (own_tokens 0 h o)
own-marks h ow.Nothing = tt
own-marks h ow.Path = path-marks h.kind (parts h.text)
own-marks h ow.Label = label-marks h.text
own-marks h _ = (λ e. false-true e, tt)

-- ---- kids

abbrev TreeMarks : List ℕ → Node → Type 0
TreeMarks cs t = (n : ℕ) → AreMarks (ways cs n t) (spell 0 t)

abbrev KidsMarks : List ℕ → Nodes → Type 0
KidsMarks cs none = Unit {0}
KidsMarks cs (more t ts) = TreeMarks cs t × KidsMarks cs ts

-- the same of other ways and tokens
marks-like : (u v : List Way) (s t : List Token) → u ≡ v → s ≡ t → AreMarks v t → AreMarks u s
marks-like u v s t e f m = subst (λ x. AreMarks x s) (sym e) (subst (AreMarks v) (sym f) m)

before-marks : (cs : List ℕ) (k : Kind) (s : Start) (c : Sign) (n : ℕ) (t : Node) (b : Bool) → stands_alone (head t).kind ≡ b →
    TreeMarks cs t
    → AreMarks (kid_ways cs k s (le.Before c) n t) (with_lead 0 (le.Before c) (spelled_kid 0 t))
before-marks cs k s c n t true e m = marks-like _ _ _ _ (before-alone cs k s c n t e) (alone-before c t e) (m n)
before-marks cs k s c n t false e m =
    marks-like _ (sign_way k c ∷ starting s (ways cs (n + 1) t)) _ (sign_token 0 c ∷ spell 0 t) (before-sign cs k s c n t e)
    (sign-before c t e)
    (sign-marks k c, marks-starting s (ways cs (n + 1) t) (spell 0 t) (m (n + 1)))

behind-marks : (cs : List ℕ) (k : Kind) (s : Start) (c : Sign) (n : ℕ) (t : Node) (b : Bool) → stands_alone (head t).kind ≡ b →
    TreeMarks cs t
    → AreMarks (kid_ways cs k s (le.Behind c) n t) (with_lead 0 (le.Behind c) (spelled_kid 0 t))
behind-marks cs k s c n t true e m = marks-like _ _ _ _ (behind-alone cs k s c n t e) (alone-behind c t e) (m n)
behind-marks cs k s c n t false e m =
    marks-like _ (starting s (ways cs n t) ++ sign_way k c ∷ []) _ (spell 0 t ++ sign_token 0 c ∷ []) (behind-sign cs k s c n t e)
    (sign-behind c t e)
    (marks-append (starting s (ways cs n t)) (sign_way k c ∷ []) (spell 0 t) (sign_token 0 c ∷ []) (starts-long cs k s n t)
    (marks-starting s (ways cs n t) (spell 0 t) (m n)) (sign-marks k c, tt))

kid-marks : (cs : List ℕ) (k : Kind) (s : Start) (l : Lead) (n : ℕ) (t : Node) → TreeMarks cs t
    → AreMarks (kid_ways cs k s l n t) (with_lead 0 l (spelled_kid 0 t))
kid-marks cs k s le.Nothing n t m =
    subst (λ ws. AreMarks ws (spell 0 t)) (sym (kid-nothing cs k s n t)) (marks-starting s (ways cs n t) (spell 0 t) (m n))
kid-marks cs k s (le.Before c) n t m = before-marks cs k s c n t (stands_alone (head t).kind) refl m
kid-marks cs k s (le.Behind c) n t m = behind-marks cs k s c n t (stands_alone (head t).kind) refl m

row-marks : (cs : List ℕ) (k : Kind) (s : Start) (l : Lead) (n : ℕ) (ts : Nodes) → KidsMarks cs ts
    → AreMarks (row_ways cs k s l n ts) (all_led 0 l (spells 0 ts))
unfolding spells
row-marks cs k s l n none m = tt
row-marks cs k s l n (more t ts) m =
    let u = kid_ways cs k s l n t in
    marks-append u (row_ways cs k s l (n + length u) ts) (with_lead 0 l (spelled_kid 0 t)) (all_led 0 l (spells 0 ts))
    (kid_length cs k s l n t) (kid-marks cs k s l n t m.0) (row-marks cs k s l (n + length u) ts m.1)

listed-marks : (cs : List ℕ) (k : Kind) (s : Start) (n : ℕ) (ts : Nodes) → KidsMarks cs ts
    → AreMarks (listed_walk cs k s n ts) (listed 0 (spells 0 ts))
unfolding spells
listed-marks cs k s n none m = tt
listed-marks cs k s n (more t ts) m =
    let u = kid_ways cs k s le.Nothing n t in
    let v = row_ways cs k s (le.Before si.Comma) (n + length u) ts in
    subst (AreMarks (u ++ v)) (sym (listed-first t ts))
    (marks-append u v (spell 0 t) (all_led 0 (le.Before si.Comma) (spells 0 ts)) (kid_length cs k s le.Nothing n t)
    (kid-marks cs k s le.Nothing n t m.0) (row-marks cs k s (le.Before si.Comma) (n + length u) ts m.1))

part-marks : (cs : List ℕ) (h : Head) (b : Breaks) (inside : Bool) (s : Start) (q : Part) (n : ℕ) (ts : Nodes) → KidsMarks cs ts
    → AreMarks (part_ways cs h b inside s q n ts) (part_tokens h q (spells 0 ts))
unfolding spells
part-marks cs h b inside s (pa.Sign c) n ts m = (fixed-marks b inside c, tt)
part-marks cs h b inside s (pa.Own o) n ts m = own-marks h o
part-marks cs h b inside s (pa.One l) n none m = tt
part-marks cs h b inside s (pa.One l) n (more t ts) m =
    subst (AreMarks (kid_ways cs h.kind s l n t)) (sym (append-nil (with_lead 0 l (spelled_kid 0 t)))) (kid-marks cs h.kind s l n t m.0)
part-marks cs h b inside s (pa.All l) n ts m = row-marks cs h.kind s l n ts m
part-marks cs h b inside s pa.Listed n ts m = listed-marks cs h.kind s n ts m

kids-behind : (cs : List ℕ) (q : Part) (ts : Nodes) → KidsMarks cs ts → KidsMarks cs (nodes_behind q ts)
kids-behind cs (pa.Sign s) ts m = m
kids-behind cs (pa.Own o) ts m = m
kids-behind cs (pa.One l) none m = tt
kids-behind cs (pa.One l) (more t ts) m = m.1
kids-behind cs (pa.All l) ts m = tt
kids-behind cs pa.Listed ts m = tt

-- ---- forms and trees

pieces-marks : (cs : List ℕ) (h : Head) (b : Breaks) (inside : Bool) (ps : List Piece) (n : ℕ) (ts : Nodes) → KidsMarks cs ts
    → AreMarks (pieces_walk cs h b inside ps n ts) (pieces_tokens 0 h ps (spells 0 ts))
pieces-marks cs h b inside [] n ts m = tt
pieces-marks cs h b inside (p ∷ ps) n ts m =
    let q = part_of p h.text in
    let u = part_ways cs h b inside (start_of b inside p) q n ts in
    let rest = nodes_behind q ts in
    let v = pieces_walk cs h b (inside_behind_part b inside q) ps (n + length u) rest in
    let one = part_tokens h q (spells 0 ts) in
    subst (AreMarks (within_brackets b inside u ++ v)) (sym (pieces-first h p ps ts rest refl))
    (marks-append (within_brackets b inside u) v one (pieces_tokens 0 h ps (spells 0 rest))
    (within-length b inside u ∙ part-length cs h b inside (start_of b inside p) q n ts)
    (marks-within (b.brackets && inside) u one (part-marks cs h b inside (start_of b inside p) q n ts m))
    (pieces-marks cs h b (inside_behind_part b inside q) ps (n + length u) rest (kids-behind cs q ts m)))

mutual
  unfolding spell

  pub tree-marks : (cs : List ℕ) (t : Node) → TreeMarks cs t
  tree-marks cs (branch h ts) =
      λ n. subst (λ ws. AreMarks ws (pieces_tokens 0 h (form_of h.kind) (spells 0 ts))) (sym (tree-walk cs n (branch h ts)))
      (pieces-marks cs h (breaks_of cs h n (spells 0 ts) (items_of ts)) false (form_of h.kind) n ts (kids-marks cs ts))

  pub kids-marks : (cs : List ℕ) (ts : Nodes) → KidsMarks cs ts
  kids-marks cs none = tt
  kids-marks cs (more t ts) = (tree-marks cs t, kids-marks cs ts)

-- ---- files

roots-marks : (cs : List ℕ) (n : ℕ) (ts : List Node) → AreMarks (roots_ways cs n ts) (spell_all 0 ts)
roots-marks cs n ts =
    subst (λ ws. AreMarks ws (spell_all 0 ts)) (sym (roots-walk cs n ts))
    (row-marks cs ki.None Begins le.Nothing n (nodes_of ts) (kids-marks cs (nodes_of ts)))

roots-long : (cs : List ℕ) (n : ℕ) (ts : List Node) → length (roots_ways cs n ts) ≡ length (spell_all 0 ts)
roots-long cs n ts = ap length (roots-walk cs n ts) ∙ row_length cs ki.None Begins le.Nothing n (nodes_of ts)

pub ways-ask-at-marks : WaysAskAtMarks
ways-ask-at-marks cs t e =
    let one = spell_all 0 t.uses in
    let two = spell_all 0 t.decls in
    let end = word_token 0 tk.End [] ∷ [] in
    let n = length one in
    subst (λ f. AreMarks (file_ways cs t) (spell_file (record { file = f; uses = t.uses; decls = t.decls }))) (sym e)
    (marks-append (roots_ways cs 0 t.uses) (roots_ways cs n t.decls ++ end_way ∷ []) one (two ++ end) (roots-long cs 0 t.uses)
    (roots-marks cs 0 t.uses)
    (marks-append (roots_ways cs n t.decls) (end_way ∷ []) two end (roots-long cs n t.decls) (roots-marks cs n t.decls)
    (λ x. false-true x, tt)))
