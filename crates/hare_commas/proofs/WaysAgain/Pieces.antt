-- The ways of the pieces of a form, where commas are added and where they stand.
use Rattle.std.proofs.Common.{◌≡◌, ℕ, ◌+◌, List, [], ◌∷◌, ◌++◌, ◌⊎◌, inl, inr, Bool, true, false, ◌&&◌, map, length, drop, refl, sym, ap, ◌∙◌, subst, arith, length-append, append_assoc, if◌then◌else◌}
use Rattle.std.specs.Prelude.{◌||◌}
use Rattle.hare_tree.specs.declared.form.Sign.{Sign}
use Rattle.hare_tree.specs.declared.form.Piece.{Piece}
use Rattle.hare_tree.specs.declared.form.Piece.TheVariants as pi
use Rattle.hare_tree.specs.Node.{Head, Nodes, none, more}
use Rattle.hare_tree.specs.Spell.{spells, piece_tokens, pieces_tokens, left_behind}
use Rattle.hare_ways.specs.declared.way.Start.{Start}
use Rattle.hare_ways.specs.declared.way.Way.{Way}
use Rattle.hare_ways.specs.declared.breaks.Breaks.{Breaks}
use Rattle.hare_ways.specs.declared.part.Part.{Part}
use Rattle.hare_ways.specs.declared.part.Part.TheVariants as pa
use Rattle.hare_ways.specs.Breaks.{is_fixed, sign_at}
use Rattle.hare_ways.specs.Ways.{deeper, fixed_way, within_brackets}
use Rattle.hare_ways.specs.Parts.{part_of, part_tokens, nodes_behind}
use Rattle.hare_ways.specs.Walk.{start_of, part_ways, inside_behind_part, pieces_walk}
use Rattle.hare_ways.proofs.Counted.{within_if}
use Rattle.hare_ways.proofs.PartLemmas.{tokens-part, spells-behind}
use Rattle.hare_commas.specs.Commas.{with_commas, tokens_with}
use Rattle.hare_commas.proofs.AddedCommas.Spread.{add-zero, spread-left, spread-next, with_commas-append}
use Rattle.hare_commas.specs.Commas.{AreSpread}
use Rattle.hare_commas.proofs.AddedCommas.Flags.{with_commas-within, spread-within}
use Rattle.hare_commas.proofs.AddedCommas.Tokens.{with-append, with-within}
use Rattle.hare_commas.proofs.WaysAgain.Kin.{Kin}
use Rattle.hare_commas.proofs.WaysAgain.Kids.{AreAgain}
use Rattle.hare_commas.proofs.WaysAgain.Parts.{quiet, part-length, part_closes, IsCalm, fixed-calm, part-again}

-- ---- pieces

-- a closing sign stands inside the brackets
abbrev pub closes : Breaks → Bool → List ℕ → List Piece → Bool
closes b inside text [] = false
closes b inside text (p ∷ ps) =
    part_closes b inside (part_of p text) || closes b (inside_behind_part b inside (part_of p text)) text ps

-- no comma is added in front of these
abbrev pub AreCalm : Breaks → Bool → List ℕ → List Piece → Type 0
AreCalm b inside text ps = (b.comma ≡ false) ⊎ (closes b inside text ps ≡ false)

true-false : {A : Type 0} → true ≡ false → A
true-false h = cc

false-true : {A : Type 0} → false ≡ true → A
false-true h = cc

neither : (x y : Bool) → (x || y) ≡ false → (x ≡ false) × (y ≡ false)
neither true y h = true-false h
neither false y h = (refl, h)

calm-first : (b : Breaks) (inside : Bool) (text : List ℕ) (p : Piece) (ps : List Piece) → AreCalm b inside text (p ∷ ps)
    → IsCalm b inside (part_of p text)
calm-first b inside text p ps (inl e) = inl e
calm-first b inside text p ps (inr e) = inr (neither _ _ e).0

calm-rest : (b : Breaks) (inside : Bool) (text : List ℕ) (p : Piece) (ps : List Piece) → AreCalm b inside text (p ∷ ps)
    → AreCalm b (inside_behind_part b inside (part_of p text)) text ps
calm-rest b inside text p ps (inl e) = inl e
calm-rest b inside text p ps (inr e) = inr (neither (part_closes b inside (part_of p text)) _ e).1

-- the kids that are left behind pieces
abbrev pub nodes_after : List Piece → List ℕ → Nodes → Nodes
nodes_after [] text ts = ts
nodes_after (p ∷ ps) text ts = nodes_after ps text (nodes_behind (part_of p text) ts)

start-quiet : (b : Breaks) (inside : Bool) (p : Piece) → start_of (quiet b) inside p ≡ start_of b inside p
start-quiet b inside (pi.Fixed s) = refl
start-quiet b inside (pi.Own o) = refl
start-quiet b inside (pi.Kid s) = refl
start-quiet b inside (pi.Optional s) = refl
start-quiet b inside (pi.Led c s) = refl
start-quiet b inside (pi.Followed s c) = refl
start-quiet b inside (pi.Value s) = refl
start-quiet b inside (pi.Each s) = refl
start-quiet b inside (pi.EachLed c s) = refl
start-quiet b inside (pi.EachFollowed s c) = refl
start-quiet b inside (pi.More s) = refl
start-quiet b inside (pi.List s) = refl
start-quiet b inside (pi.Elements s) = refl
start-quiet b inside (pi.MoreElements s) = refl

inside-quiet : (b : Breaks) (inside : Bool) (q : Part) → inside_behind_part (quiet b) inside q ≡ inside_behind_part b inside q
inside-quiet b inside (pa.Sign s) = refl
inside-quiet b inside (pa.Own o) = refl
inside-quiet b inside (pa.One l) = refl
inside-quiet b inside (pa.All l) = refl
inside-quiet b inside pa.Listed = refl

abbrev here_ways : List ℕ → Head → Breaks → Bool → Piece → ℕ → Nodes → List Way
here_ways cs h b inside p n ts = part_ways cs h b inside (start_of b inside p) (part_of p h.text) n ts

abbrev rest_walk : List ℕ → Head → Breaks → Bool → Piece → List Piece → ℕ → Nodes → List Way
rest_walk cs h b inside p ps n ts =
    pieces_walk cs h b (inside_behind_part b inside (part_of p h.text)) ps (n + length (here_ways cs h b inside p n ts)) (nodes_behind
    (part_of p h.text) ts)

pub within-length : (b : Breaks) (inside : Bool) (u : List Way) → length (within_brackets b inside u) ≡ length u
within-length b inside u = within_if (b.brackets && inside) u

pub within-commas : (b : Breaks) (inside : Bool) (u : List Way) → length (with_commas (within_brackets b inside u)) ≡ length (with_commas u)
within-commas b inside u =
    ap length (with_commas-within (b.brackets && inside) u) ∙ within_if (b.brackets && inside) (with_commas u)

-- what is spread behind the first piece
pub spread-rest : (cs ds : List ℕ) (h : Head) (b : Breaks) (inside : Bool) (p : Piece) (ps : List Piece) (n m : ℕ) (ts : Nodes)
    → AreSpread (pieces_walk cs h b inside (p ∷ ps) n ts) (drop n cs) (drop m ds)
    → AreSpread (rest_walk cs h b inside p ps n ts) (drop (n + length (here_ways cs h b inside p n ts)) cs)
    (drop (m + length (with_commas (here_ways cs h b inside p n ts))) ds)
spread-rest cs ds h b inside p ps n m ts x =
    let u = here_ways cs h b inside p n ts in
    let v = rest_walk cs h b inside p ps n ts in
    subst (λ k. AreSpread v (drop (n + length u) cs) (drop (m + k) ds)) (within-commas b inside u)
    (subst (λ k. AreSpread v (drop (n + k) cs) (drop (m + length (with_commas (within_brackets b inside u))) ds)) (within-length b inside u)
    (spread-next (within_brackets b inside u) v n m cs ds x))

pub spread-piece : (cs ds : List ℕ) (h : Head) (b : Breaks) (inside : Bool) (p : Piece) (ps : List Piece) (n m : ℕ) (ts : Nodes)
    → AreSpread (pieces_walk cs h b inside (p ∷ ps) n ts) (drop n cs) (drop m ds)
    → AreSpread (here_ways cs h b inside p n ts) (drop n cs) (drop m ds)
spread-piece cs ds h b inside p ps n m ts x =
    let u = here_ways cs h b inside p n ts in
    spread-within (b.brackets && inside) u (drop n cs) (drop m ds)
    (spread-left (within_brackets b inside u) (rest_walk cs h b inside p ps n ts) (drop n cs) (drop m ds) x)

-- ---- the signs of a form

abbrev pub has_sign : Sign → List Piece → Bool
has_sign s [] = false
has_sign s (p ∷ ps) = is_fixed s p || has_sign s ps

-- the pieces behind the first of these signs
abbrev pub pieces_from : Sign → List Piece → List Piece
pieces_from s [] = []
pieces_from s (p ∷ ps) = if is_fixed s p then ps else pieces_from s ps

-- the kids that are left behind it
abbrev pub nodes_at : Sign → List ℕ → List Piece → Nodes → Nodes
nodes_at s text [] ts = ts
nodes_at s text (p ∷ ps) ts =
    if is_fixed s p then nodes_behind (part_of p text) ts else nodes_at s text ps (nodes_behind (part_of p text) ts)

-- the first of these signs, among the ways and the tokens of the pieces
pub record SignAgain (cs : List ℕ) (h : Head) (b : Breaks) (inside : Bool) (ps : List Piece) (n m : ℕ) (ts kids : Nodes) (s : Sign) : Type 0
  where
    pub before : List Way
    pub way : Way
    pub behind : List Way
    pub walk : pieces_walk cs h b inside ps n ts ≡ before ++ way ∷ behind
    pub calm : way.comma ≡ false
    pub at : sign_at s h ps n (spells 0 ts) ≡ n + length before
    pub again_at : sign_at s h ps m (spells 0 kids) ≡ m + length (with_commas before)
    pub inside_behind : Bool
    pub number : ℕ
    pub behind_is : behind ≡ pieces_walk cs h b inside_behind (pieces_from s ps) number (nodes_at s h.text ps ts)

fixed-part : (s : Sign) (p : Piece) (text : List ℕ) → is_fixed s p ≡ true → (c : Sign) × (part_of p text ≡ pa.Sign c)
fixed-part s (pi.Fixed c) text e = (c, refl)
fixed-part s (pi.Own o) text e = false-true e
fixed-part s (pi.Kid t) text e = false-true e
fixed-part s (pi.Optional t) text e = false-true e
fixed-part s (pi.Led c t) text e = false-true e
fixed-part s (pi.Followed t c) text e = false-true e
fixed-part s (pi.Value t) text e = false-true e
fixed-part s (pi.Each t) text e = false-true e
fixed-part s (pi.EachLed c t) text e = false-true e
fixed-part s (pi.EachFollowed t c) text e = false-true e
fixed-part s (pi.More t) text e = false-true e
fixed-part s (pi.List t) text e = false-true e
fixed-part s (pi.Elements t) text e = false-true e
fixed-part s (pi.MoreElements t) text e = false-true e

-- the way of a sign, within brackets or not
within-one : (x : Bool) (w : Way) → (if x then map deeper (w ∷ []) else w ∷ []) ≡ (if x then deeper w else w) ∷ []
within-one true w = refl
within-one false w = refl

within-calm : (x : Bool) (w : Way) → w.comma ≡ false → (if x then deeper w else w).comma ≡ false
within-calm true w e = e
within-calm false w e = e

sign-first : (cs : List ℕ) (h : Head) (b : Breaks) (inside : Bool) (p : Piece) (ps : List Piece) (n m : ℕ) (ts kids : Nodes) (s : Sign)
    → AreCalm b inside h.text (p ∷ ps) → is_fixed s p ≡ true → SignAgain cs h b inside (p ∷ ps) n m ts kids s
sign-first cs h b inside p ps n m ts kids s calm e =
    let c = fixed-part s p h.text e in
    let w = fixed_way b inside c.0 in
    let x = b.brackets && inside in
    let rest = rest_walk cs h b inside p ps n ts in
    let here : here_ways cs h b inside p n ts ≡ w ∷ [] = ap (λ q. part_ways cs h b inside (start_of b inside p) q n ts) c.1 in
    let still : (fixed_way b inside c.0).comma ≡ false = fixed-calm b inside c.0
    (subst (IsCalm b inside) c.1 (calm-first b inside h.text p ps calm)) in
    record {
      before = [];
      way = if x then deeper w else w;
      behind = rest;
      walk = ap (λ u. within_brackets b inside u ++ rest) here ∙ ap (λ u. u ++ rest) (within-one x w);
      calm = within-calm x w still;
      at = ap (λ y. if y then n else sign_at s h ps (n + length (piece_tokens 0 h p (spells 0 ts))) (left_behind p (spells 0 ts))) e
          ∙ add-zero n;
      again_at = ap (λ y. if y then m else sign_at s h ps (m + length (piece_tokens 0 h p (spells 0 kids))) (left_behind p (spells 0 kids)))
          e
          ∙ add-zero m;
      inside_behind = inside_behind_part b inside (part_of p h.text);
      number = n + length (here_ways cs h b inside p n ts);
      behind_is = ap (λ y. pieces_walk cs h b (inside_behind_part b inside (part_of p h.text)) (if y then ps else pieces_from s ps)
          (n + length (here_ways cs h b inside p n ts))
          (if y then nodes_behind (part_of p h.text) ts else nodes_at s h.text ps (nodes_behind (part_of p h.text) ts))) (sym e);
    }

-- how many tokens a piece has
piece-length : (cs : List ℕ) (h : Head) (b : Breaks) (inside : Bool) (s : Start) (p : Piece) (n : ℕ) (ts : Nodes)
    → length (piece_tokens 0 h p (spells 0 ts)) ≡ length (part_ways cs h b inside s (part_of p h.text) n ts)
piece-length cs h b inside s p n ts =
    ap length (tokens-part h p (spells 0 ts)) ∙ sym (part-length cs h b inside s (part_of p h.text) n ts)

sign-past : (s : Sign) (h : Head) (p : Piece) (ps : List Piece) (n k : ℕ) (ts us : Nodes) → is_fixed s p ≡ false
    → length (piece_tokens 0 h p (spells 0 ts)) ≡ k → nodes_behind (part_of p h.text) ts ≡ us
    → sign_at s h (p ∷ ps) n (spells 0 ts) ≡ sign_at s h ps (n + k) (spells 0 us)
sign-past s h p ps n k ts us e l u =
    ap (λ y. if y then n else sign_at s h ps (n + length (piece_tokens 0 h p (spells 0 ts))) (left_behind p (spells 0 ts))) e
    ∙ ap (λ vs. sign_at s h ps (n + length (piece_tokens 0 h p (spells 0 ts))) vs) (spells-behind p h.text ts)
    ∙ ap (λ j. sign_at s h ps (n + j) (spells 0 (nodes_behind (part_of p h.text) ts))) l
    ∙ ap (λ vs. sign_at s h ps (n + k) (spells 0 vs)) u

add-more : (n a b c d : ℕ) → a ≡ b → d ≡ b + c → n + a + c ≡ n + d
add-more n a b c d e f = omega (arith, e, f)

sign-later : (cs ds : List ℕ) (h : Head) (b : Breaks) (inside : Bool) (p : Piece) (ps : List Piece) (n m : ℕ) (ts kids rest : Nodes)
    (s : Sign)
    → is_fixed s p ≡ false → nodes_behind (part_of p h.text) kids ≡ rest
    → length (piece_tokens 0 h p (spells 0 kids)) ≡ length (with_commas (here_ways cs h b inside p n ts))
    → SignAgain cs h b (inside_behind_part b inside (part_of p h.text)) ps (n + length (here_ways cs h b inside p n ts))
    (m + length (with_commas (here_ways cs h b inside p n ts))) (nodes_behind (part_of p h.text) ts) rest s
    → SignAgain cs h b inside (p ∷ ps) n m ts kids s
sign-later cs ds h b inside p ps n m ts kids rest s e k l a =
    let u = here_ways cs h b inside p n ts in
    let v = within_brackets b inside u in
    record {
      before = v ++ a.before;
      way = a.way;
      behind = a.behind;
      walk = ap (λ x. v ++ x) a.walk ∙ sym (append_assoc v a.before (a.way ∷ a.behind));
      calm = a.calm;
      at = sign-past s h p ps n (length u) ts (nodes_behind (part_of p h.text) ts) e
          (piece-length cs h b inside (start_of b inside p) p n ts) refl
          ∙ a.at ∙ add-more n (length u) (length v) (length a.before) (length (v ++ a.before)) (sym (within-length b inside u))
          (length-append v a.before);
      again_at = sign-past s h p ps m (length (with_commas u)) kids rest e l k ∙ a.again_at
          ∙ add-more m (length (with_commas u)) (length (with_commas v)) (length (with_commas a.before))
          (length (with_commas (v ++ a.before)))
          (sym (within-commas b inside u))
          (ap length (with_commas-append v a.before) ∙ length-append (with_commas v) (with_commas a.before));
      inside_behind = a.inside_behind;
      number = a.number;
      behind_is = a.behind_is ∙ ap (λ y. pieces_walk cs h b a.inside_behind (if y then ps else pieces_from s ps) a.number
          (if y then nodes_behind (part_of p h.text) ts else nodes_at s h.text ps (nodes_behind (part_of p h.text) ts))) (sym e);
    }

-- ---- the pieces of a form

pub record PiecesAgain (cs ds : List ℕ) (h : Head) (b : Breaks) (inside : Bool) (ps : List Piece) (n m : ℕ) (ts tail : Nodes) : Type 0 where
  pub kids : Nodes
  pub behind : nodes_after ps h.text kids ≡ tail
  pub kin : (e : Bool) → Kin e (nodes_after ps h.text ts) tail → Kin e ts kids
  pub ways_are : pieces_walk ds h (quiet b) inside ps m kids ≡ with_commas (pieces_walk cs h b inside ps n ts)
  pub spelled : pieces_tokens 0 h ps (spells 0 kids) ≡ tokens_with (pieces_walk cs h b inside ps n ts) (pieces_tokens 0 h ps (spells 0 ts))
  pub no_kids : ts ≡ none → kids ≡ none
  pub signs : (s : Sign) → has_sign s ps ≡ true → SignAgain cs h b inside ps n m ts kids s

pub areagain-behind : (cs ds : List ℕ) (q : Part) (ts : Nodes) → AreAgain cs ds ts → AreAgain cs ds (nodes_behind q ts)
areagain-behind cs ds (pa.Sign s) ts f = f
areagain-behind cs ds (pa.Own o) ts f = f
areagain-behind cs ds (pa.One l) none f = tt
areagain-behind cs ds (pa.One l) (more t ts) f = f.1
areagain-behind cs ds (pa.All l) ts f = tt
areagain-behind cs ds pa.Listed ts f = tt

walk-again : (cs ds : List ℕ) (h : Head) (b : Breaks) (inside : Bool) (p : Piece) (ps : List Piece) (n m : ℕ) (ts kids rest : Nodes)
    → part_ways ds h (quiet b) inside (start_of b inside p) (part_of p h.text) m kids ≡ with_commas (here_ways cs h b inside p n ts)
    → nodes_behind (part_of p h.text) kids ≡ rest
    → pieces_walk ds h (quiet b) (inside_behind_part b inside (part_of p h.text)) ps
    (m + length (with_commas (here_ways cs h b inside p n ts)))
    rest ≡ with_commas (rest_walk cs h b inside p ps n ts)
    → pieces_walk ds h (quiet b) inside (p ∷ ps) m kids ≡ with_commas (pieces_walk cs h b inside (p ∷ ps) n ts)
walk-again cs ds h b inside p ps n m ts kids rest e k r =
    let q = part_of p h.text in
    let u = here_ways cs h b inside p n ts in
    let v = rest_walk cs h b inside p ps n ts in
    let walk = λ (i : Bool) (x : List Way) (us : Nodes). within_brackets b inside x ++ pieces_walk ds h (quiet b) i ps (m + length x) us in
    let here : part_ways ds h (quiet b) inside (start_of (quiet b) inside p) q m kids ≡ with_commas u =
    ap (λ s. part_ways ds h (quiet b) inside s q m kids) (start-quiet b inside p) ∙ e in
    ap (λ i. walk i (part_ways ds h (quiet b) inside (start_of (quiet b) inside p) q m kids) (nodes_behind q kids))
    (inside-quiet b inside q)
    ∙ ap (λ x. walk (inside_behind_part b inside q) x (nodes_behind q kids)) here
    ∙ ap (λ us. walk (inside_behind_part b inside q) (with_commas u) us) k
    ∙ ap (λ x. within_brackets b inside (with_commas u) ++ x) r
    ∙ ap (λ x. x ++ with_commas v) (sym (with_commas-within (b.brackets && inside) u))
    ∙ sym (with_commas-append (within_brackets b inside u) v)

-- the tokens of a piece, and of those behind it
pub pieces-first : (h : Head) (p : Piece) (ps : List Piece) (ts rest : Nodes) → nodes_behind (part_of p h.text) ts ≡ rest
    → pieces_tokens 0 h (p ∷ ps) (spells 0 ts) ≡ part_tokens h (part_of p h.text) (spells 0 ts) ++ pieces_tokens 0 h ps (spells 0 rest)
pieces-first h p ps ts rest e =
    ap (λ x. x ++ pieces_tokens 0 h ps (left_behind p (spells 0 ts))) (tokens-part h p (spells 0 ts))
    ∙ ap (λ us. part_tokens h (part_of p h.text) (spells 0 ts) ++ pieces_tokens 0 h ps us) (spells-behind p h.text ts)
    ∙ ap (λ us. part_tokens h (part_of p h.text) (spells 0 ts) ++ pieces_tokens 0 h ps (spells 0 us)) e

spelled-again : (cs : List ℕ) (h : Head) (b : Breaks) (inside : Bool) (p : Piece) (ps : List Piece) (n : ℕ) (ts kids rest : Nodes)
    → nodes_behind (part_of p h.text) kids ≡ rest
    → part_tokens h (part_of p h.text) (spells 0 kids)
    ≡ tokens_with (here_ways cs h b inside p n ts) (part_tokens h (part_of p h.text) (spells 0 ts))
    → pieces_tokens 0 h ps (spells 0 rest)
    ≡ tokens_with (rest_walk cs h b inside p ps n ts) (pieces_tokens 0 h ps (spells 0 (nodes_behind (part_of p h.text) ts)))
    → pieces_tokens 0 h (p ∷ ps) (spells 0 kids)
    ≡ tokens_with (pieces_walk cs h b inside (p ∷ ps) n ts) (pieces_tokens 0 h (p ∷ ps) (spells 0 ts))
spelled-again cs h b inside p ps n ts kids rest k e r =
    let q = part_of p h.text in
    let u = here_ways cs h b inside p n ts in
    let v = rest_walk cs h b inside p ps n ts in
    let one = part_tokens h q (spells 0 ts) in
    let others = pieces_tokens 0 h ps (spells 0 (nodes_behind q ts)) in
    pieces-first h p ps kids rest k
    ∙ (λ i. e i ++ r i)
    ∙ ap (λ x. x ++ tokens_with v others) (sym (with-within (b.brackets && inside) u one))
    ∙ sym (with-append (within_brackets b inside u) v one others
    (within-length b inside u ∙ part-length cs h b inside (start_of b inside p) q n ts))
    ∙ ap (tokens_with (within_brackets b inside u ++ v)) (sym (pieces-first h p ps ts (nodes_behind q ts) refl))

or-true : (x y : Bool) → (x || y) ≡ true → ((x ≡ true) ⊎ ((x ≡ false) × (y ≡ true)))
or-true true y h = inl refl
or-true false y h = inr (refl, h)

sign-of : (cs ds : List ℕ) (h : Head) (b : Breaks) (inside : Bool) (p : Piece) (ps : List Piece) (n m : ℕ) (ts kids rest : Nodes) (s : Sign)
    → AreCalm b inside h.text (p ∷ ps) → nodes_behind (part_of p h.text) kids ≡ rest
    → length (piece_tokens 0 h p (spells 0 kids)) ≡ length (with_commas (here_ways cs h b inside p n ts))
    → ((s : Sign) → has_sign s ps ≡ true
    → SignAgain cs h b (inside_behind_part b inside (part_of p h.text)) ps (n + length (here_ways cs h b inside p n ts))
    (m + length (with_commas (here_ways cs h b inside p n ts))) (nodes_behind (part_of p h.text) ts) rest s)
    → ((is_fixed s p ≡ true) ⊎ ((is_fixed s p ≡ false) × (has_sign s ps ≡ true))) → SignAgain cs h b inside (p ∷ ps) n m ts kids s
sign-of cs ds h b inside p ps n m ts kids rest s calm k l f (inl e) = sign-first cs h b inside p ps n m ts kids s calm e
sign-of cs ds h b inside p ps n m ts kids rest s calm k l f (inr e) =
    sign-later cs ds h b inside p ps n m ts kids rest s e.0 k l (f s e.1)

pub pieces-again : (cs ds : List ℕ) (h : Head) (b : Breaks) (inside : Bool) (ps : List Piece) (n m : ℕ) (ts tail : Nodes)
    → AreCalm b inside h.text ps → AreAgain cs ds ts → (nodes_after ps h.text ts ≡ none → tail ≡ none)
    → AreSpread (pieces_walk cs h b inside ps n ts) (drop n cs) (drop m ds) → PiecesAgain cs ds h b inside ps n m ts tail
pieces-again cs ds h b inside [] n m ts tail calm f g x = record {
  kids = tail;
  behind = refl;
  kin = λ e k. k;
  ways_are = refl;
  spelled = refl;
  no_kids = g;
  signs = λ s e. false-true e;
}
pieces-again cs ds h b inside (p ∷ ps) n m ts tail calm f g x =
    let q = part_of p h.text in
    let u = here_ways cs h b inside p n ts in
    let rest = pieces-again cs ds h b (inside_behind_part b inside q) ps (n + length u) (m + length (with_commas u)) (nodes_behind q ts)
    tail
    (calm-rest b inside h.text p ps calm) (areagain-behind cs ds q ts f) g (spread-rest cs ds h b inside p ps n m ts x) in
    let one = part-again cs ds h b inside (start_of b inside p) q n m ts rest.kids (calm-first b inside h.text p ps calm) f rest.no_kids
    (spread-piece cs ds h b inside p ps n m ts x) in
    let long : length (piece_tokens 0 h p (spells 0 one.kids)) ≡ length (with_commas u) =
    piece-length ds h (quiet b) inside (start_of b inside p) p m one.kids ∙ ap length one.ways_are in
    record {
      kids = one.kids;
      behind = ap (nodes_after ps h.text) one.behind ∙ rest.behind;
      kin = λ e k. one.kin e (rest.kin e k);
      ways_are = walk-again cs ds h b inside p ps n m ts one.kids rest.kids one.ways_are one.behind rest.ways_are;
      spelled = spelled-again cs h b inside p ps n ts one.kids rest.kids one.behind one.spelled rest.spelled;
      no_kids = one.no_kids;
      signs = λ s e. sign-of cs ds h b inside p ps n m ts one.kids rest.kids s calm one.behind long rest.signs (or-true (is_fixed s p)
          (has_sign s ps) e);
    }
