-- Whether comments stand between tokens, without the commas that are added and with them.
use Rattle.std.proofs.Common.{◌≡◌, ℕ, ◌+◌, List, [], ◌∷◌, ◌++◌, Bool, true, false, ◌&&◌, map, length, drop, refl, sym, ap, ◌∙◌, subst, if◌then◌else◌}
use Rattle.std.specs.Prelude.{◌||◌, nat_lt, slice_index}
use Rattle.hare_tree.specs.declared.kind.Kind.{Kind}
use Rattle.hare_tree.specs.declared.form.Sign.{Sign}
use Rattle.hare_tree.specs.declared.form.Sign.TheVariants as si
use Rattle.hare_tree.specs.declared.form.Sort.TheVariants as so
use Rattle.hare_tree.specs.declared.form.Lead.TheVariants as le
use Rattle.hare_tree.specs.declared.form.Piece.{Piece}
use Rattle.hare_tree.specs.declared.form.Piece.TheVariants as pi
use Rattle.hare_tree.specs.Node.{Head, Nodes, none, more}
use Rattle.hare_tree.specs.Forms.{form_of}
use Rattle.hare_tree.specs.Spell.{spells}
use Rattle.hare_tree.specs.Judged.{nodes_from}
use Rattle.hare_ways.specs.declared.way.Start.{Start}
use Rattle.hare_ways.specs.declared.way.Way.{Way}
use Rattle.hare_ways.specs.declared.breaks.Breaks.{Breaks}
use Rattle.hare_ways.specs.Breaks.{Item, is_list, is_braced, is_case, is_one, opening, closing, kids_behind, sign_at, has_comment, has_case_comment, has_own_lines, is_broken}
use Rattle.hare_ways.specs.Ways.{ways, sign_way, starting, deeper, statement_start}
use Rattle.hare_ways.specs.Parts.{items_of}
use Rattle.hare_ways.specs.Walk.{kid_ways, row_ways, pieces_walk}
use Rattle.hare_ways.proofs.Puts.{behind-sign}
use Rattle.hare_commas.specs.Commas.{settled, comma_ways, with_commas}
use Rattle.hare_commas.proofs.AddedCommas.Spread.{spread-next, spread-here}
use Rattle.hare_commas.specs.Commas.{AreSpread}
use Rattle.hare_commas.proofs.AddedCommas.Flags.{IsPlain, plain-starting}
use Rattle.hare_commas.proofs.AddedCommas.Plain.{ways-plain}
use Rattle.hare_commas.proofs.WaysAgain.Pieces.{has_sign, nodes_at, SignAgain}
use Rattle.hare_commas.proofs.WaysAgain.ListForms.{brackets-are-signs, case-form, TakeSigns}

-- ---- at a sign

sign-spread : (cs ds : List ℕ) (h : Head) (b : Breaks) (ps : List Piece) (n m : ℕ) (ts kids : Nodes) (s : Sign)
    → AreSpread (pieces_walk cs h b false ps n ts) (drop n cs) (drop m ds) → (a : SignAgain cs h b false ps n m ts kids s)
    → AreSpread (a.way ∷ a.behind) (drop (sign_at s h ps n (spells 0 ts)) cs) (drop (sign_at s h ps m (spells 0 kids)) ds)
sign-spread cs ds h b ps n m ts kids s x a =
    let here = spread-next a.before (a.way ∷ a.behind) n m cs ds (subst (λ ws. AreSpread ws (drop n cs) (drop m ds)) a.walk x) in
    subst (λ j. AreSpread (a.way ∷ a.behind) (drop j cs) (drop (sign_at s h ps m (spells 0 kids)) ds)) (sym a.at)
    (subst (λ j. AreSpread (a.way ∷ a.behind) (drop (n + length a.before) cs) (drop j ds)) (sym a.again_at) here)

-- as many comments stand in front of the sign
sign-same : (cs ds : List ℕ) (h : Head) (b : Breaks) (ps : List Piece) (n m : ℕ) (ts kids : Nodes) (s : Sign)
    → AreSpread (pieces_walk cs h b false ps n ts) (drop n cs) (drop m ds) → (a : SignAgain cs h b false ps n m ts kids s)
    → slice_index cs (sign_at s h ps n (spells 0 ts)) ≡ slice_index ds (sign_at s h ps m (spells 0 kids))
sign-same cs ds h b ps n m ts kids s x a =
    spread-here a.way a.behind (sign_at s h ps n (spells 0 ts)) (sign_at s h ps m (spells 0 kids)) cs ds a.calm
    (sign-spread cs ds h b ps n m ts kids s x a)

-- a token stands first, in front of which no comma is added
abbrev pub IsBegun : List Way → Type 0
IsBegun [] = ⊥
IsBegun (w ∷ ws) = w.comma ≡ false

next-same : (cs ds : List ℕ) (w : Way) (ws : List Way) (i j : ℕ) → w.comma ≡ false → IsBegun ws → AreSpread (w ∷ ws) (drop i cs) (drop j ds)
    → slice_index cs (i + 1) ≡ slice_index ds (j + 1)
next-same cs ds w [] i j e p x = absurd p
next-same cs ds w (v ∷ ws) i j e p x =
    let one : length (with_commas (w ∷ [])) ≡ 1 = ap (λ c. length (comma_ways c w.depth ++ settled w ∷ [])) e in
    spread-here v ws (i + 1) (j + 1) cs ds p
    (subst (λ k. AreSpread (v ∷ ws) (drop (i + 1) cs) (drop (j + k) ds)) one (spread-next (w ∷ []) (v ∷ ws) i j cs ds x))

-- ---- brackets

true-false : {A : Type 0} → true ≡ false → A
true-false h = cc

false-true : {A : Type 0} → false ≡ true → A
false-true h = cc

neither : (x y : Bool) → (x || y) ≡ false → (x ≡ false) × (y ≡ false)
neither true y h = true-false h
neither false y h = (refl, h)

broken-by : (k : Kind) (is : List Item) (x y : Bool) (c : Bool) → (is_braced k || is_list k) ≡ c
    → ((is_braced k || is_list k) ≡ true → x ≡ y) → is_broken k is x ≡ is_broken k is y
broken-by k is x y true e f = ap (is_broken k is) (f e)
broken-by k is x y false e f =
    let no = neither (is_braced k) (is_list k) e in
    rw (no.0, no.1) refl

commented-same : (a b c d : ℕ) → a ≡ c → b ≡ d → nat_lt c d ≡ nat_lt a b
commented-same a b c d p q = ap (λ x. nat_lt x d) (sym p) ∙ ap (nat_lt a) (sym q)

-- brackets are broken as before
pub broken-same : (cs ds : List ℕ) (h : Head) (b : Breaks) (n m : ℕ) (ts kids : Nodes)
    → AreSpread (pieces_walk cs h b false (form_of h.kind) n ts) (drop n cs) (drop m ds)
    → ((s : Sign) → has_sign s (form_of h.kind) ≡ true → SignAgain cs h b false (form_of h.kind) n m ts kids s)
    → (is : List Item)
    → is_broken h.kind is (has_comment ds h m (spells 0 kids)) ≡ is_broken h.kind is (has_comment cs h n (spells 0 ts))
broken-same cs ds h b n m ts kids x f is =
    broken-by h.kind is _ _ (is_braced h.kind || is_list h.kind) refl
    (λ e.
    let has = brackets-are-signs h.kind e in
    let o = sign-same cs ds h b (form_of h.kind) n m ts kids (opening h.kind) x (f (opening h.kind) has.0) in
    let c = sign-same cs ds h b (form_of h.kind) n m ts kids (closing h.kind) x (f (closing h.kind) has.1) in
    commented-same _ _ _ _ o c)

-- ---- cases

begun-left : (u v : List Way) → IsBegun u → IsBegun (u ++ v)
begun-left [] v p = absurd p
begun-left (w ∷ u) v p = p

begun-behind : (u : List Way) (w : Way) → IsPlain u → w.comma ≡ false → IsBegun (u ++ w ∷ [])
begun-behind [] w p e = e
begun-behind (v ∷ u) w p e = p

begun-deeper : (u : List Way) → IsBegun u → IsBegun (map deeper u)
begun-deeper [] p = absurd p
begun-deeper (w ∷ u) p = p

begun-within : (c : Bool) (u : List Way) → IsBegun u → IsBegun (if c then map deeper u else u)
begun-within true u p = begun-deeper u p
begun-within false u p = p

-- one statement has a token
statement-begun : (cs : List ℕ) (k : Kind) (s : Start) (c : Sign) (n : ℕ) (ts : Nodes) → is_one (items_of ts) ≡ true → TakeSigns ts
    → IsBegun (row_ways cs k s (le.Behind c) n ts)
statement-begun cs k s c n none e t = false-true e
statement-begun cs k s c n (more t none) e a =
    begun-left (kid_ways cs k s (le.Behind c) n t) []
    (subst IsBegun (sym (behind-sign cs k s c n t a.0))
    (begun-behind (starting s (ways cs n t)) (sign_way k c) (plain-starting s (ways cs n t) (ways-plain cs n t)) refl))
statement-begun cs k s c n (more t (more u us)) e a = false-true e

statements-begun : (cs : List ℕ) (h : Head) (b : Breaks) (inside : Bool) (n : ℕ) (ts : Nodes) → is_one (items_of ts) ≡ true → TakeSigns ts
    → IsBegun (pieces_walk cs h b inside (pi.EachFollowed so.Statement si.Semicolon ∷ []) n ts)
statements-begun cs h b inside n ts e t =
    begun-left _ [] (begun-within (b.brackets && inside) _ (statement-begun cs h.kind (statement_start b) si.Semicolon n ts e t))

items-from : (ts : Nodes) → drop 1 (items_of ts) ≡ items_of (nodes_from 1 ts)
items-from none = refl
items-from (more t ts) = refl

own-lines-case : (is : List Item) (x y : Bool) → (is_one is ≡ true → x ≡ y) → (o : Bool) → is_one is ≡ o
    → has_own_lines is x ≡ has_own_lines is y
own-lines-case is x y f true e = ap (has_own_lines is) (f e)
own-lines-case is x y f false e = rw e refl

own-lines-by : (is : List Item) (x y : Bool) → (is_one is ≡ true → x ≡ y) → has_own_lines is x ≡ has_own_lines is y
own-lines-by is x y f = own-lines-case is x y f (is_one is) refl

-- the statements of a case begin lines as before
pub own-lines-same : (cs ds : List ℕ) (h : Head) (b : Breaks) (n m : ℕ) (ts kids : Nodes)
    → AreSpread (pieces_walk cs h b false (form_of h.kind) n ts) (drop n cs) (drop m ds)
    → ((s : Sign) → has_sign s (form_of h.kind) ≡ true → SignAgain cs h b false (form_of h.kind) n m ts kids s)
    → is_case h.kind ≡ true → TakeSigns (nodes_from 1 ts)
    → has_own_lines (kids_behind si.Arrow (form_of h.kind) (items_of ts)) (has_case_comment ds h m (spells 0 kids))
    ≡ has_own_lines (kids_behind si.Arrow (form_of h.kind) (items_of ts)) (has_case_comment cs h n (spells 0 ts))
own-lines-same cs ds h b n m ts kids x f c t =
    let form = case-form h.kind c in
    own-lines-by _ _ _
    (λ e.
    let begin = f si.Case form.begins in
    let arrow = f si.Arrow form.arrow in
    let first : slice_index cs n ≡ slice_index ds m = ap (slice_index cs) (sym (form.first h n (spells 0 ts)))
    ∙ sign-same cs ds h b (form_of h.kind) n m ts kids si.Case x begin ∙ ap (slice_index ds) (form.first h m (spells 0 kids)) in
    let one : is_one (items_of (nodes_from 1 ts)) ≡ true =
    ap is_one (sym (items-from ts)) ∙ ap is_one (sym (form.items (items_of ts))) ∙ e in
    let behind : arrow.behind ≡ pieces_walk cs h b arrow.inside_behind (pi.EachFollowed so.Statement si.Semicolon ∷ []) arrow.number
    (nodes_from 1 ts) = arrow.behind_is
    ∙ ap (λ ps. pieces_walk cs h b arrow.inside_behind ps arrow.number (nodes_at si.Arrow h.text (form_of h.kind) ts)) form.behind
    ∙ ap (pieces_walk cs h b arrow.inside_behind (pi.EachFollowed so.Statement si.Semicolon ∷ []) arrow.number) (form.left h.text ts) in
    let begun = subst IsBegun (sym behind) (statements-begun cs h b arrow.inside_behind arrow.number (nodes_from 1 ts) one t) in
    commented-same _ _ _ _ first
    (next-same cs ds arrow.way arrow.behind (sign_at si.Arrow h (form_of h.kind) n (spells 0 ts))
    (sign_at si.Arrow h (form_of h.kind) m (spells 0 kids)) arrow.calm begun (sign-spread cs ds h b (form_of h.kind) n m ts kids si.Arrow x
    arrow)))
