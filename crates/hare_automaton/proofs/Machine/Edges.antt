-- Which tokens end an expression: how tightly a token takes what stands before it, and what a tree's right edge lets stand behind it.
use Rattle.std.proofs.Common.{◌≡◌, ℕ, ◌-◌, ◌<◌, ◌≤◌, List, [], ◌∷◌, ◌++◌, Bool, true, false, ◌&&◌, ◌||◌, not, refl, ◌∙◌, arith, Some, if◌then◌else◌}
use Rattle.std.specs.Prelude.{nat_le}
use Rattle.std.proofs.lemmas.Bool.Decides.{nat_tests}
use Rattle.hare_tree.specs.declared.kind.Kind.{Kind}
use Rattle.hare_tree.specs.declared.kind.Kind.TheVariants as ki
use Rattle.hare_tree.specs.declared.token.Token.{Token}
use Rattle.hare_tree.specs.declared.form.Sign.{Sign}
use Rattle.hare_tree.specs.declared.form.Sign.TheVariants as si
use Rattle.hare_tree.specs.declared.form.Sort.{Sort}
use Rattle.hare_tree.specs.declared.form.Sort.TheVariants as so
use Rattle.hare_tree.specs.declared.form.Piece.{Piece}
use Rattle.hare_tree.specs.declared.form.Piece.TheVariants as pi
use Rattle.hare_tree.specs.Node.{Head, Node, Nodes, branch, none, more, head, size_of}
use Rattle.hare_tree.specs.Forms.{form_of}
use Rattle.hare_tree.specs.Levels.{level, admits}
use Rattle.hare_tree.specs.Spell.{spell}
use Rattle.hare_tree.specs.Shape.{is_shaped, are_kids, is_own, is_empty, is_none, kid_pieces, own_of, kids_end, edges, yields_label}
use Rattle.hare_automaton.specs.declared.class.Class.{Class}
use Rattle.hare_automaton.specs.declared.class.Class.TheVariants as cl
use Rattle.hare_automaton.specs.declared.rule.Rule.TheVariants as ru
use Rattle.hare_automaton.specs.declared.rule.Symbol.{Symbol}
use Rattle.hare_automaton.specs.Rows.{Fault, Skips, of, part, has_sign}
use Rattle.hare_automaton.specs.Table.{row}
use Rattle.hare_automaton.specs.Engine.{Group, add, run}
use Rattle.hare_tree.specs.Signs.{is_sign}
use Rattle.hare_tree.specs.Shape.{stops, stops_each, form_stops, Ending, kid_or, Edge as EdgeOf, edges, ends_before}
use Rattle.hare_automaton.specs.ExpressionRows.{level_row}
use Rattle.hare_automaton.specs.OneTree.{plain, is_sort as covered}
use Rattle.hare_automaton.proofs.Machine.Steps.{front, run_skip}
use Rattle.hare_automaton.proofs.Spelled.Paths.{split}

-- How tightly a token takes an operand that stands before it. `{` and `::` go on with a path; what begins an expression goes on with a
-- `return`; 0 is for
-- all that takes nothing.
abbrev pub pull : Class → ℕ
pull (cl.Binary m) = m
pull cl.OpAssign = 1
pull (cl.Sign si.Equals) = 1
pull (cl.Sign si.Star) = 12
pull (cl.Sign si.Minus) = 11
pull (cl.Sign si.Ampersand) = 9
pull (cl.Sign si.Bar) = 7
pull (cl.Sign si.Colon) = 13
pull (cl.Sign si.As) = 13
pull (cl.Sign si.Is) = 13
pull (cl.Sign si.LeftParen) = 15
pull (cl.Sign si.LeftBracket) = 15
pull (cl.Sign si.Dot) = 15
pull (cl.Sign si.Question) = 15
pull (cl.Sign si.Bang) = 15
pull (cl.Sign si.LeftBrace) = 17
pull (cl.Sign si.PathMark) = 17
pull cl.Name = 18
pull cl.Number = 18
pull cl.Rune = 18
pull cl.Text = 18
pull cl.Bool = 18
pull (cl.Sign si.Null) = 18
pull (cl.Sign si.Void) = 18
pull (cl.Sign si.Tilde) = 18
pull (cl.Sign si.Free) = 18
pull (cl.Sign si.Delete) = 18
pull (cl.Sign si.Len) = 18
pull (cl.Sign si.Offset) = 18
pull (cl.Sign si.Size) = 18
pull (cl.Sign si.Align) = 18
pull (cl.Sign si.Alloc) = 18
pull (cl.Sign si.Append) = 18
pull (cl.Sign si.Abort) = 18
pull (cl.Sign si.Assert) = 18
pull (cl.Sign si.If) = 18
pull (cl.Sign si.For) = 18
pull (cl.Sign si.Break) = 18
pull (cl.Sign si.Continue) = 18
pull (cl.Sign si.Return) = 18
pull (cl.Sign si.Yield) = 18
pull (cl.Sign si.Match) = 18
pull (cl.Sign si.Switch) = 18
pull _ = 0

pub le_true : (m n : ℕ) → m ≤ n → nat_le m n ≡ true
le_true m n h = grind (arith, nat_tests)

pub lt_false : (m n : ℕ) → n < m → nat_le m n ≡ false
lt_false m n h = grind (arith, nat_tests)

pub true_le : (m n : ℕ) → nat_le m n ≡ true → m ≤ n
true_le m n h = grind (arith, nat_tests)

-- a token that takes nothing so tight
pub climb_skips : (l h : ℕ) (c : Class) → 1 ≤ l → pull c < l → row (ru.Climb l h) c ≡ Skips []
climb_skips l h (cl.Binary m) o e = rw (lt_false l m e) refl
climb_skips l h cl.OpAssign o e = rw (lt_false l 1 e) refl
climb_skips l h (cl.Sign si.Equals) o e = rw (lt_false l 1 e) refl
climb_skips l h (cl.Sign si.Star) o e = rw (lt_false l 12 e) refl
climb_skips l h (cl.Sign si.Minus) o e = rw (lt_false l 11 e) refl
climb_skips l h (cl.Sign si.Ampersand) o e = rw (lt_false l 9 e) refl
climb_skips l h (cl.Sign si.Bar) o e = rw (lt_false l 7 e) refl
climb_skips l h (cl.Sign si.Colon) o e = rw (lt_false l 13 e) refl
climb_skips l h (cl.Sign si.As) o e = rw (lt_false l 13 e) refl
climb_skips l h (cl.Sign si.Is) o e = rw (lt_false l 13 e) refl
climb_skips l h (cl.Sign si.LeftParen) o e = rw (lt_false l 15 e) refl
climb_skips l h (cl.Sign si.LeftBracket) o e = rw (lt_false l 15 e) refl
climb_skips l h (cl.Sign si.Dot) o e = rw (lt_false l 15 e) refl
climb_skips l h (cl.Sign si.Question) o e = rw (lt_false l 15 e) refl
climb_skips l h (cl.Sign si.Bang) o e = rw (lt_false l 15 e) refl
climb_skips l h (cl.Sign _) o e = refl
climb_skips l h _ o e = refl

-- what takes nothing begins no expression
pub quiet_start : (c : Class) → pull c ≡ 0 → level_row 1 c ≡ Fault
quiet_start (cl.Sign si.LeftParen) e = cc
quiet_start (cl.Sign si.LeftBracket) e = cc
quiet_start (cl.Sign si.LeftBrace) e = cc
quiet_start (cl.Sign si.Colon) e = cc
quiet_start (cl.Sign si.Minus) e = cc
quiet_start (cl.Sign si.Bang) e = cc
quiet_start (cl.Sign si.Star) e = cc
quiet_start (cl.Sign si.Ampersand) e = cc
quiet_start cl.Name e = cc
quiet_start cl.Number e = cc
quiet_start cl.Rune e = cc
quiet_start cl.Text e = cc
quiet_start cl.Bool e = cc
quiet_start (cl.Sign si.Null) e = cc
quiet_start (cl.Sign si.Void) e = cc
quiet_start (cl.Sign si.Tilde) e = cc
quiet_start (cl.Sign si.Free) e = cc
quiet_start (cl.Sign si.Delete) e = cc
quiet_start (cl.Sign si.Len) e = cc
quiet_start (cl.Sign si.Offset) e = cc
quiet_start (cl.Sign si.Size) e = cc
quiet_start (cl.Sign si.Align) e = cc
quiet_start (cl.Sign si.Alloc) e = cc
quiet_start (cl.Sign si.Append) e = cc
quiet_start (cl.Sign si.Abort) e = cc
quiet_start (cl.Sign si.Assert) e = cc
quiet_start (cl.Sign si.If) e = cc
quiet_start (cl.Sign si.For) e = cc
quiet_start (cl.Sign si.Break) e = cc
quiet_start (cl.Sign si.Continue) e = cc
quiet_start (cl.Sign si.Return) e = cc
quiet_start (cl.Sign si.Yield) e = cc
quiet_start (cl.Sign si.Match) e = cc
quiet_start (cl.Sign si.Switch) e = cc
quiet_start (cl.Sign _) e = refl
quiet_start _ e = refl

-- ---- only `else` and a comma can go on with a tree

abbrev resets : List Piece → Bool
resets (pi.Fixed s ∷ ps) = true
resets _ = false

-- no piece lets this sign go on with the form
abbrev calm : Sign → List Piece → Bool
calm c [] = true
calm c (pi.Led a s ∷ ps) = (resets ps || not (is_sign a c)) && calm c ps
calm c (pi.Value s ∷ ps) = not (is_sign si.Comma c) && calm c ps
calm c (_ ∷ ps) = calm c ps

abbrev all_end : List Ending → Bool
all_end [] = true
all_end (e ∷ es) = e.1 && all_end es

or_false : (b : Bool) → (b || false) ≡ true → b ≡ true
or_false true e = refl
or_false false e = cc

pub or_true : (b d : Bool) → d ≡ true → (b || d) ≡ true
or_true true d e = refl
or_true false d e = e

kid_ends : (b : Bool) (e : Ending) → b ≡ true → e.1 ≡ true → kid_or b e ≡ true
kid_ends b e p q = by (is_none e.0)
  where
    by : (d : Bool) → (if d then b else e.1) ≡ true
    by true = p
    by false = q

form_calm : (c : Sign) (h : Head) (b : Bool) (ps : List Piece) (es : List Ending) → (b || resets ps) ≡ true → calm c ps ≡ true →
    all_end es ≡ true → form_stops c h b ps es ≡ true
form_calm c h b [] es r k a = or_false b r
form_calm c h b (pi.Fixed s ∷ ps) es r k a = form_calm c h true ps es refl k a
form_calm c h b (pi.Own o ∷ ps) es r k a = form_calm c h true ps es refl k a
form_calm c h b (pi.Kid s ∷ ps) (e ∷ es) r k a =
    let p = split e.1 (all_end es) a in
    form_calm c h e.1 ps es (rw p.0 refl) k p.1
form_calm c h b (pi.Optional s ∷ ps) (e ∷ es) r k a =
    let p = split e.1 (all_end es) a in
    form_calm c h (kid_or b e) ps es (rw (kid_ends b e (or_false b r) p.0) refl) k p.1
form_calm c h b (pi.Led x s ∷ ps) (e ∷ es) r k a =
    let p = split e.1 (all_end es) a in
    let q = split (resets ps || not (is_sign x c)) (calm c ps) k in
    form_calm c h (kid_or (b && not (is_sign x c)) e) ps es (led b (is_sign x c) (resets ps) e (or_false b r) p.0 q.0) q.1 p.1
  where
    led : (b i r : Bool) (e : Ending) → b ≡ true → e.1 ≡ true → (r || not i) ≡ true → (kid_or (b && not i) e || r) ≡ true
    led b i true e p q o = or_true (kid_or (b && not i) e) true refl
    led b true false e p q o = cc
    led b false false e p q o = rw (kid_ends (b && true) e (rw p refl) q) refl
form_calm c h b (pi.Followed s x ∷ ps) (e ∷ es) r k a =
    let p = split e.1 (all_end es) a in
    form_calm c h (kid_or b (e.0, true)) ps es (rw (kid_ends b (e.0, true) (or_false b r) refl) refl) k p.1
form_calm c h b (pi.Value s ∷ ps) (e ∷ es) r k a =
    let p = split e.1 (all_end es) a in
    let q = split (not (is_sign si.Comma c)) (calm c ps) k in
    form_calm c h (kid_or (is_empty h.text || not (is_sign si.Comma c)) e) ps es
    (rw (kid_ends (is_empty h.text || not (is_sign si.Comma c)) e (or_true (is_empty h.text) (not (is_sign si.Comma c)) q.0) p.0) refl)
    q.1 p.1
form_calm c h b (pi.Kid s ∷ ps) [] r k a = refl
form_calm c h b (pi.Optional s ∷ ps) [] r k a = refl
form_calm c h b (pi.Led x s ∷ ps) [] r k a = refl
form_calm c h b (pi.Followed s x ∷ ps) [] r k a = refl
form_calm c h b (pi.Value s ∷ ps) [] r k a = refl
form_calm c h b _ es r k a = refl

calm_form : (c : Sign) (k : Kind) → is_sign si.Else c ≡ false → is_sign si.Comma c ≡ false → calm c (form_of k) ≡ true
calm_form c ki.If p q = rw p refl
calm_form c ki.Yield p q = rw q refl
calm_form c _ p q = refl

mutual
  unfolding stops

  pub stops_calm : (c : Sign) → is_sign si.Else c ≡ false → is_sign si.Comma c ≡ false → (t : Node) → stops c t ≡ true
  stops_calm c p q (branch h ts) = form_calm c h true (form_of h.kind) (stops_each c ts) refl (calm_form c h.kind p q) (each_calm c p q ts)

  each_calm : (c : Sign) → is_sign si.Else c ≡ false → is_sign si.Comma c ≡ false → (ts : Nodes) → all_end (stops_each c ts) ≡ true
  each_calm c p q none = refl
  each_calm c p q (more t ts) = rw (stops_calm c p q t, each_calm c p q ts) refl

-- the edge of a tree
abbrev pub edge : Node → EdgeOf
edge t = record { kind = (head t).kind; before_else = stops si.Else t; before_comma = stops si.Comma t }

-- a kid that ends before the sign behind it
pub ends_sign : (d : Sign) (t : Node) → ends_before (Some d) (edge t) ≡ true → stops d t ≡ true
ends_sign si.Else t e = e
ends_sign si.Comma t e = e
ends_sign _ t e = stops_calm _ refl refl t

-- ---- what may stand behind a tree of a sort

-- what a tree of this level takes at its right edge
abbrev pub tight : ℕ → ℕ
tight j = if nat_le j 1 then 0 else if nat_le 14 j && nat_le j 14 then 13 else j

abbrev pub bound : Sort → ℕ
bound (so.Level l) = l - 1
bound so.Type = 16
bound so.BareType = 16
bound so.Member = 16
bound so.TypePath = 16
bound so.Length = 16
bound so.StructField = 16
bound so.Pattern = 16
bound so.Binding = 18
bound so.Message = 17
bound so.Dots = 17
bound so.ByRef = 17
bound so.Param = 16
bound so.ImportPath = 16
bound so.Name = 18
bound so.PathName = 18
bound so.Export = 18
bound so.Params = 18
bound so.Use = 18
bound so.Decl = 18
bound _ = 0

abbrev pub reach : Sort → ℕ → ℕ
reach (so.Level l) j = tight j
reach so.Statement j = tight j
reach s j = bound s

-- what stands behind lists that no sign of their own closes
abbrev pub closed_by : Sort → Class → Bool
closed_by so.Values c = has_sign si.Arrow c
closed_by so.Case c = has_sign si.RightBrace c || has_sign si.Case c
closed_by so.SwitchCase c = has_sign si.RightBrace c || has_sign si.Case c
closed_by _ c = true

pub record Edge (s : Sort) (c : Class) (t : Node) : Type 0 where
  pub reaches : pull c ≤ reach s (level (head t).kind (head t).text)
  pub stops_at : (d : Sign) → c ≡ cl.Sign d → stops d t ≡ true
  pub closed : closed_by s c ≡ true

-- what is left to be read behind a tree of a level
abbrev pub left : Sort → ℕ → List Symbol
left (so.Level l) j = part (ru.Climb l j) ∷ []
left so.Statement j = if nat_le 1 j then part (ru.Climb 1 j) ∷ [] else []
left _ j = []

-- ---- trees up to a size

abbrev pub ReadsTo : ℕ → ℕ → Type 0
ReadsTo f n = (s : Sort) (t : Node) → size_of t ≤ n → covered s ≡ true → is_shaped s t ≡ true →
    (w : List Token) (st : List Symbol) (g : Group) (gs : List Group) → Edge s (front w) t →
    run f (spell f t ++ w) (of s ∷ st) (g ∷ gs) ≡ run f w (left s (level (head t).kind (head t).text) ++ st) (add (plain f t) (g ∷ gs))

-- a rule of operators that is over
over_left : (f : ℕ) (l j : ℕ) (w : List Token) (st : List Symbol) (gs : List Group) → 1 ≤ l → pull (front w) < l →
    run f w (part (ru.Climb l j) ∷ st) gs ≡ run f w st gs
over_left f l j w st gs o e = run_skip f w (ru.Climb l j) st gs (climb_skips l j (front w) o e)

pub left_over : (f : ℕ) (s : Sort) (j : ℕ) (w : List Token) (st : List Symbol) (gs : List Group) → covered s ≡ true →
    pull (front w) ≤ bound s → run f w (left s j ++ st) gs ≡ run f w st gs
left_over f (so.Level l) j w st gs c e =
    let o : 1 ≤ l = true_le 1 l c in
    over_left f l j w st gs o (omega arith)
left_over f so.Statement j w st gs c e = by (nat_le 1 j)
  where
    by : (b : Bool) → run f w ((if b then part (ru.Climb 1 j) ∷ [] else []) ++ st) gs ≡ run f w st gs
    by true = over_left f 1 j w st gs (omega arith) (omega arith)
    by false = refl
left_over f _ j w st gs c e = refl

tight_bound : (l j : ℕ) → 1 ≤ l → l ≤ j → l - 1 ≤ tight j
tight_bound l j o e = by (nat_le j 1) refl (nat_le 14 j && nat_le j 14) refl
  where
    by : (b : Bool) → nat_le j 1 ≡ b → (d : Bool) → (nat_le 14 j && nat_le j 14) ≡ d → l - 1 ≤ (if b then 0 else if d then 13 else j)
    by true p d q = let x = true_le j 1 p in omega arith
    by false p true q = let x = true_le j 14 (split (nat_le 14 j) (nat_le j 14) q).1 in omega arith
    by false p false q = omega arith

-- the bound of a sort is within what its trees reach
pub in_reach : (s : Sort) (t : Node) → covered s ≡ true → is_shaped s t ≡ true → bound s ≤ reach s (level (head t).kind (head t).text)
unfolding is_shaped
in_reach (so.Level l) (branch h ts) c e =
    let a = admits (so.Level l) h.kind h.text in
    let p = split (a && is_own (own_of (form_of h.kind)) h && are_kids (level h.kind h.text) (kid_pieces (form_of h.kind)) ts && kids_end
    (form_of h.kind) (edges ts)) (yields_label h ts) e in
    let q = split (a && is_own (own_of (form_of h.kind)) h && are_kids (level h.kind h.text) (kid_pieces (form_of h.kind)) ts)
    (kids_end (form_of h.kind) (edges ts)) p.0 in
    let r = split (a && is_own (own_of (form_of h.kind)) h) (are_kids (level h.kind h.text) (kid_pieces (form_of h.kind)) ts) q.0 in
    let v = split a (is_own (own_of (form_of h.kind)) h) r.0 in
    tight_bound l (level h.kind h.text) (true_le 1 l c) (true_le l (level h.kind h.text) v.0)
in_reach so.Statement t c e = omega arith
in_reach so.Type t c e = omega arith
in_reach _ t c e = omega arith

-- a kid that ends where it stands
pub read_kid : (f n : ℕ) → ReadsTo f n → (s : Sort) (t : Node) → size_of t ≤ n → covered s ≡ true → is_shaped s t ≡ true →
    (w : List Token) (st : List Symbol) (g : Group) (gs : List Group) → pull (front w) ≤ bound s →
    ((d : Sign) → front w ≡ cl.Sign d → stops d t ≡ true) → closed_by s (front w) ≡ true →
    run f (spell f t ++ w) (of s ∷ st) (g ∷ gs) ≡ run f w st (add (plain f t) (g ∷ gs))
read_kid f n ih s t z c h w st g gs p q r =
    let b = in_reach s t c h in
    ih s t z c h w st g gs (record { reaches = omega (arith, b, p); stops_at = q; closed = r }) ∙ left_over f s
    (level (head t).kind (head t).text) w st _ c p
