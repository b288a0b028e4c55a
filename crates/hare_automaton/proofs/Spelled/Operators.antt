-- Operators behind an operand: binary operators, assignments, casts, and the postfix forms that one token decides.
use Rattle.std.proofs.Common.{◌≡◌, ℕ, ◌+◌, ◌≤◌, List, [], ◌∷◌, ◌++◌, Bool, true, false, ◌&&◌, ◌||◌, refl, ap, ◌∙◌, subst, arith, append_assoc, if◌then◌else◌}
use Rattle.std.specs.Prelude.{nat_le}
use Rattle.std.proofs.lemmas.List.{append-nil}
use Rattle.hare_tree.specs.declared.kind.Kind.{Kind}
use Rattle.hare_tree.specs.declared.kind.Kind.TheVariants as ki
use Rattle.hare_tree.specs.declared.token.TokenKind.TheVariants as tk
use Rattle.hare_tree.specs.declared.token.Token.{Token}
use Rattle.hare_tree.specs.declared.form.Sign.{Sign}
use Rattle.hare_tree.specs.declared.form.Sign.TheVariants as si
use Rattle.hare_tree.specs.declared.form.Own.TheVariants as ow
use Rattle.hare_tree.specs.declared.form.Sort.{Sort}
use Rattle.hare_tree.specs.declared.form.Sort.TheVariants as so
use Rattle.hare_tree.specs.declared.form.Piece.{Piece}
use Rattle.hare_tree.specs.declared.form.Piece.TheVariants as pi
use Rattle.hare_tree.specs.declared.place.Place.{Place}
use Rattle.hare_tree.specs.Node.{Head, Node, Nodes, branch, none, more, head, size_of, sizes_of}
use Rattle.hare_tree.specs.Words.{is_listed}
use Rattle.hare_tree.specs.Signs.{is_sign}
use Rattle.hare_tree.specs.Forms.{form_of, expr, unary, postfix, binary}
use Rattle.hare_tree.specs.Levels.{level, admits, operators, operator_level, sort_in}
use Rattle.hare_tree.specs.Spell.{start_of, word_token, sign_token, pieces_tokens, spell, spells}
use Rattle.hare_tree.specs.Shape.{is_shaped, are_kids, is_own, has_text_alone, kid_pieces, own_of, kids_end, edges, stops, stops_each, form_stops}
use Rattle.hare_automaton.specs.declared.class.Class.{Class}
use Rattle.hare_automaton.specs.declared.class.Class.TheVariants as cl
use Rattle.hare_automaton.specs.declared.rule.Rule.TheVariants as ru
use Rattle.hare_automaton.specs.declared.rule.Symbol.{Symbol}
use Rattle.hare_automaton.specs.declared.rule.Symbol.TheVariants as sy
use Rattle.hare_automaton.specs.declared.rule.Change.{Change}
use Rattle.hare_automaton.specs.declared.rule.Change.TheVariants as ch
use Rattle.hare_automaton.specs.Classes.{class_of}
use Rattle.hare_automaton.specs.Rows.{Uses, of, part, symbols}
use Rattle.hare_automaton.specs.Table.{row}
use Rattle.hare_automaton.specs.Engine.{Group, begun, with_kids, last_kid, but_last, over, add, take_text, all_changed, run}
use Rattle.hare_automaton.specs.ExpressionRows.{climbs, binary_kind, binary_at}
use Rattle.hare_automaton.specs.OneTree.{plain, is_sort as covered}
use Rattle.hare_automaton.proofs.Machine.Steps.{front, run_uses, run_groups}
use Rattle.hare_automaton.proofs.Machine.Tokens.{class_sign, of_listed}
use Rattle.hare_automaton.proofs.Spelled.Paths.{split}
use Rattle.hare_automaton.proofs.Machine.Edges.{Edge, pull, le_true, true_le, stops_calm, tight, reach, closed_by, left, ReadsTo}
use Rattle.hare_automaton.proofs.Spelled.Items.{Closer}
use Rattle.hare_automaton.proofs.Spelled.Forms.{state, has_own, Owns, Clear, taken}
use Rattle.hare_automaton.proofs.Spelled.Read.{read_pieces}
use Rattle.hare_automaton.proofs.Spelled.Nodes.{Whole, whole, Claim, closed, stack, tops}
use Rattle.hare_automaton.proofs.Spelled.Openers.{at_of, edge_pull, top_reach}

-- ---- operands

-- the sorts of expressions, and how tightly their trees bind at least
abbrev pub is_expr : Sort → Bool
is_expr (so.Level l) = nat_le 1 l
is_expr so.Statement = true
is_expr _ = false

abbrev pub least : Sort → ℕ
least (so.Level l) = l
least _ = 1

abbrev pub level_at : Node → ℕ
level_at t = level (head t).kind (head t).text

pub expr_covered : (s : Sort) → is_expr s ≡ true → covered s ≡ true
expr_covered (so.Level l) e = e
expr_covered so.Statement e = refl
expr_covered _ e = cc

pub left_climb : (s : Sort) (j : ℕ) → tops s j ≡ true → left s j ≡ part (ru.Climb (least s) j) ∷ []
left_climb (so.Level l) j e = refl
left_climb so.Statement j e = rw e refl
left_climb _ j e = cc

pub tops_least : (s : Sort) (j : ℕ) → tops s j ≡ true → nat_le (least s) j ≡ true
tops_least (so.Level l) j e = e
tops_least so.Statement j e = e
tops_least _ j e = cc

le_trans : (a b c : ℕ) → nat_le a b ≡ true → b ≤ c → nat_le a c ≡ true
le_trans a b c e h = let x = true_le a b e in le_true a c (omega (arith, x, h))

pub tops_up : (s : Sort) (m j : ℕ) → tops s m ≡ true → m ≤ j → tops s j ≡ true
tops_up (so.Level l) m j e h = le_trans l m j e h
tops_up so.Statement m j e h = le_trans 1 m j e h
tops_up _ m j e h = cc

statement_admits : (k : Kind) (x : List ℕ) → nat_le 1 (level k x) ≡ true → admits so.Statement k x ≡ true
statement_admits ki.Let x e = refl
statement_admits ki.Const x e = refl
statement_admits ki.Defer x e = refl
statement_admits _ x e = e

top_admits : (s : Sort) (k : Kind) (x : List ℕ) → tops s (level k x) ≡ true → admits s k x ≡ true
top_admits (so.Level l) k x e = e
top_admits so.Statement k x e = statement_admits k x e
top_admits _ k x e = cc

-- a tree that binds tightly is of each sort that asks for less
pub shaped_by : (s r : Sort) (h : Head) (ts : Nodes) → admits s h.kind h.text ≡ true → is_shaped r (branch h ts) ≡ true →
    is_shaped s (branch h ts) ≡ true
unfolding is_shaped
shaped_by s r h ts a e = let p = whole r h ts e in rw (a, p.own, p.kids, p.ends, p.label) refl

-- what takes an operand is neither `else` nor a comma
calm_sign : (d : Sign) → nat_le 1 (pull (cl.Sign d)) ≡ true → (is_sign si.Else d ≡ false) × (is_sign si.Comma d ≡ false)
calm_sign si.Else e = cc
calm_sign si.Comma e = cc
calm_sign _ e = (refl, refl)

pub pulls_stops : (c : Class) (t : Node) → 1 ≤ pull c → (d : Sign) → c ≡ cl.Sign d → stops d t ≡ true
pulls_stops c t e d i =
    let a : 1 ≤ pull (cl.Sign d) = subst (λ y. 1 ≤ pull y) i e in
    let q = calm_sign d (le_true 1 (pull (cl.Sign d)) a) in
    stops_calm d q.0 q.1 t

pub operand_level : (a : ℕ) (t : Node) → is_shaped (so.Level a) t ≡ true → a ≤ level_at t
operand_level a (branch h ts) e = let p = whole (so.Level a) h ts e in true_le a (level h.kind h.text) p.admitted

-- The left operand of an operator of the level `m`, which binds so tightly as `a`, where a tree of the sort is wanted. The induction
-- reaches trees of the size `n`.
pub record Operand (n : ℕ) (s : Sort) (a m : ℕ) (t : Node) : Type 0 where
  -- the induction reaches the operand
  pub small : size_of t ≤ n
  -- expressions are wanted
  pub expression : is_expr s ≡ true
  -- among them those of the operator's level
  pub top : tops s m ≡ true
  -- the operand binds so tightly as the operator at least
  pub within : m ≤ a
  -- it is an expression of its level
  pub shaped : is_shaped (so.Level a) t ≡ true

-- an operand, and what is left behind it
pub operand_reads : (f n : ℕ) → ReadsTo f n → (s : Sort) (a m : ℕ) (t : Node) → Operand n s a m t →
    (w : List Token) (st : List Symbol) (g : Group) (gs : List Group) → 1 ≤ pull (front w) → pull (front w) ≤ tight (level_at t) →
    run f (spell f t ++ w) (of s ∷ st) (g ∷ gs) ≡ run f w (part (ru.Climb (least s) (level_at t)) ∷ st) (add (plain f t) (g ∷ gs))
operand_reads f n ih s a m (branch h ts) d w st g gs o q =
    let v = operand_level a (branch h ts) d.shaped in
    let t' : tops s (level h.kind h.text) ≡ true = tops_up s m (level h.kind h.text) d.top (omega (arith, d.within, v)) in
    let e' = shaped_by s (so.Level a) h ts (top_admits s h.kind h.text t') d.shaped in
    let r : pull (front w) ≤ reach s (level h.kind h.text) = rw (top_reach s (level h.kind h.text) t') q in
    ih s (branch h ts) d.small (expr_covered s d.expression) e' w st g gs
    (record { reaches = r; stops_at = pulls_stops (front w) (branch h ts) o; closed = expr_closed s (front w) d.expression })
    ∙ ap (λ y. run f w (y ++ st) (add (plain f (branch h ts)) (g ∷ gs))) (left_climb s (level h.kind h.text) t')
  where
    expr_closed : (s : Sort) (c : Class) → is_expr s ≡ true → closed_by s c ≡ true
    expr_closed (so.Level l) c e = refl
    expr_closed so.Statement c e = refl
    expr_closed _ c e = cc

-- ---- the operand becomes the first kid

last_of : (ks : List Node) (t : Node) → last_kid (ks ++ t ∷ []) ≡ t ∷ []
last_of [] t = refl
last_of (x ∷ []) t = refl
last_of (x ∷ y ∷ ys) t = last_of (y ∷ ys) t

others_of : (ks : List Node) (t : Node) → but_last (ks ++ t ∷ []) ≡ ks
others_of [] t = refl
others_of (x ∷ []) t = refl
others_of (x ∷ y ∷ ys) t = ap (λ l. x ∷ l) (others_of (y ∷ ys) t)

pub over_last : (p : Place) (t : Node) (g : Group) (gs : List Group) → over p (add t (g ∷ gs)) ≡ begun p (t ∷ []) ∷ g ∷ gs
over_last p t g gs = ap (λ y. begun p y ∷ with_kids g (but_last (g.kids ++ t ∷ [])) ∷ gs) (last_of g.kids t) ∙ ap
    (λ y. begun p (t ∷ []) ∷ with_kids g y ∷ gs) (others_of g.kids t)

-- a token behind an operand, and how the tree goes on
pub record Behind (f : ℕ) (x : Token) (b : Bool) (cs : List Change) (h : Head) (t : Node) : Type 0 where
  pub takes : 1 ≤ pull (class_of x)
  pub within : pull (class_of x) ≤ tight (level_at t)
  pub changes : (g : Group) (gs : List Group) →
      all_changed f x cs (add (plain f t) (g ∷ gs)) ≡ state b (start_of f) h (plain f t ∷ []) ∷ g ∷ gs

-- The pieces behind the operand and that token, before a token of the class. `b` tells whether the token is the text of the tree.
pub record Remaining (n m : ℕ) (ps : List Piece) (b : Bool) (h : Head) (ts : Nodes) (c : Class) : Type 0 where
  -- the induction reaches their kids
  pub small : sizes_of ts ≤ n
  -- the kids are such as the pieces take
  pub kids : are_kids m (kid_pieces ps) ts ≡ true
  -- each ends before the sign behind it
  pub ends : kids_end ps (edges ts) ≡ true
  -- the text of the tree is such as the pieces read
  pub owns : Owns h ps
  -- no text is read twice
  pub once : (b && has_own ps) ≡ false
  -- where none is read there is none
  pub nothing : (b || has_own ps) ≡ false → is_own ow.Nothing h ≡ true
  -- the right edge of the tree lets the class stand behind it
  pub stops_at : (d : Sign) → c ≡ cl.Sign d → form_stops d h true ps (stops_each d ts) ≡ true
  -- each piece sees where it ends
  pub clear : Clear ps c

pub over_reads : (f n : ℕ) → ReadsTo f n → (s : Sort) (a m m' : ℕ) (k : Kind) (x : Token) (b : Bool) (cs : List Change) (ps : List Piece)
    (h : Head) (t : Node) (ts : Nodes) → Operand n s a m t → h.kind ≡ k → row (ru.Climb (least s) (level_at t)) (class_of x) ≡
    Uses cs ((symbols ps ++ sy.Close k ∷ []) ++ part (ru.Climb (least s) m) ∷ []) → Behind f x b cs h t →
    (w : List Token) (st : List Symbol) (g : Group) (gs : List Group) → Remaining n m' ps b h ts (front w) →
    run f (spell f t ++ (x ∷ (pieces_tokens f h ps (spells f ts) ++ w))) (of s ∷ st) (g ∷ gs) ≡
    run f w (part (ru.Climb (least s) m) ∷ st) (add (plain f (branch h (more t ts))) (g ∷ gs))
over_reads f n ih s a m m' k x b cs ps h t ts d i r q w st g gs o =
    let ls = part (ru.Climb (least s) m) ∷ [] in
    let u = pieces_tokens f h ps (spells f ts) ++ w in
    operand_reads f n ih s a m t d (x ∷ u) st g gs q.takes q.within
    ∙ run_uses f x u (ru.Climb (least s) (level_at t)) st (add (plain f t) (g ∷ gs)) cs ((symbols ps ++ sy.Close k ∷ []) ++ ls) r
    ∙ run_groups f u (((symbols ps ++ sy.Close k ∷ []) ++ ls) ++ st) _ _ (q.changes g gs)
    ∙ ap (λ y. run f u y (state b (start_of f) h (plain f t ∷ []) ∷ g ∷ gs)) (stack (symbols ps) ls st k)
    ∙ read_pieces f n ih h m' ps b ts o.small o.kids o.ends o.owns o.once w (sy.Close k ∷ (ls ++ st)) (start_of f) (plain f t ∷ []) (g ∷ gs)
    (λ y. true) o.stops_at o.clear
    ∙ closed f h k (b || has_own ps) (more t ts) i o.nothing w (ls ++ st) g gs

-- ---- forms whose second piece is a sign

-- such a form: its operand binds so tightly as `a`, and it itself as `m`
pub record Behinds (k : Kind) (d : Sign) (ps : List Piece) (r : Sort) (a m : ℕ) : Type 0 where
  pub form : form_of k ≡ pi.Kid r ∷ pi.Fixed d ∷ ps
  pub level_is : (x : List ℕ) → level k x ≡ m
  pub operand : sort_in m r ≡ so.Level a
  pub within : m ≤ a
  pub takes : 1 ≤ pull (cl.Sign d)
  pub tight_at : (j : ℕ) → a ≤ j → pull (cl.Sign d) ≤ tight j
  pub row_is : (l j : ℕ) → nat_le l m ≡ true → nat_le a j ≡ true →
      row (ru.Climb l j) (cl.Sign d) ≡ Uses (ch.Over ∷ []) ((symbols ps ++ sy.Close k ∷ []) ++ part (ru.Climb l m) ∷ [])
  pub owns : (h : Head) → is_own (own_of ps) h ≡ true → Owns h ps
  pub nothing : has_own ps ≡ false → own_of ps ≡ ow.Nothing
  pub clear : (c : Class) → pull c ≤ tight m → Clear ps c

pub behind_reads : (f n : ℕ) → ReadsTo f n →
    (s : Sort) (k : Kind) (d : Sign) (ps : List Piece) (r : Sort) (a m : ℕ) (h : Head) (ts : Nodes) → sizes_of ts ≤ n → is_expr s ≡ true →
    h.kind ≡ k → Behinds k d ps r a m → tops s m ≡ true → Whole s h ts → (w : List Token) (st : List Symbol) (g : Group) (gs : List Group) →
    Edge s (front w) (branch h ts) → Claim f s h ts w st g gs
unfolding spell is_shaped stops
behind_reads f n ih s k d ps r a m h none z c i o l p w st g gs x =
    let kids : are_kids (level h.kind h.text) (pi.Kid r ∷ kid_pieces ps) none ≡ true =
    subst (λ y. are_kids (level h.kind h.text) (kid_pieces y) none ≡ true) (ap form_of i ∙ o.form) p.kids in
    cc
behind_reads f n ih s k d ps r a m h (more t ts) z c i o l p w st g gs x =
    let q : form_of h.kind ≡ pi.Kid r ∷ pi.Fixed d ∷ ps = ap form_of i ∙ o.form in
    let lv : level h.kind h.text ≡ m = ap (λ y. level y h.text) i ∙ o.level_is h.text in
    let kids : are_kids m (pi.Kid r ∷ kid_pieces ps) (more t ts) ≡ true =
    subst (λ y. are_kids y (pi.Kid r ∷ kid_pieces ps) (more t ts) ≡ true) lv
    (subst (λ y. are_kids (level h.kind h.text) (kid_pieces y) (more t ts) ≡ true) q p.kids) in
    let kd = split (is_shaped (sort_in m r) t) (are_kids m (kid_pieces ps) ts) kids in
    let e : is_shaped (so.Level a) t ≡ true = subst (λ y. is_shaped y t ≡ true) o.operand kd.0 in
    let ends : kids_end (pi.Kid r ∷ pi.Fixed d ∷ ps) (edges (more t ts)) ≡ true =
    subst (λ y. kids_end y (edges (more t ts)) ≡ true) q p.ends in
    let en = split _ (kids_end ps (edges ts)) ends in
    let own : is_own (own_of ps) h ≡ true = subst (λ y. is_own (own_of y) h ≡ true) q p.own in
    let fs : (y : Sign) → front w ≡ cl.Sign y → form_stops y h true ps (stops_each y ts) ≡ true =
    λ y j. subst (λ b. form_stops y h true b (stops_each y (more t ts)) ≡ true) q (x.stops_at y j) in
    let v = operand_level a t e in
    let rr : row (ru.Climb (least s) (level_at t)) (class_of (sign_token f d)) ≡
    Uses (ch.Over ∷ []) ((symbols ps ++ sy.Close k ∷ []) ++ part (ru.Climb (least s) m) ∷ []) =
    rw (class_sign f d) (o.row_is (least s) (level_at t) (tops_least s m l) (le_true a (level_at t) v)) in
    let bh : Behind f (sign_token f d) false (ch.Over ∷ []) h t =
    record {
      takes = rw (class_sign f d) o.takes;
      within = rw (class_sign f d) (o.tight_at (level_at t) v);
      changes = λ g gs. over_last
          (start_of f) (plain f t) g gs;
    } in
    let u = pieces_tokens f h ps (spells f ts) in
    rw (q, lv, left_climb s m l, append-nil (spell f t), append_assoc (spell f t) (sign_token f d ∷ u) w)
    (over_reads f n ih s a m m k (sign_token f d) false (ch.Over ∷ []) ps h t ts
    (record { small = omega arith; expression = c; top = l; within = o.within; shaped = e }) i rr bh w st g gs (record {
      small = omega arith;
      kids = kd.1;
      ends = en.1;
      owns = o.owns h own;
      once = refl;
      nothing = λ y. subst (λ v. is_own v h ≡ true) (o.nothing y) own;
      stops_at = fs;
      clear = o.clear (front w) (edge_pull s (front w) h (more t ts) m lv l x);
    }))

-- how tightly operands take
pub tight_low : (m j : ℕ) → m ≤ 13 → m ≤ j → 2 ≤ j → m ≤ tight j
tight_low m j a b c = by (nat_le j 1) refl (nat_le 14 j && nat_le j 14)
  where
    by : (x : Bool) → nat_le j 1 ≡ x → (y : Bool) → m ≤ (if x then 0 else if y then 13 else j)
    by true p y = let x = true_le j 1 p in absurd (omega (arith, x, c))
    by false p true = a
    by false p false = b

pub tight_high : (m j : ℕ) → 15 ≤ j → m ≤ j → m ≤ tight j
tight_high m j a b = by (nat_le j 1) refl (nat_le 14 j && nat_le j 14) refl
  where
    by : (x : Bool) → nat_le j 1 ≡ x → (y : Bool) → (nat_le 14 j && nat_le j 14) ≡ y → m ≤ (if x then 0 else if y then 13 else j)
    by true p y q = let x = true_le j 1 p in absurd (omega (arith, x, a))
    by false p true q = let x = true_le j 14 (split (nat_le 14 j) (nat_le j 14) q).1 in absurd (omega (arith, x, a))
    by false p false q = b

le_refl : (n : ℕ) → n ≤ n
le_refl n = omega arith

pub behinds_try : Behinds ki.Try si.Question [] postfix 15 15
behinds_try = record {
  form = refl;
  level_is = λ x. refl;
  operand = refl;
  within = le_refl 15;
  takes = omega arith;
  tight_at = λ j e.
      tight_high 15 j e e;
  row_is = λ l j a b. rw (a, b) refl;
  owns = λ h e. tt;
  nothing = λ e. refl;
  clear = λ c q. tt;
}

pub behinds_force : Behinds ki.Force si.Bang [] postfix 15 15
behinds_force = record {
  form = refl;
  level_is = λ x. refl;
  operand = refl;
  within = le_refl 15;
  takes = omega arith;
  tight_at = λ j e.
      tight_high 15 j e e;
  row_is = λ l j a b. rw (a, b) refl;
  owns = λ h e. tt;
  nothing = λ e. refl;
  clear = λ c q. tt;
}

pub behinds_field : Behinds ki.Field si.Dot (pi.Own ow.Member ∷ []) postfix 15 15
behinds_field = record {
  form = refl;
  level_is = λ x. refl;
  operand = refl;
  within = le_refl 15;
  takes = omega arith;
  tight_at = λ j e.
      tight_high 15 j e e;
  row_is = λ l j a b. rw (a, b) refl;
  owns = λ h e. (e, tt);
  nothing = λ e. cc;
  clear = λ c q. (refl, tt);
}

pub arguments_close : Closer expr si.RightParen
arguments_close = record {
  sort = refl;
  items = refl;
  anywhere = λ c. refl;
  faults = refl;
  pulls = refl;
  comma = refl;
  no_else = refl;
  no_comma = refl;
}

pub behinds_call : Behinds ki.Call si.LeftParen (pi.List expr ∷ pi.Fixed si.RightParen ∷ []) postfix 15 15
behinds_call = record {
  form = refl;
  level_is = λ x. refl;
  operand = refl;
  within = le_refl 15;
  takes = omega arith;
  tight_at = λ j e.
      tight_high 15 j e e;
  row_is = λ l j a b. rw (a, b) refl;
  owns = λ h e. tt;
  nothing = λ e. refl;
  clear = λ c q. arguments_close;
}

cast_clear : (c : Class) → pull c ≤ 13 → Clear (pi.Kid so.Type ∷ []) c
cast_clear c q = (refl, at_of so.Type c (omega (arith, q)) refl, tt)

two : (j : ℕ) → 13 ≤ j → 2 ≤ j
two j e = omega (arith, e)

pub behinds_cast : Behinds ki.Cast si.Colon (pi.Kid so.Type ∷ []) so.Left 13 13
behinds_cast = record {
  form = refl;
  level_is = λ x. refl;
  operand = refl;
  within = le_refl 13;
  takes = omega arith;
  tight_at = λ j e.
      tight_low 13 j (le_refl 13) e (two j e);
  row_is = λ l j a b. rw (a, b) refl;
  owns = λ h e. tt;
  nothing = λ e. refl;
  clear = cast_clear;
}

pub behinds_as : Behinds ki.As si.As (pi.Kid so.Type ∷ []) so.Left 13 13
behinds_as = record {
  form = refl;
  level_is = λ x. refl;
  operand = refl;
  within = le_refl 13;
  takes = omega arith;
  tight_at = λ j e.
      tight_low 13 j (le_refl 13) e (two j e);
  row_is = λ l j a b. rw (a, b) refl;
  owns = λ h e. tt;
  nothing = λ e. refl;
  clear = cast_clear;
}

pub behinds_is : Behinds ki.Is si.Is (pi.Kid so.Type ∷ []) so.Left 13 13
behinds_is = record {
  form = refl;
  level_is = λ x. refl;
  operand = refl;
  within = le_refl 13;
  takes = omega arith;
  tight_at = λ j e.
      tight_low 13 j (le_refl 13) e (two j e);
  row_is = λ l j a b. rw (a, b) refl;
  owns = λ h e. tt;
  nothing = λ e. refl;
  clear = cast_clear;
}

assign_tight : (j : ℕ) → 14 ≤ j → 1 ≤ tight j
assign_tight j e = tight_low 1 j (omega arith) (omega (arith, e)) (omega (arith, e))

pub behinds_assign : Behinds ki.Assign si.Equals (pi.Kid expr ∷ []) unary 14 1
behinds_assign = record {
  form = refl;
  level_is = λ x. refl;
  operand = refl;
  within = omega arith;
  takes = omega arith;
  tight_at =
      assign_tight;
  row_is = λ l j a b. rw (a, b) refl;
  owns = λ h e. tt;
  nothing = λ e. refl;
  clear =
      λ c q. (refl, at_of expr c q refl, tt);
}

-- ---- forms with an operator of their own

-- the class of a token that is an operator
abbrev mark_class : List ℕ → Class
mark_class x = class_of (word_token 0 tk.Mark x)

abbrev Infix : Kind → List ℕ → Type 0
Infix k x = ((l j : ℕ) → row (ru.Climb l j) (mark_class x) ≡ climbs l j (operator_level x) (binary_at (operator_level x))) ×
    (pull (mark_class x) ≡ operator_level x) × (binary_kind (operator_level x) ≡ k) × (nat_le 2 (operator_level x) ≡ true) ×
    (nat_le (operator_level x) 12 ≡ true)

abbrev InfixOf : Kind → Type 0
InfixOf k = (x : List ℕ) → is_listed (operators k) x ≡ true → Infix k x

infix_arith : InfixOf ki.Arith
infix_arith x e = of_listed (Infix ki.Arith) (operators ki.Arith) x e (
  (λ l j. refl, refl, refl, refl, refl),
  (
    (λ l j. refl, refl, refl, refl, refl),
    (
      (λ l j. refl, refl, refl, refl, refl),
      (
        (λ l j. refl, refl, refl, refl, refl),
        (
          (λ l j. refl, refl, refl, refl, refl),
          (
            (λ l j. refl, refl, refl, refl, refl),
            ((λ l j. refl, refl, refl, refl, refl), ((λ l j. refl, refl, refl, refl, refl), tt)),
          ),
        ),
      ),
    ),
  ),
)

infix_shift : InfixOf ki.Shift
infix_shift x e = of_listed (Infix ki.Shift) (operators ki.Shift) x e
    ((λ l j. refl, refl, refl, refl, refl), ((λ l j. refl, refl, refl, refl, refl), tt))

infix_less : InfixOf ki.Less
infix_less x e = of_listed (Infix ki.Less) (operators ki.Less) x e (
  (λ l j. refl, refl, refl, refl, refl),
  (
    (λ l j. refl, refl, refl, refl, refl),
    ((λ l j. refl, refl, refl, refl, refl), ((λ l j. refl, refl, refl, refl, refl), tt)),
  ),
)

infix_equal : InfixOf ki.Equal
infix_equal x e = of_listed (Infix ki.Equal) (operators ki.Equal) x e
    ((λ l j. refl, refl, refl, refl, refl), ((λ l j. refl, refl, refl, refl, refl), tt))

infix_logic : InfixOf ki.Logic
infix_logic x e = of_listed (Infix ki.Logic) (operators ki.Logic) x e
    ((λ l j. refl, refl, refl, refl, refl), ((λ l j. refl, refl, refl, refl, refl), ((λ l j. refl, refl, refl, refl, refl), tt)))

-- the kinds of binary operators
pub record Binaries (k : Kind) : Type 0 where
  pub form : form_of k ≡ binary
  pub level_is : (x : List ℕ) → level k x ≡ operator_level x
  pub operator : InfixOf k

pub binaries_arith : Binaries ki.Arith
binaries_arith = record { form = refl; level_is = λ x. refl; operator = infix_arith }

pub binaries_shift : Binaries ki.Shift
binaries_shift = record { form = refl; level_is = λ x. refl; operator = infix_shift }

pub binaries_less : Binaries ki.Less
binaries_less = record { form = refl; level_is = λ x. refl; operator = infix_less }

pub binaries_equal : Binaries ki.Equal
binaries_equal = record { form = refl; level_is = λ x. refl; operator = infix_equal }

pub binaries_logic : Binaries ki.Logic
binaries_logic = record { form = refl; level_is = λ x. refl; operator = infix_logic }

-- the operator is the text of the tree
over_taken : (f : ℕ) (h : Head) (t : Node) → has_text_alone h ≡ true → (g : Group) (gs : List Group) →
    all_changed f (word_token f tk.Mark h.text) (ch.Over ∷ ch.Take ∷ []) (add t (g ∷ gs)) ≡ state true (start_of f) h (t ∷ []) ∷ g ∷ gs
over_taken f h t e g gs = ap (take_text (word_token f tk.Mark h.text)) (over_last (start_of f) t g gs) ∙ taken f false (start_of f) h
    (t ∷ []) (g ∷ gs) e tk.Mark

tight_middle : (m : ℕ) → 2 ≤ m → m ≤ 12 → tight m ≡ m
tight_middle m a b = by (nat_le m 1) refl (nat_le 14 m && nat_le m 14) refl
  where
    by : (x : Bool) → nat_le m 1 ≡ x → (y : Bool) → (nat_le 14 m && nat_le m 14) ≡ y → (if x then 0 else if y then 13 else m) ≡ m
    by true p y q = let x = true_le m 1 p in absurd (omega (arith, x, a))
    by false p true q = let x = true_le 14 m (split (nat_le 14 m) (nat_le m 14) q).0 in absurd (omega (arith, x, b))
    by false p false q = refl

right_kids : (m : ℕ) (ts : Nodes) → are_kids m (pi.Kid so.Right ∷ []) ts ≡ true → are_kids m (pi.Kid (so.Level (m + 1)) ∷ []) ts ≡ true
unfolding is_shaped
right_kids m none e = e
right_kids m (more t ts) e = e

pub binary_reads : (f n : ℕ) → ReadsTo f n → (s : Sort) (k : Kind) (h : Head) (ts : Nodes) → sizes_of ts ≤ n → is_expr s ≡ true →
    h.kind ≡ k → Binaries k → tops s (operator_level h.text) ≡ true → Whole s h ts →
    (w : List Token) (st : List Symbol) (g : Group) (gs : List Group) → Edge s (front w) (branch h ts) → Claim f s h ts w st g gs
unfolding spell is_shaped stops
binary_reads f n ih s k h none z c i o l p w st g gs x =
    let kids : are_kids (level h.kind h.text) (kid_pieces binary) none ≡ true =
    subst (λ y. are_kids (level h.kind h.text) (kid_pieces y) none ≡ true) (ap form_of i ∙ o.form) p.kids in
    cc
binary_reads f n ih s k h (more t ts) z c i o l p w st g gs x =
    let m = operator_level h.text in
    let ps : List Piece = pi.Kid (so.Level (m + 1)) ∷ [] in
    let q : form_of h.kind ≡ binary = ap form_of i ∙ o.form in
    let lv : level h.kind h.text ≡ m = ap (λ y. level y h.text) i ∙ o.level_is h.text in
    let kids : are_kids m (kid_pieces binary) (more t ts) ≡ true =
    subst (λ y. are_kids y (kid_pieces binary) (more t ts) ≡ true) lv
    (subst (λ y. are_kids (level h.kind h.text) (kid_pieces y) (more t ts) ≡ true) q p.kids) in
    let kd = split (is_shaped (so.Level m) t) (are_kids m (pi.Kid so.Right ∷ []) ts) kids in
    let ends : kids_end binary (edges (more t ts)) ≡ true = subst (λ y. kids_end y (edges (more t ts)) ≡ true) q p.ends in
    let own' : is_own ow.Operator h ≡ true = subst (λ y. is_own (own_of y) h ≡ true) q p.own in
    let own = split (is_listed (operators h.kind) h.text) (has_text_alone h) own' in
    let fact = o.operator h.text (subst (λ y. is_listed (operators y) h.text ≡ true) i own.0) in
    let m2 : 2 ≤ m = true_le 2 m fact.3 in
    let m12 : m ≤ 12 = true_le m 12 fact.4 in
    let fs : (y : Sign) → front w ≡ cl.Sign y → form_stops y h true ps (stops_each y ts) ≡ true =
    λ y j. subst (λ b. form_stops y h true b (stops_each y (more t ts)) ≡ true) q (x.stops_at y j) in
    let v = operand_level m t kd.0 in
    let le : nat_le (least s) m ≡ true = tops_least s m l in
    let rr : row (ru.Climb (least s) (level_at t)) (mark_class h.text) ≡
    Uses (ch.Over ∷ ch.Take ∷ []) ((symbols ps ++ sy.Close k ∷ []) ++ part (ru.Climb (least s) m) ∷ []) =
    fact.0 (least s) (level_at t) ∙ (rw (le, le_true m (level_at t) v, fact.2) refl) in
    let t1 : 1 ≤ pull (mark_class h.text) = rw fact.1 (omega (arith, m2)) in
    let t2 : pull (mark_class h.text) ≤ tight (level_at t) =
    rw fact.1 (tight_low m (level_at t) (omega (arith, m12)) v (omega (arith, m2, v))) in
    let bh : Behind f (word_token f tk.Mark h.text) true (ch.Over ∷ ch.Take ∷ []) h t =
    record { takes = t1; within = t2; changes = over_taken f h (plain f t) own.1 } in
    let pl : pull (front w) ≤ tight m = edge_pull s (front w) h (more t ts) m lv l x in
    let pl' : pull (front w) ≤ m = subst (λ y. pull (front w) ≤ y) (tight_middle m m2 m12) pl in
    let cr : Clear ps (front w) = (le_true 1 (m + 1) (omega arith), at_of (so.Level (m + 1)) (front w) (omega (arith, pl')) refl, tt) in
    let u = pieces_tokens f h ps (spells f ts) in
    rw (q, lv, left_climb s m l, append-nil (spell f t), append_assoc (spell f t) (word_token f tk.Mark h.text ∷ u) w)
    (over_reads f n ih s m m m k (word_token f tk.Mark h.text) true (ch.Over ∷ ch.Take ∷ []) ps h t ts
    (record { small = omega arith; expression = c; top = l; within = le_refl m; shaped = kd.0 }) i rr bh w st g gs (record {
      small = omega arith;
      kids = right_kids m ts kd.1;
      ends = end_right ts ends;
      owns = tt;
      once = refl;
      nothing = λ y. cc;
      stops_at = fs;
      clear = cr;
    }))
  where
    end_right : (ts : Nodes) → kids_end binary (edges (more t ts)) ≡ true →
        kids_end (pi.Kid (so.Level (operator_level h.text + 1)) ∷ []) (edges ts) ≡ true
    end_right none e = refl
    end_right (more u us) e = e

-- `+=` and the like
abbrev AssignWord : List ℕ → Type 0
AssignWord x = mark_class x ≡ cl.OpAssign

assign_words : (x : List ℕ) → is_listed (operators ki.OpAssign) x ≡ true → AssignWord x
assign_words x e = of_listed AssignWord (operators ki.OpAssign) x e
    (refl, (refl, (refl, (refl, (refl, (refl, (refl, (refl, (refl, (refl, tt))))))))))

pub op_assign_reads : (f n : ℕ) → ReadsTo f n → (s : Sort) (h : Head) (ts : Nodes) → sizes_of ts ≤ n → is_expr s ≡ true →
    h.kind ≡ ki.OpAssign → tops s 1 ≡ true → Whole s h ts → (w : List Token) (st : List Symbol) (g : Group) (gs : List Group) →
    Edge s (front w) (branch h ts) → Claim f s h ts w st g gs
unfolding spell is_shaped stops
op_assign_reads f n ih s h none z c i l p w st g gs x =
    let kids : are_kids (level h.kind h.text) (kid_pieces (form_of ki.OpAssign)) none ≡ true =
    subst (λ y. are_kids (level h.kind h.text) (kid_pieces y) none ≡ true) (ap form_of i) p.kids in
    cc
op_assign_reads f n ih s h (more t ts) z c i l p w st g gs x =
    let ps : List Piece = pi.Kid expr ∷ [] in
    let q : form_of h.kind ≡ form_of ki.OpAssign = ap form_of i in
    let lv : level h.kind h.text ≡ 1 = ap (λ y. level y h.text) i in
    let kids : are_kids (level h.kind h.text) (kid_pieces (form_of ki.OpAssign)) (more t ts) ≡ true =
    subst (λ y. are_kids (level h.kind h.text) (kid_pieces y) (more t ts) ≡ true) q p.kids in
    let kd = split (is_shaped unary t) (are_kids (level h.kind h.text) ps ts) kids in
    let ends : kids_end (form_of ki.OpAssign) (edges (more t ts)) ≡ true = subst (λ y. kids_end y (edges (more t ts)) ≡ true) q p.ends in
    let own' : is_own ow.Operator h ≡ true = subst (λ y. is_own (own_of y) h ≡ true) q p.own in
    let own = split (is_listed (operators h.kind) h.text) (has_text_alone h) own' in
    let word : mark_class h.text ≡ cl.OpAssign = assign_words h.text (subst (λ y. is_listed (operators y) h.text ≡ true) i own.0) in
    let fs : (y : Sign) → front w ≡ cl.Sign y → form_stops y h true ps (stops_each y ts) ≡ true =
    λ y j. subst (λ b. form_stops y h true b (stops_each y (more t ts)) ≡ true) q (x.stops_at y j) in
    let v = operand_level 14 t kd.0 in
    let le : nat_le (least s) 1 ≡ true = tops_least s 1 l in
    let rr : row (ru.Climb (least s) (level_at t)) (mark_class h.text) ≡
    Uses (ch.Over ∷ ch.Take ∷ []) ((symbols ps ++ sy.Close ki.OpAssign ∷ []) ++ part (ru.Climb (least s) 1) ∷ []) =
    rw (word, le, le_true 14 (level_at t) v) refl in
    let bh : Behind f (word_token f tk.Mark h.text) true (ch.Over ∷ ch.Take ∷ []) h t =
    record { takes = rw word (le_refl 1); within = rw word (assign_tight (level_at t) v); changes = over_taken f h (plain f t) own.1 }
    in
    let pl : pull (front w) ≤ tight 1 = edge_pull s (front w) h (more t ts) 1 lv l x in
    let cr : Clear ps (front w) = (refl, at_of expr (front w) pl refl, tt) in
    let u = pieces_tokens f h ps (spells f ts) in
    rw (q, lv, left_climb s 1 l, append-nil (spell f t), append_assoc (spell f t) (word_token f tk.Mark h.text ∷ u) w)
    (over_reads f n ih s 14 1 (level h.kind h.text) ki.OpAssign (word_token f tk.Mark h.text) true (ch.Over ∷ ch.Take ∷ []) ps h t ts
    (record { small = omega arith; expression = c; top = l; within = omega arith; shaped = kd.0 }) i rr bh w st g gs (record {
      small = omega arith;
      kids = kd.1;
      ends = end_right ts ends;
      owns = tt;
      once = refl;
      nothing = λ y. cc;
      stops_at = fs;
      clear = cr;
    }))
  where
    end_right : (ts : Nodes) → kids_end (form_of ki.OpAssign) (edges (more t ts)) ≡ true → kids_end (pi.Kid expr ∷ []) (edges ts) ≡ true
    end_right none e = refl
    end_right (more u us) e = e
