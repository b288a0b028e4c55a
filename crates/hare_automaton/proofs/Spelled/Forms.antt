-- The pieces of a form are read, whatever the form, with what each kid's right edge asks of the token behind it.
use Rattle.std.proofs.Common.{◌≡◌, ℕ, ◌≤◌, List, [], ◌∷◌, ◌++◌, Bool, true, false, ◌&&◌, ◌||◌, not, refl, sym, ◌∙◌, Some}
use Rattle.std.specs.Prelude.{nat_le}
use Rattle.hare_tree.specs.declared.place.Place.{Place}
use Rattle.hare_tree.specs.declared.kind.Kind.{Kind}
use Rattle.hare_tree.specs.declared.kind.Kind.TheVariants as ki
use Rattle.hare_tree.specs.declared.token.TokenKind.{TokenKind}
use Rattle.hare_tree.specs.declared.token.TokenKind.TheVariants as tk
use Rattle.hare_tree.specs.declared.token.Token.{Token}
use Rattle.hare_tree.specs.declared.form.Sign.{Sign}
use Rattle.hare_tree.specs.declared.form.Sign.TheVariants as si
use Rattle.hare_tree.specs.declared.form.Own.TheVariants as ow
use Rattle.hare_tree.specs.declared.form.Sort.{Sort}
use Rattle.hare_tree.specs.declared.form.Sort.TheVariants as so
use Rattle.hare_tree.specs.declared.form.Piece.{Piece}
use Rattle.hare_tree.specs.declared.form.Piece.TheVariants as pi
use Rattle.hare_tree.specs.Node.{Head, Node, Nodes, branch, none, more, head}
use Rattle.hare_tree.specs.Forms.{expr}
use Rattle.hare_tree.specs.Levels.{is_name, admits}
use Rattle.hare_tree.specs.Spell.{word_token, sign_token, Spelled, pieces_tokens, spell, spells}
use Rattle.hare_tree.specs.Shape.{is_shaped, are_kids, is_own, is_empty, has_text_alone, is_none, kid_pieces, edges}
use Rattle.hare_automaton.specs.declared.class.Class.{Class}
use Rattle.hare_automaton.specs.declared.class.Class.TheVariants as cl
use Rattle.hare_automaton.specs.declared.rule.Rule.TheVariants as ru
use Rattle.hare_automaton.specs.declared.rule.Symbol.{Symbol}
use Rattle.hare_automaton.specs.declared.rule.Change.TheVariants as ch
use Rattle.hare_automaton.specs.Classes.{class_of}
use Rattle.hare_automaton.specs.Rows.{Fault, Skips, Uses, part, has_sign}
use Rattle.hare_automaton.specs.DeclarationRows.{of_row}
use Rattle.hare_automaton.specs.Table.{row}
use Rattle.hare_automaton.specs.Engine.{Group, begun, take_text, run}
use Rattle.hare_tree.specs.Signs.{is_sign}
use Rattle.hare_tree.specs.Shape.{stops, stops_each, form_stops, edges, ends_before, behind_kid}
use Rattle.hare_automaton.specs.OneTree.{is_sort as covered}
use Rattle.hare_automaton.proofs.Machine.Steps.{front, run_uses, run_skip, run_groups}
use Rattle.hare_automaton.proofs.Machine.Tokens.{class_sign, class_name}
use Rattle.hare_automaton.proofs.Spelled.Paths.{split}
use Rattle.hare_automaton.proofs.Machine.Edges.{pull, true_le, stops_calm, edge, ends_sign, bound, closed_by}
use Rattle.hare_automaton.proofs.Spelled.Lists.{alone, shape}
use Rattle.hare_tree.specs.Shape.{is_absent}
use Rattle.hare_automaton.proofs.Spelled.Kids.{absent_kind, absent_spell, stands, stands_not_alone, led_kid, led_absent, is_none_stands}
use Rattle.hare_automaton.proofs.Spelled.Lists.{run_group}
use Rattle.hare_tree.specs.Spell.{label_tokens}
use Rattle.hare_automaton.proofs.Spelled.Items.{Closer, same_sign, is_case_sort}

-- ---- the tree under way, before and behind its own text

abbrev pub state : Bool → Place → Head → List Node → Group
state false p h ks = begun p ks
state true p h ks = record { place = p; text = h.text; number = h.number; suffix = h.suffix; kids = ks }

abbrev pub has_own : List Piece → Bool
has_own [] = false
has_own (pi.Own o ∷ ps) = true
has_own (_ ∷ ps) = has_own ps

abbrev pub Owns : Head → List Piece → Type 0
Owns h [] = Unit {0}
Owns h (pi.Own o ∷ ps) = (is_own o h ≡ true) × Owns h ps
Owns h (_ ∷ ps) = Owns h ps

-- ---- what stands behind a kid

abbrev pub next_class : List Piece → Class → Class
next_class [] c = c
next_class (pi.Fixed d ∷ ps) c = cl.Sign d
next_class _ c = cl.Junk

abbrev pub Plainly : List Piece → Type 0
Plainly [] = Unit {0}
Plainly (pi.Fixed d ∷ ps) = Unit {0}
Plainly _ = ⊥

-- a tree of the sort ends before the class, as far as its sort tells
abbrev pub at : Sort → Class → Bool
at s c = nat_le (pull c) (bound s) && closed_by s c

abbrev pub calm_sign : Sign → Bool
calm_sign d = not (is_sign si.Else d) && not (is_sign si.Comma d)

abbrev pub Follows : Sort → List Piece → Class → Type 0
Follows s [] c = at s c ≡ true
Follows s (pi.Fixed d ∷ ps) c = at s (cl.Sign d) ≡ true
Follows s (pi.Led a r ∷ []) c = ((at s (cl.Sign a) && stands r) ≡ true) × (at s c ≡ true)
Follows s (pi.Led a r ∷ pi.Fixed d ∷ ps) c = ((at s (cl.Sign a) && stands r) ≡ true) × ((at s (cl.Sign d) && calm_sign d) ≡ true)
Follows s (pi.Optional so.Dots ∷ pi.Fixed d ∷ ps) c = (at s (cl.Sign si.Dots) ≡ true) × ((at s (cl.Sign d) && calm_sign d) ≡ true)
Follows s _ c = ⊥

-- Where a kid with a sign before it is not there, that sign does not stand there. At the right end of a form the edge of the tree tells.
abbrev pub LedOver : Sign → List Piece → Type 0
LedOver a (pi.Fixed d ∷ ps) = has_sign a (cl.Sign d) ≡ false
LedOver a _ = Unit {0}

abbrev pub Clear : List Piece → Class → Type 0
Clear [] c = Unit {0}
Clear (pi.Fixed d ∷ ps) c = Clear ps c
Clear (pi.Own ow.Label ∷ ps) c = Plainly ps × (has_sign si.Colon (next_class ps c) ≡ false) × (has_own ps ≡ false) × Clear ps c
Clear (pi.Own ow.Name ∷ ps) c = (has_own ps ≡ false) × Clear ps c
Clear (pi.Own ow.Member ∷ ps) c = (has_own ps ≡ false) × Clear ps c
Clear (pi.Kid s ∷ ps) c = (covered s ≡ true) × Follows s ps c × Clear ps c
Clear (pi.Optional s ∷ ps) c = (covered s ≡ true) × Plainly ps × (of_row s (next_class ps c) ≡ Fault) × Follows s ps c × Clear ps c
Clear (pi.Led a s ∷ ps) c = ((covered s && stands s) ≡ true) × Plainly ps × LedOver a ps × Follows s ps c × Clear ps c
Clear (pi.EachFollowed so.Statement si.Semicolon ∷ []) c = of_row so.Statement c ≡ Fault
Clear (pi.EachFollowed so.Statement si.Semicolon ∷ pi.Fixed d ∷ []) c = of_row so.Statement (cl.Sign d) ≡ Fault
Clear (pi.Each s ∷ pi.Fixed si.RightBrace ∷ []) c = is_case_sort s ≡ true
Clear (pi.More s ∷ []) c = (c ≡ cl.Sign si.Arrow) × Closer s si.Arrow
Clear (pi.More s ∷ pi.Fixed d ∷ []) c = Closer s d
Clear (pi.List s ∷ pi.Fixed d ∷ []) c = Closer s d
Clear (pi.Elements s ∷ pi.Fixed si.RightBracket ∷ []) c = s ≡ expr
Clear _ c = ⊥

pub next_is : (f : ℕ) (h : Head) (ps : List Piece) (us : List Spelled) (w : List Token) → Plainly ps →
    front (pieces_tokens f h ps us ++ w) ≡ next_class ps (front w)
next_is f h [] us w p = refl
next_is f h (pi.Fixed d ∷ ps) us w p = class_sign f d
next_is f h (pi.Own o ∷ ps) us w p = absurd p
next_is f h _ us w p = absurd p

pub record Standing (s : Sort) (t : Node) (v : List Token) : Type 0 where
  pub pulls : pull (front v) ≤ bound s
  pub stops_at : (d : Sign) → front v ≡ cl.Sign d → stops d t ≡ true
  pub closed : closed_by s (front v) ≡ true

pub ends_from : (s : Sort) (t : Node) (v : List Token) (c : Class) → front v ≡ c → at s c ≡ true →
    ((d : Sign) → c ≡ cl.Sign d → stops d t ≡ true) → Standing s t v
ends_from s t v c e a k =
    let p = split (nat_le (pull c) (bound s)) (closed_by s c) a in
    record { pulls = rw e (true_le (pull c) (bound s) p.0); stops_at = λ d i. k d (sym e ∙ i); closed = rw e p.1 }

not_true : (b : Bool) → not b ≡ true → b ≡ false
not_true false e = refl
not_true true e = cc

pub calm_stops : (d : Sign) (t : Node) → calm_sign d ≡ true → (x : Sign) → cl.Sign d ≡ cl.Sign x → stops x t ≡ true
calm_stops d t e x i =
    let p = split (not (is_sign si.Else d)) (not (is_sign si.Comma d)) e in
    rw (← same_sign d x i) (stops_calm d (not_true (is_sign si.Else d) p.0) (not_true (is_sign si.Comma d) p.1) t)

-- a kid that may be absent
pub data Maybe (s : Sort) (u : Node) : Type 0 where
  lacks : is_absent u ≡ true → Maybe s u
  has : is_shaped s u ≡ true → Maybe s u

pub maybe : (s : Sort) (u : Node) → (is_absent u || is_shaped s u) ≡ true → Maybe s u
maybe s u e = by (is_absent u) refl e
  where
    by : (b : Bool) → is_absent u ≡ b → (b || is_shaped s u) ≡ true → Maybe s u
    by true i e = lacks i
    by false i e = has e

kind_is_there : (r : Sort) (u : Node) → stands r ≡ true → is_shaped r u ≡ true → is_none (head u).kind ≡ false
kind_is_there r (branch h ts) l e = is_none_stands h.kind (stands_not_alone r h ts l e)

dots_spell : (f : ℕ) (u : Node) → is_shaped so.Dots u ≡ true → spell f u ≡ sign_token f si.Dots ∷ []
unfolding spell
dots_spell f (branch h ts) e = rw (by_kind h.kind h.text (shape so.Dots h ts e).admitted) refl
  where
    by_kind : (k : Kind) (x : List ℕ) → admits so.Dots k x ≡ true → k ≡ ki.Dots
    by_kind ki.Dots x a = refl
    by_kind _ x a = cc

pub kid_ends : (f : ℕ) (h : Head) (m : ℕ) (s : Sort) (t : Node) (ps : List Piece) (ts : Nodes) (w : List Token) →
    are_kids m (kid_pieces ps) ts ≡ true → ends_before (behind_kid ps (edges ts)) (edge t) ≡ true →
    ((d : Sign) → front w ≡ cl.Sign d → form_stops d h (stops d t) ps (stops_each d ts) ≡ true) → Follows s ps (front w) →
    Standing s t (pieces_tokens f h ps (spells f ts) ++ w)
unfolding is_shaped spell stops
kid_ends f h m s t [] ts w k e x q = ends_from s t w (front w) refl q x
kid_ends f h m s t (pi.Fixed d ∷ ps) ts w k e x q =
    ends_from s t _ (cl.Sign d) (class_sign f d) q (λ y i. rw (← same_sign d y i) (ends_sign d t e))
kid_ends f h m s t (pi.Led a r ∷ []) none w k e x q = cc
kid_ends f h m s t (pi.Led a r ∷ []) (more u us) w k e x q =
    by (maybe r u (split (is_absent u || is_shaped r u) (are_kids m [] us) k).0)
  where
    by : Maybe r u → Standing s t (pieces_tokens f h (pi.Led a r ∷ []) (spells f (more u us)) ++ w)
    by (lacks l) =
        let n = absent_kind u l in
        rw (led_absent f a u [] l) (ends_from s t w (front w) refl q.1 (λ d i. (split (stops d t) (not (is_sign a d)) (rw n at x d i)).0))
    by (has l) =
        let o = split (at s (cl.Sign a)) (stands r) q.0 in
        let n = kind_is_there r u o.1 l in
        let e' : ends_before (Some a) (edge t) ≡ true = rw n at e in
        rw (led_kid f a r u [] o.1 l) (ends_from s t _ (cl.Sign a) (class_sign f a) o.0 (λ d i. rw (← same_sign a d i) (ends_sign a t e')))
kid_ends f h m s t (pi.Led a r ∷ pi.Fixed b ∷ ps) none w k e x q = cc
kid_ends f h m s t (pi.Led a r ∷ pi.Fixed b ∷ ps) (more u us) w k e x q =
    by (maybe r u (split (is_absent u || is_shaped r u) (are_kids m (kid_pieces ps) us) k).0)
  where
    by : Maybe r u → Standing s t (pieces_tokens f h (pi.Led a r ∷ pi.Fixed b ∷ ps) (spells f (more u us)) ++ w)
    by (lacks l) =
        let o = split (at s (cl.Sign b)) (calm_sign b) q.1 in
        rw (led_absent f a u [] l) (ends_from s t _ (cl.Sign b) (class_sign f b) o.0 (calm_stops b t o.1))
    by (has l) =
        let o = split (at s (cl.Sign a)) (stands r) q.0 in
        let n = kind_is_there r u o.1 l in
        let e' : ends_before (Some a) (edge t) ≡ true = rw n at e in
        rw (led_kid f a r u [] o.1 l) (ends_from s t _ (cl.Sign a) (class_sign f a) o.0 (λ d i. rw (← same_sign a d i) (ends_sign a t e')))
kid_ends f h m s t (pi.Optional so.Dots ∷ pi.Fixed b ∷ ps) none w k e x q = cc
kid_ends f h m s t (pi.Optional so.Dots ∷ pi.Fixed b ∷ ps) (more u us) w k e x q =
    by (maybe so.Dots u (split (is_absent u || is_shaped so.Dots u) (are_kids m (kid_pieces ps) us) k).0)
  where
    by : Maybe so.Dots u → Standing s t (pieces_tokens f h (pi.Optional so.Dots ∷ pi.Fixed b ∷ ps) (spells f (more u us)) ++ w)
    by (lacks l) =
        let o = split (at s (cl.Sign b)) (calm_sign b) q.1 in
        rw (absent_spell f u l) (ends_from s t _ (cl.Sign b) (class_sign f b) o.0 (calm_stops b t o.1))
    by (has l) = rw (dots_spell f u l) (ends_from s t _ (cl.Sign si.Dots) (class_sign f si.Dots) q.0 (calm_stops si.Dots t refl))
kid_ends f h m s t _ ts w k e x q = absurd q

-- ---- a tree's own text

alone_state : (b : Bool) (p : Place) (h : Head) (ks : List Node) → h.text ≡ [] → has_text_alone h ≡ true →
    state false p h ks ≡ state true p h ks
alone_state b p h ks i e = let q = alone h e in rw (i, q.number, q.suffix) refl

pub taken : (f : ℕ) (b : Bool) (p : Place) (h : Head) (ks : List Node) (gs : List Group) → has_text_alone h ≡ true → (k : TokenKind) →
    take_text (word_token f k h.text) (state b p h ks ∷ gs) ≡ state true p h ks ∷ gs
taken f true p h ks gs e k = let q = alone h e in rw (q.number, q.suffix) refl
taken f false p h ks gs e k = let q = alone h e in rw (q.number, q.suffix) refl

pub read_name : (f : ℕ) (b : Bool) (p : Place) (h : Head) (ks : List Node) (w : List Token) (st : List Symbol) (gs : List Group) →
    is_own ow.Name h ≡ true → run f (word_token f tk.Name h.text ∷ w) (part (ru.Own ow.Name) ∷ st) (state b p h ks ∷ gs) ≡
    run f w st (state true p h ks ∷ gs)
read_name f b p h ks w st gs e =
    let q = split (is_name false h.text) (has_text_alone h) e in
    let r : row (ru.Own ow.Name) (class_of (word_token f tk.Name h.text)) ≡ Uses (ch.Take ∷ []) [] = rw (class_name f h.text q.0) refl in
    run_uses f (word_token f tk.Name h.text) w (ru.Own ow.Name) st (state b p h ks ∷ gs) (ch.Take ∷ []) [] r ∙ run_groups f w st _ _
    (taken f b p h ks gs q.1 tk.Name)

no_colon : (c : Class) → has_sign si.Colon c ≡ false → row (ru.Own ow.Label) c ≡ Skips []
no_colon (cl.Sign si.Colon) e = cc
no_colon (cl.Sign _) e = refl
no_colon _ e = refl

pub read_label : (f : ℕ) (p : Place) (h : Head) (ks : List Node) (w : List Token) (st : List Symbol) (gs : List Group) →
    is_own ow.Label h ≡ true → has_sign si.Colon (front w) ≡ false →
    run f (label_tokens f h.text ++ w) (part (ru.Own ow.Label) ∷ st) (state false p h ks ∷ gs) ≡ run f w st (state true p h ks ∷ gs)
read_label f p h ks w st gs e c =
    let q = split (is_empty h.text || is_name false h.text) (has_text_alone h) e in
    by h.text refl q.0 q.1
  where
    by : (x : List ℕ) → h.text ≡ x → (is_empty x || is_name false x) ≡ true → has_text_alone h ≡ true →
        run f (label_tokens f x ++ w) (part (ru.Own ow.Label) ∷ st) (state false p h ks ∷ gs) ≡ run f w st (state true p h ks ∷ gs)
    by [] i n a = run_skip f w (ru.Own ow.Label) st _ (no_colon (front w) c) ∙ run_group f w st gs _ _ (alone_state false p h ks i a)
    by (y ∷ ys) i n a =
        let o : is_own ow.Name h ≡ true = rw (i, n, a) refl in
        run_uses f (sign_token f si.Colon) _ (ru.Own ow.Label) st _ [] (part (ru.Own ow.Name) ∷ []) refl
        ∙ (rw (← i) (read_name f false p h ks w st gs o))
