-- Each row of `yield` is right: its value does not begin with a label of its own.
use Rattle.std.proofs.Common.{◌≡◌, ℕ, ◌+◌, List, [], ◌∷◌, ◌++◌, Bool, true, false, ◌&&◌, ◌||◌, not, map, length, refl, ap, sym, ◌∙◌, subst, arith}
use Rattle.std.proofs.lemmas.List.{append-nil, length-map, map-append}
use Rattle.hare_tree.specs.declared.kind.Kind.{Kind}
use Rattle.hare_tree.specs.declared.kind.Kind.TheVariants as ki
use Rattle.hare_tree.specs.declared.token.Token.{Token}
use Rattle.hare_tree.specs.declared.form.Sign.{Sign}
use Rattle.hare_tree.specs.declared.form.Sign.TheVariants as si
use Rattle.hare_tree.specs.declared.form.Own.TheVariants as ow
use Rattle.hare_tree.specs.declared.form.Piece.{Piece}
use Rattle.hare_tree.specs.declared.form.Piece.TheVariants as pi
use Rattle.hare_tree.specs.Node.{Head, Node, Nodes, branch, none, more, head, nodes_of}
use Rattle.hare_tree.specs.Signs.{is_sign}
use Rattle.hare_tree.specs.Forms.{form_of, expr}
use Rattle.hare_tree.specs.Levels.{is_name}
use Rattle.hare_tree.specs.Spell.{sign_token, label_tokens, stands_alone, with_lead, value_lead, own_tokens, pieces_tokens, spell, spells}
use Rattle.hare_tree.specs.Shape.{is_shaped, is_absent, is_own, is_empty, has_text_alone, kid_or, form_begins_labelled, begins_labelled, stops}
use Rattle.hare_tree.specs.Depth.{lead_length}
use Rattle.hare_tree.specs.Grammar.{HasPlaces, place_of, unplaced}
use Rattle.hare_automaton.specs.declared.class.Class.{Class}
use Rattle.hare_automaton.specs.declared.class.Class.TheVariants as cl
use Rattle.hare_automaton.specs.declared.rule.Rule.TheVariants as ru
use Rattle.hare_automaton.specs.declared.rule.Symbol.TheVariants as sy
use Rattle.hare_automaton.specs.declared.rule.Change.TheVariants as ch
use Rattle.hare_automaton.specs.Classes.{class_of}
use Rattle.hare_automaton.specs.Rows.{part, before, or_skips, has_sign}
use Rattle.hare_automaton.specs.ExpressionRows.{level_row, after_yield_row}
use Rattle.hare_automaton.specs.Engine.{Group, begun, head_in, add, close}
use Rattle.hare_automaton.proofs.Machine.Steps.{front}
use Rattle.hare_automaton.proofs.Spelled.Paths.{split}
use Rattle.hare_automaton.proofs.Machine.Tokens.{class_sign}
use Rattle.hare_prefixes.proofs.Soundness.TokenKinds.{class_unplaced}
use Rattle.hare_prefixes.proofs.Soundness.Seen.{sign_is}
use Rattle.hare_prefixes.proofs.Soundness.Trees.{Source, IsTree, Tree, made_tree, Begun}
use Rattle.hare_prefixes.proofs.Soundness.Means.{Led, lacks, leads, Means}
use Rattle.hare_prefixes.proofs.Soundness.Stacks.{Goes, Used, used_or}
use Rattle.hare_prefixes.proofs.Soundness.Kids.{nothing, led_sign, if_false}
use Rattle.hare_prefixes.proofs.RightRows.SideRows.{apart_alone}
use Rattle.hare_prefixes.proofs.RightRows.TypeRows.{unit}
use Rattle.hare_prefixes.proofs.RightRows.StartRows.{labelled, level_means}

-- ---- trees that begin with a label

record Labelled (u : List Token) : Type 0 where
  rest : List Token
  is : u ≡ sign_token 0 si.Colon ∷ rest

label_first : (h : Head) (z : List Token) → not (is_empty h.text) ≡ true → Labelled (label_tokens 0 h.text ++ z)
label_first h z e = by h.text e
  where
    by : (y : List ℕ) → not (is_empty y) ≡ true → Labelled (label_tokens 0 y ++ z)
    by [] e = cc
    by (c ∷ y) e = record { rest = _; is = refl }

labelled_pieces : (h : Head) (ps : List Piece) (t : Node) (ts : Nodes) → (begins_labelled t ≡ true → Labelled (spell 0 t)) →
    form_begins_labelled h ps (begins_labelled t) ≡ true → Labelled (pieces_tokens 0 h ps (spells 0 (more t ts)))
unfolding spell
labelled_pieces h (pi.Own ow.Label ∷ ps) t ts f e = label_first h _ e
labelled_pieces h (pi.Kid s ∷ ps) t ts f e =
    let r = f e in
    record {
      rest = r.rest ++ pieces_tokens 0 h ps (spells 0 ts);
      is = ap (λ l. l ++ pieces_tokens 0 h ps (spells 0 ts))
          (append-nil (spell 0 t) ∙ r.is);
    }
labelled_pieces h (pi.Own _ ∷ ps) t ts f e = cc
labelled_pieces h (pi.Fixed d ∷ ps) t ts f e = cc
labelled_pieces h [] t ts f e = cc
labelled_pieces h (_ ∷ ps) t ts f e = cc

labelled_none : (h : Head) (ps : List Piece) → form_begins_labelled h ps false ≡ true → Labelled (pieces_tokens 0 h ps [])
labelled_none h (pi.Own ow.Label ∷ ps) e = label_first h _ e
labelled_none h (pi.Kid s ∷ ps) e = cc
labelled_none h (pi.Own _ ∷ ps) e = cc
labelled_none h (pi.Fixed d ∷ ps) e = cc
labelled_none h [] e = cc
labelled_none h (_ ∷ ps) e = cc

labelled_first : (t : Node) → begins_labelled t ≡ true → Labelled (spell 0 t)
unfolding begins_labelled spell
labelled_first (branch h none) e = labelled_none h (form_of h.kind) e
labelled_first (branch h (more t ts)) e = labelled_pieces h (form_of h.kind) t ts (λ i. labelled_first t i) e

abbrev first_token : Token → List Token → Token
first_token t [] = t
first_token t (y ∷ ys) = y

-- a tree whose first token is no `:` does not
not_labelled : (t : Node) (t1 : Token) (v : List Token) → spell 0 t ≡ map unplaced (t1 ∷ v) → (class_of t1 ≡ cl.Sign si.Colon → ⊥) →
    begins_labelled t ≡ false
not_labelled t t1 v e f = by (begins_labelled t) refl
  where
    by : (b : Bool) → begins_labelled t ≡ b → b ≡ false
    by false i = refl
    by true i =
        let r = labelled_first t i in
        let j : unplaced t1 ≡ sign_token 0 si.Colon = ap (first_token t1) (sym e ∙ r.is) in
        absurd (f (sym (class_unplaced t1) ∙ ap class_of j ∙ class_sign 0 si.Colon))

-- ---- a `yield` with a value, or without one

-- the kid of a `yield` with this label
record YieldKid (text : List ℕ) (x : Source) (m : ℕ) (v w : List Token) (t : Node) : Type 0 where
  allowed : (is_absent t || is_shaped expr t) ≡ true
  words : with_lead 0 (value_lead text) ((head t).kind, spell 0 t) ≡ map unplaced v
  placed : HasPlaces x.file x.tokens (m + lead_length (value_lead text) ((head t).kind, spell 0 t)) t
  label : not (is_empty text && begins_labelled t) ≡ true
  ends : (d : Sign) → front w ≡ cl.Sign d → kid_or (is_empty text || not (is_sign si.Comma d)) ((head t).kind, stops d t) ≡ true

yield_tree : (x : Source) (g : Group) (hs : List Group) (t : Token) (n m m' : ℕ) (l v w : List Token) (kid : Node) → g.kids ≡ [] →
    g.place ≡ t.place → is_own ow.Label (head_in ki.Yield g) ≡ true → own_tokens 0 (head_in ki.Yield g) ow.Label ≡ map unplaced l →
    Begun x si.Yield t n m → m' ≡ m + length l → YieldKid g.text x m' v w kid →
    Tree x expr hs n (t ∷ (l ++ v)) w (add (branch (head_in ki.Yield g) (more kid none)) hs)
unfolding is_shaped spell stops HasPlaces begins_labelled
yield_tree x g hs t n m m' l v w kid ks pl own text b at q =
    let h : Head = head_in ki.Yield g in
    let ln : length (label_tokens 0 g.text) ≡ length l = ap length text ∙ length-map l unplaced in
    let far : ((n + 1) + length (label_tokens 0 g.text)) ≡ m' = omega (arith, ln, at, b.next) in
    record {
      t = branch h (more kid none);
      is = made_tree x expr ki.Yield n (t ∷ (l ++ v)) w h (more kid none) refl refl (record {
        kind_is = refl;
        place_is = pl ∙ sym b.place ∙ ap (place_of x.tokens) (omega arith);
        own = own;
        kids = rw q.allowed refl;
        ends = refl;
        label = q.label;
        spelled = ap (λ z. sign_token 0 si.Yield ∷ z)
            (ap (λ z. label_tokens 0 g.text ++ z)
            (append-nil (with_lead 0 (value_lead g.text) ((head kid).kind, spell 0 kid) ++ []) ∙ append-nil
            (with_lead 0 (value_lead g.text) ((head kid).kind, spell 0 kid)) ∙ q.words) ∙ ap (λ z. z ++ map unplaced v) text ∙ sym
            (map-append unplaced l v)) ∙ ap (λ z. z ∷ map unplaced (l ++ v)) (sym (sign_is t si.Yield b.class));
        placed = (
          subst (λ z. HasPlaces x.file x.tokens (z + lead_length (value_lead g.text) ((head kid).kind, spell 0 kid)) kid) (sym far)
              q.placed,
          tt,
        );
        stops_at = q.ends;
      });
      adds = refl;
    }

-- a value behind a label has a comma before it
led_yield : (y : List ℕ) (x : Source) (m n : ℕ) (t0 : Token) (v w : List Token) (t : Node) → is_empty y ≡ false → Begun x si.Comma t0 m n →
    IsTree x expr n v w t → YieldKid y x m (t0 ∷ v) w t
led_yield [] x m n t0 v w t e b q = cc
led_yield (c ∷ y) x m n t0 v w t e b q =
    let al = apart_alone expr t refl q.shaped in
    let led = if_false (stands_alone (head t).kind) (spell 0 t) (sign_token 0 si.Comma ∷ spell 0 t) al in
    record {
      allowed = right (is_absent t) q.shaped;
      words = led ∙ ap (λ z. sign_token 0 si.Comma ∷ z) q.spelled ∙ ap (λ z. z ∷ map unplaced v) (sym (sign_is t0 si.Comma b.class));
      placed = subst (λ z. HasPlaces x.file x.tokens z t) (b.next ∙ ap (λ z. m + z) (sym (if_false (stands_alone (head t).kind) 0 1 al)))
          q.placed;
      label = refl;
      ends = λ d i. there (head t).kind (not (is_sign si.Comma d)) (stops d t) al (q.ends d i);
    }
  where
    right : (a : Bool) → is_shaped expr t ≡ true → (a || is_shaped expr t) ≡ true
    right true e = refl
    right false e = e

    there : (k : Kind) (b d : Bool) → stands_alone k ≡ false → d ≡ true → kid_or b (k, d) ≡ true
    there ki.None b d a e = cc
    there _ b d a e = e

-- a label alone
lone_yield : (y : List ℕ) (x : Source) (m : ℕ) (w : List Token) → is_empty y ≡ false → has_sign si.Comma (front w) ≡ false →
    YieldKid y x m [] w (nothing x)
unfolding is_shaped spell stops HasPlaces begins_labelled
lone_yield [] x m w e n = cc
lone_yield (c ∷ y) x m w e n = record {
  allowed = refl;
  words = refl;
  placed = (refl, tt);
  label = refl;
  ends = λ d i. ap not
      (led_sign si.Comma refl d (subst (λ z. has_sign si.Comma z ≡ false) i n));
}

-- a value alone
plain_yield : (x : Source) (m : ℕ) (t1 : Token) (v w : List Token) (t : Node) → (class_of t1 ≡ cl.Sign si.Colon → ⊥) →
    IsTree x expr m (t1 ∷ v) w t → YieldKid [] x m (t1 ∷ v) w t
plain_yield x m t1 v w t f q = record {
  allowed = right (is_absent t) q.shaped;
  words = q.spelled;
  placed = subst (λ z. HasPlaces x.file x.tokens z t) (omega arith) q.placed;
  label = ap not (not_labelled t t1 v q.spelled f);
  ends = λ d i. there (head t).kind (stops d t) (apart_alone expr t refl q.shaped) (q.ends d i);
}
  where
    right : (a : Bool) → is_shaped expr t ≡ true → (a || is_shaped expr t) ≡ true
    right true e = refl
    right false e = e

    there : (k : Kind) (d : Bool) → stands_alone k ≡ false → d ≡ true → kid_or true (k, d) ≡ true
    there ki.None d a e = refl
    there _ d a e = e

no_yield : (x : Source) (m : ℕ) (w : List Token) → YieldKid [] x m [] w (nothing x)
unfolding is_shaped spell stops HasPlaces begins_labelled
no_yield x m w = record { allowed = refl; words = refl; placed = (refl, tt); label = refl; ends = λ d i. refl }

-- ---- behind `yield`

name_some : (y : List ℕ) → is_name false y ≡ true → is_empty y ≡ false
name_some [] e = cc
name_some (c ∷ y) e = refl

moved : (x : Source) (hs : List Group) (n : ℕ) (u v w : List Token) (gs1 gs' : List Group) → u ≡ v → gs' ≡ gs1 → Tree x expr hs n v w gs1 →
    Tree x expr hs n u w gs'
moved x hs n u v w gs1 gs' i e q = subst (λ y. Tree x expr hs n u w y) (sym e) (subst (λ y. Tree x expr hs n y w gs1) (sym i) q)

label_yield : (x : Source) (t1 : Token) (gs : List Group) (m : ℕ) (u w : List Token) (gs' : List Group) → class_of t1 ≡ cl.Sign si.Colon →
    Goes x (part (ru.Own ow.Name) ∷ part (ru.Led si.Comma expr) ∷ sy.Close ki.Yield ∷ []) gs t1 m u w gs' →
    Means x ru.AfterYield gs m (t1 ∷ u) w gs'
label_yield x t1 gs m u w gs' e h t n hs i b =
    let p = h.reads in
    let q = p.part (begun t.place []) hs i (record { text = refl; number = refl; suffix = refl }) in
    let g = q.0 in
    let r = p.rest in
    let l = labelled ki.Yield t1 (begun t.place []) g p.v e q.2 in
    let name = split (is_name false g.text) (has_text_alone (head_in ki.Yield g)) (q.2.own ki.Yield) in
    let some = name_some g.text name.0 in
    let far : p.n ≡ m + length (t1 ∷ p.v) = omega (arith, p.at, h.at) in
    let words : (z : List Token) → r.v ≡ z → t ∷ (t1 ∷ u) ≡ t ∷ ((t1 ∷ p.v) ++ z) =
    λ z j. ap (λ y. t ∷ (t1 ∷ y)) (p.is ∙ ap (λ y. p.v ++ y) (r.is ∙ ap (λ y. r.v ++ y) r.rest.0 ∙ append-nil r.v ∙ j)) in
    by g r.v r.hs (r.part (record { g = g; hs = hs; is = q.1 }))
    (λ z kid j a y. moved x hs n (t ∷ (t1 ∷ u)) (t ∷ ((t1 ∷ p.v) ++ z)) w (add (branch (head_in ki.Yield g) (more kid none)) hs) gs'
    (words z j) (r.rest.1 ∙ ap (close ki.Yield) (a ∙ ap (add kid) q.1) ∙ closed g kid q.2.kids)
    (yield_tree x g hs t n m p.n (t1 ∷ p.v) z w kid q.2.kids q.2.place l.0 l.1 b far y)) some r.rest.0
  where
    closed : (g : Group) (kid : Node) → g.kids ≡ [] →
        close ki.Yield (add kid (g ∷ hs)) ≡ add (branch (head_in ki.Yield g) (more kid none)) hs
    closed g kid k = ap (λ y. add (branch (head_in ki.Yield g) (nodes_of (y ++ kid ∷ []))) hs) k

    by : (g : Group) (rv : List Token) (rhs : List Group) {ps : List Group} {pn : ℕ} {rv' : List Token} →
        Led x si.Comma expr ps pn rv (rv' ++ w) rhs →
        ((z : List Token) (kid : Node) → rv ≡ z → rhs ≡ add kid ps → YieldKid g.text x pn z w kid → Tree x expr hs n (t ∷ (t1 ∷ u)) w gs') →
        is_empty g.text ≡ false → rv' ≡ [] → Tree x expr hs n (t ∷ (t1 ∷ u)) w gs'
    by g rv rhs (lacks i c a) f s z = f [] (nothing x) i a
        (lone_yield g.text x _ w s (subst (λ y. has_sign si.Comma (front (y ++ w)) ≡ false) z c))
    by g rv rhs (leads k) f s z = f (k.sign ∷ k.v) k.tree.t k.is k.tree.adds
        (led_yield g.text x _ k.n k.sign k.v w k.tree.t s k.begun (subst (λ y. IsTree x expr k.n k.v (y ++ w) k.tree.t) z k.tree.is))

-- a value that begins with no label
value_yield : (x : Source) (c : Class) (t1 : Token) (gs : List Group) (m : ℕ) (u w : List Token) (gs' : List Group) → class_of t1 ≡ c →
    (c ≡ cl.Sign si.Colon → ⊥) → Used x (or_skips (before (level_row 1 c) (sy.Close ki.Yield ∷ [])) (ch.Absent ∷ ch.Close ki.Yield ∷ [])) t1
    gs m u w gs' → Means x ru.AfterYield gs m (t1 ∷ u) w gs'
value_yield x c t1 gs m u w gs' e f h t n hs i b =
    let p = unit x (level_row 1) expr (level_means x 1) (sy.Close ki.Yield ∷ []) c t1 gs m u w gs' e
    (used_or x (before (level_row 1 c) (sy.Close ki.Yield ∷ [])) (ch.Absent ∷ ch.Close ki.Yield ∷ []) t1 gs m u w gs' h) in
    let q = p.part (record { g = begun t.place []; hs = hs; is = i }) in
    let z : p.v' ≡ [] = p.rest.0 in
    let is : t1 ∷ u ≡ p.v = p.is ∙ ap (λ y. p.v ++ y) z ∙ append-nil p.v in
    let tree : IsTree x expr m (t1 ∷ u) w q.t =
    subst (λ y. IsTree x expr m y w q.t) (sym is) (subst (λ y. IsTree x expr m p.v (y ++ w) q.t) z q.is) in
    let adds : gs' ≡ add (branch (head_in ki.Yield (begun t.place [])) (more q.t none)) hs =
    p.rest.1 ∙ ap (close ki.Yield) (q.adds ∙ ap (add q.t) i) in
    moved x hs n (t ∷ (t1 ∷ u)) (t ∷ ([] ++ (t1 ∷ u))) w _ gs' refl adds
    (yield_tree x (begun t.place []) hs t n m m [] (t1 ∷ u) w q.t refl refl refl refl b (omega arith)
    (plain_yield x m t1 u w q.t (λ j. f (sym e ∙ j)) tree))

pub after_yield_means : (x : Source) (c : Class) (t1 : Token) (gs : List Group) (m : ℕ) (u w : List Token) (gs' : List Group) →
    class_of t1 ≡ c → Used x (after_yield_row c) t1 gs m u w gs' → Means x ru.AfterYield gs m (t1 ∷ u) w gs'
after_yield_means x (cl.Sign si.Colon) t1 gs m u w gs' e h = label_yield x t1 gs m u w gs' e h
after_yield_means x (cl.Sign d) t1 gs m u w gs' e h = value_yield x (cl.Sign d) t1 gs m u w gs' e (λ j. cc) h
after_yield_means x c t1 gs m u w gs' e h = value_yield x c t1 gs m u w gs' e (λ j. cc) h

-- neither a label nor a value
pub after_yield_skips : (x : Source) (gs : List Group) (m : ℕ) (w : List Token) →
    Means x ru.AfterYield gs m [] w (close ki.Yield (add (nothing x) gs))
after_yield_skips x gs m w t n hs i b =
    subst (λ y. Tree x expr hs n (t ∷ []) w y) (sym (ap (λ y. close ki.Yield (add (nothing x) y)) i))
    (yield_tree x (begun t.place []) hs t n m m [] [] w (nothing x) refl refl refl refl b (omega arith) (no_yield x m w))
