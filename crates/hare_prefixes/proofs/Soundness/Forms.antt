-- From the pieces that were read to whole trees, by how their forms begin.
use Rattle.std.proofs.Common.{◌≡◌, ℕ, ◌+◌, List, [], ◌∷◌, ◌++◌, Bool, true, false, ◌&&◌, not, map, length, refl, ap, sym, ◌∙◌, subst, arith, if◌then◌else◌}
use Rattle.std.specs.Prelude.{Some}
use Rattle.std.proofs.lemmas.List.{append-nil, length-map, map-append}
use Rattle.hare_tree.specs.declared.kind.Kind.{Kind}
use Rattle.hare_tree.specs.declared.place.Place.{Place}
use Rattle.hare_tree.specs.declared.token.Token.{Token}
use Rattle.hare_tree.specs.declared.form.Sign.{Sign}
use Rattle.hare_tree.specs.declared.form.Own.{Own}
use Rattle.hare_tree.specs.declared.form.Own.TheVariants as ow
use Rattle.hare_tree.specs.declared.form.Sort.{Sort}
use Rattle.hare_tree.specs.declared.form.Piece.{Piece}
use Rattle.hare_tree.specs.declared.form.Piece.TheVariants as pi
use Rattle.hare_tree.specs.Node.{Head, Node, Nodes, branch, none, more, nodes_of}
use Rattle.hare_tree.specs.Forms.{form_of}
use Rattle.hare_tree.specs.Levels.{level, admits, sort_in}
use Rattle.hare_tree.specs.Spell.{sign_token, own_tokens, pieces_tokens, spell, spells}
use Rattle.hare_tree.specs.Shape.{is_shaped, are_kids, is_own, is_none, is_empty, kid_pieces, own_of, kids_end, edges, ends_before, is_yield, first_labelled, yields_label, stops, stops_each, form_stops}
use Rattle.hare_tree.specs.Depth.{begins, place_in, is_operator}
use Rattle.hare_tree.specs.Grammar.{HasPlaces, HavePlaces, place_of, unplaced}
use Rattle.hare_automaton.specs.declared.class.Class.TheVariants as cl
use Rattle.hare_automaton.specs.declared.rule.Symbol.TheVariants as sy
use Rattle.hare_automaton.specs.Classes.{head_of, class_of}
use Rattle.hare_automaton.specs.Rows.{symbols}
use Rattle.hare_automaton.specs.Engine.{Group, begun, head_in, bare_leaf, full_leaf, add}
use Rattle.hare_automaton.proofs.Machine.Edges.{edge}
use Rattle.hare_automaton.proofs.Spelled.Forms.{has_own, Owns}
use Rattle.hare_prefixes.proofs.Soundness.Seen.{sign_is}
use Rattle.hare_prefixes.proofs.Soundness.Trees.{Source, IsTree, Tree, Made, made_tree, Begun, Bare, Ended, list_of, back}
use Rattle.hare_prefixes.proofs.Soundness.Stacks.{Reads}
use Rattle.hare_prefixes.proofs.Soundness.Kids.{Simple, some_same, edge_ends}
use Rattle.hare_prefixes.proofs.Soundness.Pieces.{ended_fixed, whole_form}

-- ---- kinds

-- nothing of its own is to be said of the place and of the label of trees of this kind
pub record Ordinary (k : Kind) : Type 0 where
  pub none : is_none k ≡ false
  pub operator : is_operator k ≡ false
  pub yield : is_yield k ≡ false

pub place_zero : (h : Head) (ts : Nodes) (k : Kind) → h.kind ≡ k → is_operator k ≡ false → place_in h ts ≡ 0
place_zero h none k i e = refl
place_zero h (more t ts) k i e = by (is_operator h.kind) (ap is_operator i ∙ e)
  where
    by : (b : Bool) → b ≡ false → (if b then length (spell 0 t) else 0) ≡ 0
    by true e = cc
    by false e = refl

pub no_label : (h : Head) (ts : Nodes) (k : Kind) → h.kind ≡ k → is_yield k ≡ false → yields_label h ts ≡ true
no_label h ts k i e = by (is_yield h.kind) (ap is_yield i ∙ e)
  where
    by : (b : Bool) → b ≡ false → not (b && is_empty h.text && first_labelled ts) ≡ true
    by true e = cc
    by false e = refl

-- a tree's own text, where the group had none
pub own_from : (ps : List Piece) (h : Head) (g : Group) (k : Kind) → Bare g → Owns h ps → (has_own ps ≡ false → h ≡ head_in k g) →
    is_own (own_of ps) h ≡ true
own_from [] h g k b o f = subst (λ y. is_own ow.Nothing y ≡ true) (sym (f refl)) (rw (b.text, b.number, b.suffix) refl)
own_from (pi.Own w ∷ ps) h g k b o f = o.0
own_from (pi.Fixed d ∷ ps) h g k b o f = own_from ps h g k b o f
own_from (pi.Kid s ∷ ps) h g k b o f = own_from ps h g k b o f
own_from (pi.Optional s ∷ ps) h g k b o f = own_from ps h g k b o f
own_from (pi.Led a s ∷ ps) h g k b o f = own_from ps h g k b o f
own_from (pi.Followed s a ∷ ps) h g k b o f = own_from ps h g k b o f
own_from (pi.Value s ∷ ps) h g k b o f = own_from ps h g k b o f
own_from (pi.Each s ∷ ps) h g k b o f = own_from ps h g k b o f
own_from (pi.EachLed a s ∷ ps) h g k b o f = own_from ps h g k b o f
own_from (pi.EachFollowed s a ∷ ps) h g k b o f = own_from ps h g k b o f
own_from (pi.More s ∷ ps) h g k b o f = own_from ps h g k b o f
own_from (pi.List s ∷ ps) h g k b o f = own_from ps h g k b o f
own_from (pi.Elements s ∷ ps) h g k b o f = own_from ps h g k b o f
own_from (pi.MoreElements s ∷ ps) h g k b o f = own_from ps h g k b o f

-- ---- trees of a kind

pub record Form (x : Source) (k : Kind) (gs : List Group) (m : ℕ) (u w : List Token) (gs' : List Group) : Type 0 where
  pub h : Head
  pub ts : Nodes
  pub made : Made x k m u w h ts
  pub adds : gs' ≡ add (branch h ts) gs

pub form_tree : (x : Source) (s : Sort) (k : Kind) (gs : List Group) (m : ℕ) (u w : List Token) (gs' : List Group) → is_none k ≡ false →
    ((y : List ℕ) → admits s k y ≡ true) → Form x k gs m u w gs' → Tree x s gs m u w gs'
form_tree x s k gs m u w gs' n a q = record {
  t = branch q.h q.ts;
  is = made_tree x s k m u w q.h q.ts n (a q.h.text) q.made;
  adds =
      q.adds;
}

all_two : (a b : Bool) → a ≡ true → b ≡ true → (a && b) ≡ true
all_two a b p q = rw (p, q) refl

-- a form that is no operator, all of whose pieces were read
pub ended_form : (x : Source) (k : Kind) (g : Group) (hs : List Group) (n : ℕ) (u w : List Token) (gs' : List Group) → Ordinary k → Bare g →
    g.kids ≡ [] → place_of x.tokens n ≡ g.place → Ended x k (form_of k) g hs n u w gs' → Form x k hs n u w gs'
ended_form x k g hs n u w gs' y b ks p e =
    let at : place_of x.tokens n ≡ place_of x.tokens (n + place_in e.h e.ts) =
    ap (place_of x.tokens) (omega (arith, place_zero e.h e.ts k e.kind_is y.operator)) in
    record {
      h = e.h;
      ts = e.ts;
      made = record {
        kind_is = e.kind_is;
        place_is = e.place_is ∙ sym p ∙ at;
        own = own_from (form_of k) e.h g k b e.owns e.kept;
        kids = e.kids (level k e.h.text);
        ends = e.ends;
        label = no_label e.h e.ts k e.kind_is y.yield;
        spelled = e.spelled;
        placed = e.placed;
        stops_at = λ z i. e.stops_at (λ q. true) (λ q j. refl) z i;
      };
      adds = e.adds ∙ ap (λ z. add (branch e.h (nodes_of (z ++ list_of e.ts))) hs) ks ∙ ap (λ z. add (branch e.h z) hs) (back e.ts);
    }

-- a form that begins with a sign
pub opened : (x : Source) (k : Kind) (d : Sign) (ps : List Piece) (hs : List Group) (t : Token) (n m : ℕ) (u w : List Token)
    (gs' : List Group) → form_of k ≡ pi.Fixed d ∷ ps → Ordinary k → Simple ps → Begun x d t n m →
    Reads x (symbols ps ++ sy.Close k ∷ []) (begun t.place [] ∷ hs) m u w gs' → Form x k hs n (t ∷ u) w gs'
opened x k d ps hs t n m u w gs' f y c b r =
    let g = begun t.place [] in
    let bare : Bare g = record { text = refl; number = refl; suffix = refl } in
    let e = ended_fixed x k d ps g hs n m t u w gs' b (whole_form x k ps g hs m u w gs' c (λ z. bare) r) in
    ended_form x k g hs n (t ∷ u) w gs' y bare refl b.place (subst (λ z. Ended x k z g hs n (t ∷ u) w gs') (sym f) e)

-- A form of an ordinary kind: all its pieces, and the last of them, which say nothing of the text of the tree.
pub record PlainRest (k : Kind) (all ps : List Piece) : Type 0 where
  -- these are the pieces of the kind
  pub form : form_of k ≡ all
  -- neither its place nor its label is to be told apart
  pub ordinary : Ordinary k
  -- the last pieces are read one by one
  pub simple : Simple ps
  -- none of them is the text
  pub textless : has_own ps ≡ false

-- The group has the text of a tree of the kind, and nothing else. The tokens of the text stand at `n`, in front of `m`.
pub record HasText (x : Source) (k : Kind) (o : Own) (g : Group) (v : List Token) (n m : ℕ) : Type 0 where
  -- there are no kids yet
  pub kids : g.kids ≡ []
  -- the text is such as the kind takes
  pub own : is_own o (head_in k g) ≡ true
  -- it is spelled by the tokens
  pub spelled : own_tokens 0 (head_in k g) o ≡ map unplaced v
  -- the group begins where they begin
  pub place : place_of x.tokens n ≡ g.place
  -- behind them stands what follows
  pub next : m ≡ n + length v

-- a form that begins with its own text, which the group has
pub named : (x : Source) (k : Kind) (o : Own) (ps : List Piece) (g : Group) (hs : List Group) (n m : ℕ) (v u w : List Token)
    (gs' : List Group) → PlainRest k (pi.Own o ∷ ps) ps → HasText x k o g v n m →
    Reads x (symbols ps ++ sy.Close k ∷ []) (g ∷ hs) m u w gs' → Form x k hs n (v ++ u) w gs'
named x k o ps g hs n m v u w gs' f b r =
    let e = whole_form x k ps g hs m u w gs' f.simple (λ z. let q : true ≡ false = sym z ∙ f.textless in cc) r in
    let is_h : e.h ≡ head_in k g = e.kept f.textless in
    let at : place_of x.tokens n ≡ place_of x.tokens (n + place_in e.h e.ts) =
    ap (place_of x.tokens) (omega (arith, place_zero e.h e.ts k e.kind_is f.ordinary.operator)) in
    let text : own_tokens 0 e.h o ≡ map unplaced v = ap (λ z. own_tokens 0 z o) is_h ∙ b.spelled in
    let ln : m ≡ n + length (own_tokens 0 e.h o) = b.next ∙ ap (λ z. n + z) (sym (ap length text ∙ length-map v unplaced)) in
    record {
      h = e.h;
      ts = e.ts;
      made = record {
        kind_is = e.kind_is;
        place_is = e.place_is ∙ sym b.place ∙ at;
        own = subst (λ z. is_own (own_of z) e.h ≡ true) (sym f.form) (subst (λ z. is_own o z ≡ true) (sym is_h) b.own);
        kids = subst (λ z. are_kids (level k e.h.text) (kid_pieces z) e.ts ≡ true) (sym f.form) (e.kids (level k e.h.text));
        ends = subst (λ z. kids_end z (edges e.ts) ≡ true) (sym f.form) e.ends;
        label = no_label e.h e.ts k e.kind_is f.ordinary.yield;
        spelled = ap (λ z. pieces_tokens 0 e.h z (spells 0 e.ts)) f.form ∙ ap (λ z. z ++ pieces_tokens 0 e.h ps (spells 0 e.ts)) text ∙ ap
            (λ z. map unplaced v ++ z) e.spelled ∙ sym (map-append unplaced v u);
        placed = subst (λ z. HavePlaces x.file x.tokens (begins e.h z n (spells 0 e.ts)) e.ts) (sym f.form)
            (subst (λ z. HavePlaces x.file x.tokens (begins e.h ps z (spells 0 e.ts)) e.ts) ln e.placed);
        stops_at = λ z i. subst (λ q. form_stops z e.h true q (stops_each z e.ts) ≡ true) (sym f.form)
            (e.stops_at (λ q. true) (λ q j. refl) z i);
      };
      adds = e.adds ∙ ap (λ z. add (branch e.h (nodes_of (z ++ list_of e.ts))) hs) b.kids ∙ ap (λ z. add (branch e.h z) hs) (back e.ts);
    }

abbrev pub first_in : Node → List Node → Node
first_in t [] = t
first_in t (u ∷ us) = u

abbrev pub first_kid : Node → List Group → Node
first_kid t [] = t
first_kid t (g ∷ gs) = first_in t g.kids

-- the tree that a form was put as
pub form_kid : (x : Source) (s : Sort) (k : Kind) (p : Place) (m : ℕ) (u w : List Token) (t : Node) → is_none k ≡ false →
    ((h : Head) (ts : Nodes) → t ≡ branch h ts → admits s k h.text ≡ true) → Form x k (begun p [] ∷ []) m u w (add t (begun p [] ∷ [])) →
    IsTree x s m u w t
form_kid x s k p m u w t n a f =
    let i : t ≡ branch f.h f.ts = ap (first_kid t) f.adds in
    subst (λ y. IsTree x s m u w y) (sym i) (made_tree x s k m u w f.h f.ts n (a f.h f.ts i) f.made)

-- ---- operators

-- a left operand of a sort that the form asks for
pub record Operand (x : Source) (s : Sort) (a : Node) (n m : ℕ) (v rest : List Token) : Type 0 where
  pub is : IsTree x s n v rest a
  pub at : m ≡ n + length v

-- a form whose first piece is an operand of the sort `s` and whose second is the sign `d`
pub record SignForm (k : Kind) (s r : Sort) (d : Sign) (ps : List Piece) : Type 0 where
  -- its pieces
  pub form : form_of k ≡ pi.Kid r ∷ pi.Fixed d ∷ ps
  -- the operand is of the sort
  pub operand : (y : List ℕ) → sort_in (level k y) r ≡ s
  -- a tree of the kind is placed at the sign
  pub operator : is_operator k ≡ true
  -- it is no `yield`
  pub yield : is_yield k ≡ false
  -- the pieces behind the sign are read one by one
  pub simple : Simple ps

-- such a form, of the operand `a` and the sign `t`
pub behind_operand : (x : Source) (k : Kind) (s r : Sort) (d : Sign) (ps : List Piece) (hs : List Group) (a : Node) (t : Token) (n n1 m : ℕ)
    (v u w : List Token) (gs' : List Group) → SignForm k s r d ps → Operand x s a n n1 v (t ∷ (u ++ w)) → Begun x d t n1 m →
    Reads x (symbols ps ++ sy.Close k ∷ []) (begun t.place (a ∷ []) ∷ hs) m u w gs' → Form x k hs n (v ++ (t ∷ u)) w gs'
unfolding is_shaped spell stops HasPlaces
behind_operand x k s r d ps hs a t n n1 m v u w gs' f q b rd =
    let g = begun t.place (a ∷ []) in
    let bare : Bare g = record { text = refl; number = refl; suffix = refl } in
    let e = whole_form x k ps g hs m u w gs' f.simple (λ z. bare) rd in
    let ln : length (spell 0 a) ≡ length v = ap length q.is.spelled ∙ length-map v unplaced in
    let op' : is_operator e.h.kind ≡ true = ap is_operator e.kind_is ∙ f.operator in
    let at : place_of x.tokens n1 ≡ place_of x.tokens (n + place_in e.h (more a e.ts)) =
    ap (place_of x.tokens) (q.at ∙ ap (λ z. n + z) (sym (ap (λ z. if z then length (spell 0 a) else 0) op' ∙ ln))) in
    let far : n + length (spell 0 a ++ []) ≡ n1 = omega (arith, ap length (append-nil (spell 0 a)), ln, q.at) in
    record {
      h = e.h;
      ts = more a e.ts;
      made = record {
        kind_is = e.kind_is;
        place_is = e.place_is ∙ sym b.place ∙ at;
        own = subst (λ z. is_own (own_of z) e.h ≡ true) (sym f.form) (own_from ps e.h g k bare e.owns e.kept);
        kids = subst (λ z. are_kids (level k e.h.text) (kid_pieces z) (more a e.ts) ≡ true) (sym f.form)
            (all_two (is_shaped (sort_in (level k e.h.text) r) a) _
            (subst (λ z. is_shaped z a ≡ true) (sym (f.operand e.h.text)) q.is.shaped) (e.kids (level k e.h.text)));
        ends = subst (λ z. kids_end z (edges (more a e.ts)) ≡ true) (sym f.form)
            (all_two (ends_before (Some d) (edge a)) (kids_end ps (edges e.ts))
            (edge_ends (Some d) a (λ z i. q.is.ends z (b.class ∙ ap cl.Sign (some_same d z i)))) e.ends);
        label = no_label e.h (more a e.ts) k e.kind_is f.yield;
        spelled = ap (λ z. pieces_tokens 0 e.h z (spells 0 (more a e.ts))) f.form ∙ ap
            (λ z. z ++ (sign_token 0 d ∷ pieces_tokens 0 e.h ps (spells 0 e.ts))) (append-nil (spell 0 a) ∙ q.is.spelled) ∙ ap
            (λ z. map unplaced v ++ (sign_token 0 d ∷ z)) e.spelled ∙ ap (λ z. map unplaced v ++ (z ∷ map unplaced u))
            (sym (sign_is t d b.class)) ∙ sym (map-append unplaced v (t ∷ u));
        placed = subst (λ z. HavePlaces x.file x.tokens (begins e.h z n (spells 0 (more a e.ts))) (more a e.ts)) (sym f.form) (
          subst (λ z. HasPlaces x.file x.tokens z a) (omega arith) q.is.placed,
          subst
              (λ z. HavePlaces x.file x.tokens (begins e.h ps z (spells 0 e.ts)) e.ts) (b.next ∙ ap (λ z. z + 1) (sym far)) e.placed,
        );
        stops_at = λ z i. subst (λ p. form_stops z e.h true p (stops_each z (more a e.ts)) ≡ true) (sym f.form)
            (e.stops_at (λ p. true) (λ p j. refl) z i);
      };
      adds = e.adds ∙ ap (λ z. add (branch e.h (more a z)) hs) (back e.ts);
    }

-- ---- leaves

-- a token that is a tree
pub leaf_form : (x : Source) (k : Kind) (o : Own) (t : Token) (gs : List Group) (m : ℕ) (w : List Token) → form_of k ≡ pi.Own o ∷ [] →
    Ordinary k → place_of x.tokens m ≡ t.place →
    is_own o (head_of t) ≡ is_own o (record { kind = k; place = t.place; text = t.text; number = t.number; suffix = t.suffix }) →
    is_own o (head_of t) ≡ true → own_tokens 0 (record { kind = k; place = t.place; text = t.text; number = t.number; suffix = t.suffix }) o
    ≡ unplaced t ∷ [] → Form x k gs m (t ∷ []) w (add (full_leaf k t) gs)
unfolding is_shaped spell stops HasPlaces
leaf_form x k o t gs m w f y p same own text =
    let h : Head = record { kind = k; place = t.place; text = t.text; number = t.number; suffix = t.suffix } in
    record {
      h = h;
      ts = none;
      made = record {
        kind_is = refl;
        place_is = sym p ∙ ap (place_of x.tokens) (omega arith);
        own = subst (λ z. is_own (own_of z) h ≡ true) (sym f) (sym same ∙ own);
        kids = subst (λ z. are_kids (level k t.text) (kid_pieces z) none ≡ true) (sym f) refl;
        ends = subst (λ z. kids_end z [] ≡ true) (sym f) refl;
        label = no_label h none k refl y.yield;
        spelled = ap (λ z. pieces_tokens 0 h z []) f ∙ append-nil (own_tokens 0 h o) ∙ text;
        placed = tt;
        stops_at = λ z i. subst (λ q. form_stops z h true q [] ≡ true) (sym f) refl;
      };
      adds = refl;
    }

-- a sign that is a tree
pub mark_form : (x : Source) (k : Kind) (d : Sign) (t : Token) (gs : List Group) (m : ℕ) (w : List Token) → form_of k ≡ pi.Fixed d ∷ [] →
    Ordinary k → place_of x.tokens m ≡ t.place → class_of t ≡ cl.Sign d → Form x k gs m (t ∷ []) w (add (bare_leaf k t.place) gs)
unfolding is_shaped spell stops HasPlaces
mark_form x k d t gs m w f y p e =
    let h : Head = head_in k (begun t.place []) in
    record {
      h = h;
      ts = none;
      made = record {
        kind_is = refl;
        place_is = sym p ∙ ap (place_of x.tokens) (omega arith);
        own = subst (λ z. is_own (own_of z) h ≡ true) (sym f) refl;
        kids = subst (λ z. are_kids (level k []) (kid_pieces z) none ≡ true) (sym f) refl;
        ends = subst (λ z. kids_end z [] ≡ true) (sym f) refl;
        label = no_label h none k refl y.yield;
        spelled = ap (λ z. pieces_tokens 0 h z []) f ∙ ap (λ z. z ∷ []) (sym (sign_is t d e));
        placed = tt;
        stops_at = λ z i. subst (λ q. form_stops z h true q [] ≡ true) (sym f) refl;
      };
      adds = refl;
    }
