-- What reads the pieces of a form and its end makes a tree of the form.
use Rattle.std.proofs.Common.{◌≡◌, ℕ, ◌+◌, List, [], ◌∷◌, ◌++◌, Bool, true, false, map, length, refl, ap, sym, ◌∙◌, subst, arith, append_assoc}
use Rattle.std.specs.Prelude.{Some}
use Rattle.std.proofs.lemmas.List.{append-nil, length-append, length-map, map-append}
use Rattle.hare_tree.specs.declared.kind.Kind.{Kind}
use Rattle.hare_tree.specs.declared.token.Token.{Token}
use Rattle.hare_tree.specs.declared.form.Sign.{Sign}
use Rattle.hare_tree.specs.declared.form.Sign.TheVariants as si
use Rattle.hare_tree.specs.declared.form.Piece.{Piece}
use Rattle.hare_tree.specs.declared.form.Piece.TheVariants as pi
use Rattle.hare_tree.specs.Node.{Head, Node, branch, none, nodes_of}
use Rattle.hare_tree.specs.Spell.{sign_token, Spelled, own_tokens, piece_tokens, pieces_tokens, spell, spells}
use Rattle.hare_tree.specs.Shape.{is_shaped, are_kids, kid_pieces, kids_end, edges, Edge as EdgeOf, Ending, behind_item, behind_kid, is_own, stops, stops_each, form_stops}
use Rattle.hare_tree.specs.Depth.{begins, begins_in}
use Rattle.hare_tree.specs.Grammar.{HasPlaces, HavePlaces, unplaced}
use Rattle.hare_automaton.specs.declared.class.Class.TheVariants as cl
use Rattle.hare_automaton.specs.declared.rule.Symbol.{Symbol}
use Rattle.hare_automaton.specs.declared.rule.Symbol.TheVariants as sy
use Rattle.hare_automaton.specs.Rows.{symbols}
use Rattle.hare_automaton.specs.Engine.{Group, with_kids, head_in, add, close}
use Rattle.hare_automaton.specs.OneTree.{is_sort}
use Rattle.hare_automaton.proofs.Machine.Steps.{front}
use Rattle.hare_automaton.proofs.Spelled.Paths.{split}
use Rattle.hare_automaton.proofs.Spelled.Kids.{stands}
use Rattle.hare_automaton.proofs.Spelled.Forms.{has_own, Owns}
use Rattle.hare_automaton.proofs.Spelled.Leaves.{no_kids}
use Rattle.hare_prefixes.proofs.Soundness.Seen.{sign_is}
use Rattle.hare_prefixes.proofs.Soundness.Trees.{Source, Listed, Begun, Bare, Ended, list_of, all_kids}
use Rattle.hare_prefixes.proofs.Soundness.Means.{Optionally, absent, present, Led, lacks, leads, with_kid, apart, has_first}
use Rattle.hare_prefixes.proofs.Soundness.Stacks.{Reads}
use Rattle.hare_prefixes.proofs.Soundness.Kids.{all_fixed, Simple, Pieced, Kidly, kid_more, wanted_kid, nothing, absent_kid, some_same, items_comma, present_kid, lacking_kid, leading_kid}

-- ---- a piece with kids side by side

fixed_pieces : (ps : List Piece) → all_fixed ps ≡ true → kid_pieces ps ≡ []
fixed_pieces [] e = refl
fixed_pieces (pi.Fixed d ∷ ps) e = fixed_pieces ps e
fixed_pieces (pi.Own o ∷ ps) e = cc
fixed_pieces (_ ∷ ps) e = cc

fixed_begins : (ps : List Piece) (h : Head) (n : ℕ) → all_fixed ps ≡ true → begins h ps n [] ≡ []
fixed_begins [] h n e = refl
fixed_begins (pi.Fixed d ∷ ps) h n e = fixed_begins ps h (n + 1) e
fixed_begins (_ ∷ ps) h n e = cc

fixed_own : (ps : List Piece) → all_fixed ps ≡ true → has_own ps ≡ false
fixed_own [] e = refl
fixed_own (pi.Fixed d ∷ ps) e = fixed_own ps e
fixed_own (_ ∷ ps) e = cc

-- What a piece that stands for a list says of a form where only signs stand behind it.
record ListPiece (p : Piece) (ps : List Piece) : Type 0 where
  kids : kid_pieces (p ∷ ps) ≡ p ∷ kid_pieces ps
  ends : (es : List EdgeOf) → kids_end (p ∷ []) es ≡ true → kids_end (p ∷ ps) es ≡ true
  spelled : (h : Head) (us : List Spelled) → pieces_tokens 0 h (p ∷ ps) us ≡ piece_tokens 0 h p us ++ pieces_tokens 0 h ps []
  numbers : (h : Head) (m : ℕ) (us : List Spelled) →
      begins h (p ∷ ps) m us ≡ begins_in h p m us ++ begins h ps (m + length (piece_tokens 0 h p us)) []
  goes : (h : Head) (d : Sign) (b : Bool) (es : List Ending) → form_stops d h b (p ∷ ps) es ≡ true
  own : has_own (p ∷ ps) ≡ has_own ps
  owns : (h : Head) → Owns h ps → Owns h (p ∷ ps)

list_more : (x : Source) (k : Kind) (p : Piece) (ps : List Piece) (st : List Symbol) (g : Group) (hs : List Group) (m n : ℕ)
    (u v v1 w : List Token) (hs1 gs' : List Group) → ListPiece p ps → all_fixed ps ≡ true → (q : Listed x p (g ∷ hs) m v (v1 ++ w) hs1) →
    ((d : Sign) → behind_kid (p ∷ ps) (edges q.ts) ≡ Some d → front (v ++ (v1 ++ w)) ≡ cl.Sign d) → u ≡ v ++ v1 → n ≡ m + length v →
    Pieced x k ps st (with_kids g (g.kids ++ list_of q.ts)) hs n v1 w gs' → Pieced x k (p ∷ ps) st g hs m u w gs'
unfolding is_shaped spell stops HasPlaces
list_more x k p ps st g hs m n u v v1 w hs1 gs' l f q b i a r =
    let e = r.ended in
    let fr : v1 ++ w ≡ r.v ++ (r.v' ++ w) = ap (λ l. l ++ w) r.is ∙ append_assoc r.v r.v' w in
    let all : (v ++ r.v) ++ (r.v' ++ w) ≡ v ++ (v1 ++ w) = append_assoc v r.v (r.v' ++ w) ∙ ap (λ l. v ++ l) (sym fr) in
    let no : e.ts ≡ none = no_kids 0 e.ts (subst (λ y. are_kids 0 y e.ts ≡ true) (fixed_pieces ps f) (e.kids 0)) in
    let tail : pieces_tokens 0 e.h ps [] ≡ map unplaced r.v = ap (λ y. pieces_tokens 0 e.h ps (spells 0 y)) (sym no) ∙ e.spelled in
    record {
      v = v ++ r.v;
      v' = r.v';
      n = r.n;
      made = r.made;
      is = i ∙ ap (λ l. v ++ l) r.is ∙ sym (append_assoc v r.v r.v');
      at = omega (arith, r.at, a, length-append v r.v);
      ended = record {
        h = e.h;
        ts = q.ts;
        kind_is = e.kind_is;
        place_is = e.place_is;
        kept = λ y. e.kept (sym l.own ∙ y);
        owns = l.owns e.h e.owns;
        kids = λ y. subst (λ z. are_kids y z q.ts ≡ true) (sym (l.kids ∙ ap (λ z. p ∷ z) (fixed_pieces ps f))) (q.kids y);
        ends = l.ends (edges q.ts) q.ends;
        behind = λ d y. ap front all ∙ b d y;
        spelled = l.spelled e.h (spells 0 q.ts) ∙ ap (λ y. y ++ pieces_tokens 0 e.h ps []) (q.spelled e.h) ∙ ap (λ y. map unplaced v ++ y)
            tail ∙ sym (map-append unplaced v r.v);
        placed = subst (λ ns. HavePlaces x.file x.tokens ns q.ts)
            (sym (l.numbers e.h m (spells 0 q.ts) ∙ ap (λ y. begins_in e.h p m (spells 0 q.ts) ++ y) (fixed_begins ps e.h _ f) ∙ append-nil
            (begins_in e.h p m (spells 0 q.ts)))) (q.placed e.h);
        stops_at = λ y z d j. l.goes e.h d (y d) (stops_each d q.ts);
        adds = e.adds ∙ ap (λ y. add (branch e.h (nodes_of ((g.kids ++ list_of q.ts) ++ list_of y))) hs) no ∙ ap
            (λ y. add (branch e.h (nodes_of y)) hs) (append-nil (g.kids ++ list_of q.ts));
      };
      rest = r.rest;
    }

-- ---- a sign

pub fixed_more : (x : Source) (k : Kind) (d : Sign) (ps : List Piece) (st : List Symbol) (g : Group) (hs : List Group) (m n : ℕ) (t : Token)
    (u v w : List Token) (gs' : List Group) → Begun x d t m n → u ≡ t ∷ v → Pieced x k ps st g hs n v w gs' →
    Pieced x k (pi.Fixed d ∷ ps) st g hs m u w gs'
unfolding stops
fixed_more x k d ps st g hs m n t u v w gs' b i r =
    let e = r.ended in
    record {
      v = t ∷ r.v;
      v' = r.v';
      n = r.n;
      made = r.made;
      is = i ∙ ap (λ l. t ∷ l) r.is;
      at = omega (arith, r.at, b.next);
      ended = record {
        h = e.h;
        ts = e.ts;
        kind_is = e.kind_is;
        place_is = e.place_is;
        kept = e.kept;
        owns = e.owns;
        kids = e.kids;
        ends = e.ends;
        behind = λ y j. b.class ∙ ap cl.Sign (some_same d y j);
        spelled = ap (λ l. sign_token 0 d ∷ l) e.spelled ∙ ap (λ y. y ∷ map unplaced r.v) (sym (sign_is t d b.class));
        placed = subst (λ y. HavePlaces x.file x.tokens (begins e.h ps y (spells 0 e.ts)) e.ts) b.next e.placed;
        stops_at = λ y z f j. e.stops_at (λ q. true) (λ q l. refl) f j;
        adds = e.adds;
      };
      rest = r.rest;
    }

-- ---- all pieces

same_bare : (g : Group) (ts : List Node) → Bare g → Bare (with_kids g ts)
same_bare g ts b = record { text = b.text; number = b.number; suffix = b.suffix }

-- the rest of the stack, behind a list
listed_rest : (x : Source) (k : Kind) (p : Piece) (ps : List Piece) (st : List Symbol) (g : Group) (hs : List Group) (m n : ℕ)
    (v rest v1 w : List Token) (hs1 gs' : List Group) → (q : Listed x p (g ∷ hs) m v rest hs1) →
    Reads x (symbols ps ++ sy.Close k ∷ st) hs1 n v1 w gs' →
    Reads x (symbols ps ++ sy.Close k ∷ st) (with_kids g (g.kids ++ list_of q.ts) ∷ hs) n v1 w gs'
listed_rest x k p ps st g hs m n v rest v1 w hs1 gs' q h =
    subst (λ y. Reads x (symbols ps ++ sy.Close k ∷ st) y n v1 w gs') (q.adds ∙ all_kids q.ts g hs) h

pub pieces : (x : Source) (k : Kind) (ps : List Piece) (st : List Symbol) (g : Group) (hs : List Group) (m : ℕ) (u w : List Token)
    (gs' : List Group) → Simple ps → (has_own ps ≡ true → Bare g) → Reads x (symbols ps ++ sy.Close k ∷ st) (g ∷ hs) m u w gs' →
    Pieced x k ps st g hs m u w gs'
unfolding is_shaped spell stops HasPlaces
pieces x k [] st g hs m u w gs' c b h = record {
  v = [];
  v' = u;
  n = m;
  made = close k (g ∷ hs);
  is = refl;
  at = omega arith;
  ended = record {
    h = head_in k g;
    ts = none;
    kind_is = refl;
    place_is = refl;
    kept = λ e. refl;
    owns = tt;
    kids = λ n. refl;
    ends = refl;
    behind = λ d e. cc;
    spelled = refl;
    placed = tt;
    stops_at = λ e f d i. f d i;
    adds = ap (λ l. add (branch (head_in k g) (nodes_of l)) hs) (sym (append-nil g.kids));
  };
  rest = h;
}
pieces x k (pi.Fixed d ∷ ps) st g hs m u w gs' c b h =
    fixed_more x k d ps st g hs m h.n h.t u h.v w gs' h.begun h.is (pieces x k ps st g hs h.n h.v w gs' c b h.rest)
pieces x k (pi.Kid s ∷ ps) st g hs m u w gs' c b h =
    let q = h.part (has_first g hs) in
    let h' = subst (λ l. Reads x (symbols ps ++ sy.Close k ∷ st) l h.n h.v' w gs') q.adds h.rest in
    kid_more x k (pi.Kid s) ps st g hs m h.n u h.v h.v' w gs' q.t (wanted_kid x s ps m h.v (h.v' ++ w) q.t c.0 q.is) h.is h.at
    (pieces x k ps st (with_kid g q.t) hs h.n h.v' w gs' c.1 (λ e. same_bare g (g.kids ++ q.t ∷ []) (b e)) h')
pieces x k (pi.Optional s ∷ ps) st g hs m u w gs' c b h =
    by (h.part (has_first g hs)) (λ t e. pieces x k ps st (with_kid g t) hs h.n h.v' w gs' c.1 (λ e. same_bare g (g.kids ++ t ∷ []) (b e))
    (subst (λ l. Reads x (symbols ps ++ sy.Close k ∷ st) l h.n h.v' w gs') e h.rest))
  where
    by : Optionally x s (g ∷ hs) m h.v (h.v' ++ w) h.hs →
        ((t : Node) → h.hs ≡ add t (g ∷ hs) → Pieced x k ps st (with_kid g t) hs h.n h.v' w gs') →
        Pieced x k (pi.Optional s ∷ ps) st g hs m u w gs'
    by (absent e a) f = kid_more x k (pi.Optional s) ps st g hs m h.n u [] h.v' w gs' (nothing x) (absent_kid x s ps m (h.v' ++ w))
        (h.is ∙ ap (λ l. l ++ h.v') e) (h.at ∙ ap (λ l. m + length l) e) (f (nothing x) a)
    by (present q) f = kid_more x k (pi.Optional s) ps st g hs m h.n u h.v h.v' w gs' q.t
        (present_kid x s ps m h.v (h.v' ++ w) q.t c.0 q.is) h.is h.at (f q.t q.adds)
pieces x k (pi.Led a s ∷ ps) st g hs m u w gs' c b h =
    by (h.part (has_first g hs)) (λ t e. pieces x k ps st (with_kid g t) hs h.n h.v' w gs' c.2 (λ e. same_bare g (g.kids ++ t ∷ []) (b e))
    (subst (λ l. Reads x (symbols ps ++ sy.Close k ∷ st) l h.n h.v' w gs') e h.rest))
  where
    by : Led x a s (g ∷ hs) m h.v (h.v' ++ w) h.hs →
        ((t : Node) → h.hs ≡ add t (g ∷ hs) → Pieced x k ps st (with_kid g t) hs h.n h.v' w gs') →
        Pieced x k (pi.Led a s ∷ ps) st g hs m u w gs'
    by (lacks e n d) f = kid_more x k (pi.Led a s) ps st g hs m h.n u [] h.v' w gs' (nothing x) (lacking_kid x a s ps m (h.v' ++ w) c.1 n)
        (h.is ∙ ap (λ l. l ++ h.v') e) (h.at ∙ ap (λ l. m + length l) e) (f (nothing x) d)
    by (leads y) f =
        let o = split (is_sort s) (stands s) c.0 in
        kid_more x k (pi.Led a s) ps st g hs m h.n u (y.sign ∷ y.v) h.v' w gs' y.tree.t
        (leading_kid x a s ps m y.n y.sign y.v (h.v' ++ w) y.tree.t o.0 o.1 y.begun y.tree.is) (h.is ∙ ap (λ l. l ++ h.v') y.is)
        (h.at ∙ ap (λ l. m + length l) y.is) (f y.tree.t y.tree.adds)
pieces x k (pi.Own o ∷ ps) st g hs m u w gs' c b h =
    let q = h.part g hs refl (b refl) in
    let g1 = q.0 in
    let own = q.2 in
    let h' = subst (λ l. Reads x (symbols ps ++ sy.Close k ∷ st) l h.n h.v' w gs') q.1 h.rest in
    let r = pieces x k ps st g1 hs h.n h.v' w gs' c.1 (λ e. let z : true ≡ false = sym e ∙ c.0 in cc) h' in
    let e = r.ended in
    let is_h : e.h ≡ head_in k g1 = e.kept c.0 in
    let fr : h.v' ++ w ≡ r.v ++ (r.v' ++ w) = ap (λ l. l ++ w) r.is ∙ append_assoc r.v r.v' w in
    let text = ap (λ y. own_tokens 0 y o) is_h ∙ own.spelled k in
    let ln = ap length text ∙ length-map h.v unplaced in
    record {
      v = h.v ++ r.v;
      v' = r.v';
      n = r.n;
      made = r.made;
      is = h.is ∙ ap (λ l. h.v ++ l) r.is ∙ sym (append_assoc h.v r.v r.v');
      at = omega (arith, r.at, h.at, length-append h.v r.v);
      ended = record {
        h = e.h;
        ts = e.ts;
        kind_is = e.kind_is;
        place_is = e.place_is ∙ own.place;
        kept = λ y. cc;
        owns = (subst (λ y. is_own o y ≡ true) (sym is_h) (own.own k), e.owns);
        kids = e.kids;
        ends = e.ends;
        behind = λ d i. cc;
        spelled = ap (λ l. l ++ pieces_tokens 0 e.h ps (spells 0 e.ts)) text ∙ ap (λ l. map unplaced h.v ++ l) e.spelled ∙ sym
            (map-append unplaced h.v r.v);
        placed = subst (λ y. HavePlaces x.file x.tokens (begins e.h ps y (spells 0 e.ts)) e.ts) (h.at ∙ ap (λ y. m + y) (sym ln)) e.placed;
        stops_at = λ y z d i. e.stops_at (λ q. true) (λ q j. refl) d i;
        adds = e.adds ∙ ap (λ l. add (branch e.h (nodes_of (l ++ list_of e.ts))) hs) own.kids;
      };
      rest = r.rest;
    }
pieces x k (pi.Each s ∷ ps) st g hs m u w gs' c b h =
    let q = h.part (has_first g hs) in
    list_more x k (pi.Each s) ps st g hs m h.n u h.v h.v' w h.hs gs'
    (record {
      kids = refl;
      ends = λ es e. refl;
      spelled = λ y us. refl;
      numbers = λ y n us. refl;
      goes = λ y d e es. refl;
      own = refl;
      owns = λ y z. z;
    }) c.0 q (λ d e. cc) h.is h.at
    (pieces x k ps st (with_kids g (g.kids ++ list_of q.ts)) hs h.n h.v' w gs' c.1 (λ e. same_bare g (g.kids ++ list_of q.ts) (b e))
    (listed_rest x k (pi.Each s) ps st g hs m h.n h.v (h.v' ++ w) h.v' w h.hs gs' q h.rest))
pieces x k (pi.EachLed a s ∷ ps) st g hs m u w gs' c b h =
    let y = split (apart s) (all_fixed ps) c.0 in
    let q = h.part y.0 (has_first g hs) in
    list_more x k (pi.EachLed a s) ps st g hs m h.n u h.v h.v' w h.hs gs'
    (record {
      kids = refl;
      ends = λ es e. refl;
      spelled = λ y us. refl;
      numbers = λ y n us. refl;
      goes = λ y d e es. refl;
      own = refl;
      owns = λ y z. z;
    }) y.1 q (λ d e. cc) h.is h.at
    (pieces x k ps st (with_kids g (g.kids ++ list_of q.ts)) hs h.n h.v' w gs' c.1 (λ e. same_bare g (g.kids ++ list_of q.ts) (b e))
    (listed_rest x k (pi.EachLed a s) ps st g hs m h.n h.v (h.v' ++ w) h.v' w h.hs gs' q h.rest))
pieces x k (pi.EachFollowed s a ∷ ps) st g hs m u w gs' c b h =
    let y = split (apart s) (all_fixed ps) c.0 in
    let q = h.part y.0 (has_first g hs) in
    list_more x k (pi.EachFollowed s a) ps st g hs m h.n u h.v h.v' w h.hs gs'
    (record {
      kids = refl;
      ends = λ es e. refl;
      spelled = λ y us. refl;
      numbers = λ y n us. refl;
      goes = λ y d e es. refl;
      own = refl;
      owns = λ y z. z;
    }) y.1 q (λ d e. cc) h.is h.at
    (pieces x k ps st (with_kids g (g.kids ++ list_of q.ts)) hs h.n h.v' w gs' c.1 (λ e. same_bare g (g.kids ++ list_of q.ts) (b e))
    (listed_rest x k (pi.EachFollowed s a) ps st g hs m h.n h.v (h.v' ++ w) h.v' w h.hs gs' q h.rest))
pieces x k (pi.List s ∷ ps) st g hs m u w gs' c b h =
    let y = split (apart s) (all_fixed ps) c.0 in
    let q = h.part y.0 (has_first g hs) in
    list_more x k (pi.List s) ps st g hs m h.n u h.v h.v' w h.hs gs'
    (record {
      kids = refl;
      ends = λ es e. e;
      spelled = λ y us. refl;
      numbers = λ y n us. refl;
      goes = λ y d e es. refl;
      own = refl;
      owns = λ y z. z;
    }) y.1 q (λ d e. cc) h.is h.at
    (pieces x k ps st (with_kids g (g.kids ++ list_of q.ts)) hs h.n h.v' w gs' c.1 (λ e. same_bare g (g.kids ++ list_of q.ts) (b e))
    (listed_rest x k (pi.List s) ps st g hs m h.n h.v (h.v' ++ w) h.v' w h.hs gs' q h.rest))
pieces x k (pi.More s ∷ ps) st g hs m u w gs' c b h =
    let y = split (apart s) (all_fixed ps) c.0 in
    let i = h.part y.0 (has_first g hs) in
    let q = i.listed in
    list_more x k (pi.More s) ps st g hs m h.n u h.v h.v' w h.hs gs'
    (record {
      kids = refl;
      ends = λ es e. e;
      spelled = λ y us. refl;
      numbers = λ y n us. refl;
      goes = λ y d e es. refl;
      own = refl;
      owns = λ y z. z;
    }) y.1 q (λ d e. comma (edges q.ts) d e i.comma) h.is h.at
    (pieces x k ps st (with_kids g (g.kids ++ list_of q.ts)) hs h.n h.v' w gs' c.1 (λ e. same_bare g (g.kids ++ list_of q.ts) (b e))
    (listed_rest x k (pi.More s) ps st g hs m h.n h.v (h.v' ++ w) h.v' w h.hs gs' q h.rest))
  where
    comma : (es : List EdgeOf) (d : Sign) → behind_item es ≡ Some d →
        (behind_item es ≡ Some si.Comma → front (h.v ++ (h.v' ++ w)) ≡ cl.Sign si.Comma) → front (h.v ++ (h.v' ++ w)) ≡ cl.Sign d
    comma es d e f = let i = items_comma es d e in rw (← i) (f (e ∙ ap Some (sym i)))
pieces x k (pi.Elements s ∷ ps) st g hs m u w gs' c b h =
    let q : Listed x (pi.Elements s) (g ∷ hs) m h.v (h.v' ++ w) h.hs =
    subst (λ y. Listed x (pi.Elements y) (g ∷ hs) m h.v (h.v' ++ w) h.hs) (sym c.0) (h.part (has_first g hs)) in
    list_more x k (pi.Elements s) ps st g hs m h.n u h.v h.v' w h.hs gs'
    (record {
      kids = refl;
      ends = λ es e. e;
      spelled = λ y us. refl;
      numbers = λ y n us. refl;
      goes = λ y d e es. refl;
      own = refl;
      owns = λ y z. z;
    }) c.1 q (λ d e. cc) h.is h.at
    (pieces x k ps st (with_kids g (g.kids ++ list_of q.ts)) hs h.n h.v' w gs' c.2 (λ e. same_bare g (g.kids ++ list_of q.ts) (b e))
    (listed_rest x k (pi.Elements s) ps st g hs m h.n h.v (h.v' ++ w) h.v' w h.hs gs' q h.rest))
pieces x k _ st g hs m u w gs' c b h = absurd c

-- ---- with nothing behind it

pieced_ended : (x : Source) (k : Kind) (ps : List Piece) (g : Group) (hs : List Group) (m : ℕ) (u w : List Token) (gs' : List Group) →
    Pieced x k ps [] g hs m u w gs' → Ended x k ps g hs m u w gs'
pieced_ended x k ps g hs m u w gs' r =
    let e : r.v' ≡ [] = r.rest.0 in
    let i : r.v ≡ u = sym (r.is ∙ ap (λ l. r.v ++ l) e ∙ append-nil r.v) in
    let a : Ended x k ps g hs m r.v w r.made = subst (λ l. Ended x k ps g hs m r.v (l ++ w) r.made) e r.ended in
    let d : Ended x k ps g hs m u w r.made = subst (λ l. Ended x k ps g hs m l w r.made) i a in
    subst (λ l. Ended x k ps g hs m u w l) (sym r.rest.1) d

ended_pieced : (x : Source) (k : Kind) (ps : List Piece) (g : Group) (hs : List Group) (m : ℕ) (u w : List Token) (gs' : List Group) →
    Ended x k ps g hs m u w gs' → Pieced x k ps [] g hs m u w gs'
ended_pieced x k ps g hs m u w gs' e = record
    { v = u; v' = []; n = m + length u; made = gs'; is = sym (append-nil u); at = refl; ended = e; rest = (refl, refl) }

pub whole_form : (x : Source) (k : Kind) (ps : List Piece) (g : Group) (hs : List Group) (m : ℕ) (u w : List Token) (gs' : List Group) →
    Simple ps → (has_own ps ≡ true → Bare g) → Reads x (symbols ps ++ sy.Close k ∷ []) (g ∷ hs) m u w gs' → Ended x k ps g hs m u w gs'
whole_form x k ps g hs m u w gs' c b h = pieced_ended x k ps g hs m u w gs' (pieces x k ps [] g hs m u w gs' c b h)

-- nothing of the form is left
pub ended_end : (x : Source) (k : Kind) (g : Group) (hs : List Group) (m : ℕ) (w : List Token) → Ended x k [] g hs m [] w (close k (g ∷ hs))
ended_end x k g hs m w = whole_form x k [] g hs m [] w (close k (g ∷ hs)) tt (λ e. cc) (refl, refl)

-- a sign in front
pub ended_fixed : (x : Source) (k : Kind) (d : Sign) (ps : List Piece) (g : Group) (hs : List Group) (n m : ℕ) (t : Token)
    (u w : List Token) (gs' : List Group) → Begun x d t n m → Ended x k ps g hs m u w gs' → Ended x k (pi.Fixed d ∷ ps) g hs n (t ∷ u) w gs'
ended_fixed x k d ps g hs n m t u w gs' b e =
    pieced_ended x k (pi.Fixed d ∷ ps) g hs n (t ∷ u) w gs'
    (fixed_more x k d ps [] g hs n m t (t ∷ u) u w gs' b refl (ended_pieced x k ps g hs m u w gs' e))

-- a kid in front
pub ended_kid : (x : Source) (k : Kind) (p : Piece) (ps : List Piece) (g : Group) (hs : List Group) (n m : ℕ) (v u w : List Token)
    (gs' : List Group) (t : Node) → Kidly x p ps n v (u ++ w) t → m ≡ n + length v → Ended x k ps (with_kid g t) hs m u w gs' →
    Ended x k (p ∷ ps) g hs n (v ++ u) w gs'
ended_kid x k p ps g hs n m v u w gs' t q at e =
    pieced_ended x k (p ∷ ps) g hs n (v ++ u) w gs'
    (kid_more x k p ps [] g hs n m (v ++ u) v u w gs' t q refl at (ended_pieced x k ps (with_kid g t) hs m u w gs' e))
