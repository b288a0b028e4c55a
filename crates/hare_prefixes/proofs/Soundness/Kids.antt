-- What a kid says of the form that it stands in, in front of the pieces behind it.
use Rattle.std.proofs.Common.{◌≡◌, ℕ, ◌+◌, List, [], ◌∷◌, ◌++◌, Bool, true, false, ◌&&◌, ◌||◌, not, map, length, refl, ap, sym, ◌∙◌, subst, arith, append_assoc, ◌⊎◌, inl, inr, if◌then◌else◌}
use Rattle.std.specs.Prelude.{Option, Some, None}
use Rattle.std.proofs.lemmas.List.{append-nil, length-append, length-map, map-append}
use Rattle.hare_tree.specs.declared.kind.Kind.{Kind}
use Rattle.hare_tree.specs.declared.kind.Kind.TheVariants as ki
use Rattle.hare_tree.specs.declared.token.Token.{Token}
use Rattle.hare_tree.specs.declared.form.Sign.{Sign}
use Rattle.hare_tree.specs.declared.form.Sign.TheVariants as si
use Rattle.hare_tree.specs.declared.form.Sort.{Sort}
use Rattle.hare_tree.specs.declared.form.Sort.TheVariants as so
use Rattle.hare_tree.specs.declared.form.Piece.{Piece}
use Rattle.hare_tree.specs.declared.form.Piece.TheVariants as pi
use Rattle.hare_tree.specs.declared.form.Lead.TheVariants as le
use Rattle.hare_tree.specs.Node.{Head, Node, Nodes, branch, more, head, nodes_of}
use Rattle.hare_tree.specs.Forms.{expr}
use Rattle.hare_tree.specs.Signs.{is_sign}
use Rattle.hare_tree.specs.Levels.{sort_in}
use Rattle.hare_tree.specs.Spell.{start_of, sign_token, Spelled, stands_alone, with_lead, pieces_tokens, spell, spells}
use Rattle.hare_tree.specs.Shape.{is_shaped, is_absent, is_none, are_kids, kid_pieces, kids_end, edges, Edge as EdgeOf, Ending, kid_or, ends_before, is_dots, behind_item, behind_kid, stops, stops_each, form_stops}
use Rattle.hare_tree.specs.Depth.{begins}
use Rattle.hare_tree.specs.Grammar.{HasPlaces, HavePlaces, unplaced}
use Rattle.hare_automaton.specs.declared.class.Class.TheVariants as cl
use Rattle.hare_automaton.specs.declared.rule.Symbol.{Symbol}
use Rattle.hare_automaton.specs.Rows.{has_sign}
use Rattle.hare_automaton.specs.Engine.{Group, bare_leaf, add}
use Rattle.hare_automaton.specs.OneTree.{is_sort}
use Rattle.hare_automaton.proofs.Machine.Steps.{front}
use Rattle.hare_automaton.proofs.Machine.Edges.{edge}
use Rattle.hare_automaton.proofs.Spelled.Kids.{stands, stands_not_alone, is_none_stands}
use Rattle.hare_automaton.proofs.Spelled.Forms.{has_own, Owns}
use Rattle.hare_automaton.proofs.Spelled.Read.{is_there}
use Rattle.hare_prefixes.proofs.Soundness.Seen.{sign_is}
use Rattle.hare_prefixes.proofs.Soundness.Trees.{Source, IsTree, Begun, Ended, list_of}
use Rattle.hare_prefixes.proofs.Soundness.Means.{with_kid, apart}
use Rattle.hare_prefixes.proofs.Soundness.Stacks.{Reads}

-- ---- which pieces

abbrev pub all_fixed : List Piece → Bool
all_fixed [] = true
all_fixed (pi.Fixed d ∷ ps) = all_fixed ps
all_fixed _ = false

-- the signs in front of kids that may be absent
abbrev is_led : Sign → Bool
is_led si.Comma = true
is_led si.Else = true
is_led si.Semicolon = true
is_led si.Colon = true
is_led _ = false

-- forms whose pieces are read one by one
abbrev pub Simple : List Piece → Type 0
Simple [] = Unit {0}
Simple (pi.Fixed d ∷ ps) = Simple ps
Simple (pi.Own o ∷ ps) = (has_own ps ≡ false) × Simple ps
Simple (pi.Kid s ∷ ps) = (is_sort s ≡ true) × Simple ps
Simple (pi.Optional s ∷ ps) = (is_sort s ≡ true) × Simple ps
Simple (pi.Led a s ∷ ps) = ((is_sort s && stands s) ≡ true) × (is_led a ≡ true) × Simple ps
Simple (pi.Each s ∷ ps) = (all_fixed ps ≡ true) × Simple ps
Simple (pi.EachLed a s ∷ ps) = ((apart s && all_fixed ps) ≡ true) × Simple ps
Simple (pi.EachFollowed s a ∷ ps) = ((apart s && all_fixed ps) ≡ true) × Simple ps
Simple (pi.More s ∷ ps) = ((apart s && all_fixed ps) ≡ true) × Simple ps
Simple (pi.List s ∷ ps) = ((apart s && all_fixed ps) ≡ true) × Simple ps
Simple (pi.Elements s ∷ ps) = (s ≡ expr) × (all_fixed ps ≡ true) × Simple ps
Simple _ = ⊥

pub led_sign : (a : Sign) → is_led a ≡ true → (d : Sign) → has_sign a (cl.Sign d) ≡ false → is_sign a d ≡ false
led_sign si.Comma i si.Comma e = cc
led_sign si.Comma i _ e = refl
led_sign si.Else i si.Else e = cc
led_sign si.Else i _ e = refl
led_sign si.Semicolon i si.Semicolon e = cc
led_sign si.Semicolon i _ e = refl
led_sign si.Colon i si.Colon e = cc
led_sign si.Colon i _ e = refl
led_sign _ i d e = cc

sort_kept : (n : ℕ) (s : Sort) → is_sort s ≡ true → sort_in n s ≡ s
sort_kept n so.Left e = cc
sort_kept n so.Right e = cc
sort_kept n _ e = refl

-- ---- a form that is read from a piece on

pub record Pieced (x : Source) (k : Kind) (ps : List Piece) (st : List Symbol) (g : Group) (hs : List Group) (m : ℕ) (u w : List Token)
    (gs' : List Group) : Type 0 where
  pub v : List Token
  pub v' : List Token
  pub n : ℕ
  pub made : List Group
  pub is : u ≡ v ++ v'
  pub at : n ≡ m + length v
  pub ended : Ended x k ps g hs m v (v' ++ w) made
  pub rest : Reads x st made n v' w gs'

-- a kid ends before the sign behind it
pub edge_ends : (o : Option Sign) (t : Node) → ((d : Sign) → o ≡ Some d → stops d t ≡ true) → ends_before o (edge t) ≡ true
edge_ends None t f = refl
edge_ends (Some si.Else) t f = f si.Else refl
edge_ends (Some si.Comma) t f = f si.Comma refl
edge_ends (Some _) t f = refl

-- ---- a piece with one kid

-- What the kid `t` of the piece `p` says, in front of the pieces `ps`: its tokens are `v`, and `rest` stands behind it.
pub record Kidly (x : Source) (p : Piece) (ps : List Piece) (m : ℕ) (v rest : List Token) (t : Node) : Type 0 where
  pub kids : (n : ℕ) (ts : Nodes) → are_kids n (kid_pieces ps) ts ≡ true → are_kids n (kid_pieces (p ∷ ps)) (more t ts) ≡ true
  pub ends : (es : List EdgeOf) → ((d : Sign) → behind_kid ps es ≡ Some d → front rest ≡ cl.Sign d) → kids_end ps es ≡ true →
      kids_end (p ∷ ps) (edge t ∷ es) ≡ true
  pub behind : (es : List EdgeOf) (d : Sign) → behind_kid (p ∷ ps) (edge t ∷ es) ≡ Some d →
      ((behind_kid ps es ≡ Some d) × (v ≡ [])) ⊎ (front (v ++ rest) ≡ cl.Sign d)
  pub spelled : (h : Head) (us : List Spelled) →
      pieces_tokens 0 h (p ∷ ps) (((head t).kind, spell 0 t) ∷ us) ≡ map unplaced v ++ pieces_tokens 0 h ps us
  pub number : ℕ
  pub placed : HasPlaces x.file x.tokens number t
  pub numbers : (h : Head) (us : List Spelled) →
      begins h (p ∷ ps) m (((head t).kind, spell 0 t) ∷ us) ≡ number ∷ begins h ps (m + length v) us
  pub goes : (e : Sign → Bool) → ((d : Sign) → front (v ++ rest) ≡ cl.Sign d → e d ≡ true) → (e' : Sign → Bool) ×
      ((d : Sign) → front rest ≡ cl.Sign d → e' d ≡ true) ×
      ((h : Head) (d : Sign) (es : List Ending) → form_stops d h (e' d) ps es ≡ true →
      form_stops d h (e d) (p ∷ ps) (((head t).kind, stops d t) ∷ es) ≡ true)
  pub own : has_own (p ∷ ps) ≡ has_own ps
  pub owns : (h : Head) → Owns h ps → Owns h (p ∷ ps)

pub kid_more : (x : Source) (k : Kind) (p : Piece) (ps : List Piece) (st : List Symbol) (g : Group) (hs : List Group) (m n : ℕ)
    (u v v1 w : List Token) (gs' : List Group) (t : Node) → Kidly x p ps m v (v1 ++ w) t → u ≡ v ++ v1 → n ≡ m + length v →
    Pieced x k ps st (with_kid g t) hs n v1 w gs' → Pieced x k (p ∷ ps) st g hs m u w gs'
unfolding is_shaped spell stops HasPlaces
kid_more x k p ps st g hs m n u v v1 w gs' t q i a r =
    let e = r.ended in
    let fr : v1 ++ w ≡ r.v ++ (r.v' ++ w) = ap (λ l. l ++ w) r.is ∙ append_assoc r.v r.v' w in
    let all : (v ++ r.v) ++ (r.v' ++ w) ≡ v ++ (v1 ++ w) = append_assoc v r.v (r.v' ++ w) ∙ ap (λ l. v ++ l) (sym fr) in
    record {
      v = v ++ r.v;
      v' = r.v';
      n = r.n;
      made = r.made;
      is = i ∙ ap (λ l. v ++ l) r.is ∙ sym (append_assoc v r.v r.v');
      at = omega (arith, r.at, a, length-append v r.v);
      ended = record {
        h = e.h;
        ts = more t e.ts;
        kind_is = e.kind_is;
        place_is = e.place_is;
        kept = λ y. e.kept (sym q.own ∙ y);
        owns = q.owns e.h e.owns;
        kids = λ y. q.kids y e.ts (e.kids y);
        ends = q.ends (edges e.ts) (λ d y. ap front fr ∙ e.behind d y) e.ends;
        behind = λ d y. by all e (q.behind (edges e.ts) d y);
        spelled = q.spelled e.h (spells 0 e.ts) ∙ ap (λ l. map unplaced v ++ l) e.spelled ∙ sym (map-append unplaced v r.v);
        placed = subst (λ ns. HavePlaces x.file x.tokens ns (more t e.ts)) (sym (q.numbers e.h (spells 0 e.ts)))
            (q.placed, subst (λ y. HavePlaces x.file x.tokens (begins e.h ps y (spells 0 e.ts)) e.ts) a e.placed);
        stops_at = λ f y d j. let z = q.goes f (λ d' j'. y d' (ap front all ∙ j')) in z.2 e.h d (stops_each d e.ts)
            (e.stops_at z.0 (λ d' j'. z.1 d' (ap front fr ∙ j')) d j);
        adds = e.adds ∙ ap (λ l. add (branch e.h (nodes_of l)) hs) (append_assoc g.kids (t ∷ []) (list_of e.ts));
      };
      rest = r.rest;
    }
  where
    by : (v ++ r.v) ++ (r.v' ++ w) ≡ v ++ (v1 ++ w) → (e : Ended x k ps (with_kid g t) hs n r.v (r.v' ++ w) r.made) {d : Sign} →
        ((behind_kid ps (edges e.ts) ≡ Some d) × (v ≡ [])) ⊎ (front (v ++ (v1 ++ w)) ≡ cl.Sign d) →
        front ((v ++ r.v) ++ (r.v' ++ w)) ≡ cl.Sign d
    by all e (inl y) = ap (λ l. front ((l ++ r.v) ++ (r.v' ++ w))) y.1 ∙ e.behind _ y.0
    by all e (inr y) = ap front all ∙ y

-- a kid that is there
pub wanted_kid : (x : Source) (s : Sort) (ps : List Piece) (m : ℕ) (v rest : List Token) (t : Node) → is_sort s ≡ true →
    IsTree x s m v rest t → Kidly x (pi.Kid s) ps m v rest t
unfolding is_shaped spell stops HasPlaces
wanted_kid x s ps m v rest t c q =
    let ln : length (spell 0 t) ≡ length v = ap length q.spelled ∙ length-map v unplaced in
    record {
      kids = λ n ts k. rw (sort_kept n s c, q.shaped) k;
      ends = λ es f b. rw (edge_ends (behind_kid ps es) t (λ d e. q.ends d (f d e)), b) refl;
      behind = λ es d e. cc;
      spelled = λ h us. ap (λ l. l ++ pieces_tokens 0 h ps us) (append-nil (spell 0 t) ∙ q.spelled);
      number = m + 0;
      placed = subst (λ n. HasPlaces x.file x.tokens n t) (omega arith) q.placed;
      numbers = λ h us. ap (λ n. (m + 0) ∷ begins h ps n us) (ap (λ l. m + length l) (append-nil (spell 0 t)) ∙ ap (λ n. m + n) ln);
      goes = λ e f. (λ d. stops d t, q.ends, λ h d es y. y);
      own = refl;
      owns = λ h y. y;
    }

-- what stands for a kid that is not there
abbrev pub nothing : Source → Node
nothing x = bare_leaf ki.None (start_of x.file)

pub absent_kid : (x : Source) (s : Sort) (ps : List Piece) (m : ℕ) (rest : List Token) → Kidly x (pi.Optional s) ps m [] rest (nothing x)
unfolding is_shaped spell stops HasPlaces
absent_kid x s ps m rest = record {
  kids = λ n ts k. k;
  ends = λ es f b. rw (edge_ends (behind_kid ps es) (nothing x) (λ d e. refl), b) refl;
  behind = λ es d e. cc;
  spelled = λ h us. refl;
  number = m + 0;
  placed = (refl, tt);
  numbers = λ h us. refl;
  goes = λ e f. (e, f, λ h d es y. y);
  own = refl;
  owns = λ h y. y;
}

-- an ending that is there
there_goes : (b d : Bool) (k : Kind) → is_none k ≡ false → kid_or b (k, d) ≡ d
there_goes b d k n = rw n refl

-- a kid of the piece may stand there
allowed : (a b c : Bool) → b ≡ true → c ≡ true → ((a || b) && c) ≡ true
allowed true b c e d = d
allowed false b c e d = rw (e, d) refl

both : (a b : Bool) → a ≡ true → b ≡ false → (a && not b) ≡ true
both a b e d = rw (e, d) refl

pub if_false : {A : Type 0} (b : Bool) (y z : A) → b ≡ false → (if b then y else z) ≡ z
if_false true y z e = cc
if_false false y z e = refl

pub some_same : (a b : Sign) → Some a ≡ Some b → a ≡ b
some_same a b e = cc

-- only a comma stands between items
pub items_comma : (es : List EdgeOf) (d : Sign) → behind_item es ≡ Some d → si.Comma ≡ d
items_comma [] d e = cc
items_comma (y ∷ es) d e = by (is_none y.kind) (is_dots y.kind) e (items_comma es d)
  where
    by : (a b : Bool) → (if a then behind_item es else if b then None else Some si.Comma) ≡ Some d →
        (behind_item es ≡ Some d → si.Comma ≡ d) → si.Comma ≡ d
    by true b e f = f e
    by false true e f = cc
    by false false e f = cc

pub present_kid : (x : Source) (s : Sort) (ps : List Piece) (m : ℕ) (v rest : List Token) (t : Node) → is_sort s ≡ true →
    IsTree x s m v rest t → Kidly x (pi.Optional s) ps m v rest t
unfolding is_shaped spell stops HasPlaces
present_kid x s ps m v rest t c q =
    let ln : length (spell 0 t) ≡ length v = ap length q.spelled ∙ length-map v unplaced in
    let n = is_there s t c q.shaped in
    record {
      kids = λ n ts k. allowed (is_absent t) (is_shaped s t) (are_kids n (kid_pieces ps) ts) q.shaped k;
      ends = λ es f b. rw (edge_ends (behind_kid ps es) t (λ d e. q.ends d (f d e)), b) refl;
      behind = λ es d e. cc;
      spelled = λ h us. ap (λ l. l ++ pieces_tokens 0 h ps us) (append-nil (spell 0 t) ∙ q.spelled);
      number = m + 0;
      placed = subst (λ n. HasPlaces x.file x.tokens n t) (omega arith) q.placed;
      numbers = λ h us. ap (λ n. (m + 0) ∷ begins h ps n us) (ap (λ l. m + length l) (append-nil (spell 0 t)) ∙ ap (λ n. m + n) ln);
      goes = λ e f. (
        λ d. stops d t,
        q.ends,
        λ h d es y. subst (λ b. form_stops d h b ps es ≡ true)
            (sym (there_goes (e d) (stops d t) (head t).kind n)) y,
      );
      own = refl;
      owns = λ h y. y;
    }

pub lacking_kid : (x : Source) (a : Sign) (s : Sort) (ps : List Piece) (m : ℕ) (rest : List Token) → is_led a ≡ true →
    has_sign a (front rest) ≡ false → Kidly x (pi.Led a s) ps m [] rest (nothing x)
unfolding is_shaped spell stops HasPlaces
lacking_kid x a s ps m rest l n = record {
  kids = λ n ts k. k;
  ends = λ es f b. rw (edge_ends (behind_kid ps es) (nothing x) (λ d e. refl), b) refl;
  behind = λ es d e. inl (e, refl);
  spelled = λ h us. refl;
  number = m + 0;
  placed = (refl, tt);
  numbers = λ h us. refl;
  goes = λ e f. (
    λ d. e d && not (is_sign a d),
    λ d i. both (e d) (is_sign a d) (f d i)
        (led_sign a l d (subst (λ c. has_sign a c ≡ false) i n)),
    λ h d es y. y,
  );
  own = refl;
  owns = λ h y. y;
}

pub leading_kid : (x : Source) (a : Sign) (s : Sort) (ps : List Piece) (m n : ℕ) (t0 : Token) (v rest : List Token) (t : Node) →
    is_sort s ≡ true → stands s ≡ true → Begun x a t0 m n → IsTree x s n v rest t → Kidly x (pi.Led a s) ps m (t0 ∷ v) rest t
unfolding is_shaped spell stops HasPlaces
leading_kid x a s ps m n t0 v rest (branch th tt') c l b q =
    let t = branch th tt' in
    let ln : length (spell 0 t) ≡ length v = ap length q.spelled ∙ length-map v unplaced in
    let al : stands_alone th.kind ≡ false = stands_not_alone s th tt' l q.shaped in
    let no : is_none th.kind ≡ false = is_none_stands th.kind al in
    record {
      kids = λ n ts k. allowed (is_absent t) (is_shaped s t) (are_kids n (kid_pieces ps) ts) q.shaped k;
      ends = λ es f b. rw (edge_ends (behind_kid ps es) t (λ d e. q.ends d (f d e)), b) refl;
      behind = λ es d e. inr (b.class ∙ ap cl.Sign (some_same a d (sym (if_false (is_none th.kind) (behind_kid ps es) (Some a) no) ∙ e)));
      spelled = λ h us. ap (λ l. (l ++ []) ++ pieces_tokens 0 h ps us)
          (if_false (stands_alone th.kind) (spell 0 t) (sign_token 0 a ∷ spell 0 t) al) ∙ ap
          (λ l. sign_token 0 a ∷ (l ++ pieces_tokens 0 h ps us)) (append-nil (spell 0 t) ∙ q.spelled) ∙ ap
          (λ y. y ∷ (map unplaced v ++ pieces_tokens 0 h ps us)) (sym (sign_is t0 a b.class));
      number = m + 1;
      placed = subst (λ n. HasPlaces x.file x.tokens n t) b.next q.placed;
      numbers = λ h us. rw al (ap (λ y. (m + 1) ∷ begins h ps y us) (counted (spell 0 t) v ln));
      goes = λ e f. (
        λ d. stops d t,
        q.ends,
        λ h d es y. subst (λ b. form_stops d h b ps es ≡ true)
            (sym (there_goes (e d && not (is_sign a d)) (stops d t) th.kind no)) y,
      );
      own = refl;
      owns = λ h y. y;
    }
  where
    counted : (y v : List Token) → length y ≡ length v → m + length ((sign_token 0 a ∷ y) ++ []) ≡ m + length (t0 ∷ v)
    counted y v e = omega (arith, length-append (sign_token 0 a ∷ y) [], e)

-- a kid with a sign behind it

pub no_followed_kid : (x : Source) (a : Sign) (s : Sort) (ps : List Piece) (m : ℕ) (rest : List Token) →
    Kidly x (pi.Followed s a) ps m [] rest (nothing x)
unfolding is_shaped spell stops HasPlaces
no_followed_kid x a s ps m rest = record {
  kids = λ n ts k. k;
  ends = λ es f b. b;
  behind = λ es d e. cc;
  spelled = λ h us. refl;
  number = m + 0;
  placed = (refl, tt);
  numbers = λ h us. refl;
  goes = λ e f. (e, f, λ h d es y. y);
  own = refl;
  owns = λ h y. y;
}

pub followed_kid : (x : Source) (a : Sign) (s : Sort) (ps : List Piece) (m n n' : ℕ) (t0 : Token) (v rest : List Token) (t : Node) →
    stands_alone (head t).kind ≡ false → n ≡ m + length v → Begun x a t0 n n' → IsTree x s m v (t0 ∷ rest) t →
    Kidly x (pi.Followed s a) ps m (v ++ t0 ∷ []) rest t
unfolding is_shaped spell stops HasPlaces
followed_kid x a s ps m n n' t0 v rest t al at b q =
    let ln : length (spell 0 t) ≡ length v = ap length q.spelled ∙ length-map v unplaced in
    let led = if_false (stands_alone (head t).kind) (spell 0 t) (spell 0 t ++ sign_token 0 a ∷ []) al in
    let words : (spell 0 t ++ sign_token 0 a ∷ []) ++ [] ≡ map unplaced (v ++ t0 ∷ []) =
    append-nil (spell 0 t ++ sign_token 0 a ∷ []) ∙ ap (λ l. l ++ sign_token 0 a ∷ []) q.spelled ∙ ap (λ y. map unplaced v ++ y ∷ [])
    (sym (sign_is t0 a b.class)) ∙ sym (map-append unplaced v (t0 ∷ [])) in
    let no : is_none (head t).kind ≡ false = is_none_stands (head t).kind al in
    let all : with_lead 0 (le.Behind a) ((head t).kind, spell 0 t) ++ [] ≡ map unplaced (v ++ t0 ∷ []) = ap (λ l. l ++ []) led ∙ words in
    record {
      kids = λ n ts k. allowed (is_absent t) (is_shaped s t) (are_kids n (kid_pieces ps) ts) q.shaped k;
      ends = λ es f b. b;
      behind = λ es d e. cc;
      spelled = λ h us. ap (λ l. l ++ pieces_tokens 0 h ps us) all;
      number = m + 0;
      placed = subst (λ n. HasPlaces x.file x.tokens n t) (omega arith) q.placed;
      numbers = λ h us. ap (λ n. (m + 0) ∷ begins h ps n us) (ap (λ n. m + n) (ap length all ∙ length-map (v ++ t0 ∷ []) unplaced));
      goes = λ e f. (
        λ d. true,
        λ d i. refl,
        λ h d es y. subst (λ b. form_stops d h b ps es ≡ true)
            (sym (there_goes (e d) true (head t).kind no)) y,
      );
      own = refl;
      owns = λ h y. y;
    }
