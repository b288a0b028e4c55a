-- Each row of loops is right.
use Rattle.std.proofs.Common.{◌≡◌, ℕ, ◌+◌, List, [], ◌∷◌, ◌++◌, true, false, map, length, refl, ap, sym, ◌∙◌, subst, arith, append_assoc}
use Rattle.std.proofs.lemmas.List.{length-append, length-map, map-append}
use Rattle.hare_tree.specs.declared.kind.Kind.{Kind}
use Rattle.hare_tree.specs.declared.kind.Kind.TheVariants as ki
use Rattle.hare_tree.specs.declared.token.Token.{Token}
use Rattle.hare_tree.specs.declared.form.Sign.{Sign}
use Rattle.hare_tree.specs.declared.form.Sign.TheVariants as si
use Rattle.hare_tree.specs.declared.form.Own.{Own}
use Rattle.hare_tree.specs.declared.form.Own.TheVariants as ow
use Rattle.hare_tree.specs.declared.form.Sort.{Sort}
use Rattle.hare_tree.specs.declared.form.Sort.TheVariants as so
use Rattle.hare_tree.specs.declared.form.Piece.{Piece}
use Rattle.hare_tree.specs.declared.form.Piece.TheVariants as pi
use Rattle.hare_tree.specs.Node.{Head, branch, nodes_of}
use Rattle.hare_tree.specs.Forms.{form_of, expr}
use Rattle.hare_tree.specs.Levels.{level, admits}
use Rattle.hare_tree.specs.Spell.{Spelled, sign_token, label_tokens, pieces_tokens, spells}
use Rattle.hare_tree.specs.Shape.{Edge as EdgeOf, Ending, are_kids, is_own, kid_pieces, own_of, kids_end, edges, form_stops, stops_each}
use Rattle.hare_tree.specs.Depth.{begins, place_in}
use Rattle.hare_tree.specs.Grammar.{HavePlaces, place_of, unplaced}
use Rattle.hare_automaton.specs.declared.class.Class.{Class}
use Rattle.hare_automaton.specs.declared.class.Class.TheVariants as cl
use Rattle.hare_automaton.specs.declared.rule.Rule.TheVariants as ru
use Rattle.hare_automaton.specs.declared.rule.Symbol.{Symbol}
use Rattle.hare_automaton.specs.declared.rule.Symbol.TheVariants as sy
use Rattle.hare_automaton.specs.declared.rule.Change.TheVariants as ch
use Rattle.hare_automaton.specs.Classes.{class_of}
use Rattle.hare_automaton.specs.Rows.{of, before, has_sign, symbols, rest_of}
use Rattle.hare_automaton.specs.ExpressionRows.{level_row, for_head_row, after_for_name_row}
use Rattle.hare_automaton.specs.Engine.{Group, begun, head_in, bare_leaf, add}
use Rattle.hare_automaton.proofs.Spelled.Forms.{has_own}
use Rattle.hare_prefixes.proofs.Soundness.Seen.{sign_is}
use Rattle.hare_prefixes.proofs.Soundness.Trees.{Source, IsTree, Tree, Ended, list_of, back}
use Rattle.hare_prefixes.proofs.Soundness.Means.{absent, present, lacks, leads, LoopBegun, LetBegun, with_kid, Means}
use Rattle.hare_prefixes.proofs.Soundness.Stacks.{Reads, last_part, Goes, Used, used_led}
use Rattle.hare_prefixes.proofs.Soundness.Kids.{nothing, wanted_kid, no_followed_kid, followed_kid}
use Rattle.hare_prefixes.proofs.Soundness.Pieces.{pieces, whole_form, ended_kid}
use Rattle.hare_prefixes.proofs.Soundness.Forms.{Ordinary, place_zero, no_label, Form, form_tree, mark_form}
use Rattle.hare_prefixes.proofs.RightRows.TypeRows.{unit, wants}
use Rattle.hare_prefixes.proofs.RightRows.SideRows.{apart_alone}
use Rattle.hare_prefixes.proofs.RightRows.StartRows.{level_means}

-- ---- forms whose text was read before their kids

-- what the first pieces of a form, with its own text, leave to the pieces `ps`
record Prefix (k : Kind) (o : Own) (ps : List Piece) (h : Head) (n m : ℕ) (v : List Token) : Type 0 where
  own : own_of (form_of k) ≡ o
  kids : kid_pieces (form_of k) ≡ kid_pieces ps
  ends : (es : List EdgeOf) → kids_end (form_of k) es ≡ kids_end ps es
  spelled : (us : List Spelled) → pieces_tokens 0 h (form_of k) us ≡ map unplaced v ++ pieces_tokens 0 h ps us
  numbers : (us : List Spelled) → begins h (form_of k) n us ≡ begins h ps m us
  goes : (d : Sign) (es : List Ending) → form_stops d h true (form_of k) es ≡ form_stops d h true ps es

prefixed_form : (x : Source) (k : Kind) (o : Own) (ps : List Piece) (g : Group) (hs : List Group) (n m : ℕ) (v u w : List Token)
    (gs' : List Group) → Ordinary k → has_own ps ≡ false → g.kids ≡ [] → is_own o (head_in k g) ≡ true → place_of x.tokens n ≡ g.place →
    Prefix k o ps (head_in k g) n m v → Ended x k ps g hs m u w gs' → Form x k hs n (v ++ u) w gs'
prefixed_form x k o ps g hs n m v u w gs' y l ks own place q e =
    let i : e.h ≡ head_in k g = e.kept l in
    let at : place_of x.tokens n ≡ place_of x.tokens (n + place_in e.h e.ts) =
    ap (place_of x.tokens) (omega (arith, place_zero e.h e.ts k e.kind_is y.operator)) in
    let p : Prefix k o ps e.h n m v = subst (λ z. Prefix k o ps z n m v) (sym i) q in
    record {
      h = e.h;
      ts = e.ts;
      made = record {
        kind_is = e.kind_is;
        place_is = e.place_is ∙ sym place ∙ at;
        own = subst (λ z. is_own z e.h ≡ true) (sym p.own) (subst (λ z. is_own o z ≡ true) (sym i) own);
        kids = subst (λ z. are_kids (level k e.h.text) z e.ts ≡ true) (sym p.kids) (e.kids (level k e.h.text));
        ends = p.ends (edges e.ts) ∙ e.ends;
        label = no_label e.h e.ts k e.kind_is y.yield;
        spelled = p.spelled (spells 0 e.ts) ∙ ap (λ z. map unplaced v ++ z) e.spelled ∙ sym (map-append unplaced v u);
        placed = subst (λ z. HavePlaces x.file x.tokens z e.ts) (sym (p.numbers (spells 0 e.ts))) e.placed;
        stops_at = λ z j. p.goes z (stops_each z e.ts) ∙ e.stops_at (λ q. true) (λ q j. refl) z j;
      };
      adds = e.adds ∙ ap (λ z. add (branch e.h (nodes_of (z ++ list_of e.ts))) hs) ks ∙ ap (λ z. add (branch e.h z) hs) (back e.ts);
    }

-- ---- the head of a loop

loop_count : (x : Source) (g : Group) (n m : ℕ) (v : List Token) → LoopBegun x g n m v → m ≡ ((n + 1) + length (label_tokens 0 g.text)) + 1
loop_count x g n m v b = omega (
  arith,
  b.at,
  length-map v unplaced,
  ap length b.spelled,
  length-append (label_tokens 0 g.text)
      (sign_token 0 si.LeftParen ∷ []),
)

loop_words : (x : Source) (g : Group) (n m : ℕ) (v z : List Token) → LoopBegun x g n m v →
    sign_token 0 si.For ∷ (label_tokens 0 g.text ++ (sign_token 0 si.LeftParen ∷ z)) ≡ map unplaced v ++ z
loop_words x g n m v z b = ap (λ l. sign_token 0 si.For ∷ l) (sym (append_assoc (label_tokens 0 g.text) (sign_token 0 si.LeftParen ∷ []) z))
    ∙ ap (λ l. l ++ z) (sym b.spelled)

abbrev for_pieces : List Piece
for_pieces = pi.Kid expr ∷ pi.Led si.Semicolon expr ∷ pi.Fixed si.RightParen ∷ pi.Kid expr ∷ []

-- a loop with a condition
for_tree : (x : Source) (g : Group) (hs : List Group) (n m : ℕ) (v u w : List Token) (gs' : List Group) → LoopBegun x g n m v →
    Ended x ki.For (pi.Followed so.Let si.Semicolon ∷ for_pieces) g hs m u w gs' → Tree x expr hs n (v ++ u) w gs'
for_tree x g hs n m v u w gs' b e =
    form_tree x expr ki.For hs n (v ++ u) w gs' refl (λ y. refl)
    (prefixed_form x ki.For ow.Label (pi.Followed so.Let si.Semicolon ∷ for_pieces) g hs n m v u w gs'
    (record { none = refl; operator = refl; yield = refl }) refl b.kids b.own b.place
    (record {
      own = refl;
      kids = refl;
      ends = λ es. refl;
      spelled = λ us. loop_words x g n m v _ b;
      numbers = λ us. ap
          (λ y. begins (head_in ki.For g) (pi.Followed so.Let si.Semicolon ∷ for_pieces) y us) (sym (loop_count x g n m v b));
      goes =
          λ d es. refl;
    }) e)

abbrev each_pieces : List Piece
each_pieces = pi.Kid expr ∷ pi.Fixed si.RightParen ∷ pi.Kid expr ∷ []

-- a loop over the items of a value
each_tree : (x : Source) (g : Group) (hs : List Group) (n m : ℕ) (v u w : List Token) (gs' : List Group) → LoopBegun x g n m v →
    Ended x ki.ForEach (pi.Kid so.Binding ∷ each_pieces) g hs m u w gs' → Tree x expr hs n (v ++ u) w gs'
each_tree x g hs n m v u w gs' b e =
    form_tree x expr ki.ForEach hs n (v ++ u) w gs' refl (λ y. refl)
    (prefixed_form x ki.ForEach ow.Label (pi.Kid so.Binding ∷ each_pieces) g hs n m v u w gs'
    (record { none = refl; operator = refl; yield = refl }) refl b.kids b.own b.place
    (record {
      own = refl;
      kids = refl;
      ends = λ es. refl;
      spelled = λ us. loop_words x g n m v _ b;
      numbers = λ us. ap
          (λ y. begins (head_in ki.ForEach g) (pi.Kid so.Binding ∷ each_pieces) y us) (sym (loop_count x g n m v b));
      goes = λ d es. refl;
    })
    e)

-- `let` and a name in front of a form
let_tree : (x : Source) (s : Sort) (k : Kind) (ps : List Piece) (g : Group) (hs : List Group) (n m : ℕ) (v u w : List Token)
    (gs' : List Group) → form_of k ≡ pi.Fixed si.Let ∷ pi.Own ow.Name ∷ ps → Ordinary k → has_own ps ≡ false →
    ((y : List ℕ) → admits s k y ≡ true) → LetBegun x g n m v → Ended x k ps g hs m u w gs' → Tree x s hs n (v ++ u) w gs'
let_tree x s k ps g hs n m v u w gs' f y l a b e =
    let count : m ≡ (n + 1) + 1 = omega (arith, b.at, length-map v unplaced, ap length b.spelled) in
    form_tree x s k hs n (v ++ u) w gs' y.none a (prefixed_form x k ow.Name ps g hs n m v u w gs' y l b.kids b.own b.place (record {
      own = ap own_of f;
      kids = ap kid_pieces f;
      ends = λ es. ap (λ z. kids_end z es) f;
      spelled = λ us. ap (λ z. pieces_tokens 0 (head_in k g) z us) f ∙ ap (λ z. z ++ pieces_tokens 0 (head_in k g) ps us) (sym b.spelled);
      numbers = λ us. ap (λ z. begins (head_in k g) z n us) f ∙ ap (λ z. begins (head_in k g) ps z us) (sym count);
      goes = λ d es. ap (λ z. form_stops d (head_in k g) true z es) f;
    }) e)

-- ---- behind `(`

pub for_head_means : (x : Source) (c : Class) (t1 : Token) (gs : List Group) (m : ℕ) (u w : List Token) (gs' : List Group) →
    class_of t1 ≡ c → Used x (for_head_row c) t1 gs m u w gs' → Means x ru.ForHead gs m (t1 ∷ u) w gs'
for_head_means x (cl.Sign si.Let) t1 gs m u w gs' e h g hs n v i b =
    let r = h.reads in
    let l = begun t1.place [] in
    let q = r.part l gs refl (record { text = refl; number = refl; suffix = refl }) in
    let lb : LetBegun x q.0 m r.n (t1 ∷ r.v) = record {
      kids = q.2.kids;
      own = q.2.own ki.Let;
      spelled = ap (λ y. y ∷ map unplaced r.v) (sign_is t1 si.Let e) ∙ ap (λ y. sign_token 0 si.Let ∷ y) (sym (q.2.spelled ki.Let));
      place = h.place ∙ sym q.2.place;
      at = omega (arith, r.at, h.at);
    } in
    let a = last_part x ru.AfterForName r.hs r.n r.v' w gs' r.rest q.0 g hs n m v (t1 ∷ r.v) (q.1 ∙ ap (λ y. q.0 ∷ y) i) b lb in
    subst (λ y. Tree x expr hs n (v ++ (t1 ∷ y)) w gs') (sym r.is) a
for_head_means x c t1 gs m u w gs' e h g hs n v i b =
    let r0 = before (level_row 1 c) (rest_of 5 ki.For) in
    let p = unit x (level_row 1) expr (level_means x 1) (rest_of 5 ki.For) c t1 (add (nothing x) gs) m u w gs' e
    (used_led x (ch.Absent ∷ []) r0 t1 gs m u w gs' h) in
    let p' = subst (λ y. Reads x (of expr ∷ rest_of 5 ki.For) y m (t1 ∷ u) w gs') (ap (add (nothing x)) i) p in
    let a = whole_form x ki.For for_pieces (with_kid g (nothing x)) hs m (t1 ∷ u) w gs' (refl, (refl, refl, (refl, tt))) (λ y. cc) p' in
    for_tree x g hs n m v (t1 ∷ u) w gs' b (ended_kid x ki.For (pi.Followed so.Let si.Semicolon) for_pieces g hs m m [] (t1 ∷ u) w gs'
    (nothing x) (no_followed_kid x si.Semicolon so.Let for_pieces m ((t1 ∷ u) ++ w)) (omega arith) a)

-- ---- behind `let` and a name

abbrev let_pieces : List Piece
let_pieces = pi.Led si.Colon so.Type ∷ pi.Fixed si.Equals ∷ pi.Kid expr ∷ []

-- a binding of the loop's own, and its condition
bound_loop : (x : Source) (g o : Group) (hs : List Group) (n n1 m : ℕ) (v v' u w : List Token) (gs' : List Group) → LoopBegun x o n n1 v →
    LetBegun x g n1 m v' → Reads x (symbols let_pieces ++ sy.Close ki.Let ∷ (sy.Want si.Semicolon ∷ of expr ∷ rest_of 5 ki.For))
    (g ∷ o ∷ hs) m u w gs' → Tree x expr hs n (v ++ (v' ++ u)) w gs'
bound_loop x g o hs n n1 m v v' u w gs' lo le r =
    let p = pieces x ki.Let let_pieces (sy.Want si.Semicolon ∷ of expr ∷ rest_of 5 ki.For) g (o ∷ hs) m u w gs' (refl, refl, (refl, tt))
    (λ y. cc) r in
    let q = let_tree x so.Let ki.Let let_pieces g (o ∷ hs) n1 m v' p.v (p.v' ++ w) p.made refl
    (record { none = refl; operator = refl; yield = refl }) refl (λ y. refl) le p.ended in
    let k = p.rest in
    let z = v' ++ p.v in
    let t_is : IsTree x so.Let n1 z (k.t ∷ (k.v ++ w)) q.t = subst (λ y. IsTree x so.Let n1 z (y ++ w) q.t) k.is q.is in
    let rest = subst (λ y. Reads x (of expr ∷ rest_of 5 ki.For) y k.n k.v w gs') q.adds k.rest in
    let a = whole_form x ki.For for_pieces (with_kid o q.t) hs k.n k.v w gs' (refl, (refl, refl, (refl, tt))) (λ y. cc) rest in
    let far : p.n ≡ n1 + length z = omega (arith, p.at, le.at, length-append v' p.v) in
    let b = ended_kid x ki.For (pi.Followed so.Let si.Semicolon) for_pieces o hs n1 k.n (z ++ k.t ∷ []) k.v w gs' q.t
    (followed_kid x si.Semicolon so.Let for_pieces n1 p.n k.n k.t z (k.v ++ w) q.t (apart_alone so.Let q.t refl t_is.shaped) far k.begun
    t_is) (omega (arith, far, k.begun.next, length-append z (k.t ∷ []))) a in
    let c = for_tree x o hs n n1 v ((z ++ k.t ∷ []) ++ k.v) w gs' lo b in
    let is : (z ++ k.t ∷ []) ++ k.v ≡ v' ++ u =
    append_assoc z (k.t ∷ []) k.v ∙ append_assoc v' p.v (k.t ∷ k.v) ∙ ap (λ y. v' ++ y) (ap (λ y. p.v ++ y) (sym k.is) ∙ sym p.is) in
    subst (λ y. Tree x expr hs n (v ++ y) w gs') is c

abbrev binding_pieces : List Piece
binding_pieces = pi.Optional so.ByRef ∷ pi.Fixed si.DotDot ∷ []

-- the items of a value
item_loop : (x : Source) (g o : Group) (hs : List Group) (n n1 m : ℕ) (v v' u w : List Token) (gs' : List Group) → LoopBegun x o n n1 v →
    LetBegun x g n1 m v' → Reads x (symbols binding_pieces ++ sy.Close ki.Binding ∷ rest_of 4 ki.ForEach) (g ∷ o ∷ hs) m u w gs' →
    Tree x expr hs n (v ++ (v' ++ u)) w gs'
item_loop x g o hs n n1 m v v' u w gs' lo le r =
    let p = pieces x ki.Binding binding_pieces (rest_of 4 ki.ForEach) g (o ∷ hs) m u w gs' (refl, tt) (λ y. cc) r in
    let q = let_tree x so.Binding ki.Binding binding_pieces g (o ∷ hs) n1 m v' p.v (p.v' ++ w) p.made refl
    (record { none = refl; operator = refl; yield = refl }) refl (λ y. refl) le p.ended in
    let z = v' ++ p.v in
    let rest = subst (λ y. Reads x (rest_of 4 ki.ForEach) y p.n p.v' w gs') q.adds p.rest in
    let a = whole_form x ki.ForEach each_pieces (with_kid o q.t) hs p.n p.v' w gs' (refl, (refl, tt)) (λ y. cc) rest in
    let far : p.n ≡ n1 + length z = omega (arith, p.at, le.at, length-append v' p.v) in
    let b = ended_kid x ki.ForEach (pi.Kid so.Binding) each_pieces o hs n1 p.n z p.v' w gs' q.t
    (wanted_kid x so.Binding each_pieces n1 z (p.v' ++ w) q.t refl q.is) far a in
    let c = each_tree x o hs n n1 v (z ++ p.v') w gs' lo b in
    let is : z ++ p.v' ≡ v' ++ u = append_assoc v' p.v p.v' ∙ ap (λ y. v' ++ y) (sym p.is) in
    subst (λ y. Tree x expr hs n (v ++ y) w gs') is c

pub after_for_name_means : (x : Source) (c : Class) (t1 : Token) (gs : List Group) (m : ℕ) (u w : List Token) (gs' : List Group) →
    class_of t1 ≡ c → Used x (after_for_name_row c) t1 gs m u w gs' → Means x ru.AfterForName gs m (t1 ∷ u) w gs'
after_for_name_means x (cl.Sign si.Colon) t1 gs m u w gs' e h g o hs n n1 v v' i lo le =
    let p = h.reads in
    let q = p.part (record { g = g; hs = o ∷ hs; is = i }) in
    let r : Reads x (symbols let_pieces ++ sy.Close ki.Let ∷ (sy.Want si.Semicolon ∷ of expr ∷ rest_of 5 ki.For)) gs m (t1 ∷ u) w gs' =
    record {
      v = t1 ∷ p.v;
      v' = p.v';
      n = p.n;
      hs = p.hs;
      is = ap (λ y. t1 ∷ y) p.is;
      at = omega (arith, p.at, h.at);
      part = λ z. leads (record {
        sign = t1;
        v = p.v;
        n = h.n;
        is = refl;
        begun = record { class = e; place = h.place; next = h.at };
        tree =
            q;
      });
      rest = p.rest;
    } in
    bound_loop x g o hs n n1 m v v' (t1 ∷ u) w gs' lo le
    (subst (λ y. Reads x (symbols let_pieces ++ sy.Close ki.Let ∷ (sy.Want si.Semicolon ∷ of expr ∷ rest_of 5 ki.For)) y m (t1 ∷ u) w
    gs') i r)
after_for_name_means x (cl.Sign si.Equals) t1 gs m u w gs' e h g o hs n n1 v v' i lo le =
    let st : List Symbol = of expr ∷ sy.Close ki.Let ∷ sy.Want si.Semicolon ∷ of expr ∷ rest_of 5 ki.For in
    let r : Reads x (symbols let_pieces ++ sy.Close ki.Let ∷ (sy.Want si.Semicolon ∷ of expr ∷ rest_of 5 ki.For)) gs m (t1 ∷ u) w gs' =
    record {
      v = [];
      v' = t1 ∷ u;
      n = m;
      hs = add (nothing x) gs;
      is = refl;
      at = omega arith;
      part = λ z. lacks refl (ap (λ y. has_sign si.Colon y) e) refl;
      rest = wants x si.Equals st t1 (add (nothing x) gs) m u w gs' e h;
    } in
    bound_loop x g o hs n n1 m v v' (t1 ∷ u) w gs' lo le
    (subst (λ y. Reads x (symbols let_pieces ++ sy.Close ki.Let ∷ (sy.Want si.Semicolon ∷ of expr ∷ rest_of 5 ki.For)) y m (t1 ∷ u) w
    gs') i r)
after_for_name_means x (cl.Sign si.DotDot) t1 gs m u w gs' e h g o hs n n1 v v' i lo le =
    let h' : Goes x (sy.Close ki.Binding ∷ rest_of 4 ki.ForEach) (add (nothing x) gs) t1 m u w gs' =
    record { n = h.n; place = h.place; at = h.at; reads = h.reads } in
    let r : Reads x (symbols binding_pieces ++ sy.Close ki.Binding ∷ rest_of 4 ki.ForEach) gs m (t1 ∷ u) w gs' = record {
      v = [];
      v' = t1 ∷ u;
      n = m;
      hs = add (nothing x) gs;
      is = refl;
      at = omega arith;
      part = λ z. absent refl refl;
      rest = wants x si.DotDot (sy.Close ki.Binding ∷ rest_of 4 ki.ForEach) t1 (add (nothing x) gs) m u w gs' e h';
    } in
    item_loop x g o hs n n1 m v v' (t1 ∷ u) w gs' lo le
    (subst (λ y. Reads x (symbols binding_pieces ++ sy.Close ki.Binding ∷ rest_of 4 ki.ForEach) y m (t1 ∷ u) w gs') i r)
after_for_name_means x (cl.Sign si.Ampersand) t1 gs m u w gs' e h g o hs n n1 v v' i lo le =
    let leaf = bare_leaf ki.ByRef t1.place in
    let q = form_tree x so.ByRef ki.ByRef gs m (t1 ∷ []) (u ++ w) (add leaf gs) refl (λ y. refl)
    (mark_form x ki.ByRef si.Ampersand t1 gs m (u ++ w) refl (record { none = refl; operator = refl; yield = refl }) h.place e) in
    let r : Reads x (symbols binding_pieces ++ sy.Close ki.Binding ∷ rest_of 4 ki.ForEach) gs m (t1 ∷ u) w gs' = record {
      v = t1 ∷ [];
      v' = u;
      n = h.n;
      hs = add leaf gs;
      is = refl;
      at = h.at;
      part = λ z. present q;
      rest = h.reads;
    } in
    item_loop x g o hs n n1 m v v' (t1 ∷ u) w gs' lo le
    (subst (λ y. Reads x (symbols binding_pieces ++ sy.Close ki.Binding ∷ rest_of 4 ki.ForEach) y m (t1 ∷ u) w gs') i r)
after_for_name_means x (cl.Sign _) t1 gs m u w gs' e h g o hs n n1 v v' i lo le = absurd h
after_for_name_means x _ t1 gs m u w gs' e h g o hs n n1 v v' i lo le = absurd h
