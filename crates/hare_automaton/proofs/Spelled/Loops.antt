-- Kinds that a token behind the first decides: `yield`, both loops, and the values of a case.
use Rattle.std.proofs.Common.{◌≡◌, ℕ, ◌≤◌, List, [], ◌∷◌, ◌++◌, Bool, true, false, ◌&&◌, ◌||◌, not, refl, ap, sym, ◌∙◌, subst, arith, append_assoc}
use Rattle.std.proofs.lemmas.List.{append-nil}
use Rattle.hare_tree.specs.declared.kind.Kind.{Kind}
use Rattle.hare_tree.specs.declared.kind.Kind.TheVariants as ki
use Rattle.hare_tree.specs.declared.token.TokenKind.TheVariants as tk
use Rattle.hare_tree.specs.declared.token.Token.{Token}
use Rattle.hare_tree.specs.declared.form.Sign.{Sign}
use Rattle.hare_tree.specs.declared.form.Sign.TheVariants as si
use Rattle.hare_tree.specs.declared.form.Own.TheVariants as ow
use Rattle.hare_tree.specs.declared.form.Sort.{Sort}
use Rattle.hare_tree.specs.declared.form.Sort.TheVariants as so
use Rattle.hare_tree.specs.declared.form.Lead.TheVariants as le
use Rattle.hare_tree.specs.declared.form.Piece.{Piece}
use Rattle.hare_tree.specs.declared.form.Piece.TheVariants as pi
use Rattle.hare_tree.specs.Node.{Head, Node, Nodes, branch, none, more, head, size_of, sizes_of}
use Rattle.hare_tree.specs.Forms.{form_of, expr}
use Rattle.hare_tree.specs.Levels.{is_name, level, admits}
use Rattle.hare_tree.specs.Spell.{start_of, word_token, sign_token, label_tokens, value_lead, one_led, all_led, pieces_tokens, spell, spells}
use Rattle.hare_tree.specs.Shape.{is_shaped, are_kids, is_own, is_empty, has_text_alone, is_absent, is_yield, kid_pieces, edges, stops, stops_each, form_stops, kid_or, ends_before, behind_item, items_end, begins_labelled, yields_label}
use Rattle.hare_tree.specs.Signs.{is_sign}
use Rattle.hare_automaton.specs.declared.class.Class.{Class}
use Rattle.hare_automaton.specs.declared.class.Class.TheVariants as cl
use Rattle.hare_automaton.specs.declared.rule.Rule.{Rule}
use Rattle.hare_automaton.specs.declared.rule.Rule.TheVariants as ru
use Rattle.hare_automaton.specs.declared.rule.Symbol.{Symbol}
use Rattle.hare_automaton.specs.declared.rule.Symbol.TheVariants as sy
use Rattle.hare_automaton.specs.declared.rule.Change.{Change}
use Rattle.hare_automaton.specs.declared.rule.Change.TheVariants as ch
use Rattle.hare_automaton.specs.Classes.{class_of}
use Rattle.hare_automaton.specs.Rows.{Row, Skips, Uses, of, part, before, led_by, or_skips, has_sign, rest_of}
use Rattle.hare_automaton.specs.DeclarationRows.{of_row}
use Rattle.hare_automaton.specs.Table.{row}
use Rattle.hare_automaton.specs.Engine.{Group, begun, bare_leaf, add, close, all_changed, run}
use Rattle.hare_automaton.specs.OneTree.{plain}
use Rattle.hare_automaton.proofs.Machine.Steps.{front, run_uses, run_close, run_want, run_changes, all_changed-append}
use Rattle.hare_automaton.proofs.Machine.Tokens.{class_sign}
use Rattle.hare_automaton.proofs.Spelled.Paths.{split}
use Rattle.hare_automaton.proofs.Spelled.Lists.{run_before, nothing_head}
use Rattle.hare_automaton.proofs.Machine.Edges.{Edge, pull, stops_calm, edge, left, ReadsTo, read_kid}
use Rattle.hare_automaton.proofs.Spelled.Kids.{begins, absent_kind, absent_spell, absent_plain, led_kid, led_absent}
use Rattle.hare_automaton.proofs.Spelled.Items.{Closer}
use Rattle.hare_automaton.proofs.Spelled.Forms.{state, Maybe, lacks, has, maybe, read_name, read_label}
use Rattle.hare_automaton.proofs.Spelled.Read.{read_pieces, is_there}
use Rattle.hare_automaton.proofs.Spelled.Nodes.{Whole, whole, Claim, closed, tops, expr_row}
use Rattle.hare_automaton.proofs.Spelled.Openers.{at_of, edge_pull, quiet_colon, quiet_expr}
use Rattle.hare_automaton.proofs.Spelled.Leaves.{no_kids, read_some}
use Rattle.hare_automaton.proofs.Spelled.Late.{kids_at, own_at, ends_at, before_sign}
use Rattle.hare_automaton.proofs.Machine.Labelled.{first_colon}
use Rattle.hare_automaton.proofs.Machine.Still.{first_place}

-- where a tree begins, a rule that reads changes, the tree and more
pub run_led : (f : ℕ) (s : Sort) (n : Rule) (ds : List Change) (ss : List Symbol) (u : List Token) (x : Token) (r : List Token)
    (cs : List Change) (rs st : List Symbol) (gs : List Group) → u ≡ x ∷ r → of_row s (class_of x) ≡ Uses cs rs →
    row n (class_of x) ≡ led_by ds (before (of_row s (class_of x)) ss) →
    run f u (part n ∷ st) gs ≡ run f u (of s ∷ (ss ++ st)) (all_changed f x ds gs)
run_led f s n ds ss u x r cs rs st gs e o q =
    rw e
    (run_uses f x r n st gs (ds ++ cs) (rs ++ ss) (q ∙ ap (λ y. led_by ds (before y ss)) o)
    ∙ (rw (append_assoc rs ss st, all_changed-append f x ds cs gs) refl)
    ∙ sym (run_uses f x r (ru.Of s) (ss ++ st) (all_changed f x ds gs) cs rs o))

colon_is : (c : Class) → has_sign si.Colon c ≡ true → c ≡ cl.Sign si.Colon
colon_is (cl.Sign si.Colon) e = refl
colon_is (cl.Sign _) e = cc
colon_is _ e = cc

arrow_is : (c : Class) → has_sign si.Arrow c ≡ true → c ≡ cl.Sign si.Arrow
arrow_is (cl.Sign si.Arrow) e = refl
arrow_is (cl.Sign _) e = cc
arrow_is _ e = cc

-- ---- `yield`

yield_row : (c : Class) → has_sign si.Colon c ≡ false →
    row ru.AfterYield c ≡ or_skips (before (of_row expr c) (sy.Close ki.Yield ∷ [])) (ch.Absent ∷ ch.Close ki.Yield ∷ [])
yield_row (cl.Sign si.Colon) e = cc
yield_row (cl.Sign _) e = refl
yield_row _ e = refl

or_before : (r : Row) (cs : List Change) (ss ts : List Symbol) (ds : List Change) → r ≡ Uses cs ss → or_skips (before r ts) ds ≡ before r ts
or_before r cs ss ts ds e = ap (λ y. or_skips (before y ts) ds) e ∙ sym (ap (λ y. before y ts) e)

not_false : (b : Bool) → not b ≡ true → b ≡ false
not_false false e = refl
not_false true e = cc

-- the value of a `yield` without a label begins with none
unlabelled : (h : Head) (v : Node) → h.kind ≡ ki.Yield → h.text ≡ [] → yields_label h (more v none) ≡ true → begins_labelled v ≡ false
unfolding begins_labelled
unlabelled h v i j e =
    let a : not (is_yield ki.Yield && is_empty h.text && begins_labelled v) ≡ true =
    subst (λ y. not (is_yield y && is_empty h.text && begins_labelled v) ≡ true) i e in
    let b : not (begins_labelled v) ≡ true = subst (λ y. not (true && is_empty y && begins_labelled v) ≡ true) j a in
    not_false (begins_labelled v) b

pub yield_reads : (f n : ℕ) → ReadsTo f n → (s : Sort) (h : Head) (ts : Nodes) → sizes_of ts ≤ n → h.kind ≡ ki.Yield → tops s 1 ≡ true →
    Whole s h ts → (w : List Token) (st : List Symbol) (g : Group) (gs : List Group) → Edge s (front w) (branch h ts) →
    Claim f s h ts w st g gs
unfolding spell is_shaped stops
yield_reads f n ih s h none z i t p w st g gs x = let k = kids_at s h none ki.Yield i p in cc
yield_reads f n ih s h (more v (more u us)) z i t p w st g gs x =
    let k = split (is_absent v || is_shaped expr v) false (kids_at s h (more v (more u us)) ki.Yield i p) in cc
yield_reads f n ih s h (more v none) z i t p w st g gs x =
    let a : form_of h.kind ≡ form_of ki.Yield = ap form_of i in
    let lv : level h.kind h.text ≡ 1 = ap (λ y. level y h.text) i in
    let own = split (is_empty h.text || is_name false h.text) (has_text_alone h) (own_at s h (more v none) ki.Yield i p) in
    rw (a, lv)
    (run_uses f (sign_token f si.Yield) ((label_tokens f h.text ++ (one_led f (value_lead h.text) (spells f (more v none)) ++ [])) ++ w)
    (ru.Of s) st (g ∷ gs) (ch.Open ∷ []) (part ru.AfterYield ∷ left s 1) (expr_row s (cl.Sign si.Yield) 1 refl refl t)
    ∙ by h.text refl own.0 own.1)
  where
    ls : List Symbol
    ls = left s 1 ++ st

    quiet : pull (front w) ≤ 0
    quiet = edge_pull s (front w) h (more v none) 1 (ap (λ y. level y h.text) i) t x

    kid : (is_absent v || is_shaped expr v) ≡ true
    kid = (split (is_absent v || is_shaped expr v) true (kids_at s h (more v none) ki.Yield i p)).0

    zv : size_of v ≤ n
    zv = omega (arith, z)

    stopped : (d : Sign) → front w ≡ cl.Sign d → kid_or (is_empty h.text || not (is_sign si.Comma d)) ((head v).kind, stops d v) ≡ true
    stopped d j = subst (λ b. form_stops d h true b (stops_each d (more v none)) ≡ true) (ap form_of i) (x.stops_at d j)

    no_colon : h.text ≡ [] → (e : is_shaped expr v ≡ true) → (b : Bool) →
        has_sign si.Colon (class_of (begins f n ih expr v zv refl e).head) ≡ b → b ≡ false
    no_colon j e false k = refl
    no_colon j e true k =
        let b = begins f n ih expr v zv refl e in
        let y : begins_labelled v ≡ true = first_colon f n ih n 1 v zv zv refl e b.head b.tail b.is (colon_is (class_of b.head) k) in
        let q : begins_labelled v ≡ false = unlabelled h v i j p.label in
        cc

    alone : h.text ≡ [] → has_text_alone h ≡ true → Maybe expr v →
        run f ((([] ++ (one_led f le.Nothing (spells f (more v none)) ++ [])) ++ w)) (part ru.AfterYield ∷ ls)
        (begun (start_of f) [] ∷ g ∷ gs) ≡ run f w ls (add (plain f (branch h (more v none))) (g ∷ gs))
    alone j e' (lacks e) =
        let o : row ru.AfterYield (front w) ≡ Skips (ch.Absent ∷ ch.Close ki.Yield ∷ []) =
        yield_row (front w) (quiet_colon (front w) quiet) ∙ ap
        (λ r. or_skips (before r (sy.Close ki.Yield ∷ [])) (ch.Absent ∷ ch.Close ki.Yield ∷ [])) (quiet_expr (front w) quiet) in
        rw (absent_spell f v e)
        (run_changes f w ru.AfterYield ls (begun (start_of f) [] ∷ g ∷ gs)
        (close ki.Yield (begun (start_of f) (bare_leaf ki.None (start_of f) ∷ []) ∷ g ∷ gs)) (ch.Absent ∷ ch.Close ki.Yield ∷ []) o
        (λ y. refl)
        ∙ ap (λ y. run f w ls (close ki.Yield (begun (start_of f) (y ∷ []) ∷ g ∷ gs))) (sym (absent_plain f v e))
        ∙ sym (run_close f w ki.Yield ls (begun (start_of f) (plain f v ∷ []) ∷ g ∷ gs))
        ∙ closed f h ki.Yield false (more v none) i (λ y. rw (j, e') refl) w ls g gs)
    alone j e' (has e) =
        let b = begins f n ih expr v zv refl e in
        let o : row ru.AfterYield (class_of b.head) ≡ before (of_row expr (class_of b.head)) (sy.Close ki.Yield ∷ []) =
        yield_row (class_of b.head) (no_colon j e (has_sign si.Colon (class_of b.head)) refl) ∙ or_before
        (of_row expr (class_of b.head)) b.changes b.symbols (sy.Close ki.Yield ∷ []) (ch.Absent ∷ ch.Close ki.Yield ∷ []) b.uses in
        let there = is_there expr v refl e in
        let k : (d : Sign) → front w ≡ cl.Sign d → stops d v ≡ true = λ d y. rw there at (stopped d y) in
        rw (append-nil (spell f v), append-nil (spell f v))
        (run_before f expr ru.AfterYield (sy.Close ki.Yield ∷ []) (spell f v) w ls (begun (start_of f) [] ∷ g ∷ gs) b o
        ∙ read_kid f n ih expr v zv refl e w (sy.Close ki.Yield ∷ ls) (begun (start_of f) []) (g ∷ gs) quiet k refl
        ∙ closed f h ki.Yield false (more v none) i (λ y. rw (j, e') refl) w ls g gs)

    by : (y : List ℕ) → h.text ≡ y → (is_empty y || is_name false y) ≡ true → has_text_alone h ≡ true →
        run f ((label_tokens f y ++ (one_led f (value_lead y) (spells f (more v none)) ++ [])) ++ w) (part ru.AfterYield ∷ ls)
        (begun (start_of f) [] ∷ g ∷ gs) ≡ run f w ls (add (plain f (branch h (more v none))) (g ∷ gs))
    by [] j e e' = alone j e' (maybe expr v kid)
    by (c ∷ y) j e e' =
        let ps : List Piece = pi.Led si.Comma expr ∷ [] in
        let u = pieces_tokens f h ps (spells f (more v none)) ++ w in
        let o : is_own ow.Name h ≡ true = rw (j, e, e') refl in
        let fs : (d : Sign) → front w ≡ cl.Sign d → form_stops d h true ps (stops_each d (more v none)) ≡ true =
        λ d k. subst (λ b. kid_or (is_empty b || not (is_sign si.Comma d)) ((head v).kind, stops d v) ≡ true) j (stopped d k) in
        run_uses f (sign_token f si.Colon) (word_token f tk.Name (c ∷ y) ∷ u) ru.AfterYield ls (begun (start_of f) [] ∷ g ∷ gs) []
        (part (ru.Own ow.Name) ∷ part (ru.Led si.Comma expr) ∷ sy.Close ki.Yield ∷ []) refl
        ∙ (rw (← j) (read_name f false (start_of f) h [] u (part (ru.Led si.Comma expr) ∷ sy.Close ki.Yield ∷ ls) (g ∷ gs) o))
        ∙ read_pieces f n ih h (level h.kind h.text) ps true (more v none) z (kids_at s h (more v none) ki.Yield i p)
        (ends_at s h (more v none) ki.Yield i p) tt refl w (sy.Close ki.Yield ∷ ls) (start_of f) [] (g ∷ gs) (λ b. true) fs
        (refl, tt, tt, at_of expr (front w) quiet refl, tt)
        ∙ closed f h ki.Yield true (more v none) i (λ b. cc) w ls g gs

-- ---- the values of a case

values_close : Closer expr si.Arrow
values_close = record {
  sort = refl;
  items = refl;
  anywhere = λ c. refl;
  faults = refl;
  pulls = refl;
  comma = refl;
  no_else = refl;
  no_comma = refl;
}

pub values_reads : (f n : ℕ) → ReadsTo f n → (h : Head) (ts : Nodes) → sizes_of ts ≤ n → h.kind ≡ ki.Values → Whole so.Values h ts →
    (w : List Token) (st : List Symbol) (g : Group) (gs : List Group) → Edge so.Values (front w) (branch h ts) →
    Claim f so.Values h ts w st g gs
unfolding spell is_shaped
values_reads f n ih h none z i p w st g gs x = let k = kids_at so.Values h none ki.Values i p in cc
values_reads f n ih h (more v vs) z i p w st g gs x =
    let a : form_of h.kind ≡ form_of ki.Values = ap form_of i in
    let own : is_own ow.Nothing h ≡ true = own_at so.Values h (more v vs) ki.Values i p in
    let m = level h.kind h.text in
    let k = split (is_shaped expr v) (are_kids m (pi.More expr ∷ []) vs) (kids_at so.Values h (more v vs) ki.Values i p) in
    let e = split (ends_before (behind_item (edges vs)) (edge v)) (items_end (edges vs)) (ends_at so.Values h (more v vs) ki.Values i p) in
    let zv : size_of v ≤ n = omega arith in
    let zs : sizes_of vs ≤ n = omega arith in
    let b = begins f n ih expr v zv refl k.0 in
    let y = all_led f (le.Before si.Comma) (spells f vs) in
    let here : start_of f ≡ b.head.place = first_place f v b.head b.tail b.is in
    rw (a, append-nil (spell f v), append-nil y, append_assoc (spell f v) y w)
    (run_led f expr (ru.Of so.Values) (ch.Open ∷ []) (rest_of 1 ki.Values) (spell f v ++ (y ++ w)) b.head (b.tail ++ (y ++ w)) b.changes
    b.symbols st (g ∷ gs) (ap (λ c. c ++ (y ++ w)) b.is) b.uses refl
    ∙ ap (λ c. run f (spell f v ++ (y ++ w)) (of expr ∷ (rest_of 1 ki.Values ++ st)) (begun c [] ∷ g ∷ gs)) (sym here)
    ∙ read_some f n ih expr si.Arrow m values_close v vs
    (record { small = zv; others_small = zs; shaped = k.0; others = k.1; ends = e.0; others_end = e.1 }) w (sy.Close ki.Values ∷ st)
    (begun (start_of f) []) (g ∷ gs) (arrow_is (front w) x.closed)
    ∙ closed f h ki.Values false (more v vs) i (λ c. own) w st g gs)

-- ---- loops

pub let_kind : (k : Kind) (x : List ℕ) → admits so.Let k x ≡ true → k ≡ ki.Let
let_kind ki.Let x a = refl
let_kind _ x a = cc

pub binding_kind : (k : Kind) (x : List ℕ) → admits so.Binding k x ≡ true → k ≡ ki.Binding
binding_kind ki.Binding x a = refl
binding_kind _ x a = cc

pub by_ref_kind : (k : Kind) (x : List ℕ) → admits so.ByRef k x ≡ true → k ≡ ki.ByRef
by_ref_kind ki.ByRef x a = refl
by_ref_kind _ x a = cc

-- what follows `let`, a name and `=` or `:` in a loop
abbrev behind_let : List Symbol
behind_let = of expr ∷ sy.Close ki.Let ∷ sy.Want si.Semicolon ∷ of expr ∷ rest_of 5 ki.For

-- the binding of a loop with a condition, and its semicolon
let_in_head : (f n : ℕ) → ReadsTo f n → (h : Head) (ts : Nodes) → sizes_of ts ≤ n → is_shaped so.Let (branch h ts) ≡ true →
    (w : List Token) (st : List Symbol) (g : Group) (gs : List Group) →
    run f (spell f (branch h ts) ++ (sign_token f si.Semicolon ∷ w)) (part ru.ForHead ∷ st) (g ∷ gs) ≡
    run f w ((of expr ∷ rest_of 5 ki.For) ++ st) (add (plain f (branch h ts)) (g ∷ gs))
unfolding spell is_shaped
let_in_head f n ih h none z e w st g gs =
    let p = whole so.Let h none e in let k = kids_at so.Let h none ki.Let (let_kind h.kind h.text p.admitted) p in cc
let_in_head f n ih h (more y none) z e w st g gs =
    let p = whole so.Let h (more y none) e in
    let k = split (is_absent y || is_shaped so.Type y) false
    (kids_at so.Let h (more y none) ki.Let (let_kind h.kind h.text p.admitted) p) in
    cc
let_in_head f n ih h (more y (more v (more u us))) z e w st g gs =
    let p = whole so.Let h (more y (more v (more u us))) e in
    let k = split (is_absent y || is_shaped so.Type y) (is_shaped expr v && false)
    (kids_at so.Let h (more y (more v (more u us))) ki.Let (let_kind h.kind h.text p.admitted) p) in
    let k' = split (is_shaped expr v) false k.1 in
    cc
let_in_head f n ih h (more y (more v none)) z e w st g gs =
    let p = whole so.Let h (more y (more v none)) e in
    let i = let_kind h.kind h.text p.admitted in
    let a : form_of h.kind ≡ form_of ki.Let = ap form_of i in
    let k = split (is_absent y || is_shaped so.Type y) (is_shaped expr v && true) (kids_at so.Let h (more y (more v none)) ki.Let i p) in
    let k' = split (is_shaped expr v) true k.1 in
    let zv : size_of v ≤ n = omega arith in
    rw (
      a,
      append-nil (spell f v),
      append-nil (spell f v),
      append_assoc (one_led f (le.Before si.Colon) (spells f (more y (more v none))))
          (sign_token f si.Equals ∷ spell f v) (sign_token f si.Semicolon ∷ w),
    )
    (run_uses f (sign_token f si.Let) (word_token f tk.Name h.text ∷
    (one_led f (le.Before si.Colon) (spells f (more y (more v none))) ++
    (sign_token f si.Equals ∷ (spell f v ++ (sign_token f si.Semicolon ∷ w))))) ru.ForHead st (g ∷ gs) (ch.Open ∷ [])
    (part (ru.Own ow.Name) ∷ part ru.AfterForName ∷ []) refl
    ∙ read_name f false (start_of f) h [] (one_led f (le.Before si.Colon) (spells f (more y (more v none))) ++
    (sign_token f si.Equals ∷ (spell f v ++ (sign_token f si.Semicolon ∷ w)))) (part ru.AfterForName ∷ st) (g ∷ gs)
    (own_at so.Let h (more y (more v none)) ki.Let i p)
    ∙ by (maybe so.Type y k.0)
    ∙ before_sign f n ih expr si.Semicolon v zv refl k'.0 refl (stops_calm si.Semicolon refl refl v) w
    (sy.Close ki.Let ∷ sy.Want si.Semicolon ∷ ((of expr ∷ rest_of 5 ki.For) ++ st)) (state true (start_of f) h (plain f y ∷ []))
    (g ∷ gs)
    ∙ closed f h ki.Let true (more y (more v none)) i (λ b. cc) (sign_token f si.Semicolon ∷ w)
    (sy.Want si.Semicolon ∷ ((of expr ∷ rest_of 5 ki.For) ++ st)) g gs
    ∙ run_want f (sign_token f si.Semicolon) w si.Semicolon ((of expr ∷ rest_of 5 ki.For) ++ st) _ (class_sign f si.Semicolon))
  where
    r : List Token
    r = spell f v ++ (sign_token f si.Semicolon ∷ w)

    by : Maybe so.Type y → run f (one_led f (le.Before si.Colon) (spells f (more y (more v none))) ++ (sign_token f si.Equals ∷ r))
        (part ru.AfterForName ∷ st) (state true (start_of f) h [] ∷ g ∷ gs) ≡
        run f r (behind_let ++ st) (state true (start_of f) h (plain f y ∷ []) ∷ g ∷ gs)
    by (lacks o) = rw (led_absent f si.Colon y [] o, absent_plain f y o)
        (run_uses f (sign_token f si.Equals) r ru.AfterForName st (state true (start_of f) h [] ∷ g ∷ gs) (ch.Absent ∷ []) behind_let refl)
    by (has o) =
        let zy : size_of y ≤ n = omega (arith, z) in
        rw (led_kid f si.Colon so.Type y [] refl o, append-nil (spell f y))
        (run_uses f (sign_token f si.Colon) (spell f y ++ (sign_token f si.Equals ∷ r)) ru.AfterForName st
        (state true (start_of f) h [] ∷ g ∷ gs) [] (of so.Type ∷ sy.Want si.Equals ∷ behind_let) refl
        ∙ before_sign f n ih so.Type si.Equals y zy refl o refl (stops_calm si.Equals refl refl y) r
        (sy.Want si.Equals ∷ (behind_let ++ st)) (state true (start_of f) h []) (g ∷ gs)
        ∙ run_want f (sign_token f si.Equals) r si.Equals (behind_let ++ st) _ (class_sign f si.Equals))

-- the binding of a loop over items
pub record Reference (f : ℕ) (r : Node) : Type 0 where
  pub spelled : spell f r ≡ sign_token f si.Ampersand ∷ []
  pub plainly : plain f r ≡ bare_leaf ki.ByRef (start_of f)

reference : (f : ℕ) (r : Node) → is_shaped so.ByRef r ≡ true → Reference f r
unfolding spell
reference f (branch h ts) e =
    let p = whole so.ByRef h ts e in
    let i = by_ref_kind h.kind h.text p.admitted in
    let a : form_of h.kind ≡ form_of ki.ByRef = ap form_of i in
    let n : ts ≡ none = no_kids (level h.kind h.text) ts (kids_at so.ByRef h ts ki.ByRef i p) in
    record { spelled = rw a refl; plainly = rw (n, nothing_head f h ki.ByRef i (own_at so.ByRef h ts ki.ByRef i p)) refl }

binding_in_head : (f : ℕ) (h : Head) (ts : Nodes) → is_shaped so.Binding (branch h ts) ≡ true →
    (w : List Token) (st : List Symbol) (g : Group) (gs : List Group) →
    run f (spell f (branch h ts) ++ w) (part ru.ForHead ∷ st) (g ∷ gs) ≡
    run f w (rest_of 4 ki.ForEach ++ st) (add (plain f (branch h ts)) (g ∷ gs))
unfolding spell is_shaped
binding_in_head f h none e w st g gs =
    let p = whole so.Binding h none e in let k = kids_at so.Binding h none ki.Binding (binding_kind h.kind h.text p.admitted) p in cc
binding_in_head f h (more r (more u us)) e w st g gs =
    let p = whole so.Binding h (more r (more u us)) e in
    let k = split (is_absent r || is_shaped so.ByRef r) false
    (kids_at so.Binding h (more r (more u us)) ki.Binding (binding_kind h.kind h.text p.admitted) p) in
    cc
binding_in_head f h (more r none) e w st g gs =
    let p = whole so.Binding h (more r none) e in
    let i = binding_kind h.kind h.text p.admitted in
    let a : form_of h.kind ≡ form_of ki.Binding = ap form_of i in
    let k = split (is_absent r || is_shaped so.ByRef r) true (kids_at so.Binding h (more r none) ki.Binding i p) in
    rw (a, append-nil (spell f r), append_assoc (spell f r) (sign_token f si.DotDot ∷ []) w)
    (run_uses f (sign_token f si.Let) (word_token f tk.Name h.text ∷ (spell f r ++ (sign_token f si.DotDot ∷ w))) ru.ForHead st (g ∷ gs)
    (ch.Open ∷ []) (part (ru.Own ow.Name) ∷ part ru.AfterForName ∷ []) refl
    ∙ read_name f false (start_of f) h [] (spell f r ++ (sign_token f si.DotDot ∷ w)) (part ru.AfterForName ∷ st) (g ∷ gs)
    (own_at so.Binding h (more r none) ki.Binding i p)
    ∙ by i (maybe so.ByRef r k.0))
  where
    by : h.kind ≡ ki.Binding → Maybe so.ByRef r →
        run f (spell f r ++ (sign_token f si.DotDot ∷ w)) (part ru.AfterForName ∷ st) (state true (start_of f) h [] ∷ g ∷ gs) ≡
        run f w (rest_of 4 ki.ForEach ++ st) (add (plain f (branch h (more r none))) (g ∷ gs))
    by i (lacks o) =
        rw (absent_spell f r o)
        (run_uses f (sign_token f si.DotDot) w ru.AfterForName st (state true (start_of f) h [] ∷ g ∷ gs)
        (ch.Absent ∷ ch.Close ki.Binding ∷ []) (rest_of 4 ki.ForEach) refl
        ∙ ap (λ y. run f w (rest_of 4 ki.ForEach ++ st) (close ki.Binding (state true (start_of f) h (y ∷ []) ∷ g ∷ gs)))
        (sym (absent_plain f r o))
        ∙ sym (run_close f w ki.Binding (rest_of 4 ki.ForEach ++ st) (state true (start_of f) h (plain f r ∷ []) ∷ g ∷ gs))
        ∙ closed f h ki.Binding true (more r none) i (λ b. cc) w (rest_of 4 ki.ForEach ++ st) g gs)
    by i (has o) =
        let q = reference f r o in
        rw (q.spelled)
        (run_uses f (sign_token f si.Ampersand) (sign_token f si.DotDot ∷ w) ru.AfterForName st (state true (start_of f) h [] ∷ g ∷ gs)
        (ch.Mark ki.ByRef ∷ []) (sy.Want si.DotDot ∷ sy.Close ki.Binding ∷ rest_of 4 ki.ForEach) refl
        ∙ run_want f (sign_token f si.DotDot) w si.DotDot (sy.Close ki.Binding ∷ (rest_of 4 ki.ForEach ++ st)) _ (class_sign f si.DotDot)
        ∙ ap (λ y. run f w (sy.Close ki.Binding ∷ (rest_of 4 ki.ForEach ++ st)) (state true (start_of f) h (y ∷ []) ∷ g ∷ gs))
        (sym q.plainly)
        ∙ closed f h ki.Binding true (more r none) i (λ b. cc) w (rest_of 4 ki.ForEach ++ st) g gs)

-- a condition begins a loop without a binding
for_head : (c : Class) (cs : List Change) (ss : List Symbol) → of_row expr c ≡ Uses cs ss →
    row ru.ForHead c ≡ led_by (ch.Absent ∷ []) (before (of_row expr c) (rest_of 5 ki.For))
for_head (cl.Sign si.Let) cs ss e = cc
for_head (cl.Sign _) cs ss e = refl
for_head _ cs ss e = refl

abbrev loop_pieces : List Piece
loop_pieces = pi.Kid expr ∷ pi.Led si.Semicolon expr ∷ pi.Fixed si.RightParen ∷ pi.Kid expr ∷ []

abbrev each_pieces : List Piece
each_pieces = pi.Kid expr ∷ pi.Fixed si.RightParen ∷ pi.Kid expr ∷ []

let_stands : (f : ℕ) (h : Head) (us ts : Nodes) → is_shaped so.Let (branch h us) ≡ true →
    one_led f (le.Behind si.Semicolon) (spells f (more (branch h us) ts)) ≡ (spell f (branch h us) ++ sign_token f si.Semicolon ∷ []) ++ []
unfolding spell
let_stands f h us ts e = let i = let_kind h.kind h.text (whole so.Let h us e).admitted in rw i refl

pub for_reads : (f n : ℕ) → ReadsTo f n → (s : Sort) (h : Head) (ts : Nodes) → sizes_of ts ≤ n → h.kind ≡ ki.For → tops s 1 ≡ true →
    Whole s h ts → (w : List Token) (st : List Symbol) (g : Group) (gs : List Group) → Edge s (front w) (branch h ts) →
    Claim f s h ts w st g gs
unfolding spell is_shaped stops
for_reads f n ih s h none z i t p w st g gs x = let k = kids_at s h none ki.For i p in cc
for_reads f n ih s h (more b none) z i t p w st g gs x =
    let k = split (is_absent b || is_shaped so.Let b) false (kids_at s h (more b none) ki.For i p) in cc
for_reads f n ih s h (more b (more v ts)) z i t p w st g gs x =
    let a : form_of h.kind ≡ form_of ki.For = ap form_of i in
    let lv : level h.kind h.text ≡ 1 = ap (λ y. level y h.text) i in
    let own : is_own ow.Label h ≡ true = own_at s h (more b (more v ts)) ki.For i p in
    let k = split (is_absent b || is_shaped so.Let b) (are_kids (level h.kind h.text) (kid_pieces loop_pieces) (more v ts))
    (kids_at s h (more b (more v ts)) ki.For i p) in
    let quiet : pull (front w) ≤ 0 = edge_pull s (front w) h (more b (more v ts)) 1 lv t x in
    let fs : (d : Sign) → front w ≡ cl.Sign d → form_stops d h true loop_pieces (stops_each d (more v ts)) ≡ true =
    λ d j. subst (λ y. form_stops d h true y (stops_each d (more b (more v ts))) ≡ true) a (x.stops_at d j) in
    let head = one_led f (le.Behind si.Semicolon) (spells f (more b (more v ts))) in
    let us = pieces_tokens f h loop_pieces (spells f (more v ts)) in
    rw (a, lv, append_assoc (label_tokens f h.text) (sign_token f si.LeftParen ∷ (head ++ us)) w, append_assoc head us w)
    (run_uses f (sign_token f si.For) (label_tokens f h.text ++ (sign_token f si.LeftParen ∷ (head ++ (us ++ w)))) (ru.Of s) st (g ∷ gs)
    (ch.Open ∷ []) (part (ru.Own ow.Label) ∷ sy.Want si.LeftParen ∷ part ru.ForHead ∷ left s 1)
    (expr_row s (cl.Sign si.For) 1 refl refl t)
    ∙ read_label f (start_of f) h [] (sign_token f si.LeftParen ∷ (head ++ (us ++ w)))
    (sy.Want si.LeftParen ∷ part ru.ForHead ∷ (left s 1 ++ st)) (g ∷ gs) own refl
    ∙ run_want f (sign_token f si.LeftParen) (head ++ (us ++ w)) si.LeftParen (part ru.ForHead ∷ (left s 1 ++ st))
    (state true (start_of f) h [] ∷ g ∷ gs) (class_sign f si.LeftParen)
    ∙ by b z k.0 (maybe so.Let b k.0) k.1
    ∙ read_pieces f n ih h (level h.kind h.text) loop_pieces true (more v ts) (omega arith) k.1
    (ends_at s h (more b (more v ts)) ki.For i p) tt refl w (sy.Close ki.For ∷ (left s 1 ++ st)) (start_of f) (plain f b ∷ []) (g ∷ gs)
    (λ y. true) fs (refl, (refl, refl), (refl, tt, refl, refl, (refl, at_of expr (front w) quiet refl, tt)))
    ∙ closed f h ki.For true (more b (more v ts)) i (λ y. cc) w (left s 1 ++ st) g gs)
  where
    ls : List Symbol
    ls = left s 1 ++ st

    rest : List Token
    rest = pieces_tokens f h loop_pieces (spells f (more v ts)) ++ w

    by : (b : Node) → sizes_of (more b (more v ts)) ≤ n → (is_absent b || is_shaped so.Let b) ≡ true → Maybe so.Let b →
        are_kids (level h.kind h.text) (kid_pieces loop_pieces) (more v ts) ≡ true →
        run f (one_led f (le.Behind si.Semicolon) (spells f (more b (more v ts))) ++ rest) (part ru.ForHead ∷ ls)
        (state true (start_of f) h [] ∷ g ∷ gs) ≡
        run f rest ((of expr ∷ rest_of 5 ki.For) ++ ls) (state true (start_of f) h (plain f b ∷ []) ∷ g ∷ gs)
    by b y m (lacks o) k =
        let kv = split (is_shaped expr v) (are_kids (level h.kind h.text) (pi.Led si.Semicolon expr ∷ pi.Kid expr ∷ []) ts) k in
        let zv : size_of v ≤ n = omega (arith, y) in
        let q = begins f n ih expr v zv refl kv.0 in
        let us = pieces_tokens f h (pi.Led si.Semicolon expr ∷ pi.Fixed si.RightParen ∷ pi.Kid expr ∷ []) (spells f ts) in
        rw (absent_kind b o, absent_spell f b o, absent_plain f b o)
        (run_led f expr ru.ForHead (ch.Absent ∷ []) (rest_of 5 ki.For) rest q.head (((q.tail ++ []) ++ us) ++ w) q.changes q.symbols ls
        (state true (start_of f) h [] ∷ g ∷ gs) (ap (λ c. ((c ++ []) ++ us) ++ w) q.is) q.uses
        (for_head (class_of q.head) q.changes q.symbols q.uses))
    by (branch hb us) y m (has o) k =
        let zb : sizes_of us ≤ n = omega (arith, y) in
        rw (
          let_stands f hb us (more v ts) o,
          append-nil (spell f (branch hb us) ++ sign_token f si.Semicolon ∷ []),
          append_assoc
              (spell f (branch hb us)) (sign_token f si.Semicolon ∷ []) rest,
        )
        (let_in_head f n ih hb us zb o rest ls (state true (start_of f) h []) (g ∷ gs))

pub for_each_reads : (f n : ℕ) → ReadsTo f n → (s : Sort) (h : Head) (ts : Nodes) → sizes_of ts ≤ n → h.kind ≡ ki.ForEach →
    tops s 1 ≡ true → Whole s h ts → (w : List Token) (st : List Symbol) (g : Group) (gs : List Group) → Edge s (front w) (branch h ts) →
    Claim f s h ts w st g gs
unfolding spell is_shaped stops
for_each_reads f n ih s h none z i t p w st g gs x = let k = kids_at s h none ki.ForEach i p in cc
for_each_reads f n ih s h (more (branch hb us) ts) z i t p w st g gs x =
    let b = branch hb us in
    let a : form_of h.kind ≡ form_of ki.ForEach = ap form_of i in
    let lv : level h.kind h.text ≡ 1 = ap (λ y. level y h.text) i in
    let own : is_own ow.Label h ≡ true = own_at s h (more b ts) ki.ForEach i p in
    let k = split (is_shaped so.Binding b) (are_kids (level h.kind h.text) (kid_pieces each_pieces) ts)
    (kids_at s h (more b ts) ki.ForEach i p) in
    let quiet : pull (front w) ≤ 0 = edge_pull s (front w) h (more b ts) 1 lv t x in
    let fs : (d : Sign) → front w ≡ cl.Sign d → form_stops d h (stops d b) each_pieces (stops_each d ts) ≡ true =
    λ d j. subst (λ y. form_stops d h true y (stops_each d (more b ts)) ≡ true) a (x.stops_at d j) in
    let vs = pieces_tokens f h each_pieces (spells f ts) in
    let head = spell f b in
    rw (
      a,
      lv,
      append-nil (spell f b),
      append_assoc (label_tokens f h.text) (sign_token f si.LeftParen ∷ (head ++ vs)) w,
      append_assoc head
          vs w,
    )
    (run_uses f (sign_token f si.For) (label_tokens f h.text ++ (sign_token f si.LeftParen ∷ (head ++ (vs ++ w)))) (ru.Of s) st (g ∷ gs)
    (ch.Open ∷ []) (part (ru.Own ow.Label) ∷ sy.Want si.LeftParen ∷ part ru.ForHead ∷ left s 1)
    (expr_row s (cl.Sign si.For) 1 refl refl t)
    ∙ read_label f (start_of f) h [] (sign_token f si.LeftParen ∷ (head ++ (vs ++ w)))
    (sy.Want si.LeftParen ∷ part ru.ForHead ∷ (left s 1 ++ st)) (g ∷ gs) own refl
    ∙ run_want f (sign_token f si.LeftParen) (head ++ (vs ++ w)) si.LeftParen (part ru.ForHead ∷ (left s 1 ++ st))
    (state true (start_of f) h [] ∷ g ∷ gs) (class_sign f si.LeftParen)
    ∙ binding_in_head f hb us k.0 (vs ++ w) (left s 1 ++ st) (state true (start_of f) h []) (g ∷ gs)
    ∙ read_pieces f n ih h (level h.kind h.text) each_pieces true ts (omega arith) k.1 (ends_at s h (more b ts) ki.ForEach i p) tt refl w
    (sy.Close ki.ForEach ∷ (left s 1 ++ st)) (start_of f) (plain f b ∷ []) (g ∷ gs) (λ d. stops d b) fs
    (refl, refl, (refl, at_of expr (front w) quiet refl, tt))
    ∙ closed f h ki.ForEach true (more b ts) i (λ y. cc) w (left s 1 ++ st) g gs)
