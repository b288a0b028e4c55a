-- Kinds that a token behind the first decides: blocks, values in parentheses, indices and slices.
use Rattle.std.proofs.Common.{◌≡◌, ℕ, ◌≤◌, List, [], ◌∷◌, ◌++◌, true, false, ◌&&◌, ◌||◌, refl, ap, sym, ◌∙◌, subst, arith, append_assoc}
use Rattle.std.specs.Prelude.{nat_le}
use Rattle.std.proofs.lemmas.List.{append-nil}
use Rattle.hare_tree.specs.declared.kind.Kind.{Kind}
use Rattle.hare_tree.specs.declared.kind.Kind.TheVariants as ki
use Rattle.hare_tree.specs.declared.token.TokenKind.TheVariants as tk
use Rattle.hare_tree.specs.declared.token.Token.{Token}
use Rattle.hare_tree.specs.declared.form.Sign.{Sign}
use Rattle.hare_tree.specs.declared.form.Sign.TheVariants as si
use Rattle.hare_tree.specs.declared.form.Own.TheVariants as ow
use Rattle.hare_tree.specs.declared.form.Sort.{Sort}
use Rattle.hare_tree.specs.declared.form.Sort.TheVariants as so
use Rattle.hare_tree.specs.declared.form.Lead.TheVariants as le
use Rattle.hare_tree.specs.declared.form.Piece.{Piece}
use Rattle.hare_tree.specs.declared.form.Piece.TheVariants as pi
use Rattle.hare_tree.specs.Node.{Head, Node, Nodes, branch, none, more, size_of, sizes_of}
use Rattle.hare_tree.specs.Forms.{form_of, expr, postfix}
use Rattle.hare_tree.specs.Levels.{is_name, level}
use Rattle.hare_tree.specs.Spell.{start_of, word_token, sign_token, label_tokens, all_led, pieces_tokens, spell, spells}
use Rattle.hare_tree.specs.Shape.{is_shaped, are_kids, is_own, is_empty, has_text_alone, is_absent, kid_pieces, own_of, kids_end, edges, stops, stops_each, form_stops, ends_before, behind_item, items_end}
use Rattle.hare_automaton.specs.declared.class.Class.{Class}
use Rattle.hare_automaton.specs.declared.class.Class.TheVariants as cl
use Rattle.hare_automaton.specs.declared.rule.Rule.TheVariants as ru
use Rattle.hare_automaton.specs.declared.rule.Symbol.{Symbol}
use Rattle.hare_automaton.specs.declared.rule.Symbol.TheVariants as sy
use Rattle.hare_automaton.specs.declared.rule.Change.{Change}
use Rattle.hare_automaton.specs.declared.rule.Change.TheVariants as ch
use Rattle.hare_automaton.specs.Classes.{class_of}
use Rattle.hare_automaton.specs.Rows.{Uses, of, part, before, rest_of}
use Rattle.hare_automaton.specs.DeclarationRows.{of_row}
use Rattle.hare_automaton.specs.Table.{row}
use Rattle.hare_automaton.specs.Engine.{Group, begun, add, run}
use Rattle.hare_automaton.specs.OneTree.{plain, is_sort as covered}
use Rattle.hare_automaton.proofs.Machine.Steps.{front, run_uses, run_close, run_want, run_groups}
use Rattle.hare_automaton.proofs.Machine.Tokens.{class_sign}
use Rattle.hare_automaton.proofs.Spelled.Paths.{split}
use Rattle.hare_automaton.proofs.Spelled.Lists.{run_before}
use Rattle.hare_automaton.proofs.Machine.Edges.{Edge, pull, le_true, true_le, stops_calm, edge, bound, closed_by, left, ReadsTo, read_kid}
use Rattle.hare_automaton.proofs.Spelled.Kids.{begins, absent_spell, absent_plain}
use Rattle.hare_automaton.proofs.Spelled.Items.{same_sign}
use Rattle.hare_automaton.proofs.Spelled.Forms.{state, at, Maybe, lacks, has, maybe, read_name}
use Rattle.hare_automaton.proofs.Spelled.Read.{read_pieces}
use Rattle.hare_automaton.proofs.Spelled.Nodes.{Whole, Claim, closed, tops, expr_row}
use Rattle.hare_automaton.proofs.Spelled.Operators.{is_expr, least, level_at, left_climb, tops_least, operand_level, operand_reads, over_last, tight_high, arguments_close}
use Rattle.hare_automaton.proofs.Spelled.Leaves.{read_some}

-- ---- what a shaped tree of a kind says

pub kids_at : (s : Sort) (h : Head) (ts : Nodes) (k : Kind) → h.kind ≡ k → Whole s h ts →
    are_kids (level h.kind h.text) (kid_pieces (form_of k)) ts ≡ true
kids_at s h ts k i p = subst (λ y. are_kids (level h.kind h.text) (kid_pieces (form_of y)) ts ≡ true) i p.kids

pub own_at : (s : Sort) (h : Head) (ts : Nodes) (k : Kind) → h.kind ≡ k → Whole s h ts → is_own (own_of (form_of k)) h ≡ true
own_at s h ts k i p = subst (λ y. is_own (own_of (form_of y)) h ≡ true) i p.own

pub ends_at : (s : Sort) (h : Head) (ts : Nodes) (k : Kind) → h.kind ≡ k → Whole s h ts → kids_end (form_of k) (edges ts) ≡ true
ends_at s h ts k i p = subst (λ y. kids_end (form_of y) (edges ts) ≡ true) i p.ends

-- a tree before a sign at which it ends
pub before_sign : (f n : ℕ) → ReadsTo f n → (s : Sort) (d : Sign) (t : Node) → size_of t ≤ n → covered s ≡ true → is_shaped s t ≡ true →
    at s (cl.Sign d) ≡ true → stops d t ≡ true → (w : List Token) (st : List Symbol) (g : Group) (gs : List Group) →
    run f (spell f t ++ (sign_token f d ∷ w)) (of s ∷ st) (g ∷ gs) ≡ run f (sign_token f d ∷ w) st (add (plain f t) (g ∷ gs))
before_sign f n ih s d t z c h a k w st g gs =
    let p = split (nat_le (pull (cl.Sign d)) (bound s)) (closed_by s (cl.Sign d)) a in
    let q : pull (class_of (sign_token f d)) ≤ bound s = rw (class_sign f d) (true_le (pull (cl.Sign d)) (bound s) p.0) in
    let o : closed_by s (class_of (sign_token f d)) ≡ true = rw (class_sign f d) p.1 in
    read_kid f n ih s t z c h (sign_token f d ∷ w) st g gs q (λ y i. rw (← same_sign d y (sym (class_sign f d) ∙ i)) k) o

-- ---- blocks

abbrev block_pieces : List Piece
block_pieces = pi.EachFollowed so.Statement si.Semicolon ∷ pi.Fixed si.RightBrace ∷ []

pub block_reads : (f n : ℕ) → ReadsTo f n → (s : Sort) (h : Head) (ts : Nodes) → sizes_of ts ≤ n → h.kind ≡ ki.Block → tops s 16 ≡ true →
    Whole s h ts → (w : List Token) (st : List Symbol) (g : Group) (gs : List Group) → Edge s (front w) (branch h ts) →
    Claim f s h ts w st g gs
unfolding spell stops
block_reads f n ih s h ts z i t p w st g gs x =
    let a : form_of h.kind ≡ form_of ki.Block = ap form_of i in
    let lv : level h.kind h.text ≡ 16 = ap (λ v. level v h.text) i in
    let own = split (is_empty h.text || is_name false h.text) (has_text_alone h) (own_at s h ts ki.Block i p) in
    rw (a, lv, append_assoc (label_tokens f h.text) (sign_token f si.LeftBrace ∷ pieces_tokens f h block_pieces (spells f ts)) w)
    (by h.text refl own.0 own.1)
  where
    u : List Token
    u = pieces_tokens f h block_pieces (spells f ts) ++ w

    stopped : (d : Sign) → front w ≡ cl.Sign d → form_stops d h true block_pieces (stops_each d ts) ≡ true
    stopped d j = refl

    by : (y : List ℕ) → h.text ≡ y → (is_empty y || is_name false y) ≡ true → has_text_alone h ≡ true →
        run f (label_tokens f y ++ (sign_token f si.LeftBrace ∷ u)) (of s ∷ st) (g ∷ gs) ≡
        run f w (left s 16 ++ st) (add (plain f (branch h ts)) (g ∷ gs))
    by [] j e e' =
        run_uses f (sign_token f si.LeftBrace) u (ru.Of s) st (g ∷ gs) (ch.Open ∷ []) (rest_of 2 ki.Block ++ left s 16)
        (expr_row s (cl.Sign si.LeftBrace) 16 refl refl t)
        ∙ read_pieces f n ih h (level h.kind h.text) block_pieces false ts z (kids_at s h ts ki.Block i p) (ends_at s h ts ki.Block i p) tt
        refl w (sy.Close ki.Block ∷ (left s 16 ++ st)) (start_of f) [] (g ∷ gs) (λ y. true) stopped refl
        ∙ closed f h ki.Block false ts i (λ y. rw (j, e') refl) w (left s 16 ++ st) g gs
    by (c ∷ y) j e e' =
        let o : is_own ow.Name h ≡ true = rw (j, e, e') refl in
        run_uses f (sign_token f si.Colon) (word_token f tk.Name (c ∷ y) ∷ (sign_token f si.LeftBrace ∷ u)) (ru.Of s) st (g ∷ gs)
        (ch.Open ∷ []) ((part (ru.Own ow.Name) ∷ rest_of 1 ki.Block) ++ left s 16) (expr_row s (cl.Sign si.Colon) 16 refl refl t)
        ∙ (rw (← j) (read_name f false (start_of f) h [] (sign_token f si.LeftBrace ∷ u) (rest_of 1 ki.Block ++ (left s 16 ++ st)) (g ∷ gs)
        o))
        ∙ run_want f (sign_token f si.LeftBrace) u si.LeftBrace (rest_of 2 ki.Block ++ (left s 16 ++ st))
        (state true (start_of f) h [] ∷ g ∷ gs) (class_sign f si.LeftBrace)
        ∙ read_pieces f n ih h (level h.kind h.text) block_pieces true ts z (kids_at s h ts ki.Block i p) (ends_at s h ts ki.Block i p) tt
        refl w (sy.Close ki.Block ∷ (left s 16 ++ st)) (start_of f) [] (g ∷ gs) (λ y. true) stopped refl
        ∙ closed f h ki.Block true ts i (λ y. cc) w (left s 16 ++ st) g gs

-- ---- values in parentheses

pub paren_reads : (f n : ℕ) → ReadsTo f n → (s : Sort) (h : Head) (ts : Nodes) → sizes_of ts ≤ n → h.kind ≡ ki.Paren → tops s 16 ≡ true →
    Whole s h ts → (w : List Token) (st : List Symbol) (g : Group) (gs : List Group) → Claim f s h ts w st g gs
unfolding spell is_shaped
paren_reads f n ih s h none z i t p w st g gs = let k = kids_at s h none ki.Paren i p in cc
paren_reads f n ih s h (more u (more v vs)) z i t p w st g gs =
    let k = split (is_shaped expr u) false (kids_at s h (more u (more v vs)) ki.Paren i p) in cc
paren_reads f n ih s h (more u none) z i t p w st g gs =
    let a : form_of h.kind ≡ form_of ki.Paren = ap form_of i in
    let lv : level h.kind h.text ≡ 16 = ap (λ v. level v h.text) i in
    let own : is_own ow.Nothing h ≡ true = own_at s h (more u none) ki.Paren i p in
    let k = split (is_shaped expr u) true (kids_at s h (more u none) ki.Paren i p) in
    rw (a, lv, append-nil (spell f u), append_assoc (spell f u) (sign_token f si.RightParen ∷ []) w)
    (run_uses f (sign_token f si.LeftParen) (spell f u ++ (sign_token f si.RightParen ∷ w)) (ru.Of s) st (g ∷ gs) (ch.Open ∷ [])
    ((of expr ∷ part ru.AfterValue ∷ []) ++ left s 16) (expr_row s (cl.Sign si.LeftParen) 16 refl refl t)
    ∙ before_sign f n ih expr si.RightParen u (omega arith) refl k.0 refl (stops_calm si.RightParen refl refl u) w
    (part ru.AfterValue ∷ (left s 16 ++ st)) (begun (start_of f) []) (g ∷ gs)
    ∙ run_uses f (sign_token f si.RightParen) w ru.AfterValue (left s 16 ++ st) (begun (start_of f) (plain f u ∷ []) ∷ g ∷ gs)
    (ch.Close ki.Paren ∷ []) [] refl
    ∙ sym (run_close f w ki.Paren (left s 16 ++ st) (begun (start_of f) (plain f u ∷ []) ∷ g ∷ gs))
    ∙ closed f h ki.Paren false (more u none) i (λ e. own) w (left s 16 ++ st) g gs)

pub tuple_reads : (f n : ℕ) → ReadsTo f n → (s : Sort) (h : Head) (ts : Nodes) → sizes_of ts ≤ n → h.kind ≡ ki.Tuple → tops s 16 ≡ true →
    Whole s h ts → (w : List Token) (st : List Symbol) (g : Group) (gs : List Group) → Claim f s h ts w st g gs
unfolding spell is_shaped
tuple_reads f n ih s h none z i t p w st g gs = let k = kids_at s h none ki.Tuple i p in cc
tuple_reads f n ih s h (more u none) z i t p w st g gs =
    let k = split (is_shaped expr u) false (kids_at s h (more u none) ki.Tuple i p) in cc
tuple_reads f n ih s h (more u (more v vs)) z i t p w st g gs =
    let a : form_of h.kind ≡ form_of ki.Tuple = ap form_of i in
    let lv : level h.kind h.text ≡ 16 = ap (λ y. level y h.text) i in
    let own : is_own ow.Nothing h ≡ true = own_at s h (more u (more v vs)) ki.Tuple i p in
    let m = level h.kind h.text in
    let k = split (is_shaped expr u) (is_shaped expr v && are_kids m (pi.More expr ∷ []) vs)
    (kids_at s h (more u (more v vs)) ki.Tuple i p) in
    let k' = split (is_shaped expr v) (are_kids m (pi.More expr ∷ []) vs) k.1 in
    let e = split (stops si.Comma u) (ends_before (behind_item (edges vs)) (edge v) && items_end (edges vs))
    (ends_at s h (more u (more v vs)) ki.Tuple i p) in
    let e' = split (ends_before (behind_item (edges vs)) (edge v)) (items_end (edges vs)) e.1 in
    let y = all_led f (le.Before si.Comma) (spells f vs) in
    let zu : size_of u ≤ n = omega arith in
    let zv : size_of v ≤ n = omega arith in
    let zs : sizes_of vs ≤ n = omega arith in
    let tail = spell f v ++ (y ++ (sign_token f si.RightParen ∷ w)) in
    rw (
      a,
      lv,
      append-nil (spell f u),
      append-nil (spell f v),
      append_assoc (spell f u)
          (sign_token f si.Comma ∷ (spell f v ++ (y ++ sign_token f si.RightParen ∷ []))) w,
      append_assoc (spell f v)
          (y ++ sign_token f si.RightParen ∷ []) w,
      append_assoc y (sign_token f si.RightParen ∷ []) w,
    )
    (run_uses f (sign_token f si.LeftParen) (spell f u ++ (sign_token f si.Comma ∷ tail)) (ru.Of s) st (g ∷ gs) (ch.Open ∷ [])
    ((of expr ∷ part ru.AfterValue ∷ []) ++ left s 16) (expr_row s (cl.Sign si.LeftParen) 16 refl refl t)
    ∙ before_sign f n ih expr si.Comma u zu refl k.0 refl e.0 tail (part ru.AfterValue ∷ (left s 16 ++ st)) (begun (start_of f) []) (g ∷ gs)
    ∙ run_uses f (sign_token f si.Comma) tail ru.AfterValue (left s 16 ++ st) (begun (start_of f) (plain f u ∷ []) ∷ g ∷ gs) []
    (rest_of 3 ki.Tuple) refl
    ∙ read_some f n ih expr si.RightParen m arguments_close v vs
    (record { small = zv; others_small = zs; shaped = k'.0; others = k'.1; ends = e'.0; others_end = e'.1 })
    (sign_token f si.RightParen ∷ w) (sy.Want si.RightParen ∷ sy.Close ki.Tuple ∷ (left s 16 ++ st)) (begun (start_of f) (plain f u ∷ []))
    (g ∷ gs) (class_sign f si.RightParen)
    ∙ run_want f (sign_token f si.RightParen) w si.RightParen (sy.Close ki.Tuple ∷ (left s 16 ++ st)) _ (class_sign f si.RightParen)
    ∙ closed f h ki.Tuple false (more u (more v vs)) i (λ y. own) w (left s 16 ++ st) g gs)

-- ---- indices and slices

in_index : (c : Class) (cs : List Change) (ss : List Symbol) → of_row expr c ≡ Uses cs ss →
    row ru.InIndex c ≡ before (of_row expr c) (part ru.AfterIndex ∷ [])
in_index (cl.Sign si.DotDot) cs ss e = cc
in_index (cl.Sign _) cs ss e = refl
in_index _ cs ss e = refl

-- an operand and the bracket behind it
open_bracket : (f n : ℕ) → ReadsTo f n → (s : Sort) (t : Node) → size_of t ≤ n → is_expr s ≡ true → tops s 15 ≡ true →
    is_shaped postfix t ≡ true → (w : List Token) (st : List Symbol) (g : Group) (gs : List Group) →
    run f (spell f t ++ (sign_token f si.LeftBracket ∷ w)) (of s ∷ st) (g ∷ gs) ≡
    run f w (part ru.InIndex ∷ part (ru.Climb (least s) 15) ∷ st) (begun (start_of f) (plain f t ∷ []) ∷ g ∷ gs)
open_bracket f n ih s t z c l k w st g gs =
    let v = operand_level 15 t k in
    let q : 15 ≤ level_at t = v in
    let r : row (ru.Climb (least s) (level_at t)) (cl.Sign si.LeftBracket) ≡
    Uses (ch.Over ∷ []) (part ru.InIndex ∷ part (ru.Climb (least s) 15) ∷ []) =
    rw (tops_least s 15 l, le_true 15 (level_at t) v) refl in
    operand_reads f n ih s 15 15 t (record { small = z; expression = c; top = l; within = omega arith; shaped = k })
    (sign_token f si.LeftBracket ∷ w) st g gs (omega arith) (tight_high 15 (level_at t) v q)
    ∙ run_uses f (sign_token f si.LeftBracket) w (ru.Climb (least s) (level_at t)) st (add (plain f t) (g ∷ gs)) (ch.Over ∷ [])
    (part ru.InIndex ∷ part (ru.Climb (least s) 15) ∷ []) r
    ∙ run_groups f w (part ru.InIndex ∷ part (ru.Climb (least s) 15) ∷ st) _ _ (over_last (start_of f) (plain f t) g gs)

-- a value in brackets
first_index : (f n : ℕ) → ReadsTo f n → (d : Sign) (u : Node) → size_of u ≤ n → is_shaped expr u ≡ true → at expr (cl.Sign d) ≡ true →
    stops d u ≡ true → (w : List Token) (st : List Symbol) (g : Group) (gs : List Group) →
    run f (spell f u ++ (sign_token f d ∷ w)) (part ru.InIndex ∷ st) (g ∷ gs) ≡
    run f (sign_token f d ∷ w) (part ru.AfterIndex ∷ st) (add (plain f u) (g ∷ gs))
first_index f n ih d u z k a e w st g gs =
    let b = begins f n ih expr u z refl k in
    run_before f expr ru.InIndex (part ru.AfterIndex ∷ []) (spell f u) (sign_token f d ∷ w) st (g ∷ gs) b
    (in_index (class_of b.head) b.changes b.symbols b.uses)
    ∙ before_sign f n ih expr d u z refl k a e w (part ru.AfterIndex ∷ st) g gs

pub index_reads : (f n : ℕ) → ReadsTo f n → (s : Sort) (h : Head) (ts : Nodes) → sizes_of ts ≤ n → is_expr s ≡ true → h.kind ≡ ki.Index →
    tops s 15 ≡ true → Whole s h ts → (w : List Token) (st : List Symbol) (g : Group) (gs : List Group) → Claim f s h ts w st g gs
unfolding spell is_shaped
index_reads f n ih s h none z c i l p w st g gs = let k = kids_at s h none ki.Index i p in cc
index_reads f n ih s h (more t none) z c i l p w st g gs =
    let k = split (is_shaped postfix t) false (kids_at s h (more t none) ki.Index i p) in cc
index_reads f n ih s h (more t (more u (more v vs))) z c i l p w st g gs =
    let k = split (is_shaped postfix t) (is_shaped expr u && false) (kids_at s h (more t (more u (more v vs))) ki.Index i p) in
    let k' = split (is_shaped expr u) false k.1 in
    cc
index_reads f n ih s h (more t (more u none)) z c i l p w st g gs =
    let a : form_of h.kind ≡ form_of ki.Index = ap form_of i in
    let lv : level h.kind h.text ≡ 15 = ap (λ y. level y h.text) i in
    let own : is_own ow.Nothing h ≡ true = own_at s h (more t (more u none)) ki.Index i p in
    let k = split (is_shaped postfix t) (is_shaped expr u && true) (kids_at s h (more t (more u none)) ki.Index i p) in
    let k' = split (is_shaped expr u) true k.1 in
    let ls = part (ru.Climb (least s) 15) ∷ st in
    let zt : size_of t ≤ n = omega arith in
    let zu : size_of u ≤ n = omega arith in
    rw (
      a,
      lv,
      left_climb s 15 l,
      append-nil (spell f t),
      append-nil (spell f u),
      append_assoc (spell f t)
          (sign_token f si.LeftBracket ∷ (spell f u ++ sign_token f si.RightBracket ∷ [])) w,
      append_assoc (spell f u)
          (sign_token f si.RightBracket ∷ []) w,
    )
    (open_bracket f n ih s t zt c l k.0 (spell f u ++ (sign_token f si.RightBracket ∷ w)) st g gs
    ∙ first_index f n ih si.RightBracket u zu k'.0 refl (stops_calm si.RightBracket refl refl u) w ls (begun (start_of f) (plain f t ∷ []))
    (g ∷ gs)
    ∙ run_uses f (sign_token f si.RightBracket) w ru.AfterIndex ls (begun (start_of f) (plain f t ∷ plain f u ∷ []) ∷ g ∷ gs)
    (ch.Close ki.Index ∷ []) [] refl
    ∙ sym (run_close f w ki.Index ls (begun (start_of f) (plain f t ∷ plain f u ∷ []) ∷ g ∷ gs))
    ∙ closed f h ki.Index false (more t (more u none)) i (λ e. own) w ls g gs)

abbrev slice_pieces : List Piece
slice_pieces = pi.Optional expr ∷ pi.Fixed si.RightBracket ∷ []

pub slice_reads : (f n : ℕ) → ReadsTo f n → (s : Sort) (h : Head) (ts : Nodes) → sizes_of ts ≤ n → is_expr s ≡ true → h.kind ≡ ki.Slice →
    tops s 15 ≡ true → Whole s h ts → (w : List Token) (st : List Symbol) (g : Group) (gs : List Group) → Claim f s h ts w st g gs
unfolding spell is_shaped stops
slice_reads f n ih s h none z c i l p w st g gs = let k = kids_at s h none ki.Slice i p in cc
slice_reads f n ih s h (more t none) z c i l p w st g gs =
    let k = split (is_shaped postfix t) false (kids_at s h (more t none) ki.Slice i p) in cc
slice_reads f n ih s h (more t (more u us)) z c i l p w st g gs =
    let a : form_of h.kind ≡ form_of ki.Slice = ap form_of i in
    let lv : level h.kind h.text ≡ 15 = ap (λ y. level y h.text) i in
    let k = split (is_shaped postfix t) ((is_absent u || is_shaped expr u) && are_kids (level h.kind h.text) (pi.Optional expr ∷ []) us)
    (kids_at s h (more t (more u us)) ki.Slice i p) in
    let k' = split (is_absent u || is_shaped expr u) (are_kids (level h.kind h.text) (pi.Optional expr ∷ []) us) k.1 in
    let zt : size_of t ≤ n = omega arith in
    rw (
      a,
      lv,
      left_climb s 15 l,
      append-nil (spell f t),
      append-nil (spell f u),
      append_assoc (spell f t)
          (sign_token f si.LeftBracket ∷ (spell f u ++ sign_token f si.DotDot ∷ pieces_tokens f h slice_pieces (spells f us))) w,
      append_assoc
          (spell f u) (sign_token f si.DotDot ∷ pieces_tokens f h slice_pieces (spells f us)) w,
    )
    (open_bracket f n ih s t zt c l k.0 (spell f u ++ (sign_token f si.DotDot ∷ v)) st g gs
    ∙ by (maybe expr u k'.0)
    ∙ read_pieces f n ih h (level h.kind h.text) slice_pieces false us (omega arith) k'.1 (ends_at s h (more t (more u us)) ki.Slice i p) tt
    refl w (sy.Close ki.Slice ∷ ls) (start_of f) (plain f t ∷ plain f u ∷ []) (g ∷ gs) (λ y. true) (stopped us)
    (refl, tt, refl, refl, tt)
    ∙ closed f h ki.Slice false (more t (more u us)) i (λ e. own_at s h (more t (more u us)) ki.Slice i p) w ls g gs)
  where
    v : List Token
    v = pieces_tokens f h slice_pieces (spells f us) ++ w

    ls : List Symbol
    ls = part (ru.Climb (least s) 15) ∷ st

    stopped : (us : Nodes) (d : Sign) → front w ≡ cl.Sign d → form_stops d h true slice_pieces (stops_each d us) ≡ true
    stopped none d j = refl
    stopped (more b bs) d j = refl

    by : Maybe expr u → run f (spell f u ++ (sign_token f si.DotDot ∷ v)) (part ru.InIndex ∷ ls)
        (begun (start_of f) (plain f t ∷ []) ∷ g ∷ gs) ≡
        run f v (rest_of 4 ki.Slice ++ ls) (begun (start_of f) (plain f t ∷ plain f u ∷ []) ∷ g ∷ gs)
    by (lacks e) = rw (absent_spell f u e, absent_plain f u e)
        (run_uses f (sign_token f si.DotDot) v ru.InIndex ls (begun (start_of f) (plain f t ∷ []) ∷ g ∷ gs) (ch.Absent ∷ [])
        (rest_of 4 ki.Slice) refl)
    by (has e) =
        let zu : size_of u ≤ n = omega arith in
        first_index f n ih si.DotDot u zu e refl (stops_calm si.DotDot refl refl u) v ls (begun (start_of f) (plain f t ∷ [])) (g ∷ gs)
        ∙ run_uses f (sign_token f si.DotDot) v ru.AfterIndex ls (begun (start_of f) (plain f t ∷ plain f u ∷ []) ∷ g ∷ gs) []
        (rest_of 4 ki.Slice) refl
