-- Expressions of one token, paths and struct literals, and the parts of statements that are one token or begin with a name.
use Rattle.std.proofs.Common.{◌≡◌, ℕ, ◌≤◌, List, [], ◌∷◌, ◌++◌, true, false, ◌&&◌, codes, refl, ap, sym, ◌∙◌, subst, arith, append_assoc, ◌⊎◌, inl, inr}
use Rattle.std.proofs.lemmas.List.{append-nil}
use Rattle.hare_tree.specs.declared.kind.Kind.{Kind}
use Rattle.hare_tree.specs.declared.kind.Kind.TheVariants as ki
use Rattle.hare_tree.specs.declared.token.TokenKind.TheVariants as tk
use Rattle.hare_tree.specs.declared.token.Token.{Token}
use Rattle.hare_tree.specs.declared.form.Sign.{Sign}
use Rattle.hare_tree.specs.declared.form.Sign.TheVariants as si
use Rattle.hare_tree.specs.declared.form.Own.{Own}
use Rattle.hare_tree.specs.declared.form.Own.TheVariants as ow
use Rattle.hare_tree.specs.declared.form.Sort.{Sort}
use Rattle.hare_tree.specs.declared.form.Sort.TheVariants as so
use Rattle.hare_tree.specs.declared.form.Piece.{Piece}
use Rattle.hare_tree.specs.declared.form.Piece.TheVariants as pi
use Rattle.hare_tree.specs.declared.form.Lead.TheVariants as le
use Rattle.hare_tree.specs.Node.{Head, Node, Nodes, branch, none, more, size_of, sizes_of}
use Rattle.hare_tree.specs.Words.{is_listed}
use Rattle.hare_tree.specs.Forms.{form_of, expr}
use Rattle.hare_tree.specs.Levels.{is_name, level, admits}
use Rattle.hare_tree.specs.Spell.{start_of, word_token, sign_token, full_token, own_tokens, parts, path_tokens, all_led, pieces_tokens, spell, spells}
use Rattle.hare_tree.specs.Shape.{is_shaped, are_kids, is_own, has_text_alone, are_names, kid_pieces, own_of, kids_end, edges, stops, stops_each, form_stops, ends_before, behind_item, items_end}
use Rattle.hare_automaton.specs.declared.class.Class.{Class}
use Rattle.hare_automaton.specs.declared.class.Class.TheVariants as cl
use Rattle.hare_automaton.specs.declared.rule.Rule.TheVariants as ru
use Rattle.hare_automaton.specs.declared.rule.Symbol.{Symbol}
use Rattle.hare_automaton.specs.declared.rule.Symbol.TheVariants as sy
use Rattle.hare_automaton.specs.declared.rule.Change.TheVariants as ch
use Rattle.hare_automaton.specs.Classes.{class_of, when}
use Rattle.hare_automaton.specs.Rows.{Skips, Uses, of, part, before, rest_of, leaf, names}
use Rattle.hare_automaton.specs.Table.{row}
use Rattle.hare_automaton.specs.Engine.{Group, begun, with_kids, add, run}
use Rattle.hare_automaton.specs.ExpressionRows.{start_row}
use Rattle.hare_automaton.specs.OneTree.{plain, plain_head}
use Rattle.hare_automaton.proofs.Machine.Steps.{front, run_uses, run_changes, run_want, run_groups}
use Rattle.hare_automaton.proofs.Machine.Tokens.{class_sign, class_name, class_path_name, class_number, of_listed}
use Rattle.hare_automaton.proofs.Spelled.Paths.{split, further, further_tokens, path_split, joined_by, texted, parts_some}
use Rattle.hare_automaton.proofs.Spelled.Lists.{filled, fill_more, nothing_head, text_head, run_group}
use Rattle.hare_automaton.proofs.Machine.Edges.{Edge, pull, edge, left, ReadsTo, read_kid}
use Rattle.hare_automaton.proofs.Spelled.Items.{Closer, item_pull, item_stops, read_more}
use Rattle.hare_automaton.proofs.Spelled.Forms.{taken}
use Rattle.hare_automaton.proofs.Spelled.Read.{read_pieces}
use Rattle.hare_automaton.proofs.Spelled.Nodes.{Whole, whole, Claim, closed, tops, expr_row}
use Rattle.hare_automaton.proofs.Spelled.Openers.{at_of, edge_pull}

-- ---- leaves

pub no_kids : (m : ℕ) (ts : Nodes) → are_kids m [] ts ≡ true → ts ≡ none
unfolding is_shaped
no_kids m none e = refl
no_kids m (more t ts) e = cc

-- a tree of one token: of these words, and read as this head
pub leaf_reads : (f : ℕ) (s : Sort) (k : Kind) (o : Own) (x : Token) (y : Head) (h : Head) (ts : Nodes) → h.kind ≡ k →
    form_of k ≡ pi.Own o ∷ [] → own_tokens f h o ≡ x ∷ [] → row (ru.Of s) (class_of x) ≡ Uses (ch.Leaf k ∷ []) (left s (level k h.text)) →
    plain_head f h ≡ record { kind = k; place = x.place; text = x.text; number = x.number; suffix = x.suffix } → Whole s h ts →
    (w : List Token) (st : List Symbol) (g : Group) (gs : List Group) → Claim f s h ts w st g gs
unfolding spell
leaf_reads f s k o x y h ts i q u r e p w st g gs =
    let a : form_of h.kind ≡ pi.Own o ∷ [] = ap form_of i ∙ q in
    let n : ts ≡ none = no_kids (level h.kind h.text) ts (subst (λ v. are_kids (level h.kind h.text) (kid_pieces v) ts ≡ true) a p.kids) in
    let lv : level h.kind h.text ≡ level k h.text = ap (λ v. level v h.text) i in
    rw (a, u, lv, n)
    (run_uses f x w (ru.Of s) st (g ∷ gs) (ch.Leaf k ∷ []) (left s (level k h.text)) r
    ∙ ap (λ v. run f w (left s (level k h.text) ++ st) (add (branch v none) (g ∷ gs))) (sym e))

-- a tree of one sign
pub mark_reads : (f : ℕ) (s : Sort) (k : Kind) (d : Sign) (h : Head) (ts : Nodes) → h.kind ≡ k → form_of k ≡ pi.Fixed d ∷ [] →
    row (ru.Of s) (cl.Sign d) ≡ Uses (ch.Mark k ∷ []) (left s (level k h.text)) → Whole s h ts →
    (w : List Token) (st : List Symbol) (g : Group) (gs : List Group) → Claim f s h ts w st g gs
unfolding spell
mark_reads f s k d h ts i q r p w st g gs =
    let a : form_of h.kind ≡ pi.Fixed d ∷ [] = ap form_of i ∙ q in
    let n : ts ≡ none = no_kids (level h.kind h.text) ts (subst (λ v. are_kids (level h.kind h.text) (kid_pieces v) ts ≡ true) a p.kids) in
    let own : is_own ow.Nothing h ≡ true = subst (λ v. is_own (own_of v) h ≡ true) a p.own in
    let lv : level h.kind h.text ≡ level k h.text = ap (λ v. level v h.text) i in
    let r' : row (ru.Of s) (class_of (sign_token f d)) ≡ Uses (ch.Mark k ∷ []) (left s (level k h.text)) = rw (class_sign f d) r in
    rw (a, lv, n)
    (run_uses f (sign_token f d) w (ru.Of s) st (g ∷ gs) (ch.Mark k ∷ []) (left s (level k h.text)) r'
    ∙ ap (λ v. run f w (left s (level k h.text) ++ st) (add (branch v none) (g ∷ gs))) (sym (nothing_head f h k i own)))

pub class_rune : (f : ℕ) (h : Head) → is_own ow.Rune h ≡ true → class_of (full_token f tk.RuneLit h) ≡ cl.Rune
class_rune f h e = ap (λ b. when b cl.Rune) e

pub class_text : (f : ℕ) (x : List ℕ) → class_of (word_token f tk.Str x) ≡ cl.Text
class_text f x = refl

abbrev BoolClass : List ℕ → Type 0
BoolClass x = class_of (word_token 0 tk.Keyword x) ≡ cl.Bool

pub class_bool : (x : List ℕ) → is_listed (codes "true" ∷ codes "false" ∷ []) x ≡ true → BoolClass x
class_bool x e = of_listed BoolClass (codes "true" ∷ codes "false" ∷ []) x e (refl, (refl, tt))

own_at : (s : Sort) (h : Head) (ts : Nodes) (k : Kind) → h.kind ≡ k → Whole s h ts → is_own (own_of (form_of k)) h ≡ true
own_at s h ts k i p = subst (λ y. is_own (own_of (form_of y)) h ≡ true) i p.own

full_head : (f : ℕ) (h : Head) (k : Kind) → h.kind ≡ k →
    plain_head f h ≡ record { kind = k; place = start_of f; text = h.text; number = h.number; suffix = h.suffix }
full_head f h k i = rw i refl

-- the row of a leaf
leaf_row : (s : Sort) (k : Kind) (c : Class) (x : List ℕ) → level k x ≡ 16 → row (ru.Of s) c ≡ before (start_row c) (left s 16) →
    start_row c ≡ leaf k → row (ru.Of s) c ≡ Uses (ch.Leaf k ∷ []) (left s (level k x))
leaf_row s k c x v e r = e ∙ ap (λ y. before y (left s 16)) r ∙ ap (λ y. Uses (ch.Leaf k ∷ []) (left s y)) (sym v)

pub number_reads : (f : ℕ) (s : Sort) (h : Head) (ts : Nodes) → h.kind ≡ ki.Number → tops s 16 ≡ true → Whole s h ts →
    (w : List Token) (st : List Symbol) (g : Group) (gs : List Group) → Claim f s h ts w st g gs
number_reads f s h ts i t p w st g gs =
    let own = own_at s h ts ki.Number i p in
    let r : row (ru.Of s) (class_of (full_token f tk.Number h)) ≡ Uses (ch.Leaf ki.Number ∷ []) (left s 16) =
    rw (class_number f h own) (leaf_row s ki.Number cl.Number h.text refl (expr_row s cl.Number 16 refl refl t) refl) in
    leaf_reads f s ki.Number ow.Number (full_token f tk.Number h) h h ts i refl refl r (full_head f h ki.Number i) p w st g gs

pub rune_reads : (f : ℕ) (s : Sort) (h : Head) (ts : Nodes) → h.kind ≡ ki.RuneLit → tops s 16 ≡ true → Whole s h ts →
    (w : List Token) (st : List Symbol) (g : Group) (gs : List Group) → Claim f s h ts w st g gs
rune_reads f s h ts i t p w st g gs =
    let own = own_at s h ts ki.RuneLit i p in
    let r : row (ru.Of s) (class_of (full_token f tk.RuneLit h)) ≡ Uses (ch.Leaf ki.RuneLit ∷ []) (left s 16) =
    rw (class_rune f h own) (leaf_row s ki.RuneLit cl.Rune h.text refl (expr_row s cl.Rune 16 refl refl t) refl) in
    leaf_reads f s ki.RuneLit ow.Rune (full_token f tk.RuneLit h) h h ts i refl refl r (full_head f h ki.RuneLit i) p w st g gs

pub str_reads : (f : ℕ) (s : Sort) (h : Head) (ts : Nodes) → h.kind ≡ ki.Str → tops s 16 ≡ true → Whole s h ts →
    (w : List Token) (st : List Symbol) (g : Group) (gs : List Group) → Claim f s h ts w st g gs
str_reads f s h ts i t p w st g gs =
    let own = own_at s h ts ki.Str i p in
    let r = leaf_row s ki.Str cl.Text h.text refl (expr_row s cl.Text 16 refl refl t) refl in
    leaf_reads f s ki.Str ow.Text (word_token f tk.Str h.text) h h ts i refl refl r (text_head f h ki.Str i own) p w st g gs

pub bool_reads : (f : ℕ) (s : Sort) (h : Head) (ts : Nodes) → h.kind ≡ ki.Bool → tops s 16 ≡ true → Whole s h ts →
    (w : List Token) (st : List Symbol) (g : Group) (gs : List Group) → Claim f s h ts w st g gs
bool_reads f s h ts i t p w st g gs =
    let own = split (is_listed (codes "true" ∷ codes "false" ∷ []) h.text) (has_text_alone h) (own_at s h ts ki.Bool i p) in
    let b : class_of (word_token f tk.Keyword h.text) ≡ cl.Bool = class_bool h.text own.0 in
    let r : row (ru.Of s) (class_of (word_token f tk.Keyword h.text)) ≡ Uses (ch.Leaf ki.Bool ∷ []) (left s 16) =
    subst (λ c. row (ru.Of s) c ≡ Uses (ch.Leaf ki.Bool ∷ []) (left s 16)) (sym b)
    (leaf_row s ki.Bool cl.Bool h.text refl (expr_row s cl.Bool 16 refl refl t) refl) in
    leaf_reads f s ki.Bool ow.Bool (word_token f tk.Keyword h.text) h h ts i refl refl r (text_head f h ki.Bool i own.1) p w st g gs

pub message_reads : (f : ℕ) (h : Head) (ts : Nodes) → h.kind ≡ ki.Message → Whole so.Message h ts →
    (w : List Token) (st : List Symbol) (g : Group) (gs : List Group) → Claim f so.Message h ts w st g gs
message_reads f h ts i p w st g gs = leaf_reads f so.Message ki.Message ow.Text (word_token f tk.Str h.text) h h ts i refl refl refl
    (text_head f h ki.Message i (own_at so.Message h ts ki.Message i p)) p w st g gs

pub null_reads : (f : ℕ) (s : Sort) (h : Head) (ts : Nodes) → h.kind ≡ ki.Null → tops s 16 ≡ true → Whole s h ts →
    (w : List Token) (st : List Symbol) (g : Group) (gs : List Group) → Claim f s h ts w st g gs
null_reads f s h ts i t p w st g gs = mark_reads f s ki.Null si.Null h ts i refl (expr_row s (cl.Sign si.Null) 16 refl refl t) p w st g gs

pub void_reads : (f : ℕ) (s : Sort) (h : Head) (ts : Nodes) → h.kind ≡ ki.Void → tops s 16 ≡ true → Whole s h ts →
    (w : List Token) (st : List Symbol) (g : Group) (gs : List Group) → Claim f s h ts w st g gs
void_reads f s h ts i t p w st g gs = mark_reads f s ki.Void si.Void h ts i refl (expr_row s (cl.Sign si.Void) 16 refl refl t) p w st g gs

-- ---- a text in front of a form of a sort of its own

pub field_value_reads : (f n : ℕ) → ReadsTo f n → (h : Head) (ts : Nodes) → sizes_of ts ≤ n → h.kind ≡ ki.FieldValue →
    Whole so.FieldValue h ts → (w : List Token) (st : List Symbol) (g : Group) (gs : List Group) →
    Edge so.FieldValue (front w) (branch h ts) → Claim f so.FieldValue h ts w st g gs
unfolding spell stops
field_value_reads f n ih h ts z i p w st g gs x =
    let ps : List Piece = pi.Fixed si.Equals ∷ pi.Kid expr ∷ [] in
    let a : form_of h.kind ≡ pi.Own ow.Name ∷ ps = ap form_of i in
    let own = split (is_name false h.text) (has_text_alone h) (own_at so.FieldValue h ts ki.FieldValue i p) in
    let kids : are_kids (level h.kind h.text) (kid_pieces ps) ts ≡ true =
    subst (λ y. are_kids (level h.kind h.text) (kid_pieces y) ts ≡ true) a p.kids in
    let ends : kids_end ps (edges ts) ≡ true = subst (λ y. kids_end y (edges ts) ≡ true) a p.ends in
    let fs : (y : Sign) → front w ≡ cl.Sign y → form_stops y h true ps (stops_each y ts) ≡ true =
    λ y j. subst (λ b. form_stops y h true b (stops_each y ts) ≡ true) a (x.stops_at y j) in
    let r : row (ru.Of so.FieldValue) (class_of (word_token f tk.Name h.text)) ≡ names ki.FieldValue =
    rw (class_name f h.text own.0) refl in
    rw a (run_uses f (word_token f tk.Name h.text) (pieces_tokens f h ps (spells f ts) ++ w) (ru.Of so.FieldValue) st (g ∷ gs)
    (ch.Open ∷ ch.Take ∷ []) (rest_of 1 ki.FieldValue) r
    ∙ run_groups f (pieces_tokens f h ps (spells f ts) ++ w) (rest_of 1 ki.FieldValue ++ st) _ _
    (taken f false (start_of f) h [] (g ∷ gs) own.1 tk.Name)
    ∙ read_pieces f n ih h _ ps true ts z kids ends tt refl w (sy.Close ki.FieldValue ∷ st) (start_of f) [] (g ∷ gs) (λ y. true) fs
    (refl, at_of expr (front w) x.reaches refl, tt)
    ∙ closed f h ki.FieldValue true ts i (λ e. cc) w st g gs)

-- ---- paths

-- the names of a path behind its first, in an expression
read_names : (f : ℕ) (qs : List (List ℕ)) → are_names true qs ≡ true → (w : List Token) (st : List Symbol) (g : Group) (gs : List Group) →
    run f (further_tokens f qs ++ w) (part ru.PathOrStruct ∷ st) (g ∷ gs) ≡
    run f w (part ru.PathOrStruct ∷ st) (joined_by (further qs) g ∷ gs)
read_names f [] h w st g gs = run_group f w (part ru.PathOrStruct ∷ st) gs _ _
    (ap (λ x. record { place = g.place; text = x; number = g.number; suffix = g.suffix; kids = g.kids }) (sym (append-nil g.text)))
read_names f (q ∷ qs) h w st g gs =
    let p = split (is_name true q) (are_names true qs) h in
    run_uses f (sign_token f si.PathMark) _ ru.PathOrStruct st (g ∷ gs) (ch.Join ∷ []) (part ru.PathName ∷ part ru.PathOrStruct ∷ []) refl
    ∙ run_uses f (word_token f tk.Name q) _ ru.PathName _ _ (ch.Join ∷ []) [] (takes (class_path_name f q p.0))
    ∙ read_names f qs p.1 w st _ gs
    ∙ run_group f w (part ru.PathOrStruct ∷ st) gs _ _
    (ap (λ l. record { place = g.place; text = l; number = g.number; suffix = g.suffix; kids = g.kids })
    (append_assoc (g.text ++ codes "::") q (further qs) ∙ append_assoc g.text (codes "::") (q ++ further qs)))
  where
    takes : (class_of (word_token f tk.Name q) ≡ cl.Name) ⊎ (class_of (word_token f tk.Name q) ≡ cl.PathWord) →
        row ru.PathName (class_of (word_token f tk.Name q)) ≡ Uses (ch.Join ∷ []) []
    takes (inl i) = rw i refl
    takes (inr i) = rw i refl

-- all names of a path that begins an expression
read_start : (f : ℕ) (s : Sort) (x : List ℕ) → tops s 16 ≡ true → are_names false (parts x) ≡ true →
    (w : List Token) (st : List Symbol) (gs : List Group) →
    run f (path_tokens f (parts x) ++ w) (of s ∷ st) gs ≡
    run f w (part ru.PathOrStruct ∷ (left s 16 ++ st)) (texted f x ∷ begun (start_of f) [] ∷ gs)
read_start f s x t h w st gs =
    let v = parts_some x in
    let names : are_names false (v.first ∷ v.others) ≡ true = subst (λ ps. are_names false ps ≡ true) v.is h in
    let p = split (is_name false v.first) (are_names true v.others) names in
    let r : row (ru.Of s) (class_of (word_token f tk.Name v.first)) ≡
    Uses (ch.Open ∷ ch.Open ∷ ch.Take ∷ []) (part ru.PathOrStruct ∷ left s 16) =
    rw (class_name f v.first p.0) (expr_row s cl.Name 16 refl refl t) in
    rw (v.is, path_split f v.first v.others)
    (run_uses f (word_token f tk.Name v.first) _ (ru.Of s) st gs _ _ r
    ∙ read_names f v.others p.1 w (left s 16 ++ st) (texted f v.first) (begun (start_of f) [] ∷ gs)
    ∙ ap (λ l. run f w (part ru.PathOrStruct ∷ (left s 16 ++ st)) (texted f l ∷ begun (start_of f) [] ∷ gs)) (sym v.text))

-- what takes no path ends it
path_over : (c : Class) → pull c ≤ 16 → row ru.PathOrStruct c ≡ Skips (ch.Close ki.Path ∷ ch.Lift ∷ [])
path_over (cl.Sign si.PathMark) e = absurd (omega (arith, e))
path_over (cl.Sign si.LeftBrace) e = absurd (omega (arith, e))
path_over (cl.Sign _) e = refl
path_over _ e = refl

pub path_reads : (f : ℕ) (s : Sort) (h : Head) (ts : Nodes) → h.kind ≡ ki.Path → tops s 16 ≡ true → Whole s h ts →
    (w : List Token) (st : List Symbol) (g : Group) (gs : List Group) → Edge s (front w) (branch h ts) → Claim f s h ts w st g gs
unfolding spell
path_reads f s h ts i t p w st g gs x =
    let a : form_of h.kind ≡ pi.Own ow.Path ∷ [] = ap form_of i in
    let n : ts ≡ none = no_kids (level h.kind h.text) ts (subst (λ v. are_kids (level h.kind h.text) (kid_pieces v) ts ≡ true) a p.kids) in
    let own = split (are_names false (parts h.text)) (has_text_alone h) (own_at s h ts ki.Path i p) in
    let lv : level h.kind h.text ≡ 16 = ap (λ v. level v h.text) i in
    let q : pull (front w) ≤ 16 = edge_pull s (front w) h ts 16 lv t x in
    rw (a, lv, n, append-nil (path_tokens f (parts h.text)))
    (read_start f s h.text t own.0 w st (g ∷ gs)
    ∙ run_changes f w ru.PathOrStruct (left s 16 ++ st) _ _ (ch.Close ki.Path ∷ ch.Lift ∷ []) (path_over (front w) q) (λ y. refl)
    ∙ ap (λ v. run f w (left s 16 ++ st) (add (branch v none) (g ∷ gs))) (sym (text_head f h ki.Path i own.1)))

-- ---- one kid and more, between commas

-- a first item, and those behind it
pub record FirstAndMore (n : ℕ) (s : Sort) (m : ℕ) (t : Node) (ts : Nodes) : Type 0 where
  -- the induction reaches the first
  pub small : size_of t ≤ n
  -- and the others
  pub others_small : sizes_of ts ≤ n
  -- the first is a tree of the sort
  pub shaped : is_shaped s t ≡ true
  -- the others are such as may stand behind it
  pub others : are_kids m (pi.More s ∷ []) ts ≡ true
  -- the first ends before the comma behind it
  pub ends : ends_before (behind_item (edges ts)) (edge t) ≡ true
  -- and so do the others
  pub others_end : items_end (edges ts) ≡ true

pub read_some : (f n : ℕ) → ReadsTo f n → (s : Sort) (d : Sign) (m : ℕ) → Closer s d → (t : Node) (ts : Nodes) → FirstAndMore n s m t ts →
    (w : List Token) (st : List Symbol) (g : Group) (gs : List Group) → front w ≡ cl.Sign d →
    run f (spell f t ++ (all_led f (le.Before si.Comma) (spells f ts) ++ w)) (of s ∷ part (ru.More s) ∷ st) (g ∷ gs) ≡
    run f w st (filled f g (more t ts) ∷ gs)
read_some f n ih s d m q t ts i w st g gs o =
    let v = all_led f (le.Before si.Comma) (spells f ts) in
    let r = read_more f n ih s d m q ts i.others_small i.others i.others_end w st (with_kids g (g.kids ++ plain f t ∷ [])) gs o in
    let a : pull (front (v ++ w)) ≡ 0 = item_pull d (v ++ w) (edges ts) q.pulls r.next in
    read_kid f n ih s t i.small q.sort i.shaped (v ++ w) (part (ru.More s) ∷ st) g gs (rw a (omega arith))
    (item_stops d (v ++ w) (edges ts) t q.no_else q.no_comma i.ends r.next) (q.anywhere (front (v ++ w)))
    ∙ r.runs
    ∙ run_group f w st gs _ _ (fill_more f g t ts)

-- ---- struct literals

fields_close : Closer so.FieldValue si.RightBrace
fields_close = record {
  sort = refl;
  items = refl;
  anywhere = λ c. refl;
  faults = refl;
  pulls = refl;
  comma = refl;
  no_else = refl;
  no_comma = refl;
}

path_kind : (k : Kind) (x : List ℕ) → admits so.TypePath k x ≡ true → k ≡ ki.TypePath
path_kind ki.TypePath x a = refl
path_kind _ x a = cc

pub struct_reads : (f n : ℕ) → ReadsTo f n → (s : Sort) (h : Head) (ts : Nodes) → sizes_of ts ≤ n → h.kind ≡ ki.StructLit →
    tops s 16 ≡ true → Whole s h ts → (w : List Token) (st : List Symbol) (g : Group) (gs : List Group) → Claim f s h ts w st g gs
unfolding spell is_shaped
struct_reads f n ih s h none z i t p w st g gs =
    let kids : are_kids (level h.kind h.text) (kid_pieces (form_of ki.StructLit)) none ≡ true =
    subst (λ y. are_kids (level h.kind h.text) (kid_pieces (form_of y)) none ≡ true) i p.kids in
    cc
struct_reads f n ih s h (more (branch hp tp) none) z i t p w st g gs =
    let kids : are_kids (level h.kind h.text) (kid_pieces (form_of ki.StructLit)) (more (branch hp tp) none) ≡ true =
    subst (λ y. are_kids (level h.kind h.text) (kid_pieces (form_of y)) (more (branch hp tp) none) ≡ true) i p.kids in
    let k = split (is_shaped so.TypePath (branch hp tp)) false kids in
    cc
struct_reads f n ih s h (more (branch hp tp) (more u us)) z i t p w st g gs =
    let a : form_of h.kind ≡ form_of ki.StructLit = ap form_of i in
    let lv : level h.kind h.text ≡ 16 = ap (λ v. level v h.text) i in
    let own : is_own ow.Nothing h ≡ true = own_at s h _ ki.StructLit i p in
    let kids : are_kids (level h.kind h.text) (kid_pieces (form_of ki.StructLit)) (more (branch hp tp) (more u us)) ≡ true =
    subst (λ y. are_kids (level h.kind h.text) (kid_pieces (form_of y)) (more (branch hp tp) (more u us)) ≡ true) i p.kids in
    let k = split (is_shaped so.TypePath (branch hp tp))
    (is_shaped so.FieldValue u && are_kids (level h.kind h.text) (pi.More so.FieldValue ∷ []) us) kids in
    let k' = split (is_shaped so.FieldValue u) (are_kids (level h.kind h.text) (pi.More so.FieldValue ∷ []) us) k.1 in
    let ends : kids_end (form_of ki.StructLit) (edges (more (branch hp tp) (more u us))) ≡ true =
    subst (λ y. kids_end (form_of y) (edges (more (branch hp tp) (more u us))) ≡ true) i p.ends in
    let e' = split (ends_before (behind_item (edges us)) (edge u)) (items_end (edges us)) ends in
    let q = whole so.TypePath hp tp k.0 in
    let ip = path_kind hp.kind hp.text q.admitted in
    let ap' : form_of hp.kind ≡ pi.Own ow.Path ∷ [] = ap form_of ip in
    let np : tp ≡ none = no_kids (level hp.kind hp.text) tp
    (subst (λ v. are_kids (level hp.kind hp.text) (kid_pieces v) tp ≡ true) ap' q.kids) in
    let op = split (are_names false (parts hp.text)) (has_text_alone hp) (own_at so.TypePath hp tp ki.TypePath ip q) in
    let v = all_led f (le.Before si.Comma) (spells f us) in
    let rest = (spell f u ++ []) ++ (v ++ sign_token f si.RightBrace ∷ []) in
    let tail = spell f u ++ (v ++ (sign_token f si.RightBrace ∷ w)) in
    let zu : size_of u ≤ n = omega arith in
    let zs : sizes_of us ≤ n = omega arith in
    rw (
      a,
      lv,
      ap',
      np,
      append-nil (path_tokens f (parts hp.text)),
      append-nil (spell f u),
      append-nil (path_tokens f (parts hp.text)),
      append_assoc (path_tokens f (parts hp.text)) (sign_token f si.LeftBrace ∷ (spell f u ++ (v ++ sign_token f si.RightBrace ∷ []))) w,
      append_assoc (spell f u) (v ++ sign_token f si.RightBrace ∷ []) w,
      append_assoc v (sign_token f si.RightBrace ∷ []) w,
    )
    (read_start f s hp.text t op.0 (sign_token f si.LeftBrace ∷ tail) st (g ∷ gs)
    ∙ run_uses f (sign_token f si.LeftBrace) tail ru.PathOrStruct (left s 16 ++ st) _ (ch.Close ki.TypePath ∷ []) (rest_of 2 ki.StructLit)
    refl
    ∙ ap (λ y. run f tail (rest_of 2 ki.StructLit ++ (left s 16 ++ st)) (begun (start_of f) (branch y none ∷ []) ∷ g ∷ gs))
    (sym (text_head f hp ki.TypePath ip op.1))
    ∙ read_some f n ih so.FieldValue si.RightBrace (level h.kind h.text) fields_close u us
    (record { small = zu; others_small = zs; shaped = k'.0; others = k'.1; ends = e'.0; others_end = e'.1 })
    (sign_token f si.RightBrace ∷ w) (sy.Want si.RightBrace ∷ sy.Close ki.StructLit ∷ (left s 16 ++ st))
    (begun (start_of f) (branch (plain_head f hp) none ∷ [])) (g ∷ gs) (class_sign f si.RightBrace)
    ∙ run_want f (sign_token f si.RightBrace) w si.RightBrace (sy.Close ki.StructLit ∷ (left s 16 ++ st)) _ (class_sign f si.RightBrace)
    ∙ closed f h ki.StructLit false (more (branch hp none) (more u us)) i (λ e. own) w (left s 16 ++ st) g gs)
