-- Names, paths of imports, and the small parts of declarations are read from their tokens.
use Rattle.std.proofs.Common.{◌≡◌, ℕ, ◌≤◌, List, [], ◌∷◌, ◌++◌, true, false, refl, ap, sym, ◌∙◌, subst, ◌⊎◌, inl, inr}
use Rattle.std.proofs.lemmas.List.{append-nil}
use Rattle.hare_tree.specs.declared.kind.Kind.{Kind}
use Rattle.hare_tree.specs.declared.kind.Kind.TheVariants as ki
use Rattle.hare_tree.specs.declared.token.TokenKind.TheVariants as tk
use Rattle.hare_tree.specs.declared.token.Token.{Token}
use Rattle.hare_tree.specs.declared.form.Sign.{Sign}
use Rattle.hare_tree.specs.declared.form.Sign.TheVariants as si
use Rattle.hare_tree.specs.declared.form.Own.TheVariants as ow
use Rattle.hare_tree.specs.declared.form.Sort.TheVariants as so
use Rattle.hare_tree.specs.declared.form.Lead.TheVariants as le
use Rattle.hare_tree.specs.declared.form.Piece.{Piece}
use Rattle.hare_tree.specs.declared.form.Piece.TheVariants as pi
use Rattle.hare_tree.specs.Node.{Head, Node, Nodes, branch, none, more, nodes_of, sizes_of}
use Rattle.hare_tree.specs.Forms.{form_of}
use Rattle.hare_tree.specs.Levels.{is_name, admits, level}
use Rattle.hare_tree.specs.Spell.{start_of, word_token, sign_token, all_led, pieces_tokens, spell, spells}
use Rattle.hare_tree.specs.Shape.{is_shaped, are_kids, has_text_alone, kid_pieces, kids_end, edges, stops, stops_each, form_stops}
use Rattle.hare_automaton.specs.declared.class.Class.TheVariants as cl
use Rattle.hare_automaton.specs.declared.rule.Rule.TheVariants as ru
use Rattle.hare_automaton.specs.declared.rule.Symbol.{Symbol}
use Rattle.hare_automaton.specs.declared.rule.Symbol.TheVariants as sy
use Rattle.hare_automaton.specs.declared.rule.Change.TheVariants as ch
use Rattle.hare_automaton.specs.Classes.{class_of}
use Rattle.hare_automaton.specs.Rows.{Skips, Uses, of, part, rest_of, names, has_sign}
use Rattle.hare_automaton.specs.Table.{row}
use Rattle.hare_automaton.specs.Engine.{Group, begun, with_kids, head_in, full_leaf, run}
use Rattle.hare_automaton.specs.OneTree.{plain, plains}
use Rattle.hare_automaton.proofs.Machine.Steps.{front, run_close, run_uses, run_skip, run_groups}
use Rattle.hare_automaton.proofs.Machine.Tokens.{class_name, class_path_name}
use Rattle.hare_automaton.proofs.Spelled.Paths.{split}
use Rattle.hare_automaton.proofs.Spelled.Lists.{plain_list, back, filled, fill_more, fill_none, nothing_head, text_head, run_group}
use Rattle.hare_automaton.proofs.Machine.Edges.{Edge, ReadsTo}
use Rattle.hare_automaton.proofs.Spelled.Kids.{led_kid}
use Rattle.hare_automaton.proofs.Spelled.Forms.{taken}
use Rattle.hare_automaton.proofs.Spelled.Read.{read_pieces}
use Rattle.hare_automaton.proofs.Spelled.Nodes.{Whole, whole, Claim, closed}
use Rattle.hare_automaton.proofs.Spelled.Openers.{at_of}
use Rattle.hare_automaton.proofs.Spelled.Leaves.{no_kids, leaf_reads}
use Rattle.hare_automaton.proofs.Spelled.Late.{own_at, kids_at}

-- ---- names

name_kind : (k : Kind) (x : List ℕ) → admits so.Name k x ≡ true → (k ≡ ki.Name) × (is_name false x ≡ true)
name_kind ki.Name x a = (refl, a)
name_kind _ x a = cc

path_name_kind : (k : Kind) (x : List ℕ) → admits so.PathName k x ≡ true → k ≡ ki.Name
path_name_kind ki.Name x a = refl
path_name_kind _ x a = cc

-- a name behind `::`
pub record NameLeaf (f : ℕ) (t : Node) : Type 0 where
  pub text : List ℕ
  pub name : is_name true text ≡ true
  pub spelled : spell f t ≡ word_token f tk.Name text ∷ []
  pub plain_is : plain f t ≡ full_leaf ki.Name (word_token f tk.Name text)

pub path_name_leaf : (f : ℕ) (t : Node) → is_shaped so.PathName t ≡ true → NameLeaf f t
unfolding spell
path_name_leaf f (branch h ts) e =
    let p = whole so.PathName h ts e in
    let i = path_name_kind h.kind h.text p.admitted in
    let n : ts ≡ none = no_kids (level h.kind h.text) ts (kids_at so.PathName h ts ki.Name i p) in
    let own = split (is_name true h.text) (has_text_alone h) (own_at so.PathName h ts ki.Name i p) in
    let is : spell f (branch h ts) ≡ word_token f tk.Name h.text ∷ [] = ap (λ ps. pieces_tokens f h ps (spells f ts)) (ap form_of i) in
    record { text = h.text; name = own.0; spelled = is; plain_is = rw n (ap (λ y. branch y none) (text_head f h ki.Name i own.1)) }

-- a name that does not stand behind `::`
pub record FirstName (f : ℕ) (t : Node) : Type 0 where
  pub text : List ℕ
  pub class : class_of (word_token f tk.Name text) ≡ cl.Name
  pub spelled : spell f t ≡ word_token f tk.Name text ∷ []
  pub plain_is : plain f t ≡ full_leaf ki.Name (word_token f tk.Name text)

pub first_name : (f : ℕ) (t : Node) → is_shaped so.Name t ≡ true → FirstName f t
unfolding spell
first_name f (branch h ts) e =
    let p = whole so.Name h ts e in
    let k = name_kind h.kind h.text p.admitted in
    let n : ts ≡ none = no_kids (level h.kind h.text) ts (kids_at so.Name h ts ki.Name k.0 p) in
    let own = split (is_name true h.text) (has_text_alone h) (own_at so.Name h ts ki.Name k.0 p) in
    let is : spell f (branch h ts) ≡ word_token f tk.Name h.text ∷ [] = ap (λ ps. pieces_tokens f h ps (spells f ts)) (ap form_of k.0) in
    record {
      text = h.text;
      class = class_name f h.text k.1;
      spelled = is;
      plain_is = rw n
          (ap (λ y. branch y none) (text_head f h ki.Name k.0 own.1));
    }

pub name_reads : (f : ℕ) (h : Head) (ts : Nodes) → Whole so.Name h ts → (w : List Token) (st : List Symbol) (g : Group) (gs : List Group) →
    Claim f so.Name h ts w st g gs
name_reads f h ts p w st g gs =
    let k = name_kind h.kind h.text p.admitted in
    let own = split (is_name true h.text) (has_text_alone h) (own_at so.Name h ts ki.Name k.0 p) in
    let r : row (ru.Of so.Name) (class_of (word_token f tk.Name h.text)) ≡ Uses (ch.Leaf ki.Name ∷ []) [] =
    rw (class_name f h.text k.1) refl in
    leaf_reads f so.Name ki.Name ow.PathName (word_token f tk.Name h.text) h h ts k.0 refl refl r (text_head f h ki.Name k.0 own.1) p w st g
    gs

-- a name behind `::` is read
path_name_row : (f : ℕ) (x : List ℕ) → is_name true x ≡ true →
    row (ru.Of so.PathName) (class_of (word_token f tk.Name x)) ≡ Uses (ch.Leaf ki.Name ∷ []) []
path_name_row f x e = by (class_path_name f x e)
  where
    by : (class_of (word_token f tk.Name x) ≡ cl.Name) ⊎ (class_of (word_token f tk.Name x) ≡ cl.PathWord) →
        row (ru.Of so.PathName) (class_of (word_token f tk.Name x)) ≡ Uses (ch.Leaf ki.Name ∷ []) []
    by (inl i) = rw i refl
    by (inr i) = rw i refl

pub path_name_reads : (f : ℕ) (h : Head) (ts : Nodes) → Whole so.PathName h ts →
    (w : List Token) (st : List Symbol) (g : Group) (gs : List Group) → Claim f so.PathName h ts w st g gs
path_name_reads f h ts p w st g gs =
    let k = path_name_kind h.kind h.text p.admitted in
    let own = split (is_name true h.text) (has_text_alone h) (own_at so.PathName h ts ki.Name k p) in
    leaf_reads f so.PathName ki.Name ow.PathName (word_token f tk.Name h.text) h h ts k refl refl (path_name_row f h.text own.0)
    (text_head f h ki.Name k own.1) p w st g gs

-- ---- paths of imports

-- a path: its first name, and the others
pub record PathShape (f : ℕ) (t : Node) : Type 0 where
  pub first : List ℕ
  pub others : Nodes
  pub class : class_of (word_token f tk.Name first) ≡ cl.Name
  pub names : are_kids 0 (pi.EachLed si.PathMark so.PathName ∷ []) others ≡ true
  pub spelled : spell f t ≡ word_token f tk.Name first ∷ all_led f (le.Before si.PathMark) (spells f others)
  pub plain_is : plain f t ≡ branch (head_in ki.ImportPath (begun (start_of f) []))
      (nodes_of (full_leaf ki.Name (word_token f tk.Name first) ∷ plain_list f others))

import_path_kind : (k : Kind) (x : List ℕ) → admits so.ImportPath k x ≡ true → k ≡ ki.ImportPath
import_path_kind ki.ImportPath x a = refl
import_path_kind _ x a = cc

pub path_shape : (f : ℕ) (t : Node) → is_shaped so.ImportPath t ≡ true → PathShape f t
unfolding spell is_shaped
path_shape f (branch h none) e =
    let p = whole so.ImportPath h none e in
    let k = kids_at so.ImportPath h none ki.ImportPath (import_path_kind h.kind h.text p.admitted) p in
    cc
path_shape f (branch h (more t ts)) e =
    let p = whole so.ImportPath h (more t ts) e in
    let i = import_path_kind h.kind h.text p.admitted in
    let lv : level h.kind h.text ≡ 0 = ap (λ y. level y h.text) i in
    let k = split (is_shaped so.Name t) (are_kids (level h.kind h.text) (pi.EachLed si.PathMark so.PathName ∷ []) ts)
    (kids_at so.ImportPath h (more t ts) ki.ImportPath i p) in
    let n = first_name f t k.0 in
    let others = all_led f (le.Before si.PathMark) (spells f ts) in
    let is : spell f (branch h (more t ts)) ≡ (spell f t ++ []) ++ (others ++ []) =
    ap (λ ps. pieces_tokens f h ps (spells f (more t ts))) (ap form_of i) in
    let tail : (spell f t ++ []) ++ (others ++ []) ≡ word_token f tk.Name n.text ∷ others =
    rw (append-nil (spell f t), n.spelled, append-nil others) refl in
    record {
      first = n.text;
      others = ts;
      class = n.class;
      names = subst (λ m. are_kids m (pi.EachLed si.PathMark so.PathName ∷ []) ts ≡ true) lv k.1;
      spelled = is ∙ tail;
      plain_is = ap (λ y. branch y (more (plain f t) (plains f ts)))
          (nothing_head f h ki.ImportPath i (own_at so.ImportPath h (more t ts) ki.ImportPath i p)) ∙ ap
          (λ y. branch (head_in ki.ImportPath (begun (start_of f) [])) (more y (plains f ts))) n.plain_is ∙ ap
          (λ y. branch (head_in ki.ImportPath (begun (start_of f) [])) (more (full_leaf ki.Name (word_token f tk.Name n.text)) y))
          (sym (back f ts));
    }

-- a name of a path behind its first
pub led_name : (f : ℕ) (t : Node) (ts : Nodes) (n : NameLeaf f t) → is_shaped so.PathName t ≡ true →
    all_led f (le.Before si.PathMark) (spells f (more t ts)) ≡
    sign_token f si.PathMark ∷ word_token f tk.Name n.text ∷ all_led f (le.Before si.PathMark) (spells f ts)
unfolding spell
led_name f t ts n e = led_kid f si.PathMark so.PathName t (spells f ts) refl e ∙ ap
    (λ u. sign_token f si.PathMark ∷ (u ++ all_led f (le.Before si.PathMark) (spells f ts))) n.spelled

-- the group with a name more
pub name_more : (f : ℕ) (g : Group) (t : Node) (ts : Nodes) (n : NameLeaf f t) →
    filled f (with_kids g (g.kids ++ full_leaf ki.Name (word_token f tk.Name n.text) ∷ [])) ts ≡ filled f g (more t ts)
name_more f g t ts n = ap (λ y. filled f (with_kids g (g.kids ++ y ∷ [])) ts) (sym n.plain_is) ∙ fill_more f g t ts

-- the further names of a path by itself
read_names : (f : ℕ) (ts : Nodes) → are_kids 0 (pi.EachLed si.PathMark so.PathName ∷ []) ts ≡ true →
    (w : List Token) (st : List Symbol) (g : Group) (gs : List Group) → has_sign si.PathMark (front w) ≡ false →
    run f (all_led f (le.Before si.PathMark) (spells f ts) ++ w) (part (ru.EachLed si.PathMark so.PathName) ∷ st) (g ∷ gs) ≡
    run f w st (filled f g ts ∷ gs)
unfolding is_shaped spell
read_names f none e w st g gs c =
    let r : row (ru.EachLed si.PathMark so.PathName) (front w) ≡ Skips [] = rw c refl in
    run_skip f w (ru.EachLed si.PathMark so.PathName) st (g ∷ gs) r ∙ run_group f w st gs _ _ (sym (fill_none f g))
read_names f (more t ts) e w st g gs c =
    let k = split (is_shaped so.PathName t) (are_kids 0 (pi.EachLed si.PathMark so.PathName ∷ []) ts) e in
    let n = path_name_leaf f t k.0 in
    let v = all_led f (le.Before si.PathMark) (spells f ts) in
    rw (led_name f t ts n k.0)
    (run_uses f (sign_token f si.PathMark) (word_token f tk.Name n.text ∷ (v ++ w)) (ru.EachLed si.PathMark so.PathName) st (g ∷ gs) []
    (of so.PathName ∷ part (ru.EachLed si.PathMark so.PathName) ∷ []) refl
    ∙ run_uses f (word_token f tk.Name n.text) (v ++ w) (ru.Of so.PathName) (part (ru.EachLed si.PathMark so.PathName) ∷ st) (g ∷ gs)
    (ch.Leaf ki.Name ∷ []) [] (path_name_row f n.text n.name)
    ∙ read_names f ts k.1 w st _ gs c
    ∙ run_group f w st gs _ _ (name_more f g t ts n))

pub import_path_reads : (f : ℕ) (h : Head) (ts : Nodes) → is_shaped so.ImportPath (branch h ts) ≡ true →
    (w : List Token) (st : List Symbol) (g : Group) (gs : List Group) → has_sign si.PathMark (front w) ≡ false →
    Claim f so.ImportPath h ts w st g gs
import_path_reads f h ts e w st g gs c =
    let q = path_shape f (branch h ts) e in
    let r : row (ru.Of so.ImportPath) (class_of (word_token f tk.Name q.first)) ≡
    Uses (ch.Open ∷ ch.Leaf ki.Name ∷ []) (rest_of 1 ki.ImportPath) = rw q.class refl in
    rw (q.spelled, q.plain_is)
    (run_uses f (word_token f tk.Name q.first) (all_led f (le.Before si.PathMark) (spells f q.others) ++ w) (ru.Of so.ImportPath) st
    (g ∷ gs) (ch.Open ∷ ch.Leaf ki.Name ∷ []) (rest_of 1 ki.ImportPath) r
    ∙ read_names f q.others q.names w (sy.Close ki.ImportPath ∷ st)
    (begun (start_of f) (full_leaf ki.Name (word_token f tk.Name q.first) ∷ [])) (g ∷ gs) c
    ∙ run_close f w ki.ImportPath st _)

-- ---- parameters

param_kind : (k : Kind) (x : List ℕ) → admits so.Param k x ≡ true → k ≡ ki.Param
param_kind ki.Param x a = refl
param_kind _ x a = cc

pub param_reads : (f n : ℕ) → ReadsTo f n → (h : Head) (ts : Nodes) → sizes_of ts ≤ n → Whole so.Param h ts →
    (w : List Token) (st : List Symbol) (g : Group) (gs : List Group) → Edge so.Param (front w) (branch h ts) →
    Claim f so.Param h ts w st g gs
unfolding spell stops
param_reads f n ih h ts z p w st g gs x =
    let i = param_kind h.kind h.text p.admitted in
    let ps : List Piece = pi.Fixed si.Colon ∷ pi.Kid so.Type ∷ [] in
    let a : form_of h.kind ≡ pi.Own ow.Name ∷ ps = ap form_of i in
    let own = split (is_name false h.text) (has_text_alone h) (own_at so.Param h ts ki.Param i p) in
    let kids : are_kids (level h.kind h.text) (kid_pieces ps) ts ≡ true =
    subst (λ y. are_kids (level h.kind h.text) (kid_pieces y) ts ≡ true) a p.kids in
    let ends : kids_end ps (edges ts) ≡ true = subst (λ y. kids_end y (edges ts) ≡ true) a p.ends in
    let fs : (y : Sign) → front w ≡ cl.Sign y → form_stops y h true ps (stops_each y ts) ≡ true =
    λ y j. subst (λ b. form_stops y h true b (stops_each y ts) ≡ true) a (x.stops_at y j) in
    let r : row (ru.Of so.Param) (class_of (word_token f tk.Name h.text)) ≡ names ki.Param = rw (class_name f h.text own.0) refl in
    rw a (run_uses f (word_token f tk.Name h.text) (pieces_tokens f h ps (spells f ts) ++ w) (ru.Of so.Param) st (g ∷ gs)
    (ch.Open ∷ ch.Take ∷ []) (rest_of 1 ki.Param) r
    ∙ run_groups f (pieces_tokens f h ps (spells f ts) ++ w) (rest_of 1 ki.Param ++ st) _ _
    (taken f false (start_of f) h [] (g ∷ gs) own.1 tk.Name)
    ∙ read_pieces f n ih h _ ps true ts z kids ends tt refl w (sy.Close ki.Param ∷ st) (start_of f) [] (g ∷ gs) (λ y. true) fs
    (refl, at_of so.Type (front w) x.reaches refl, tt)
    ∙ closed f h ki.Param true ts i (λ e. cc) w st g gs)
