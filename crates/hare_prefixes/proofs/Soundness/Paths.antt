-- Names that are read one behind the other are the parts of a path's text.
use Rattle.std.proofs.Common.{◌≡◌, ℕ, List, [], ◌∷◌, ◌++◌, Bool, true, false, ◌&&◌, ◌||◌, ◌==◌, not, map, codes, refl, ap, sym, ◌∙◌, subst, arith, append_assoc, if◌then◌else◌}
use Rattle.std.specs.Prelude.{slice_index, bytes_eq}
use Rattle.std.specs.List.{list_all}
use Rattle.std.proofs.lemmas.List.{append-nil}
use Rattle.hare_tree.specs.declared.kind.Kind.{Kind}
use Rattle.hare_tree.specs.declared.token.TokenKind.TheVariants as tk
use Rattle.hare_tree.specs.declared.token.Token.{Token}
use Rattle.hare_tree.specs.declared.form.Sign.TheVariants as si
use Rattle.hare_tree.specs.declared.form.Own.TheVariants as ow
use Rattle.hare_tree.specs.declared.form.Piece.TheVariants as pi
use Rattle.hare_tree.specs.Node.{Head, none}
use Rattle.hare_tree.specs.Words.{is_letter, is_word_byte, is_word, is_listed, keywords, left_out, is_left_out}
use Rattle.hare_tree.specs.Forms.{form_of}
use Rattle.hare_tree.specs.Levels.{is_name, level}
use Rattle.hare_tree.specs.Spell.{word_token, sign_token, parts, parts_from, path_tokens, own_tokens, pieces_tokens, spell}
use Rattle.hare_tree.specs.Shape.{is_shaped, are_kids, are_names, is_own, kid_pieces, own_of, kids_end, form_stops, stops}
use Rattle.hare_tree.specs.Grammar.{HasPlaces, place_of, unplaced}
use Rattle.hare_automaton.specs.declared.class.Class.{Class}
use Rattle.hare_automaton.specs.declared.class.Class.TheVariants as cl
use Rattle.hare_automaton.specs.declared.rule.Rule.TheVariants as ru
use Rattle.hare_automaton.specs.Classes.{class_of}
use Rattle.hare_automaton.specs.Rows.{part}
use Rattle.hare_automaton.specs.TypeRows.{path_name_row, path_rest_row}
use Rattle.hare_automaton.specs.Engine.{Group, head_in, close, join_text}
use Rattle.hare_automaton.proofs.Spelled.Paths.{split, further, path_split, joined_by}
use Rattle.hare_prefixes.proofs.Soundness.Seen.{sign_is, name_is, path_word_is}
use Rattle.hare_prefixes.proofs.Soundness.Trees.{Source}
use Rattle.hare_prefixes.proofs.Soundness.Means.{Names, OneName}
use Rattle.hare_prefixes.proofs.Soundness.Stacks.{last_part, Used}
use Rattle.hare_prefixes.proofs.Soundness.Forms.{Ordinary, no_label, Form}

-- ---- the parts of a text

no_colon : ℕ → Bool
no_colon c = not (c == 58)

word_no_colon : (c : ℕ) → is_word_byte c ≡ true → no_colon c ≡ true
unfolding no_colon
word_no_colon c e = by (c == 58) refl
  where
    by : (b : Bool) → (c == 58) ≡ b → not b ≡ true
    by false i = refl
    by true i =
        let a : c ≡ 58 = grind (arith, i) in
        let d : is_word_byte 58 ≡ true = subst (λ y. is_word_byte y ≡ true) a e in
        cc

or_left : (a b : Bool) → a ≡ true → (a || b) ≡ true
or_left true b e = refl
or_left false b e = cc

all_no_colon : (s : List ℕ) → list_all is_word_byte s ≡ true → list_all no_colon s ≡ true
all_no_colon [] e = refl
all_no_colon (c ∷ s) e = let p = split (is_word_byte c) (list_all is_word_byte s) e in rw (word_no_colon c p.0, all_no_colon s p.1) refl

name_no_colon : (b : Bool) (x : List ℕ) → is_name b x ≡ true → list_all no_colon x ≡ true
name_no_colon b x e = by x (word (is_listed keywords x || is_left_out b x) (is_word x) e)
  where
    word : (a d : Bool) → (if a then false else d) ≡ true → d ≡ true
    word true d i = cc
    word false d i = i

    by : (x : List ℕ) → is_word x ≡ true → list_all no_colon x ≡ true
    by [] i = cc
    by (c ∷ s) i =
        let p = split (is_letter c) (list_all is_word_byte s) i in rw (word_no_colon c (or_left (is_letter c) _ p.0), all_no_colon s p.1)
        refl

-- a name is part of one part
parts_run : (part q s : List ℕ) → list_all no_colon q ≡ true → parts_from false part (q ++ s) ≡ parts_from false (part ++ q) s
unfolding no_colon
parts_run part [] s e = ap (λ l. parts_from false l s) (sym (append-nil part))
parts_run part (c ∷ q) s e =
    let p = split (not (c == 58)) (list_all no_colon q) e in
    by (c == 58) p.0 ∙ parts_run (part ++ c ∷ []) q s p.1 ∙ ap (λ l. parts_from false l s) (append_assoc part (c ∷ []) q)
  where
    by : (b : Bool) → not b ≡ true → (if b && slice_index (q ++ s) 0 == 58 then part ∷ parts_from true [] (q ++ s) else parts_from false
        (part ++ c ∷ []) (q ++ s)) ≡ parts_from false (part ++ c ∷ []) (q ++ s)
    by true i = cc
    by false i = refl

parts_names : (part : List ℕ) (qs : List (List ℕ)) → are_names true qs ≡ true → parts_from false part (further qs) ≡ part ∷ qs
parts_names part [] e = refl
parts_names part (q ∷ qs) e =
    let p = split (is_name true q) (are_names true qs) e in
    ap (λ l. part ∷ l) (parts_run [] q (further qs) (name_no_colon true q p.0) ∙ parts_names q qs p.1)

-- the parts of a path's text are its names
path_parts : (q : List ℕ) (qs : List (List ℕ)) → is_name false q ≡ true → are_names true qs ≡ true → parts (q ++ further qs) ≡ q ∷ qs
path_parts q qs a b = parts_run [] q (further qs) (name_no_colon false q a) ∙ parts_names q qs b

-- ---- names behind `::`

-- a name is one behind `::` too
pub name_behind : (y : List ℕ) → is_name false y ≡ true → is_name true y ≡ true
name_behind y e = by (is_listed keywords y) (is_listed left_out y) (bytes_eq y (codes "nomem")) (is_word y) e
  where
    by : (a l z d : Bool) → (if a || (l && not (false && z)) then false else d) ≡ true →
        (if a || (l && not (true && z)) then false else d) ≡ true
    by true l z d i = cc
    by false true z d i = cc
    by false false z d i = i

pub path_name_means : (x : Source) (c : Class) (t : Token) (gs : List Group) (m : ℕ) (u w : List Token) (gs' : List Group) →
    class_of t ≡ c → Used x (path_name_row c) t gs m u w gs' → OneName (t ∷ u) gs gs'
path_name_means x cl.Name t gs m u w gs' e h =
    let n = name_is t e in
    record { t = t; is = ap (λ l. t ∷ l) h.reads.0; spelled = n.plain.is; name = name_behind t.text n.name; adds = h.reads.1 }
path_name_means x cl.PathWord t gs m u w gs' e h =
    let n = path_word_is t e in
    record { t = t; is = ap (λ l. t ∷ l) h.reads.0; spelled = n.plain.is; name = n.name; adds = h.reads.1 }
path_name_means x _ t gs m u w gs' e h = absurd h

joined_more : (g : Group) (y z v : List ℕ) → joined_by v (joined_by z (joined_by y g)) ≡ joined_by (y ++ (z ++ v)) g
joined_more g y z v = ap (λ l. record { place = g.place; text = l; number = g.number; suffix = g.suffix; kids = g.kids })
    (append_assoc (g.text ++ y) z v ∙ append_assoc g.text y (z ++ v))

pub joined_nothing : (g : Group) → joined_by [] g ≡ g
joined_nothing g = ap (λ l. record { place = g.place; text = l; number = g.number; suffix = g.suffix; kids = g.kids }) (append-nil g.text)

-- `::` and a name `o`, and the names behind it
pub record Further (t o : Token) (u : List Token) (g : Group) (names : List (List ℕ)) : Type 0 where
  pub q : Names (t ∷ u)
  pub joined : joined_by (further names) (joined_by o.text (joined_by t.text g)) ≡ joined_by (further q.names) g

pub further_name : (t o : Token) (v : List Token) (g : Group) → class_of t ≡ cl.Sign si.PathMark →
    unplaced o ≡ word_token 0 tk.Name o.text → is_name true o.text ≡ true → (q : Names v) → Further t o (o ∷ v) g q.names
further_name t o v g e i n q =
    let s = sign_is t si.PathMark e in
    let text : t.text ≡ codes "::" = ap (λ y. y.text) s in
    record {
      q = record {
        names = o.text ∷ q.names;
        are = rw (n, q.are) refl;
        spelled = ap
            (λ l. sign_token 0 si.PathMark ∷ word_token 0 tk.Name o.text ∷ l) q.spelled ∙ ap
            (λ y. sign_token 0 si.PathMark ∷ y ∷ map unplaced v) (sym i) ∙ ap (λ y. y ∷ unplaced o ∷ map unplaced v) (sym s);
      };
      joined = ap (λ y. joined_by (further q.names) (joined_by o.text (joined_by y g))) text ∙ joined_more g (codes "::") o.text
          (further q.names);
    }

-- the same tokens
pub names_of : (v v' : List Token) → v ≡ v' → (q : Names v) → Names v'
names_of v v' y q = record { names = q.names; are = q.are; spelled = q.spelled ∙ ap (map unplaced) y }

-- the rest of a path
pub path_rest_means : (x : Source) (k : Kind) (c : Class) (t : Token) (gs : List Group) (m : ℕ) (u w : List Token) (gs' : List Group) →
    class_of t ≡ c → Used x (path_rest_row k c) t gs m u w gs' → (g : Group) (hs : List Group) → gs ≡ g ∷ hs → (q : Names (t ∷ u)) ×
    (gs' ≡ close k (joined_by (further q.names) g ∷ hs))
path_rest_means x k (cl.Sign si.PathMark) t gs m u w gs' e h g hs i =
    let a = h.reads in
    let n : OneName a.v (join_text t gs) a.hs = a.part in
    let at : a.hs ≡ joined_by n.t.text (joined_by t.text g) ∷ hs = n.adds ∙ ap (λ l. join_text n.t (join_text t l)) i in
    let r = last_part x (ru.PathRest k) a.hs a.n a.v' w gs' a.rest (joined_by n.t.text (joined_by t.text g)) hs at in
    let f = further_name t n.t a.v' g e n.spelled n.name r.0 in
    let is : t ∷ (n.t ∷ a.v') ≡ t ∷ u = ap (λ l. t ∷ l) (sym (a.is ∙ ap (λ l. l ++ a.v') n.is)) in
    moved (t ∷ (n.t ∷ a.v')) (t ∷ u) is f.q (r.1 ∙ ap (λ y. close k (y ∷ hs)) f.joined)
  where
    moved : (v v' : List Token) → v ≡ v' → (q : Names v) → gs' ≡ close k (joined_by (further q.names) g ∷ hs) → (q : Names v') ×
        (gs' ≡ close k (joined_by (further q.names) g ∷ hs))
    moved v v' y q z = (record { names = q.names; are = q.are; spelled = q.spelled ∙ ap (map unplaced) y }, z)
path_rest_means x k _ t gs m u w gs' e h g hs i = absurd h

-- ---- a whole path

-- the group of a path at its first name
abbrev pub first_of : Token → Group
first_of t = record { place = t.place; text = t.text; number = t.number; suffix = t.suffix; kids = [] }

pub path_form : (x : Source) (k : Kind) (t : Token) (gs : List Group) (m : ℕ) (u w : List Token) → form_of k ≡ pi.Own ow.Path ∷ [] →
    Ordinary k → place_of x.tokens m ≡ t.place → class_of t ≡ cl.Name → (q : Names u) →
    Form x k gs m (t ∷ u) w (close k (joined_by (further q.names) (first_of t) ∷ gs))
unfolding is_shaped spell stops HasPlaces
path_form x k t gs m u w f y p e q =
    let n = name_is t e in
    let h : Head = head_in k (joined_by (further q.names) (first_of t)) in
    let ps : parts (t.text ++ further q.names) ≡ t.text ∷ q.names = path_parts t.text q.names n.name q.are in
    let own : is_own ow.Path h ≡ true = rw (ps, n.plain.alone) (rw (n.name, q.are) refl) in
    let text : own_tokens 0 h ow.Path ≡ unplaced t ∷ map unplaced u =
    ap (path_tokens 0) ps ∙ path_split 0 t.text q.names ∙ ap (λ l. word_token 0 tk.Name t.text ∷ l) q.spelled ∙ ap
    (λ z. z ∷ map unplaced u) (sym n.plain.is) in
    record {
      h = h;
      ts = none;
      made = record {
        kind_is = refl;
        place_is = sym p ∙ ap (place_of x.tokens) (omega arith);
        own = subst (λ z. is_own (own_of z) h ≡ true) (sym f) own;
        kids = subst (λ z. are_kids (level k h.text) (kid_pieces z) none ≡ true) (sym f) refl;
        ends = subst (λ z. kids_end z [] ≡ true) (sym f) refl;
        label = no_label h none k refl y.yield;
        spelled = ap (λ z. pieces_tokens 0 h z []) f ∙ append-nil (own_tokens 0 h ow.Path) ∙ text;
        placed = tt;
        stops_at = λ z i. subst (λ r. form_stops z h true r [] ≡ true) (sym f) refl;
      };
      adds = refl;
    }
