-- Each row of imports and declarations is right.
use Rattle.std.proofs.Common.{◌≡◌, ℕ, ◌+◌, List, [], ◌∷◌, ◌++◌, true, false, map, length, refl, ap, sym, ◌∙◌, subst, arith, append_assoc}
use Rattle.std.proofs.lemmas.List.{append-nil}
use Rattle.hare_tree.specs.declared.kind.Kind.{Kind}
use Rattle.hare_tree.specs.declared.kind.Kind.TheVariants as ki
use Rattle.hare_tree.specs.declared.place.Place.{Place}
use Rattle.hare_tree.specs.declared.token.TokenKind.TheVariants as tk
use Rattle.hare_tree.specs.declared.token.Token.{Token}
use Rattle.hare_tree.specs.declared.form.Sign.{Sign}
use Rattle.hare_tree.specs.declared.form.Sign.TheVariants as si
use Rattle.hare_tree.specs.declared.form.Own.TheVariants as ow
use Rattle.hare_tree.specs.declared.form.Sort.{Sort}
use Rattle.hare_tree.specs.declared.form.Sort.TheVariants as so
use Rattle.hare_tree.specs.declared.form.Lead.TheVariants as le
use Rattle.hare_tree.specs.declared.form.Piece.{Piece}
use Rattle.hare_tree.specs.declared.form.Piece.TheVariants as pi
use Rattle.hare_tree.specs.Node.{Node, Nodes, branch, none, more}
use Rattle.hare_tree.specs.Forms.{expr}
use Rattle.hare_tree.specs.Levels.{is_name, admits}
use Rattle.hare_tree.specs.Spell.{sign_token, all_led, spell, spells}
use Rattle.hare_tree.specs.Shape.{is_shaped, are_kids, is_none, stops}
use Rattle.hare_tree.specs.Depth.{begins_led}
use Rattle.hare_tree.specs.Grammar.{HasPlaces, HavePlaces, place_of, unplaced}
use Rattle.hare_automaton.specs.declared.class.Class.{Class}
use Rattle.hare_automaton.specs.declared.class.Class.TheVariants as cl
use Rattle.hare_automaton.specs.declared.rule.Rule.TheVariants as ru
use Rattle.hare_automaton.specs.declared.rule.Symbol.TheVariants as sy
use Rattle.hare_automaton.specs.declared.rule.Change.TheVariants as ch
use Rattle.hare_automaton.specs.Classes.{class_of}
use Rattle.hare_automaton.specs.Rows.{symbols, rest_of}
use Rattle.hare_automaton.specs.DeclarationRows.{use_row, use_start_row, after_use_part_row, after_use_name_row, after_use_mark_row, import_path_row, decl_word_row, decl_row, name_row, further_name_row}
use Rattle.hare_automaton.specs.Engine.{Group, begun, with_kids, head_in, bare_leaf, full_leaf, add, close, lift}
use Rattle.hare_prefixes.proofs.Soundness.Seen.{Plain, sign_is, name_is, path_word_is}
use Rattle.hare_prefixes.proofs.Soundness.Trees.{Source, IsTree, Tree, Begun, Bare, Ended, list_of}
use Rattle.hare_prefixes.proofs.Soundness.Means.{with_kid, closed_as, imported, longer, ImportEnd, whole, braces, Import, aliased, AfterName, import, alias, Means}
use Rattle.hare_prefixes.proofs.Soundness.Stacks.{Reads, last_part, Goes, Used, used_led, used_place}
use Rattle.hare_prefixes.proofs.Soundness.Kids.{nothing, wanted_kid, absent_kid, present_kid}
use Rattle.hare_prefixes.proofs.Soundness.Pieces.{whole_form, ended_end, ended_fixed, ended_kid}
use Rattle.hare_prefixes.proofs.Soundness.Forms.{PlainRest, Form, form_tree, form_kid, ended_form, leaf_form, mark_form}
use Rattle.hare_prefixes.proofs.Soundness.Paths.{name_behind}
use Rattle.hare_prefixes.proofs.RightRows.TypeRows.{RowMeans}

bare : (p : Place) → Bare (begun p [])
bare p = record { text = refl; number = refl; suffix = refl }

-- ---- names

-- a token that is a name as a kid
name_kid : (x : Source) (s : Sort) (t : Token) (m : ℕ) (w : List Token) → place_of x.tokens m ≡ t.place → Plain tk.Name t →
    is_name true t.text ≡ true → admits s ki.Name t.text ≡ true → IsTree x s m (t ∷ []) w (full_leaf ki.Name t)
name_kid x s t m w p n k a =
    form_kid x s ki.Name t.place m (t ∷ []) w (full_leaf ki.Name t) refl (λ h ts i. subst (λ y. admits s ki.Name y ≡ true) (ap text_in i) a)
    (leaf_form x ki.Name ow.PathName t (begun t.place [] ∷ []) m w refl (record { none = refl; operator = refl; yield = refl }) p refl
    (rw (k, n.alone) refl) (ap (λ y. y ∷ []) (sym n.is)))
  where
    text_in : Node → List ℕ
    text_in (branch h ts) = h.text

first_name : (x : Source) (t : Token) (m : ℕ) (w : List Token) → place_of x.tokens m ≡ t.place → class_of t ≡ cl.Name →
    IsTree x so.Name m (t ∷ []) w (full_leaf ki.Name t)
first_name x t m w p e = let n = name_is t e in name_kid x so.Name t m w p n.plain (name_behind t.text n.name) n.name

leaf_tree : (x : Source) (s : Sort) (t : Token) (gs : List Group) (m : ℕ) (u w : List Token) (gs' : List Group) →
    ((w : List Token) → IsTree x s m (t ∷ []) w (full_leaf ki.Name t)) → Goes x [] (add (full_leaf ki.Name t) gs) t m u w gs' →
    Tree x s gs m (t ∷ u) w gs'
leaf_tree x s t gs m u w gs' f h = record {
  t = full_leaf ki.Name t;
  is = subst (λ y. IsTree x s m (t ∷ y) w (full_leaf ki.Name t))
      (sym h.reads.0) (f w);
  adds = h.reads.1;
}

pub name_means : (x : Source) → RowMeans x name_row so.Name
name_means x cl.Name t gs m u w gs' o e h = leaf_tree x so.Name t gs m u w gs' (λ w. first_name x t m w h.place e) h
name_means x _ t gs m u w gs' o e h = absurd h

-- a name behind `::`
further_kid : (x : Source) (c : Class) (t : Token) (m : ℕ) (w : List Token) → place_of x.tokens m ≡ t.place → class_of t ≡ c →
    (c ≡ cl.Name) → IsTree x so.PathName m (t ∷ []) w (full_leaf ki.Name t)
further_kid x c t m w p e i = let n = name_is t (e ∙ i) in name_kid x so.PathName t m w p n.plain (name_behind t.text n.name) refl

further_word : (x : Source) (t : Token) (m : ℕ) (w : List Token) → place_of x.tokens m ≡ t.place → class_of t ≡ cl.PathWord →
    IsTree x so.PathName m (t ∷ []) w (full_leaf ki.Name t)
further_word x t m w p e = let n = path_word_is t e in name_kid x so.PathName t m w p n.plain n.name refl

pub further_name_means : (x : Source) → RowMeans x further_name_row so.PathName
further_name_means x cl.Name t gs m u w gs' o e h =
    leaf_tree x so.PathName t gs m u w gs' (λ w. further_kid x cl.Name t m w h.place e refl) h
further_name_means x cl.PathWord t gs m u w gs' o e h = leaf_tree x so.PathName t gs m u w gs' (λ w. further_word x t m w h.place e) h
further_name_means x _ t gs m u w gs' o e h = absurd h

-- ---- imports

-- the path of an import
import_path : (x : Source) (t : Token) (m n : ℕ) (v rest : List Token) (ts : Nodes) → place_of x.tokens m ≡ t.place → class_of t ≡ cl.Name →
    n ≡ m + 1 → ((k : ℕ) → are_kids k (pi.EachLed si.PathMark so.PathName ∷ []) ts ≡ true) →
    all_led 0 (le.Before si.PathMark) (spells 0 ts) ≡ map unplaced v →
    HavePlaces x.file x.tokens (begins_led (le.Before si.PathMark) n (spells 0 ts)) ts →
    IsTree x so.ImportPath m (t ∷ v) rest (closed_as ki.ImportPath (longer (begun t.place (full_leaf ki.Name t ∷ [])) ts))
unfolding is_shaped spell stops HasPlaces
import_path x t m n v rest ts p e at k s q =
    let leaf = full_leaf ki.Name t in
    let g = begun t.place (leaf ∷ []) in
    let bottom = begun t.place [] ∷ [] in
    let tree = closed_as ki.ImportPath (longer g ts) in
    let names : Ended x ki.ImportPath (pi.EachLed si.PathMark so.PathName ∷ []) g bottom n v rest (add tree bottom) = record {
      h = head_in ki.ImportPath g;
      ts = ts;
      kind_is = refl;
      place_is = refl;
      kept = λ y. refl;
      owns = tt;
      kids = k;
      ends = refl;
      behind = λ d i. cc;
      spelled = append-nil (all_led 0 (le.Before si.PathMark) (spells 0 ts)) ∙ s;
      placed = subst (λ ns. HavePlaces x.file x.tokens ns ts) (sym (append-nil (begins_led (le.Before si.PathMark) n (spells 0 ts)))) q;
      stops_at = λ f y d i. refl;
      adds = refl;
    } in
    let a = ended_kid x ki.ImportPath (pi.Kid so.Name) (pi.EachLed si.PathMark so.PathName ∷ []) (begun t.place []) bottom m n (t ∷ []) v
    rest (add tree bottom) leaf (wanted_kid x so.Name (pi.EachLed si.PathMark so.PathName ∷ []) m (t ∷ []) (v ++ rest) leaf refl
    (first_name x t m (v ++ rest) p e)) at names in
    form_kid x so.ImportPath ki.ImportPath t.place m (t ∷ v) rest tree refl (λ h ts i. refl)
    (ended_form x ki.ImportPath (begun t.place []) bottom m (t ∷ v) rest (add tree bottom)
    (record { none = refl; operator = refl; yield = refl }) (bare t.place) refl p a)

use_tree : (x : Source) (k : Kind) (hs : List Group) (n : ℕ) (u w : List Token) (gs' : List Group) → is_none k ≡ false →
    ((y : List ℕ) → admits so.Use k y ≡ true) → Form x k hs n u w gs' → Tree x so.Use hs n u w gs'
use_tree x k hs n u w gs' a b f = form_tree x so.Use k hs n u w gs' a b f

-- an import whose path begins at `t1`
path_import : (x : Source) (t t1 : Token) (hs : List Group) (n m m1 : ℕ) (u w : List Token) (gs' : List Group) → Begun x si.Use t n m →
    place_of x.tokens m ≡ t1.place → m1 ≡ m + 1 → class_of t1 ≡ cl.Name →
    Import x (begun t1.place (full_leaf ki.Name t1 ∷ [])) (begun t.place []) hs m1 u w gs' → Tree x so.Use hs n (t ∷ (t1 ∷ u)) w gs'
path_import x t t1 hs n m m1 u w gs' b p at e q = by q.ends
  where
    by : ImportEnd x (longer (begun t1.place (full_leaf ki.Name t1 ∷ [])) q.ts) (begun t.place []) hs q.n q.v' w gs' →
        Tree x so.Use hs n (t ∷ (t1 ∷ u)) w gs'
    by (whole k n' i s g) =
        let o = begun t.place [] in
        let tree = closed_as ki.ImportPath (longer (begun t1.place (full_leaf ki.Name t1 ∷ [])) q.ts) in
        let path = import_path x t1 m m1 q.v (k ∷ w) q.ts p e at q.kids q.spelled q.placed in
        let far : q.n ≡ m + length (t1 ∷ q.v) = omega (arith, q.at, at) in
        let e0 = ended_end x ki.Use (with_kid o tree) hs n' w in
        let e1 = ended_fixed x ki.Use si.Semicolon [] (with_kid o tree) hs q.n n' k [] w _ s e0 in
        let e2 = ended_kid x ki.Use (pi.Kid so.ImportPath) (pi.Fixed si.Semicolon ∷ []) o hs m q.n (t1 ∷ q.v) (k ∷ []) w _ tree
        (wanted_kid x so.ImportPath (pi.Fixed si.Semicolon ∷ []) m (t1 ∷ q.v) (k ∷ w) tree refl path) far e1 in
        let e3 = ended_fixed x ki.Use si.Use (pi.Kid so.ImportPath ∷ pi.Fixed si.Semicolon ∷ []) o hs n m t ((t1 ∷ q.v) ++ k ∷ []) w _ b
        e2 in
        let f = ended_form x ki.Use o hs n (t ∷ ((t1 ∷ q.v) ++ k ∷ [])) w _ (record { none = refl; operator = refl; yield = refl })
        (bare t.place) refl b.place e3 in
        let is : t ∷ (t1 ∷ u) ≡ t ∷ ((t1 ∷ q.v) ++ k ∷ []) = ap (λ y. t ∷ (t1 ∷ y)) (q.is ∙ ap (λ y. q.v ++ y) i) in
        use_tree x ki.Use hs n (t ∷ (t1 ∷ u)) w gs' refl (λ y. refl)
        (subst (λ y. Form x ki.Use hs n (t ∷ (t1 ∷ u)) w y) (sym g)
        (subst (λ y. Form x ki.Use hs n y w
        (close ki.Use (close ki.ImportPath (longer (begun t1.place (full_leaf ki.Name t1 ∷ [])) q.ts ∷ begun t.place [] ∷ hs))))
        (sym is) f))
    by (braces k k' v n1 n2 i s s' d) =
        let o = begun t.place [] in
        let tree = closed_as ki.ImportPath (longer (begun t1.place (full_leaf ki.Name t1 ∷ [])) q.ts) in
        let path = import_path x t1 m m1 q.v (k ∷ (k' ∷ (v ++ w))) q.ts p e at q.kids q.spelled q.placed in
        let far : q.n ≡ m + length (t1 ∷ q.v) = omega (arith, q.at, at) in
        let e0 = ended_fixed x ki.UseNames si.LeftBrace imported (with_kid o tree) hs n1 n2 k' v w gs' s' d in
        let e1 = ended_fixed x ki.UseNames si.PathMark (pi.Fixed si.LeftBrace ∷ imported) (with_kid o tree) hs q.n n1 k (k' ∷ v) w gs' s
        e0 in
        let e2 = ended_kid x ki.UseNames (pi.Kid so.ImportPath) (pi.Fixed si.PathMark ∷ pi.Fixed si.LeftBrace ∷ imported) o hs m q.n
        (t1 ∷ q.v) (k ∷ (k' ∷ v)) w gs' tree
        (wanted_kid x so.ImportPath (pi.Fixed si.PathMark ∷ pi.Fixed si.LeftBrace ∷ imported) m (t1 ∷ q.v) (k ∷ (k' ∷ (v ++ w))) tree
        refl path) far e1 in
        let e3 = ended_fixed x ki.UseNames si.Use (pi.Kid so.ImportPath ∷ pi.Fixed si.PathMark ∷ pi.Fixed si.LeftBrace ∷ imported) o hs n m
        t ((t1 ∷ q.v) ++ (k ∷ (k' ∷ v))) w gs' b e2 in
        let f = ended_form x ki.UseNames o hs n (t ∷ ((t1 ∷ q.v) ++ (k ∷ (k' ∷ v)))) w gs'
        (record { none = refl; operator = refl; yield = refl }) (bare t.place) refl b.place e3 in
        let is : t ∷ (t1 ∷ u) ≡ t ∷ ((t1 ∷ q.v) ++ (k ∷ (k' ∷ v))) = ap (λ y. t ∷ (t1 ∷ y)) (q.is ∙ ap (λ y. q.v ++ y) i) in
        use_tree x ki.UseNames hs n (t ∷ (t1 ∷ u)) w gs' refl (λ y. refl) (subst (λ y. Form x ki.UseNames hs n y w gs') (sym is) f)

-- an import under another name
alias_import : (x : Source) (t t1 k : Token) (hs : List Group) (n m m1 m2 : ℕ) (u v w : List Token) (gs' : List Group) →
    Begun x si.Use t n m → place_of x.tokens m ≡ t1.place → m1 ≡ m + 1 → class_of t1 ≡ cl.Name → u ≡ k ∷ v → Begun x si.Equals k m1 m2 →
    Ended x ki.UseAlias aliased (begun t.place (full_leaf ki.Name t1 ∷ [])) hs m2 v w gs' → Tree x so.Use hs n (t ∷ (t1 ∷ u)) w gs'
alias_import x t t1 k hs n m m1 m2 u v w gs' b p at e i s d =
    let o = begun t.place [] in
    let leaf = full_leaf ki.Name t1 in
    let e1 = ended_fixed x ki.UseAlias si.Equals aliased (with_kid o leaf) hs m1 m2 k v w gs' s d in
    let e2 = ended_kid x ki.UseAlias (pi.Kid so.Name) (pi.Fixed si.Equals ∷ aliased) o hs m m1 (t1 ∷ []) (k ∷ v) w gs' leaf
    (wanted_kid x so.Name (pi.Fixed si.Equals ∷ aliased) m (t1 ∷ []) ((k ∷ v) ++ w) leaf refl (first_name x t1 m ((k ∷ v) ++ w) p e)) at
    e1 in
    let e3 = ended_fixed x ki.UseAlias si.Use (pi.Kid so.Name ∷ pi.Fixed si.Equals ∷ aliased) o hs n m t (t1 ∷ (k ∷ v)) w gs' b e2 in
    let f = ended_form x ki.UseAlias o hs n (t ∷ (t1 ∷ (k ∷ v))) w gs' (record { none = refl; operator = refl; yield = refl })
    (bare t.place) refl b.place e3 in
    use_tree x ki.UseAlias hs n (t ∷ (t1 ∷ u)) w gs' refl (λ y. refl) (subst (λ y. Form x ki.UseAlias hs n (t ∷ (t1 ∷ y)) w gs') (sym i) f)

pub use_start_means : (x : Source) (c : Class) (t1 : Token) (gs : List Group) (m : ℕ) (u w : List Token) (gs' : List Group) →
    class_of t1 ≡ c → Used x (use_start_row c) t1 gs m u w gs' → Means x ru.UseStart gs m (t1 ∷ u) w gs'
use_start_means x cl.Name t1 gs m u w gs' e h t n hs i b =
    by (last_part x ru.AfterUseName (begun t1.place (full_leaf ki.Name t1 ∷ []) ∷ gs) h.n u w gs' h.reads
    (begun t1.place (full_leaf ki.Name t1 ∷ [])) (begun t.place []) hs (ap (λ y. begun t1.place (full_leaf ki.Name t1 ∷ []) ∷ y) i))
  where
    by : AfterName x (begun t1.place (full_leaf ki.Name t1 ∷ [])) (begun t.place []) hs h.n u w gs' →
        Tree x so.Use hs n (t ∷ (t1 ∷ u)) w gs'
    by (import q) = path_import x t t1 hs n m h.n u w gs' b h.place h.at e q
    by (alias k v m2 j s d) = alias_import x t t1 k hs n m h.n m2 u v w gs' b h.place h.at e j s d
use_start_means x _ t1 gs m u w gs' e h t n hs i b = absurd h

pub use_means : (x : Source) → RowMeans x use_row so.Use
use_means x (cl.Sign si.Use) t gs m u w gs' o e h =
    last_part x ru.UseStart (begun t.place [] ∷ gs) h.n u w gs' h.reads t m gs refl (record { class = e; place = h.place; next = h.at })
use_means x (cl.Sign _) t gs m u w gs' o e h = absurd h
use_means x _ t gs m u w gs' o e h = absurd h

no_longer : (g : Group) → longer g none ≡ g
no_longer g = ap (with_kids g) (append-nil g.kids)

pub after_use_part_means : (x : Source) (c : Class) (t : Token) (gs : List Group) (m : ℕ) (u w : List Token) (gs' : List Group) →
    class_of t ≡ c → Used x (after_use_part_row c) t gs m u w gs' → Means x ru.AfterUsePart gs m (t ∷ u) w gs'
unfolding is_shaped spell HasPlaces
after_use_part_means x (cl.Sign si.PathMark) t gs m u w gs' e h g o hs i =
    last_part x ru.AfterUseMark gs h.n u w gs' h.reads t m g o hs i (record { class = e; place = h.place; next = h.at })
after_use_part_means x (cl.Sign si.Semicolon) t gs m u w gs' e h g o hs i = record {
  v = [];
  v' = t ∷ u;
  n = m;
  ts = none;
  is = refl;
  at = omega arith;
  kids = λ k. refl;
  spelled = refl;
  placed = tt;
  ends = whole t h.n (ap (λ l. t ∷ l) h.reads.0) (record { class = e; place = h.place; next = h.at })
      (h.reads.1 ∙ ap (λ y. close ki.Use (close ki.ImportPath y)) (i ∙ ap (λ y. y ∷ o ∷ hs) (sym (no_longer g))));
}
after_use_part_means x (cl.Sign _) t gs m u w gs' e h g o hs i = absurd h
after_use_part_means x _ t gs m u w gs' e h g o hs i = absurd h

pub after_use_name_means : (x : Source) (c : Class) (t : Token) (gs : List Group) (m : ℕ) (u w : List Token) (gs' : List Group) →
    class_of t ≡ c → Used x (after_use_name_row c) t gs m u w gs' → Means x ru.AfterUseName gs m (t ∷ u) w gs'
after_use_name_means x (cl.Sign si.Equals) t gs m u w gs' e h g o hs i =
    let r = subst (λ y. Reads x (rest_of 3 ki.UseAlias) (lift y) h.n u w gs') i h.reads in
    alias t u h.n refl (record { class = e; place = h.place; next = h.at })
    (whole_form x ki.UseAlias aliased (with_kids o (o.kids ++ g.kids)) hs h.n u w gs' (refl, tt) (λ y. cc) r)
after_use_name_means x c t gs m u w gs' e h g o hs i = import (after_use_part_means x c t gs m u w gs' e h g o hs i)

-- a further name, and what stands behind it
name_import : (x : Source) (t t1 : Token) (g o : Group) (hs : List Group) (n m m1 : ℕ) (u w : List Token) (gs' : List Group) →
    Begun x si.PathMark t n m → m1 ≡ m + 1 → ((w : List Token) → IsTree x so.PathName m (t1 ∷ []) w (full_leaf ki.Name t1)) →
    Import x (with_kid g (full_leaf ki.Name t1)) o hs m1 u w gs' → Import x g o hs n (t ∷ (t1 ∷ u)) w gs'
unfolding is_shaped spell HasPlaces
name_import x t t1 g o hs n m m1 u w gs' b at f q =
    let leaf = full_leaf ki.Name t1 in
    let k = f [] in
    record {
      v = t ∷ (t1 ∷ q.v);
      v' = q.v';
      n = q.n;
      ts = more leaf q.ts;
      is = ap (λ y. t ∷ (t1 ∷ y)) q.is;
      at = omega (arith, q.at, at, b.next);
      kids = λ y. rw k.shaped (q.kids y);
      spelled = ap (λ y. sign_token 0 si.PathMark ∷ (y ++ all_led 0 (le.Before si.PathMark) (spells 0 q.ts))) k.spelled ∙ ap
          (λ y. sign_token 0 si.PathMark ∷ unplaced t1 ∷ y) q.spelled ∙ ap (λ y. y ∷ unplaced t1 ∷ map unplaced q.v)
          (sym (sign_is t si.PathMark b.class));
      placed = (
        subst (λ y. HasPlaces x.file x.tokens y leaf) b.next k.placed,
        subst
            (λ y. HavePlaces x.file x.tokens (begins_led (le.Before si.PathMark) y (spells 0 q.ts)) q.ts) (omega (arith, at, b.next))
            q.placed,
      );
      ends = subst (λ y. ImportEnd x y o hs q.n q.v' w gs') (ap (with_kids g) (append_assoc g.kids (leaf ∷ []) (list_of q.ts))) q.ends;
    }

pub after_use_mark_means : (x : Source) (c : Class) (t1 : Token) (gs : List Group) (m : ℕ) (u w : List Token) (gs' : List Group) →
    class_of t1 ≡ c → Used x (after_use_mark_row c) t1 gs m u w gs' → Means x ru.AfterUseMark gs m (t1 ∷ u) w gs'
unfolding is_shaped spell HasPlaces
after_use_mark_means x cl.Name t1 gs m u w gs' e h t n g o hs i b =
    name_import x t t1 g o hs n m h.n u w gs' b h.at (λ w. further_kid x cl.Name t1 m w h.place e refl)
    (last_part x ru.AfterUsePart (add (full_leaf ki.Name t1) gs) h.n u w gs' h.reads (with_kid g (full_leaf ki.Name t1)) o hs
    (ap (add (full_leaf ki.Name t1)) i))
after_use_mark_means x cl.PathWord t1 gs m u w gs' e h t n g o hs i b =
    name_import x t t1 g o hs n m h.n u w gs' b h.at (λ w. further_word x t1 m w h.place e)
    (last_part x ru.AfterUsePart (add (full_leaf ki.Name t1) gs) h.n u w gs' h.reads (with_kid g (full_leaf ki.Name t1)) o hs
    (ap (add (full_leaf ki.Name t1)) i))
after_use_mark_means x (cl.Sign si.LeftBrace) t1 gs m u w gs' e h t n g o hs i b =
    let r = subst (λ y. Reads x (rest_of 4 ki.UseNames) (close ki.ImportPath y) h.n u w gs') i h.reads in
    let d = whole_form x ki.UseNames imported (with_kid o (closed_as ki.ImportPath g)) hs h.n u w gs' (refl, (refl, tt)) (λ y. cc) r in
    record {
      v = [];
      v' = t ∷ (t1 ∷ u);
      n = n;
      ts = none;
      is = refl;
      at = omega arith;
      kids = λ k. refl;
      spelled = refl;
      placed = tt;
      ends = braces t t1 u m h.n refl b (record { class = e; place = h.place; next = h.at })
          (subst (λ y. Ended x ki.UseNames imported (with_kid o (closed_as ki.ImportPath y)) hs h.n u w gs') (sym (no_longer g)) d);
    }
after_use_mark_means x (cl.Sign _) t1 gs m u w gs' e h t n g o hs i b = absurd h
after_use_mark_means x _ t1 gs m u w gs' e h t n g o hs i b = absurd h

-- a path by itself
pub import_path_means : (x : Source) → RowMeans x import_path_row so.ImportPath
import_path_means x cl.Name t gs m u w gs' o e h =
    let leaf = full_leaf ki.Name t in
    let g = begun t.place [] in
    let d = whole_form x ki.ImportPath (pi.EachLed si.PathMark so.PathName ∷ []) (with_kid g leaf) gs h.n u w gs' (refl, tt) (λ y. cc)
    h.reads in
    let a = ended_kid x ki.ImportPath (pi.Kid so.Name) (pi.EachLed si.PathMark so.PathName ∷ []) g gs m h.n (t ∷ []) u w gs' leaf
    (wanted_kid x so.Name (pi.EachLed si.PathMark so.PathName ∷ []) m (t ∷ []) (u ++ w) leaf refl (first_name x t m (u ++ w) h.place e))
    h.at d in
    form_tree x so.ImportPath ki.ImportPath gs m (t ∷ u) w gs' refl (λ y. refl)
    (ended_form x ki.ImportPath g gs m (t ∷ u) w gs' (record { none = refl; operator = refl; yield = refl }) (bare t.place) refl h.place
    a)
import_path_means x _ t gs m u w gs' o e h = absurd h

-- ---- declarations

abbrev value_pieces : List Piece
value_pieces = pi.Kid so.Name ∷ pi.Led si.Colon so.Type ∷ pi.Fixed si.Equals ∷ pi.Kid expr ∷ pi.Fixed si.Semicolon ∷ []

-- the word of a declaration behind what stands for its `export`
word_form : (x : Source) (k : Kind) (d : Sign) (ps : List Piece) (e : Node) (p : Place) (t1 : Token) (hs : List Group) (n m m1 : ℕ)
    (v u w : List Token) (gs' : List Group) → PlainRest k (pi.Optional so.Export ∷ pi.Fixed d ∷ ps) ps →
    ((y : List ℕ) → admits so.Decl k y ≡ true) → place_of x.tokens n ≡ p → Begun x d t1 m m1 →
    (Ended x k (pi.Fixed d ∷ ps) (with_kid (begun p []) e) hs m (t1 ∷ u) w gs' →
    Ended x k (pi.Optional so.Export ∷ pi.Fixed d ∷ ps) (begun p []) hs n (v ++ (t1 ∷ u)) w gs') →
    Reads x (symbols ps ++ sy.Close k ∷ []) (begun p (e ∷ []) ∷ hs) m1 u w gs' → Tree x so.Decl hs n (v ++ (t1 ∷ u)) w gs'
word_form x k d ps e p t1 hs n m m1 v u w gs' f a at b kid r =
    let d0 = whole_form x k ps (begun p (e ∷ [])) hs m1 u w gs' f.simple (λ z. let q : true ≡ false = sym z ∙ f.textless in cc) r in
    let d1 = ended_fixed x k d ps (begun p (e ∷ [])) hs m m1 t1 u w gs' b d0 in
    form_tree x so.Decl k hs n (v ++ (t1 ∷ u)) w gs' f.ordinary.none a
    (ended_form x k (begun p []) hs n (v ++ (t1 ∷ u)) w gs' f.ordinary (bare p) refl at
    (subst (λ z. Ended x k z (begun p []) hs n (v ++ (t1 ∷ u)) w gs') (sym f.form) (kid d1)))

-- what a word makes, whatever stands for the `export`
abbrev Words : Source → Node → Place → List Group → ℕ → ℕ → List Token → Type 0
Words x e p hs n m v = (c : Class) (t1 : Token) (gs : List Group) (u w : List Token) (gs' : List Group) → gs ≡ begun p (e ∷ []) ∷ hs →
    class_of t1 ≡ c → Used x (decl_word_row c) t1 gs m u w gs' → Tree x so.Decl hs n (v ++ (t1 ∷ u)) w gs'

-- the kid that stands for the `export`
abbrev Exports : Source → Node → Place → List Group → ℕ → ℕ → List Token → Type 0
Exports x e p hs n m v = (k : Kind) (ps : List Piece) (u w : List Token) (gs' : List Group) →
    Ended x k ps (with_kid (begun p []) e) hs m u w gs' → Ended x k (pi.Optional so.Export ∷ ps) (begun p []) hs n (v ++ u) w gs'

words : (x : Source) (e : Node) (p : Place) (hs : List Group) (n m : ℕ) (v : List Token) → place_of x.tokens n ≡ p →
    Exports x e p hs n m v → Words x e p hs n m v
words x e p hs n m v at f (cl.Sign si.Def) t1 gs u w gs' i c h =
    word_form x ki.Def si.Def value_pieces e p t1 hs n m h.n v u w gs' (record {
      form = refl;
      ordinary = record { none = refl; operator = refl; yield = refl };
      simple = (refl, (refl, refl, (refl, tt)));
      textless = refl;
    }) (λ y. refl) at (record { class = c; place = h.place; next = h.at })
    (λ d. f ki.Def (pi.Fixed si.Def ∷ value_pieces) (t1 ∷ u) w gs' d) (subst (λ y. Reads x (rest_of 2 ki.Def) y h.n u w gs') i h.reads)
words x e p hs n m v at f (cl.Sign si.Let) t1 gs u w gs' i c h =
    word_form x ki.GlobalLet si.Let value_pieces e p t1 hs n m h.n v u w gs' (record {
      form = refl;
      ordinary = record { none = refl; operator = refl; yield = refl };
      simple = (refl, (refl, refl, (refl, tt)));
      textless = refl;
    }) (λ y. refl) at (record { class = c; place = h.place; next = h.at })
    (λ d. f ki.GlobalLet (pi.Fixed si.Let ∷ value_pieces) (t1 ∷ u) w gs' d)
    (subst (λ y. Reads x (rest_of 2 ki.GlobalLet) y h.n u w gs') i h.reads)
words x e p hs n m v at f (cl.Sign si.Const) t1 gs u w gs' i c h =
    word_form x ki.GlobalConst si.Const value_pieces e p t1 hs n m h.n v u w gs' (record {
      form = refl;
      ordinary = record { none = refl; operator = refl; yield = refl };
      simple = (refl, (refl, refl, (refl, tt)));
      textless = refl;
    }) (λ y. refl) at (record { class = c; place = h.place; next = h.at })
    (λ d. f ki.GlobalConst (pi.Fixed si.Const ∷ value_pieces) (t1 ∷ u) w gs' d)
    (subst (λ y. Reads x (rest_of 2 ki.GlobalConst) y h.n u w gs') i h.reads)
words x e p hs n m v at f (cl.Sign si.Type) t1 gs u w gs' i c h =
    let ps : List Piece = pi.Kid so.Name ∷ pi.Fixed si.Equals ∷ pi.Kid so.Type ∷ pi.Fixed si.Semicolon ∷ [] in
    word_form x ki.TypeDecl si.Type ps e p t1 hs n m h.n v u w gs' (record {
      form = refl;
      ordinary = record { none = refl; operator = refl; yield = refl };
      simple = (refl, (refl, tt));
      textless = refl;
    }) (λ y. refl) at (record { class = c; place = h.place; next = h.at })
    (λ d. f ki.TypeDecl (pi.Fixed si.Type ∷ ps) (t1 ∷ u) w gs' d) (subst (λ y. Reads x (rest_of 2 ki.TypeDecl) y h.n u w gs') i h.reads)
words x e p hs n m v at f (cl.Sign si.Fn) t1 gs u w gs' i c h =
    let ps : List Piece = pi.Kid so.Name ∷ pi.Kid so.Params ∷ pi.Kid so.Type ∷ pi.Fixed si.Equals ∷ pi.Kid expr ∷ pi.Fixed si.Semicolon ∷
    [] in
    word_form x ki.Fn si.Fn ps e p t1 hs n m h.n v u w gs' (record {
      form = refl;
      ordinary = record { none = refl; operator = refl; yield = refl };
      simple = (refl, (refl, (refl, (refl, tt))));
      textless = refl;
    }) (λ y. refl) at (record { class = c; place = h.place; next = h.at })
    (λ d. f ki.Fn (pi.Fixed si.Fn ∷ ps) (t1 ∷ u) w gs' d) (subst (λ y. Reads x (rest_of 2 ki.Fn) y h.n u w gs') i h.reads)
words x e p hs n m v at f (cl.Sign _) t1 gs u w gs' i c h = absurd h
words x e p hs n m v at f _ t1 gs u w gs' i c h = absurd h

-- `export`
export_kid : (x : Source) (t : Token) (m : ℕ) (w : List Token) → place_of x.tokens m ≡ t.place → class_of t ≡ cl.Sign si.Export →
    IsTree x so.Export m (t ∷ []) w (bare_leaf ki.Export t.place)
export_kid x t m w p e = form_kid x so.Export ki.Export t.place m (t ∷ []) w (bare_leaf ki.Export t.place) refl (λ h ts i. refl)
    (mark_form x ki.Export si.Export t (begun t.place [] ∷ []) m w refl (record { none = refl; operator = refl; yield = refl }) p e)

pub decl_word_means : (x : Source) (c : Class) (t1 : Token) (gs : List Group) (m : ℕ) (u w : List Token) (gs' : List Group) →
    class_of t1 ≡ c → Used x (decl_word_row c) t1 gs m u w gs' → Means x ru.DeclWord gs m (t1 ∷ u) w gs'
decl_word_means x c t1 gs m u w gs' e h t n hs i b =
    words x (bare_leaf ki.Export t.place) t.place hs n m (t ∷ []) b.place
    (λ k ps u w gs' d. ended_kid x k (pi.Optional so.Export) ps (begun t.place []) hs n m (t ∷ []) u w gs' (bare_leaf ki.Export t.place)
    (present_kid x so.Export ps n (t ∷ []) (u ++ w) (bare_leaf ki.Export t.place) refl (export_kid x t n (u ++ w) b.place b.class))
    b.next d) c t1 gs u w gs' i e h

pub decl_means : (x : Source) → RowMeans x decl_row so.Decl
decl_means x (cl.Sign si.Export) t gs m u w gs' o e h =
    last_part x ru.DeclWord (begun t.place (bare_leaf ki.Export t.place ∷ []) ∷ gs) h.n u w gs' h.reads t m gs refl
    (record { class = e; place = h.place; next = h.at })
decl_means x c t gs m u w gs' o e h =
    let h1 = used_led x (ch.Open ∷ ch.Absent ∷ []) (decl_word_row c) t gs m u w gs' h in
    words x (nothing x) t.place gs m m [] (used_place x (decl_word_row c) t (begun t.place (nothing x ∷ []) ∷ gs) m u w gs' h1)
    (λ k ps u w gs' d. ended_kid x k (pi.Optional so.Export) ps (begun t.place []) gs m m [] u w gs' (nothing x)
    (absent_kid x so.Export ps m (u ++ w)) (omega arith) d) c t (begun t.place (nothing x ∷ []) ∷ gs) u w gs' refl e h1
