-- Each row of lists with commas is right, where the rows of their items are.
use Rattle.std.proofs.Common.{◌≡◌, ℕ, ◌+◌, List, [], ◌∷◌, ◌++◌, Bool, true, false, map, length, refl, ap, sym, ◌∙◌, subst, arith, append_assoc, if◌then◌else◌}
use Rattle.std.specs.Prelude.{Some}
use Rattle.std.proofs.lemmas.List.{append-nil, length-map}
use Rattle.hare_tree.specs.declared.kind.Kind.{Kind}
use Rattle.hare_tree.specs.declared.kind.Kind.TheVariants as ki
use Rattle.hare_tree.specs.declared.token.Token.{Token}
use Rattle.hare_tree.specs.declared.form.Sign.{Sign}
use Rattle.hare_tree.specs.declared.form.Sign.TheVariants as si
use Rattle.hare_tree.specs.declared.form.Sort.{Sort}
use Rattle.hare_tree.specs.declared.form.Lead.TheVariants as le
use Rattle.hare_tree.specs.declared.form.Piece.TheVariants as pi
use Rattle.hare_tree.specs.Node.{Head, Node, Nodes, branch, none, more}
use Rattle.hare_tree.specs.Forms.{expr}
use Rattle.hare_tree.specs.Spell.{start_of, sign_token, stands_alone, all_led, spell, spells}
use Rattle.hare_tree.specs.Shape.{is_shaped, is_leaf, is_none_or_comma, are_kids, items_end, edges, ends_before, behind_item, stops}
use Rattle.hare_tree.specs.Depth.{begins_led}
use Rattle.hare_tree.specs.Grammar.{HasPlaces, HavePlaces, place_of, unplaced}
use Rattle.hare_automaton.specs.declared.class.Class.{Class}
use Rattle.hare_automaton.specs.declared.class.Class.TheVariants as cl
use Rattle.hare_automaton.specs.declared.rule.Rule.TheVariants as ru
use Rattle.hare_automaton.specs.declared.rule.Change.TheVariants as ch
use Rattle.hare_automaton.specs.Classes.{class_of}
use Rattle.hare_automaton.specs.Rows.{Skips, Uses, part, before, led_by, or_skips, has_sign, at_sign}
use Rattle.hare_automaton.specs.DeclarationRows.{of_row}
use Rattle.hare_automaton.specs.ExpressionRows.{level_row}
use Rattle.hare_automaton.specs.Table.{more_elements_row, behind_element_comma_row, last_comma_row}
use Rattle.hare_automaton.specs.Engine.{Group, begun, with_kids, head_in, bare_leaf, add, close, lift, let_go}
use Rattle.hare_automaton.proofs.Machine.Steps.{front}
use Rattle.hare_automaton.proofs.Spelled.Paths.{split}
use Rattle.hare_automaton.proofs.Machine.Edges.{edge}
use Rattle.hare_prefixes.proofs.Soundness.Seen.{sign_is}
use Rattle.hare_prefixes.proofs.Soundness.Trees.{Source, Tree, Items, Begun, add_all}
use Rattle.hare_prefixes.proofs.Soundness.Means.{HasGroup, apart, has_kid, LastComma, Means}
use Rattle.hare_prefixes.proofs.Soundness.Stacks.{last_part, Used, used_led, used_or}
use Rattle.hare_prefixes.proofs.Soundness.Kids.{edge_ends, nothing, items_comma}
use Rattle.hare_prefixes.proofs.RightRows.TypeRows.{RowMeans, unit}
use Rattle.hare_prefixes.proofs.RightRows.SideRows.{put, led_kid, sign_of}

-- ---- items between commas

-- the kids of a list behind its first item
record Core (x : Source) (gs : List Group) (m : ℕ) (u w : List Token) (gs' : List Group) (ts : Nodes) : Type 0 where
  ends : items_end (edges ts) ≡ true
  spelled : all_led 0 (le.Before si.Comma) (spells 0 ts) ≡ map unplaced u
  placed : HavePlaces x.file x.tokens (begins_led (le.Before si.Comma) m (spells 0 ts)) ts
  comma : behind_item (edges ts) ≡ Some si.Comma → front (u ++ w) ≡ cl.Sign si.Comma
  adds : gs' ≡ add_all ts gs

any_head : Head
any_head = head_in ki.None (begun (start_of 0) [])

more_core : (x : Source) (s : Sort) (gs : List Group) (m : ℕ) (u w : List Token) (gs' : List Group) →
    (q : Items x (pi.More s) gs m u w gs') → Core x gs m u w gs' q.listed.ts
more_core x s gs m u w gs' q =
    let l = q.listed in record { ends = l.ends; spelled = l.spelled any_head; placed = l.placed any_head; comma = q.comma; adds = l.adds }

elements_core : (x : Source) (gs : List Group) (m : ℕ) (u w : List Token) (gs' : List Group) →
    (q : Items x (pi.MoreElements expr) gs m u w gs') → Core x gs m u w gs' q.listed.ts
elements_core x gs m u w gs' q =
    let l = q.listed in record { ends = l.ends; spelled = l.spelled any_head; placed = l.placed any_head; comma = q.comma; adds = l.adds }

core_more : (x : Source) (s : Sort) (gs : List Group) (m : ℕ) (u w : List Token) (gs' : List Group) (ts : Nodes) →
    ((n : ℕ) → are_kids n (pi.More s ∷ []) ts ≡ true) → Core x gs m u w gs' ts → Items x (pi.More s) gs m u w gs'
core_more x s gs m u w gs' ts k c = record {
  listed =
      record { ts = ts; kids = k; ends = c.ends; spelled = λ h. c.spelled; placed = λ h. c.placed; adds = c.adds };
  comma = c.comma;
}

core_elements : (x : Source) (gs : List Group) (m : ℕ) (u w : List Token) (gs' : List Group) (ts : Nodes) →
    ((n : ℕ) → are_kids n (pi.MoreElements expr ∷ []) ts ≡ true) → Core x gs m u w gs' ts → Items x (pi.MoreElements expr) gs m u w gs'
core_elements x gs m u w gs' ts k c = record {
  listed = record { ts = ts; kids = k; ends = c.ends; spelled = λ h. c.spelled; placed = λ h. c.placed; adds = c.adds };
  comma =
      c.comma;
}

-- an item ends before what stands behind it
item_ends : (t : Node) (ts : Nodes) (w : List Token) → ((d : Sign) → front w ≡ cl.Sign d → stops d t ≡ true) →
    (behind_item (edges ts) ≡ Some si.Comma → front w ≡ cl.Sign si.Comma) → items_end (edges ts) ≡ true →
    items_end (edge t ∷ edges ts) ≡ true
item_ends t ts w f g e =
    let a : ends_before (behind_item (edges ts)) (edge t) ≡ true = edge_ends (behind_item (edges ts)) t (λ d i. f d (comma d i)) in
    rw (a, e) refl
  where
    comma : (d : Sign) → behind_item (edges ts) ≡ Some d → front w ≡ cl.Sign d
    comma d i = let j = items_comma (edges ts) d i in rw (← j) (g (i ∙ ap Some (sym j)))

-- a comma, an item and those behind it
item_more : (x : Source) (s : Sort) (gs hs : List Group) (m n n' : ℕ) (t0 : Token) (u v v' w : List Token) (gs' : List Group) (ts : Nodes) →
    apart s ≡ true → u ≡ t0 ∷ (v ++ v') → n' ≡ n + length v → Begun x si.Comma t0 m n → (q : Tree x s gs n v (v' ++ w) hs) →
    Core x hs n' v' w gs' ts → Core x gs m u w gs' (more q.t ts)
unfolding spell HasPlaces
item_more x s gs hs m n n' t0 u v v' w gs' ts c i at b q r =
    let k = led_kid x si.Comma s m n t0 v (v' ++ w) q.t c b q.is in
    record {
      ends = item_ends q.t ts (v' ++ w) q.is.ends r.comma r.ends;
      spelled = put _ _ (t0 ∷ v) v' k.words r.spelled ∙ ap (map unplaced) (sym i);
      placed = (
        k.placed,
        subst (λ y. HavePlaces x.file x.tokens (begins_led (le.Before si.Comma) y (spells 0 ts)) ts) (at ∙ k.far)
            r.placed,
      );
      comma = λ e. ap (λ l. front (l ++ w)) i ∙ b.class;
      adds = r.adds ∙ ap (add_all ts) q.adds;
    }

-- nothing more
no_more : (x : Source) (gs : List Group) (m : ℕ) (w : List Token) → Core x gs m [] w (add (nothing x) gs) (more (nothing x) none)
unfolding spell stops HasPlaces
no_more x gs m w = record { ends = refl; spelled = refl; placed = ((refl, tt), tt); comma = λ e. cc; adds = refl }

-- a comma at the end
abbrev last_comma : Token → Node
last_comma t = bare_leaf ki.TrailingComma t.place

comma_more : (x : Source) (gs : List Group) (m n : ℕ) (t : Token) (w : List Token) → Begun x si.Comma t m n →
    Core x gs m (t ∷ []) w (add (last_comma t) gs) (more (last_comma t) none)
unfolding spell stops HasPlaces
comma_more x gs m n t w b = record {
  ends = refl;
  spelled = ap (λ y. y ∷ []) (sym (sign_is t si.Comma b.class));
  placed = ((sym b.place ∙ ap (place_of x.tokens) (omega arith), tt), tt);
  comma = λ e. b.class;
  adds = refl;
}

more_kids : (s : Sort) (t : Node) (ts : Nodes) → is_shaped s t ≡ true → ((n : ℕ) → are_kids n (pi.More s ∷ []) ts ≡ true) → (n : ℕ) →
    are_kids n (pi.More s ∷ []) (more t ts) ≡ true
unfolding is_shaped
more_kids s t none e k n = let y = k n in cc
more_kids s t (more u ts) e k n = rw e (k n)

list_kids : (s : Sort) (t : Node) (ts : Nodes) → is_shaped s t ≡ true → ((n : ℕ) → are_kids n (pi.More s ∷ []) ts ≡ true) → (n : ℕ) →
    are_kids n (pi.List s ∷ []) (more t ts) ≡ true
unfolding is_shaped
list_kids s t none e k n = let y = k n in cc
list_kids s t (more u ts) e k n = rw e (k n)

-- `{"," tree} [","]`
pub more_means : (x : Source) (s : Sort) (c : Class) (t : Token) (gs : List Group) (m : ℕ) (u w : List Token) (gs' : List Group) →
    class_of t ≡ c → Used x (at_sign si.Comma c (Uses (ch.Open ∷ []) (part (ru.BehindComma s) ∷ [])) (Skips (ch.Absent ∷ []))) t gs m u w
    gs' → Means x (ru.More s) gs m (t ∷ u) w gs'
more_means x s c t gs m u w gs' e h y o = by (has_sign si.Comma c) refl h
  where
    by : (b : Bool) → has_sign si.Comma c ≡ b →
        Used x (if b then Uses (ch.Open ∷ []) (part (ru.BehindComma s) ∷ []) else Skips (ch.Absent ∷ [])) t gs m u w gs' →
        Items x (pi.More s) gs m (t ∷ u) w gs'
    by true i h = last_part x (ru.BehindComma s) (begun t.place [] ∷ gs) h.n u w gs' h.reads y t m gs o refl
        (record { class = e ∙ sign_of si.Comma c i; place = h.place; next = h.at })
    by false i h = absurd h

pub behind_comma_means : (x : Source) (s : Sort) → RowMeans x (of_row s) s →
    (c : Class) (t1 : Token) (gs : List Group) (m : ℕ) (u w : List Token) (gs' : List Group) → class_of t1 ≡ c →
    Used x (or_skips (led_by (ch.Drop ∷ []) (before (of_row s c) (part (ru.More s) ∷ []))) (ch.Close ki.TrailingComma ∷ [])) t1 gs m u w
    gs' → Means x (ru.BehindComma s) gs m (t1 ∷ u) w gs'
behind_comma_means x s f c t1 gs m u w gs' e h y t n hs o i b =
    let r0 = before (of_row s c) (part (ru.More s) ∷ []) in
    let h1 = used_led x (ch.Drop ∷ []) r0 t1 gs m u w gs'
    (used_or x (led_by (ch.Drop ∷ []) r0) (ch.Close ki.TrailingComma ∷ []) t1 gs m u w gs' h) in
    let h2 : Used x r0 t1 hs m u w gs' = subst (λ l. Used x r0 t1 (let_go l) m u w gs') i h1 in
    let p = unit x (of_row s) s f (part (ru.More s) ∷ []) c t1 hs m u w gs' e h2 in
    let q = p.part o in
    let r = last_part x (ru.More s) p.hs p.n p.v' w gs' p.rest y (subst HasGroup (sym q.adds) (has_kid q.t hs o)) in
    core_more x s hs n (t ∷ (t1 ∷ u)) w gs' (more q.t r.listed.ts) (more_kids s q.t r.listed.ts q.is.shaped r.listed.kids)
    (item_more x s hs p.hs n m p.n t (t ∷ (t1 ∷ u)) p.v p.v' w gs' r.listed.ts y (ap (λ l. t ∷ l) p.is) p.at b q
    (more_core x s p.hs p.n p.v' w gs' r))

pub behind_comma_skips : (x : Source) (s : Sort) (gs : List Group) (m : ℕ) (w : List Token) →
    Means x (ru.BehindComma s) gs m [] w (close ki.TrailingComma gs)
unfolding is_shaped
behind_comma_skips x s gs m w y t n hs o i b =
    let c = core_more x s hs n (t ∷ []) w (add (last_comma t) hs) (more (last_comma t) none) (λ k. refl) (comma_more x hs n m t w b) in
    subst (λ l. Items x (pi.More s) hs n (t ∷ []) w l) (sym (ap (close ki.TrailingComma) i)) c

pub more_skips : (x : Source) (s : Sort) (gs : List Group) (m : ℕ) (w : List Token) → Means x (ru.More s) gs m [] w (add (nothing x) gs)
unfolding is_shaped
more_skips x s gs m w y o = core_more x s gs m [] w (add (nothing x) gs) (more (nothing x) none) (λ k. refl) (no_more x gs m w)

-- `[tree {"," tree} [","]]`
pub list_means : (x : Source) (s : Sort) → RowMeans x (of_row s) s →
    (c : Class) (t : Token) (gs : List Group) (m : ℕ) (u w : List Token) (gs' : List Group) → class_of t ≡ c →
    Used x (or_skips (before (of_row s c) (part (ru.More s) ∷ [])) (ch.Absent ∷ [])) t gs m u w gs' → Means x (ru.List s) gs m (t ∷ u) w gs'
unfolding is_shaped spell HasPlaces
list_means x s f c t gs m u w gs' e h y o =
    let p = unit x (of_row s) s f (part (ru.More s) ∷ []) c t gs m u w gs' e
    (used_or x (before (of_row s c) (part (ru.More s) ∷ [])) (ch.Absent ∷ []) t gs m u w gs' h) in
    let q = p.part o in
    let r = last_part x (ru.More s) p.hs p.n p.v' w gs' p.rest y (subst HasGroup (sym q.adds) (has_kid q.t gs o)) in
    let k = more_core x s p.hs p.n p.v' w gs' r in
    let ts = r.listed.ts in
    let ln : length (spell 0 q.t) ≡ length p.v = ap length q.is.spelled ∙ length-map p.v unplaced in
    record {
      ts = more q.t ts;
      kids = list_kids s q.t ts q.is.shaped r.listed.kids;
      ends = item_ends q.t ts (p.v' ++ w) q.is.ends k.comma k.ends;
      spelled = λ z. put _ _ p.v p.v' (append-nil (spell 0 q.t) ∙ q.is.spelled) k.spelled ∙ ap (map unplaced) (sym p.is);
      placed = λ z. (
        q.is.placed,
        subst (λ l. HavePlaces x.file x.tokens (begins_led (le.Before si.Comma) l (spells 0 ts)) ts)
            (p.at ∙ ap (λ l. m + l) (sym ln)) k.placed,
      );
      adds = k.adds ∙ ap (add_all ts) q.adds;
    }

pub list_skips : (x : Source) (s : Sort) (gs : List Group) (m : ℕ) (w : List Token) → Means x (ru.List s) gs m [] w (add (nothing x) gs)
unfolding is_shaped spell stops HasPlaces
list_skips x s gs m w y o = record {
  ts = more (nothing x) none;
  kids = λ k. refl;
  ends = refl;
  spelled = λ h. refl;
  placed = λ h.
      ((refl, tt), tt);
  adds = refl;
}

-- ---- the elements of an array

elements_kids : (t : Node) (ts : Nodes) → is_shaped expr t ≡ true → ((n : ℕ) → are_kids n (pi.MoreElements expr ∷ []) ts ≡ true) → (n : ℕ) →
    (are_kids n (pi.MoreElements expr ∷ []) (more t ts) ≡ true) × (are_kids n (pi.Elements expr ∷ []) (more t ts) ≡ true)
unfolding is_shaped
elements_kids t none e k n = let y = k n in cc
elements_kids t (more u none) e k n = let y = k n in cc
elements_kids t (more u (more v ts)) e k n = (rw e (k n), rw e (k n))

abbrev pub Level1 : Source → Type 0
Level1 x = RowMeans x (level_row 1) expr

pub elements_means : (x : Source) → Level1 x → (c : Class) (t : Token) (gs : List Group) (m : ℕ) (u w : List Token) (gs' : List Group) →
    class_of t ≡ c → Used x (or_skips (before (level_row 1 c) (part ru.MoreElements ∷ [])) (ch.Absent ∷ ch.Absent ∷ [])) t gs m u w gs' →
    Means x ru.Elements gs m (t ∷ u) w gs'
unfolding is_shaped spell HasPlaces
elements_means x f c t gs m u w gs' e h o =
    let p = unit x (level_row 1) expr f (part ru.MoreElements ∷ []) c t gs m u w gs' e
    (used_or x (before (level_row 1 c) (part ru.MoreElements ∷ [])) (ch.Absent ∷ ch.Absent ∷ []) t gs m u w gs' h) in
    let q = p.part o in
    let r = last_part x ru.MoreElements p.hs p.n p.v' w gs' p.rest (subst HasGroup (sym q.adds) (has_kid q.t gs o)) in
    let k = elements_core x p.hs p.n p.v' w gs' r in
    let ts = r.listed.ts in
    let ln : length (spell 0 q.t) ≡ length p.v = ap length q.is.spelled ∙ length-map p.v unplaced in
    record {
      ts = more q.t ts;
      kids = λ n. (elements_kids q.t ts q.is.shaped r.listed.kids n).1;
      ends = item_ends q.t ts (p.v' ++ w) q.is.ends k.comma k.ends;
      spelled = λ z. put _ _ p.v p.v' (append-nil (spell 0 q.t) ∙ q.is.spelled) k.spelled ∙ ap (map unplaced) (sym p.is);
      placed = λ z. (
        q.is.placed,
        subst (λ l. HavePlaces x.file x.tokens (begins_led (le.Before si.Comma) l (spells 0 ts)) ts)
            (p.at ∙ ap (λ l. m + l) (sym ln)) k.placed,
      );
      adds = k.adds ∙ ap (add_all ts) q.adds;
    }

pub elements_skips : (x : Source) (gs : List Group) (m : ℕ) (w : List Token) →
    Means x ru.Elements gs m [] w (add (nothing x) (add (nothing x) gs))
unfolding is_shaped spell stops HasPlaces
elements_skips x gs m w o = record {
  ts = more (nothing x) (more (nothing x) none);
  kids = λ k. refl;
  ends = refl;
  spelled = λ h. refl;
  placed = λ h. ((refl, tt), ((refl, tt), tt));
  adds = refl;
}

-- `...` and a comma at the end
dots_more : (x : Source) (gs : List Group) (m n : ℕ) (t : Token) (u w : List Token) (gs' : List Group) → Begun x si.Dots t m n →
    LastComma x (add (bare_leaf ki.Dots t.place) gs) n u w gs' → Items x (pi.MoreElements expr) gs m (t ∷ u) w gs'
unfolding is_shaped spell stops HasPlaces
dots_more x gs m n t u w gs' b q = by q.t q.leaf q.spelled q.placed q.adds
  where
    by : (c : Node) → is_leaf is_none_or_comma c ≡ true → spell 0 c ≡ map unplaced u → HasPlaces x.file x.tokens n c →
        gs' ≡ add c (add (bare_leaf ki.Dots t.place) gs) → Items x (pi.MoreElements expr) gs m (t ∷ u) w gs'
    by (branch h (more c cs)) l s p a = cc
    by (branch h none) l s p a =
        let k = split (is_none_or_comma h.kind) _ l in
        core_elements x gs m (t ∷ u) w gs' (more (bare_leaf ki.Dots t.place) (more (branch h none) none)) (λ y. rw l refl) (record {
          ends = last_ends h.kind k.0;
          spelled = ap (λ y. sign_token 0 si.Dots ∷ y) (alone h.kind k.0 (spell 0 (branch h none)) ∙ s) ∙ ap (λ y. y ∷ map unplaced u)
              (sym (sign_is t si.Dots b.class));
          placed = (
            (sym b.place ∙ ap (place_of x.tokens) (omega arith), tt),
            (subst (λ y. HasPlaces x.file x.tokens y (branch h none)) (b.next ∙ at h.kind k.0) p, tt),
          );
          comma = λ e. cc;
          adds = a;
        })
      where
        last_ends : (y : Kind) → is_none_or_comma y ≡ true →
            items_end (edges (more (bare_leaf ki.Dots t.place)
            (more (branch (record { kind = y; place = h.place; text = h.text; number = h.number; suffix = h.suffix }) none) none))) ≡ true
        last_ends ki.None e = refl
        last_ends ki.TrailingComma e = refl
        last_ends _ e = cc

        alone : (y : Kind) → is_none_or_comma y ≡ true → (z : List Token) →
            (if stands_alone y then z else sign_token 0 si.Comma ∷ z) ++ [] ≡ z
        alone ki.None e z = append-nil z
        alone ki.TrailingComma e z = append-nil z
        alone _ e z = cc

        at : (y : Kind) → is_none_or_comma y ≡ true → m + 1 ≡ (m + 1) + (if stands_alone y then 0 else 1)
        at ki.None e = omega arith
        at ki.TrailingComma e = omega arith
        at _ e = cc

pub more_elements_means : (x : Source) (c : Class) (t : Token) (gs : List Group) (m : ℕ) (u w : List Token) (gs' : List Group) →
    class_of t ≡ c → Used x (more_elements_row c) t gs m u w gs' → Means x ru.MoreElements gs m (t ∷ u) w gs'
more_elements_means x (cl.Sign si.Comma) t gs m u w gs' e h o =
    last_part x ru.BehindElementComma _ h.n u w gs' h.reads t m gs o refl (record { class = e; place = h.place; next = h.at })
more_elements_means x (cl.Sign si.Dots) t gs m u w gs' e h o =
    dots_more x gs m h.n t u w gs' (record { class = e; place = h.place; next = h.at }) (last_part x ru.LastComma _ h.n u w gs' h.reads)
more_elements_means x (cl.Sign _) t gs m u w gs' e h o = absurd h
more_elements_means x _ t gs m u w gs' e h o = absurd h

-- neither `...` nor a comma
pub more_elements_skips : (x : Source) (gs : List Group) (m : ℕ) (w : List Token) →
    Means x ru.MoreElements gs m [] w (add (nothing x) (add (nothing x) gs))
unfolding is_shaped spell stops HasPlaces
more_elements_skips x gs m w o = core_elements x gs m [] w _ (more (nothing x) (more (nothing x) none)) (λ k. refl)
    (record { ends = refl; spelled = refl; placed = ((refl, tt), ((refl, tt), tt)); comma = λ e. cc; adds = refl })

pub behind_element_comma_means : (x : Source) → Level1 x →
    (c : Class) (t1 : Token) (gs : List Group) (m : ℕ) (u w : List Token) (gs' : List Group) → class_of t1 ≡ c →
    Used x (behind_element_comma_row c) t1 gs m u w gs' → Means x ru.BehindElementComma gs m (t1 ∷ u) w gs'
behind_element_comma_means x f c t1 gs m u w gs' e h t n hs o i b =
    let r0 = before (level_row 1 c) (part ru.MoreElements ∷ []) in
    let ds = ch.Drop ∷ ch.Drop ∷ [] in
    let h1 = used_led x ds r0 t1 gs m u w gs' (used_or x (led_by ds r0) (ch.Close ki.TrailingComma ∷ ch.Lift ∷ []) t1 gs m u w gs' h) in
    let h2 : Used x r0 t1 hs m u w gs' = subst (λ l. Used x r0 t1 (let_go (let_go l)) m u w gs') i h1 in
    let p = unit x (level_row 1) expr f (part ru.MoreElements ∷ []) c t1 hs m u w gs' e h2 in
    let q = p.part o in
    let r = last_part x ru.MoreElements p.hs p.n p.v' w gs' p.rest (subst HasGroup (sym q.adds) (has_kid q.t hs o)) in
    core_elements x hs n (t ∷ (t1 ∷ u)) w gs' (more q.t r.listed.ts) (λ k. (elements_kids q.t r.listed.ts q.is.shaped r.listed.kids k).0)
    (item_more x expr hs p.hs n m p.n t (t ∷ (t1 ∷ u)) p.v p.v' w gs' r.listed.ts refl (ap (λ l. t ∷ l) p.is) p.at b q
    (elements_core x p.hs p.n p.v' w gs' r))

-- a comma at the end, and no `...`
pub behind_element_comma_skips : (x : Source) (gs : List Group) (m : ℕ) (w : List Token) →
    Means x ru.BehindElementComma gs m [] w (lift (close ki.TrailingComma gs))
unfolding is_shaped spell stops HasPlaces
behind_element_comma_skips x gs m w t n hs o i b =
    let c = core_elements x hs n (t ∷ []) w (add (last_comma t) (add (nothing x) hs)) (more (nothing x) (more (last_comma t) none))
    (λ k. refl) (record {
      ends = refl;
      spelled = ap (λ y. y ∷ []) (sym (sign_is t si.Comma b.class));
      placed = ((refl, tt), ((sym b.place ∙ ap (place_of x.tokens) (omega arith), tt), tt));
      comma = λ e. b.class;
      adds = refl;
    }) in
    subst (λ l. Items x (pi.MoreElements expr) hs n (t ∷ []) w l) (sym (ap (λ l. lift (close ki.TrailingComma l)) i ∙ lifted hs)) c
  where
    lifted : (hs : List Group) → lift (begun t.place (nothing x ∷ last_comma t ∷ []) ∷ hs) ≡ add (last_comma t) (add (nothing x) hs)
    lifted [] = refl
    lifted (h ∷ hs) = ap (λ l. with_kids h l ∷ hs) (sym (append_assoc h.kids (nothing x ∷ []) (last_comma t ∷ [])))

pub last_comma_means : (x : Source) (c : Class) (t : Token) (gs : List Group) (m : ℕ) (u w : List Token) (gs' : List Group) →
    class_of t ≡ c → Used x (last_comma_row c) t gs m u w gs' → Means x ru.LastComma gs m (t ∷ u) w gs'
unfolding spell HasPlaces
last_comma_means x (cl.Sign si.Comma) t gs m u w gs' e h =
    record {
      t = last_comma t;
      leaf = refl;
      spelled = ap (λ y. y ∷ []) (sym (sign_is t si.Comma e)) ∙ ap (λ l. map unplaced (t ∷ l))
          (sym h.reads.0);
      placed = (sym h.place ∙ ap (place_of x.tokens) (omega arith), tt);
      adds = h.reads.1;
    }
last_comma_means x (cl.Sign _) t gs m u w gs' e h = absurd h
last_comma_means x _ t gs m u w gs' e h = absurd h

pub last_comma_skips : (x : Source) (gs : List Group) (m : ℕ) (w : List Token) → Means x ru.LastComma gs m [] w (add (nothing x) gs)
unfolding spell HasPlaces
last_comma_skips x gs m w = record { t = nothing x; leaf = refl; spelled = refl; placed = (refl, tt); adds = refl }
