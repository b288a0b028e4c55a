-- The elements of an array are read.
use Rattle.std.proofs.Common.{◌≡◌, ℕ, ◌≤◌, List, [], ◌∷◌, ◌++◌, true, false, refl, ap, sym, ◌∙◌, subst, arith, append_assoc, ◌⊎◌, inl, inr, Some}
use Rattle.std.proofs.lemmas.List.{append-nil}
use Rattle.hare_tree.specs.declared.kind.Kind.{Kind}
use Rattle.hare_tree.specs.declared.kind.Kind.TheVariants as ki
use Rattle.hare_tree.specs.declared.token.Token.{Token}
use Rattle.hare_tree.specs.declared.form.Sign.{Sign}
use Rattle.hare_tree.specs.declared.form.Sign.TheVariants as si
use Rattle.hare_tree.specs.declared.form.Own.TheVariants as ow
use Rattle.hare_tree.specs.declared.form.Lead.TheVariants as le
use Rattle.hare_tree.specs.declared.form.Piece.TheVariants as pi
use Rattle.hare_tree.specs.Node.{Head, Node, Nodes, branch, none, more, size_of, sizes_of}
use Rattle.hare_tree.specs.Forms.{expr}
use Rattle.hare_tree.specs.Spell.{start_of, sign_token, all_led, spell, spells}
use Rattle.hare_tree.specs.Shape.{is_shaped, are_kids, is_own, is_leaf, is_none_or_comma, edges}
use Rattle.hare_automaton.specs.declared.class.Class.TheVariants as cl
use Rattle.hare_automaton.specs.declared.rule.Rule.TheVariants as ru
use Rattle.hare_automaton.specs.declared.rule.Symbol.{Symbol}
use Rattle.hare_automaton.specs.declared.rule.Change.TheVariants as ch
use Rattle.hare_automaton.specs.Rows.{Skips, part}
use Rattle.hare_automaton.specs.Table.{row}
use Rattle.hare_automaton.specs.Engine.{Group, with_kids, bare_leaf, run}
use Rattle.hare_tree.specs.Shape.{stops, Edge as EdgeOf, edges, ends_before, behind_item, items_end}
use Rattle.hare_automaton.specs.OneTree.{plain, plain_head}
use Rattle.hare_automaton.proofs.Machine.Steps.{front, run_uses}
use Rattle.hare_automaton.proofs.Spelled.Paths.{split}
use Rattle.hare_automaton.proofs.Machine.Edges.{pull, stops_calm, edge, ReadsTo, read_kid}
use Rattle.hare_automaton.proofs.Spelled.Lists.{nothing_head, run_optional}
use Rattle.hare_tree.specs.Shape.{is_absent, is_none_or_dots}
use Rattle.hare_automaton.proofs.Spelled.Kids.{begins, run_or, absent_kind, absent_spell, absent_plain, stands_not_alone, led_kid}
use Rattle.hare_automaton.proofs.Spelled.Lists.{filled, fill_more, run_group}
use Rattle.hare_tree.specs.Spell.{listed}
use Rattle.hare_automaton.proofs.Machine.Steps.{run_changes}
use Rattle.hare_automaton.proofs.Spelled.Items.{same_sign, item_behind}

-- what stands in front of the elements that are left
abbrev pub Next : List Token → List EdgeOf → Type 0
Next v es = ((front v ≡ cl.Sign si.Comma) × (behind_item es ≡ Some si.Comma)) ⊎
    ((front v ≡ cl.Sign si.Dots) ⊎ (front v ≡ cl.Sign si.RightBracket))

pub record Elements (f : ℕ) (u w : List Token) (ts : Nodes) (st : List Symbol) (g : Group) (gs : List Group) : Type 0 where
  pub next : Next (u ++ w) (edges ts)
  pub runs : run f (u ++ w) (part ru.MoreElements ∷ st) (g ∷ gs) ≡ run f w st (filled f g ts ∷ gs)

next_pull : (v : List Token) (es : List EdgeOf) → Next v es → pull (front v) ≡ 0
next_pull v es (inl e) = rw (e.0) refl
next_pull v es (inr (inl e)) = rw e refl
next_pull v es (inr (inr e)) = rw e refl

next_stops : (v : List Token) (es : List EdgeOf) (t : Node) → ends_before (behind_item es) (edge t) ≡ true → Next v es → (x : Sign) →
    front v ≡ cl.Sign x → stops x t ≡ true
next_stops v es t k (inl e) x i =
    let c : ends_before (Some si.Comma) (edge t) ≡ true = subst (λ b. ends_before b (edge t) ≡ true) e.1 k in
    rw (← same_sign si.Comma x (sym e.0 ∙ i)) c
next_stops v es t k (inr (inl e)) x i = rw (← same_sign si.Dots x (sym e ∙ i)) (stops_calm si.Dots refl refl t)
next_stops v es t k (inr (inr e)) x i = rw (← same_sign si.RightBracket x (sym e ∙ i)) (stops_calm si.RightBracket refl refl t)

none_or_dots : (k : Kind) → is_none_or_dots k ≡ true → (k ≡ ki.None) ⊎ (k ≡ ki.Dots)
none_or_dots ki.None e = inl refl
none_or_dots ki.Dots e = inr refl
none_or_dots _ e = cc

none_or_comma : (k : Kind) → is_none_or_comma k ≡ true → (k ≡ ki.None) ⊎ (k ≡ ki.TrailingComma)
none_or_comma ki.None e = inl refl
none_or_comma ki.TrailingComma e = inr refl
none_or_comma _ e = cc

abbrev ends_pair : Head → Head → Nodes
ends_pair h u = more (branch h none) (more (branch u none) none)

-- the two last kids
last_two : (f : ℕ) (h u : Head) (w : List Token) (st : List Symbol) (g : Group) (gs : List Group) → front w ≡ cl.Sign si.RightBracket →
    is_leaf is_none_or_dots (branch h none) ≡ true → is_leaf is_none_or_comma (branch u none) ≡ true →
    Elements f (all_led f (le.Before si.Comma) (spells f (ends_pair h u))) w (ends_pair h u) st g gs
unfolding spell
last_two f h u w st g gs e l l' =
    let p = split (is_none_or_dots h.kind) (is_own ow.Nothing h) l in
    let q = split (is_none_or_comma u.kind) (is_own ow.Nothing u) l' in
    by (none_or_dots h.kind p.0) (none_or_comma u.kind q.0) p.1 q.1
  where
    plain_two : (k j : Kind) → h.kind ≡ k → u.kind ≡ j → is_own ow.Nothing h ≡ true → is_own ow.Nothing u ≡ true →
        with_kids g (g.kids ++ (bare_leaf k (start_of f) ∷ bare_leaf j (start_of f) ∷ [])) ≡ filled f g (ends_pair h u)
    plain_two k j i i' a b = ap (λ y. with_kids g (g.kids ++ (branch y none ∷ bare_leaf j (start_of f) ∷ [])))
        (sym (nothing_head f h k i a)) ∙ ap (λ y. with_kids g (g.kids ++ (branch (plain_head f h) none ∷ branch y none ∷ [])))
        (sym (nothing_head f u j i' b))

    by : (h.kind ≡ ki.None) ⊎ (h.kind ≡ ki.Dots) → (u.kind ≡ ki.None) ⊎ (u.kind ≡ ki.TrailingComma) → is_own ow.Nothing h ≡ true →
        is_own ow.Nothing u ≡ true → Elements f (all_led f (le.Before si.Comma) (spells f (ends_pair h u))) w (ends_pair h u) st g gs
    by (inl i) (inl i') a b =
        let x : all_led f (le.Before si.Comma) (spells f (ends_pair h u)) ≡ [] = rw (i, i') refl in
        let o : row ru.MoreElements (front w) ≡ Skips (ch.Absent ∷ ch.Absent ∷ []) = rw e refl in
        record {
          next = inr (inr (rw x e));
          runs = rw x (run_changes f w ru.MoreElements st (g ∷ gs) _ (ch.Absent ∷ ch.Absent ∷ []) o
              (λ t. ap (λ l. with_kids g l ∷ gs)
              (append_assoc g.kids (bare_leaf ki.None (start_of f) ∷ []) (bare_leaf ki.None (start_of f) ∷ []))) ∙ run_group f w st gs _ _
              (plain_two ki.None ki.None i i' a b));
        }
    by (inl i) (inr i') a b =
        let x : all_led f (le.Before si.Comma) (spells f (ends_pair h u)) ≡ sign_token f si.Comma ∷ [] = rw (i, i') refl in
        let o : row ru.BehindElementComma (front w) ≡ Skips (ch.Close ki.TrailingComma ∷ ch.Lift ∷ []) = rw e refl in
        record {
          next = inl (rw x refl, rw (i, i') refl);
          runs = rw x (run_uses f (sign_token f si.Comma) w ru.MoreElements st (g ∷ gs) (ch.Open ∷ ch.Absent ∷ ch.Open ∷ [])
              (part ru.BehindElementComma ∷ []) refl ∙ run_changes f w ru.BehindElementComma st _ _
              (ch.Close ki.TrailingComma ∷ ch.Lift ∷ []) o (λ t. refl) ∙ run_group f w st gs _ _
              (plain_two ki.None ki.TrailingComma i i' a b));
        }
    by (inr i) (inl i') a b =
        let x : all_led f (le.Before si.Comma) (spells f (ends_pair h u)) ≡ sign_token f si.Dots ∷ [] = rw (i, i') refl in
        let o : row ru.LastComma (front w) ≡ Skips (ch.Absent ∷ []) = rw e refl in
        record {
          next = inr (inl (rw x refl));
          runs = rw x (run_uses f (sign_token f si.Dots) w ru.MoreElements st (g ∷ gs) (ch.Mark ki.Dots ∷ []) (part ru.LastComma ∷ []) refl
              ∙ run_changes f w ru.LastComma st _ _ (ch.Absent ∷ []) o
              (λ t. ap (λ l. with_kids g l ∷ gs)
              (append_assoc g.kids (bare_leaf ki.Dots (start_of f) ∷ []) (bare_leaf ki.None (start_of f) ∷ []))) ∙ run_group f w st gs _ _
              (plain_two ki.Dots ki.None i i' a b));
        }
    by (inr i) (inr i') a b =
        let x : all_led f (le.Before si.Comma) (spells f (ends_pair h u)) ≡ sign_token f si.Dots ∷ sign_token f si.Comma ∷ [] =
        rw (i, i') refl in
        record {
          next = inr (inl (rw x refl));
          runs = rw x (run_uses f (sign_token f si.Dots) _ ru.MoreElements st (g ∷ gs) (ch.Mark ki.Dots ∷ []) (part ru.LastComma ∷ []) refl
              ∙ run_uses f (sign_token f si.Comma) w ru.LastComma st _ (ch.Mark ki.TrailingComma ∷ []) [] refl ∙ run_group f w st gs _ _
              (ap (with_kids g) (append_assoc g.kids (bare_leaf ki.Dots (start_of f) ∷ []) (bare_leaf ki.TrailingComma (start_of f) ∷ [])))
              ∙ run_group f w st gs _ _ (plain_two ki.Dots ki.TrailingComma i i' a b));
        }

pub read_more_elements : (f n : ℕ) → ReadsTo f n → (m : ℕ) (ts : Nodes) → sizes_of ts ≤ n →
    are_kids m (pi.MoreElements expr ∷ []) ts ≡ true → items_end (edges ts) ≡ true →
    (w : List Token) (st : List Symbol) (g : Group) (gs : List Group) → front w ≡ cl.Sign si.RightBracket →
    Elements f (all_led f (le.Before si.Comma) (spells f ts)) w ts st g gs
unfolding is_shaped spell
read_more_elements f n ih m none z h k w st g gs e = cc
read_more_elements f n ih m (more t none) z h k w st g gs e = cc
read_more_elements f n ih m (more (branch ht none) (more (branch hu none) none)) z h k w st g gs e =
    let p = split (is_leaf is_none_or_dots (branch ht none)) (is_leaf is_none_or_comma (branch hu none)) h in
    last_two f ht hu w st g gs e p.0 p.1
read_more_elements f n ih m (more (branch ht (more a b)) (more u none)) z h k w st g gs e = cc
read_more_elements f n ih m (more (branch ht none) (more (branch hu (more a b)) none)) z h k w st g gs e =
    let p = split (is_leaf is_none_or_dots (branch ht none)) false h in cc
read_more_elements f n ih m (more (branch ht tt') (more u (more v ts))) z h k w st g gs e =
    let t = branch ht tt' in
    let p = split (is_shaped expr t) (are_kids m (pi.MoreElements expr ∷ []) (more u (more v ts))) h in
    let k' = split (ends_before (behind_item (edges (more u (more v ts)))) (edge t)) (items_end (edges (more u (more v ts)))) k in
    let z' : size_of t ≤ n = omega arith in
    let zs : sizes_of (more u (more v ts)) ≤ n = omega arith in
    let r = read_more_elements f n ih m (more u (more v ts)) zs p.1 k'.1 w st (with_kids g (g.kids ++ plain f t ∷ [])) gs e in
    let y = all_led f (le.Before si.Comma) (spells f (more u (more v ts))) in
    let x : all_led f (le.Before si.Comma) (spells f (more t (more u (more v ts)))) ≡ sign_token f si.Comma ∷ (spell f t ++ y) =
    led_kid f si.Comma expr t (spells f (more u (more v ts))) refl p.0 in
    let b = begins f n ih expr t z' refl p.0 in
    let a : pull (front (y ++ w)) ≡ 0 = next_pull (y ++ w) (edges (more u (more v ts))) r.next in
    record {
      next = inl (rw x refl, item_behind ht.kind _ (stands_not_alone expr ht tt' refl p.0));
      runs = rw (x, append_assoc (spell f t) y w)
          (run_uses f (sign_token f si.Comma) (spell f t ++ (y ++ w)) ru.MoreElements st (g ∷ gs) (ch.Open ∷ ch.Absent ∷ ch.Open ∷ [])
          (part ru.BehindElementComma ∷ []) refl
          ∙ run_optional f expr ru.BehindElementComma (ch.Drop ∷ ch.Drop ∷ []) (ch.Close ki.TrailingComma ∷ ch.Lift ∷ [])
          (part ru.MoreElements ∷ []) (spell f t) (y ++ w) st _ (λ c. refl) b
          ∙ read_kid f n ih expr t z' refl p.0 (y ++ w) _ g gs (rw a (omega arith))
          (next_stops (y ++ w) (edges (more u (more v ts))) t k'.0 r.next) refl
          ∙ r.runs
          ∙ run_group f w st gs _ _ (fill_more f g t (more u (more v ts))));
    }

pub read_elements : (f n : ℕ) → ReadsTo f n → (m : ℕ) (ts : Nodes) → sizes_of ts ≤ n → are_kids m (pi.Elements expr ∷ []) ts ≡ true →
    items_end (edges ts) ≡ true → (w : List Token) (st : List Symbol) (g : Group) (gs : List Group) → front w ≡ cl.Sign si.RightBracket →
    run f (listed f (spells f ts) ++ w) (part ru.Elements ∷ st) (g ∷ gs) ≡ run f w st (filled f g ts ∷ gs)
unfolding is_shaped spell
read_elements f n ih m none z h k w st g gs e = cc
read_elements f n ih m (more t none) z h k w st g gs e = cc
read_elements f n ih m (more t (more u none)) z h k w st g gs e =
    let p = split (is_absent t) (is_absent u) h in
    let o : row ru.Elements (front w) ≡ Skips (ch.Absent ∷ ch.Absent ∷ []) = rw e refl in
    rw (absent_spell f t p.0, absent_kind u p.1, absent_spell f u p.1, absent_plain f t p.0, absent_plain f u p.1)
    (run_changes f w ru.Elements st (g ∷ gs) _ (ch.Absent ∷ ch.Absent ∷ []) o
    (λ t. ap (λ l. with_kids g l ∷ gs) (append_assoc g.kids (bare_leaf ki.None (start_of f) ∷ [])
    (bare_leaf ki.None (start_of f) ∷ []))))
read_elements f n ih m (more t (more u (more v ts))) z h k w st g gs e =
    let p = split (is_shaped expr t) (are_kids m (pi.MoreElements expr ∷ []) (more u (more v ts))) h in
    let k' = split (ends_before (behind_item (edges (more u (more v ts)))) (edge t)) (items_end (edges (more u (more v ts)))) k in
    let z' : size_of t ≤ n = omega arith in
    let zs : sizes_of (more u (more v ts)) ≤ n = omega arith in
    let r = read_more_elements f n ih m (more u (more v ts)) zs p.1 k'.1 w st (with_kids g (g.kids ++ plain f t ∷ [])) gs e in
    let y = all_led f (le.Before si.Comma) (spells f (more u (more v ts))) in
    let b = begins f n ih expr t z' refl p.0 in
    let a : pull (front (y ++ w)) ≡ 0 = next_pull (y ++ w) (edges (more u (more v ts))) r.next in
    rw (append-nil (spell f t), append_assoc (spell f t) y w)
    (run_or f expr ru.Elements (ch.Absent ∷ ch.Absent ∷ []) (part ru.MoreElements ∷ []) (spell f t) (y ++ w) st (g ∷ gs) (λ c. refl) b
    ∙ read_kid f n ih expr t z' refl p.0 (y ++ w) _ g gs (rw a (omega arith))
    (next_stops (y ++ w) (edges (more u (more v ts))) t k'.0 r.next) refl
    ∙ r.runs
    ∙ run_group f w st gs _ _ (fill_more f g t (more u (more v ts))))
