-- Lists in expressions and statements are read, before what closes them.
use Rattle.std.proofs.Common.{◌≡◌, ℕ, ◌≤◌, List, [], ◌∷◌, ◌++◌, Bool, true, false, refl, ap, sym, ◌∙◌, subst, arith, append_assoc, ◌⊎◌, inl, inr, Option, Some, None, if◌then◌else◌}
use Rattle.std.proofs.lemmas.List.{append-nil}
use Rattle.hare_tree.specs.declared.kind.Kind.{Kind}
use Rattle.hare_tree.specs.declared.kind.Kind.TheVariants as ki
use Rattle.hare_tree.specs.declared.token.Token.{Token}
use Rattle.hare_tree.specs.declared.form.Sign.{Sign}
use Rattle.hare_tree.specs.declared.form.Sign.TheVariants as si
use Rattle.hare_tree.specs.declared.form.Own.TheVariants as ow
use Rattle.hare_tree.specs.declared.form.Sort.{Sort}
use Rattle.hare_tree.specs.declared.form.Sort.TheVariants as so
use Rattle.hare_tree.specs.declared.form.Lead.TheVariants as le
use Rattle.hare_tree.specs.declared.form.Piece.TheVariants as pi
use Rattle.hare_tree.specs.Node.{Head, Node, Nodes, branch, none, more, size_of, sizes_of}
use Rattle.hare_tree.specs.Levels.{admits}
use Rattle.hare_tree.specs.Spell.{start_of, sign_token, stands_alone, all_led, spell, spells}
use Rattle.hare_tree.specs.Shape.{is_shaped, are_kids, is_own, is_leaf, is_none, is_none_or_comma, edges}
use Rattle.hare_automaton.specs.declared.class.Class.{Class}
use Rattle.hare_automaton.specs.declared.class.Class.TheVariants as cl
use Rattle.hare_automaton.specs.declared.rule.Rule.{Rule}
use Rattle.hare_automaton.specs.declared.rule.Rule.TheVariants as ru
use Rattle.hare_automaton.specs.declared.rule.Symbol.{Symbol}
use Rattle.hare_automaton.specs.declared.rule.Symbol.TheVariants as sy
use Rattle.hare_automaton.specs.declared.rule.Change.{Change}
use Rattle.hare_automaton.specs.declared.rule.Change.TheVariants as ch
use Rattle.hare_automaton.specs.Classes.{class_of}
use Rattle.hare_automaton.specs.Rows.{Fault, Skips, Uses, part, before, or_skips, has_sign}
use Rattle.hare_automaton.specs.DeclarationRows.{of_row}
use Rattle.hare_automaton.specs.Table.{row}
use Rattle.hare_automaton.specs.Engine.{Group, begun, with_kids, add, run}
use Rattle.hare_tree.specs.Signs.{is_sign}
use Rattle.hare_tree.specs.Shape.{stops, Edge as EdgeOf, edges, ends_before, behind_item, items_end}
use Rattle.hare_automaton.specs.OneTree.{plain, is_sort as covered}
use Rattle.hare_automaton.proofs.Machine.Steps.{front, run_uses, run_skip, run_absent, run_ends, run_want}
use Rattle.hare_automaton.proofs.Spelled.Paths.{split}
use Rattle.hare_automaton.proofs.Machine.Edges.{pull, stops_calm, edge, closed_by, ReadsTo, read_kid}
use Rattle.hare_automaton.proofs.Spelled.Lists.{nothing_head, run_optional, shape}
use Rattle.hare_automaton.proofs.Spelled.Kids.{begins, run_or, absent_spell, absent_plain, stands, stands_not_alone, led_kid}
use Rattle.hare_automaton.proofs.Spelled.Lists.{filled, fill_more, fill_none, run_group}
use Rattle.hare_tree.specs.Shape.{is_dots}
use Rattle.hare_tree.specs.Spell.{listed}

-- ---- items between commas

-- the sign that closes a list of a sort
pub record Closer (s : Sort) (d : Sign) : Type 0 where
  pub sort : covered s ≡ true
  pub items : stands s ≡ true
  pub anywhere : (c : Class) → closed_by s c ≡ true
  pub faults : of_row s (cl.Sign d) ≡ Fault
  pub pulls : pull (cl.Sign d) ≡ 0
  pub comma : has_sign si.Comma (cl.Sign d) ≡ false
  pub no_else : is_sign si.Else d ≡ false
  pub no_comma : is_sign si.Comma d ≡ false

-- what stands in front of the items that are left: a comma, or the sign that closes the list
pub record Items (f : ℕ) (n : Rule) (d : Sign) (u w : List Token) (ts : Nodes) (st : List Symbol) (g : Group) (gs : List Group) : Type
    0 where
  pub next : ((front (u ++ w) ≡ cl.Sign si.Comma) × (behind_item (edges ts) ≡ Some si.Comma)) ⊎ (front (u ++ w) ≡ cl.Sign d)
  pub runs : run f (u ++ w) (part n ∷ st) (g ∷ gs) ≡ run f w st (filled f g ts ∷ gs)

pub same_sign : (a b : Sign) → cl.Sign a ≡ cl.Sign b → a ≡ b
same_sign a b e = cc

-- the item before ends there
pub item_pull : (d : Sign) (v : List Token) (es : List EdgeOf) → pull (cl.Sign d) ≡ 0 →
    ((front v ≡ cl.Sign si.Comma) × (behind_item es ≡ Some si.Comma)) ⊎ (front v ≡ cl.Sign d) → pull (front v) ≡ 0
item_pull d v es p (inl e) = rw (e.0) refl
item_pull d v es p (inr e) = rw e p

pub item_stops : (d : Sign) (v : List Token) (es : List EdgeOf) (t : Node) → is_sign si.Else d ≡ false → is_sign si.Comma d ≡ false →
    ends_before (behind_item es) (edge t) ≡ true →
    ((front v ≡ cl.Sign si.Comma) × (behind_item es ≡ Some si.Comma)) ⊎ (front v ≡ cl.Sign d) → (x : Sign) → front v ≡ cl.Sign x →
    stops x t ≡ true
item_stops d v es t p q k (inl e) x i =
    let c : ends_before (Some si.Comma) (edge t) ≡ true = subst (λ b. ends_before b (edge t) ≡ true) e.1 k in
    rw (← same_sign si.Comma x (sym e.0 ∙ i)) c
item_stops d v es t p q k (inr e) x i = rw (← same_sign d x (sym e ∙ i)) (stops_calm d p q t)

pub item_behind : (k : Kind) (o : Option Sign) → stands_alone k ≡ false →
    (if is_none k then o else if is_dots k then None else Some si.Comma) ≡ Some si.Comma
item_behind ki.None o e = cc
item_behind ki.Dots o e = cc
item_behind _ o e = refl

comma_ends : (s : Sort) (d : Sign) (c : Class) → Closer s d → c ≡ cl.Sign d → row (ru.More s) c ≡ Skips (ch.Absent ∷ [])
comma_ends s d c q e = rw (e, q.comma) refl

last_comma : (s : Sort) (d : Sign) (c : Class) → Closer s d → c ≡ cl.Sign d →
    row (ru.BehindComma s) c ≡ Skips (ch.Close ki.TrailingComma ∷ [])
last_comma s d c q e = rw (e, q.faults) refl

more_last : (f : ℕ) (s : Sort) (d : Sign) (h : Head) (w : List Token) (st : List Symbol) (g : Group) (gs : List Group) → Closer s d →
    front w ≡ cl.Sign d → is_leaf is_none_or_comma (branch h none) ≡ true →
    Items f (ru.More s) d (all_led f (le.Before si.Comma) (spells f (more (branch h none) none))) w (more (branch h none) none) st g gs
unfolding spell
more_last f s d h w st g gs q e l =
    let p = split (is_none_or_comma h.kind) (is_own ow.Nothing h) l in
    by h.kind refl p.0 p.1
  where
    by : (k : Kind) → h.kind ≡ k → is_none_or_comma k ≡ true → is_own ow.Nothing h ≡ true →
        Items f (ru.More s) d (all_led f (le.Before si.Comma) (spells f (more (branch h none) none))) w (more (branch h none) none) st g gs
    by ki.None i a b =
        let r = run_absent f w (ru.More s) st (g ∷ gs) (comma_ends s d (front w) q e) in
        let x : all_led f (le.Before si.Comma) (spells f (more (branch h none) none)) ≡ [] = rw i refl in
        record {
          next = inr (rw x e);
          runs = rw x
              (r ∙ ap (λ y. run f w st (add (branch y none) (g ∷ gs))) (sym (nothing_head f h ki.None i b)));
        }
    by ki.TrailingComma i a b =
        let r = run_uses f (sign_token f si.Comma) w (ru.More s) st (g ∷ gs) (ch.Open ∷ []) (part (ru.BehindComma s) ∷ []) refl ∙ run_ends f
        w (ru.BehindComma s) ki.TrailingComma st _ (last_comma s d (front w) q e) in
        let x : all_led f (le.Before si.Comma) (spells f (more (branch h none) none)) ≡ sign_token f si.Comma ∷ [] = rw i refl in
        record {
          next = inl (rw x refl, rw i refl);
          runs = rw x
              (r ∙ ap (λ y. run f w st (add (branch y none) (g ∷ gs))) (sym (nothing_head f h ki.TrailingComma i b)));
        }
    by _ i a b = cc

pub read_more : (f n : ℕ) → ReadsTo f n → (s : Sort) (d : Sign) (m : ℕ) → Closer s d → (ts : Nodes) → sizes_of ts ≤ n →
    are_kids m (pi.More s ∷ []) ts ≡ true → items_end (edges ts) ≡ true →
    (w : List Token) (st : List Symbol) (g : Group) (gs : List Group) → front w ≡ cl.Sign d →
    Items f (ru.More s) d (all_led f (le.Before si.Comma) (spells f ts)) w ts st g gs
unfolding is_shaped spell
read_more f n ih s d m q none z h k w st g gs e = cc
read_more f n ih s d m q (more (branch h' none) none) z h k w st g gs e = more_last f s d h' w st g gs q e h
read_more f n ih s d m q (more (branch h' (more t' ts')) none) z h k w st g gs e = cc
read_more f n ih s d m q (more (branch ht tt') (more u ts)) z h k w st g gs e =
    let t = branch ht tt' in
    let p = split (is_shaped s t) (are_kids m (pi.More s ∷ []) (more u ts)) h in
    let k' = split (ends_before (behind_item (edges (more u ts))) (edge t)) (items_end (edges (more u ts))) k in
    let z' : size_of t ≤ n = omega arith in
    let zs : sizes_of (more u ts) ≤ n = omega arith in
    let r = read_more f n ih s d m q (more u ts) zs p.1 k'.1 w st (with_kids g (g.kids ++ plain f t ∷ [])) gs e in
    let v = all_led f (le.Before si.Comma) (spells f (more u ts)) in
    let x : all_led f (le.Before si.Comma) (spells f (more t (more u ts))) ≡ sign_token f si.Comma ∷ (spell f t ++ v) =
    led_kid f si.Comma s t (spells f (more u ts)) q.items p.0 in
    let b = begins f n ih s t z' q.sort p.0 in
    let a : pull (front (v ++ w)) ≡ 0 = item_pull d (v ++ w) (edges (more u ts)) q.pulls r.next in
    record {
      next = inl (rw x refl, item_behind ht.kind _ (stands_not_alone s ht tt' q.items p.0));
      runs = rw (x, append_assoc (spell f t) v w)
          (run_uses f (sign_token f si.Comma) (spell f t ++ (v ++ w)) (ru.More s) st (g ∷ gs) (ch.Open ∷ []) (part (ru.BehindComma s) ∷ [])
          refl
          ∙ run_optional f s (ru.BehindComma s) (ch.Drop ∷ []) (ch.Close ki.TrailingComma ∷ []) (part (ru.More s) ∷ []) (spell f t) (v ++ w)
          st (begun (start_of f) [] ∷ g ∷ gs) (λ c. refl) b
          ∙ read_kid f n ih s t z' q.sort p.0 (v ++ w) _ g gs (rw a (omega arith))
          (item_stops d (v ++ w) (edges (more u ts)) t q.no_else q.no_comma k'.0 r.next) (q.anywhere (front (v ++ w)))
          ∙ r.runs
          ∙ run_group f w st gs _ _ (fill_more f g t (more u ts)));
    }

-- `[kid {"," kid} [","]]`
pub read_list : (f n : ℕ) → ReadsTo f n → (s : Sort) (d : Sign) (m : ℕ) → Closer s d → (ts : Nodes) → sizes_of ts ≤ n →
    are_kids m (pi.List s ∷ []) ts ≡ true → items_end (edges ts) ≡ true →
    (w : List Token) (st : List Symbol) (g : Group) (gs : List Group) → front w ≡ cl.Sign d →
    run f (listed f (spells f ts) ++ w) (part (ru.List s) ∷ st) (g ∷ gs) ≡ run f w st (filled f g ts ∷ gs)
unfolding is_shaped spell
read_list f n ih s d m q none z h k w st g gs e = cc
read_list f n ih s d m q (more t none) z h k w st g gs e =
    let o : row (ru.List s) (front w) ≡ Skips (ch.Absent ∷ []) = rw (e, q.faults) refl in
    rw (absent_spell f t h, absent_plain f t h) (run_absent f w (ru.List s) st (g ∷ gs) o)
read_list f n ih s d m q (more (branch ht tt') (more u ts)) z h k w st g gs e =
    let t = branch ht tt' in
    let p = split (is_shaped s t) (are_kids m (pi.More s ∷ []) (more u ts)) h in
    let k' = split (ends_before (behind_item (edges (more u ts))) (edge t)) (items_end (edges (more u ts))) k in
    let z' : size_of t ≤ n = omega arith in
    let zs : sizes_of (more u ts) ≤ n = omega arith in
    let r = read_more f n ih s d m q (more u ts) zs p.1 k'.1 w st (with_kids g (g.kids ++ plain f t ∷ [])) gs e in
    let v = all_led f (le.Before si.Comma) (spells f (more u ts)) in
    let b = begins f n ih s t z' q.sort p.0 in
    let a : pull (front (v ++ w)) ≡ 0 = item_pull d (v ++ w) (edges (more u ts)) q.pulls r.next in
    rw (append-nil (spell f t), append_assoc (spell f t) v w)
    (run_or f s (ru.List s) (ch.Absent ∷ []) (part (ru.More s) ∷ []) (spell f t) (v ++ w) st (g ∷ gs) (λ c. refl) b
    ∙ read_kid f n ih s t z' q.sort p.0 (v ++ w) _ g gs (rw a (omega arith))
    (item_stops d (v ++ w) (edges (more u ts)) t q.no_else q.no_comma k'.0 r.next) (q.anywhere (front (v ++ w)))
    ∙ r.runs
    ∙ run_group f w st gs _ _ (fill_more f g t (more u ts)))

-- ---- statements, each with a semicolon

statement_stands : (h : Head) (ts : Nodes) → is_shaped so.Statement (branch h ts) ≡ true → stands_alone h.kind ≡ false
statement_stands h ts e = by_kind h.kind h.text (shape so.Statement h ts e).admitted
  where
    by_kind : (k : Kind) (x : List ℕ) → admits so.Statement k x ≡ true → stands_alone k ≡ false
    by_kind ki.None x e = cc
    by_kind ki.TrailingComma x e = cc
    by_kind ki.Dots x e = cc
    by_kind _ x e = refl

pub read_statements : (f n : ℕ) → ReadsTo f n → (m : ℕ) (ts : Nodes) → sizes_of ts ≤ n →
    are_kids m (pi.EachFollowed so.Statement si.Semicolon ∷ []) ts ≡ true →
    (w : List Token) (st : List Symbol) (g : Group) (gs : List Group) → of_row so.Statement (front w) ≡ Fault →
    run f (all_led f (le.Behind si.Semicolon) (spells f ts) ++ w) (part (ru.EachFollowed so.Statement si.Semicolon) ∷ st) (g ∷ gs) ≡
    run f w st (filled f g ts ∷ gs)
unfolding is_shaped spell
read_statements f n ih m none z h w st g gs e =
    let o : row (ru.EachFollowed so.Statement si.Semicolon) (front w) ≡ Skips [] =
    ap (λ r. or_skips (before r (sy.Want si.Semicolon ∷ part (ru.EachFollowed so.Statement si.Semicolon) ∷ [])) []) e in
    run_skip f w (ru.EachFollowed so.Statement si.Semicolon) st (g ∷ gs) o ∙ run_group f w st gs _ _ (sym (fill_none f g))
read_statements f n ih m (more (branch ht tt') ts) z h w st g gs e =
    let t = branch ht tt' in
    let p = split (is_shaped so.Statement t) (are_kids m (pi.EachFollowed so.Statement si.Semicolon ∷ []) ts) h in
    let z' : size_of t ≤ n = omega arith in
    let zs : sizes_of ts ≤ n = omega arith in
    let v = all_led f (le.Behind si.Semicolon) (spells f ts) in
    let b = begins f n ih so.Statement t z' refl p.0 in
    let x : all_led f (le.Behind si.Semicolon) (spells f (more t ts)) ≡ (spell f t ++ sign_token f si.Semicolon ∷ []) ++ v =
    rw (statement_stands ht tt' p.0) refl in
    rw (
      x,
      append_assoc (spell f t ++ sign_token f si.Semicolon ∷ []) v w,
      append_assoc (spell f t) (sign_token f si.Semicolon ∷ [])
          (v ++ w),
    )
    (run_or f so.Statement (ru.EachFollowed so.Statement si.Semicolon) []
    (sy.Want si.Semicolon ∷ part (ru.EachFollowed so.Statement si.Semicolon) ∷ []) (spell f t) (sign_token f si.Semicolon ∷ (v ++ w)) st
    (g ∷ gs) (λ c. refl) b
    ∙ read_kid f n ih so.Statement t z' refl p.0 (sign_token f si.Semicolon ∷ (v ++ w)) _ g gs (omega arith)
    (λ y i. rw (← same_sign si.Semicolon y i) (stops_calm si.Semicolon refl refl t)) refl
    ∙ run_want f (sign_token f si.Semicolon) (v ++ w) si.Semicolon _ _ refl
    ∙ read_statements f n ih m ts zs p.1 w st (with_kids g (g.kids ++ plain f t ∷ [])) gs e
    ∙ run_group f w st gs _ _ (fill_more f g t ts))

-- ---- cases, before the brace that closes them

abbrev pub is_case_sort : Sort → Bool
is_case_sort so.Case = true
is_case_sort so.SwitchCase = true
is_case_sort _ = false

case_first : (s : Sort) (c : Class) (cs : List Change) (ss : List Symbol) → is_case_sort s ≡ true → of_row s c ≡ Uses cs ss →
    c ≡ cl.Sign si.Case
case_first so.Case (cl.Sign si.Case) cs ss l e = refl
case_first so.Case (cl.Sign _) cs ss l e = cc
case_first so.Case _ cs ss l e = cc
case_first so.SwitchCase (cl.Sign si.Case) cs ss l e = refl
case_first so.SwitchCase (cl.Sign _) cs ss l e = cc
case_first so.SwitchCase _ cs ss l e = cc
case_first _ c cs ss l e = cc

pub record Cases (f : ℕ) (s : Sort) (u w : List Token) (ts : Nodes) (st : List Symbol) (g : Group) (gs : List Group) : Type 0 where
  pub next : (front (u ++ w) ≡ cl.Sign si.Case) ⊎ (front (u ++ w) ≡ cl.Sign si.RightBrace)
  pub runs : run f (u ++ w) (part (ru.Each s) ∷ st) (g ∷ gs) ≡ run f w st (filled f g ts ∷ gs)

case_covered : (s : Sort) → is_case_sort s ≡ true → covered s ≡ true
case_covered so.Case e = refl
case_covered so.SwitchCase e = refl
case_covered _ e = cc

case_closed : (s : Sort) (c : Class) → is_case_sort s ≡ true → (c ≡ cl.Sign si.Case) ⊎ (c ≡ cl.Sign si.RightBrace) → closed_by s c ≡ true
case_closed so.Case c l (inl e) = rw e refl
case_closed so.Case c l (inr e) = rw e refl
case_closed so.SwitchCase c l (inl e) = rw e refl
case_closed so.SwitchCase c l (inr e) = rw e refl
case_closed _ c l e = cc

case_over : (s : Sort) → is_case_sort s ≡ true → of_row s (cl.Sign si.RightBrace) ≡ Fault
case_over so.Case e = refl
case_over so.SwitchCase e = refl
case_over _ e = cc

case_pull : (c : Class) → (c ≡ cl.Sign si.Case) ⊎ (c ≡ cl.Sign si.RightBrace) → pull c ≡ 0
case_pull c (inl e) = rw e refl
case_pull c (inr e) = rw e refl

case_stops : (c : Class) (t : Node) → (c ≡ cl.Sign si.Case) ⊎ (c ≡ cl.Sign si.RightBrace) → (x : Sign) → c ≡ cl.Sign x → stops x t ≡ true
case_stops c t (inl e) x i = rw (← same_sign si.Case x (sym e ∙ i)) (stops_calm si.Case refl refl t)
case_stops c t (inr e) x i = rw (← same_sign si.RightBrace x (sym e ∙ i)) (stops_calm si.RightBrace refl refl t)

pub read_cases : (f n : ℕ) → ReadsTo f n → (s : Sort) (m : ℕ) → is_case_sort s ≡ true → (ts : Nodes) → sizes_of ts ≤ n →
    are_kids m (pi.Each s ∷ []) ts ≡ true → (w : List Token) (st : List Symbol) (g : Group) (gs : List Group) →
    front w ≡ cl.Sign si.RightBrace → Cases f s (all_led f le.Nothing (spells f ts)) w ts st g gs
unfolding is_shaped spell
read_cases f n ih s m l none z h w st g gs e =
    let o : row (ru.Each s) (front w) ≡ Skips [] = rw (e, case_over s l) refl in
    record {
      next = inr e;
      runs = run_skip f w (ru.Each s) st (g ∷ gs) o ∙ run_group f w st gs _ _ (sym (fill_none f g));
    }
read_cases f n ih s m l (more t ts) z h w st g gs e =
    let p = split (is_shaped s t) (are_kids m (pi.Each s ∷ []) ts) h in
    let z' : size_of t ≤ n = omega arith in
    let zs : sizes_of ts ≤ n = omega arith in
    let r = read_cases f n ih s m l ts zs p.1 w st (with_kids g (g.kids ++ plain f t ∷ [])) gs e in
    let v = all_led f le.Nothing (spells f ts) in
    let b = begins f n ih s t z' (case_covered s l) p.0 in
    let a : pull (front (v ++ w)) ≡ 0 = case_pull (front (v ++ w)) r.next in
    record {
      next = inl (rw (append_assoc (spell f t) v w, b.is) (case_first s (class_of b.head) b.changes b.symbols l b.uses));
      runs = rw (append_assoc (spell f t) v w)
          (run_or f s (ru.Each s) [] (part (ru.Each s) ∷ []) (spell f t) (v ++ w) st (g ∷ gs) (λ c. refl) b
          ∙ read_kid f n ih s t z' (case_covered s l) p.0 (v ++ w) _ g gs (rw a (omega arith)) (case_stops (front (v ++ w)) t r.next)
          (case_closed s (front (v ++ w)) l r.next)
          ∙ r.runs
          ∙ run_group f w st gs _ _ (fill_more f g t ts));
    }
