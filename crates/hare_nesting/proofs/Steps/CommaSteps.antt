-- Steps behind a comma: the tree that was begun there, in case the comma is the last, is let go or closed.
use Rattle.std.proofs.Common.{◌≡◌, ℕ, List, [], ◌∷◌, ◌++◌, true, false, ◌==◌, map, refl, arith}
use Rattle.hare_tree.specs.Node.{Node, branch, nodes_of}
use Rattle.hare_tree.specs.declared.kind.Kind.TheVariants as ki
use Rattle.hare_tree.specs.declared.form.Sort.{Sort}
use Rattle.hare_tree.specs.declared.token.Token.{Token}
use Rattle.hare_automaton.specs.declared.class.Class.{Class}
use Rattle.hare_automaton.specs.declared.rule.Rule.TheVariants as ru
use Rattle.hare_automaton.specs.declared.rule.Symbol.{Symbol}
use Rattle.hare_automaton.specs.declared.rule.Change.{Change}
use Rattle.hare_automaton.specs.declared.rule.Change.TheVariants as ch
use Rattle.hare_automaton.specs.Rows.{Row, Fault, Skips, Uses, part, before, led_by, or_skips}
use Rattle.hare_automaton.specs.ExpressionRows.{level_row}
use Rattle.hare_automaton.specs.DeclarationRows.{of_row}
use Rattle.hare_automaton.specs.Table.{row}
use Rattle.hare_automaton.specs.Engine.{Group, with_kids, head_in, close, lift, all_changed}
use Rattle.hare_automaton.proofs.Spelled.Paths.{split}
use Rattle.hare_nesting.specs.Gauge.{nodes_in}
use Rattle.hare_nesting.proofs.UnderWay.Stacks.{mark, frame_of, frames, stack_faults, is_empty, idle, follows, Held}
use Rattle.hare_nesting.proofs.Telling.Claims.{Stepped}
use Rattle.hare_nesting.proofs.UnderWay.Lists.{gains_then}
use Rattle.hare_nesting.proofs.UnderWay.Seen.{frames_close}
use Rattle.hare_nesting.proofs.UnderWay.Idle.{drop_gains, lift_gains}
use Rattle.hare_nesting.proofs.CheckedRows.Slots.{uses_ok}
use Rattle.hare_nesting.proofs.CheckedRows.SlotForms.{uses_before}
use Rattle.hare_nesting.proofs.CheckedRows.SlotSorts.{level_ok, of_ok}
use Rattle.hare_nesting.proofs.Steps.Stands.{Stands, stands_next, close_stands}
use Rattle.hare_nesting.proofs.Steps.Tame.{closes}
use Rattle.hare_nesting.proofs.UnderWay.Lifted.{empty_idle, idle_put, drop_stands, lift_stands}
use Rattle.hare_nesting.proofs.Steps.Follow.{ready_next, follows_tail}
use Rattle.hare_nesting.proofs.Steps.Stepped.{uses_same, skips_same, held_stands, over_skipped, used_stepped, Skipped}

-- ---- lists

-- the tree is let go, and then the next item is read
item_stepped : (f : ℕ) (t : Token) (c : Class) (s : Sort) (cs : List Change) (ss st : List Symbol) (gs : List Group) →
    uses_ok [] (Uses cs ss) ≡ true → Held t.place.line (part (ru.BehindComma s) ∷ st) (frames gs) →
    Stepped t.place.line c (part (ru.BehindComma s) ∷ st) gs (ss ++ st) (all_changed f t (ch.Drop ∷ cs) gs)
unfolding nodes_in
item_stepped f t c s cs ss st [] o e = absurd (omega (arith, e.fitting))
item_stepped f t c s cs ss st (g ∷ []) o e = absurd (omega (arith, e.fitting))
item_stepped f t c s cs ss st (g ∷ h ∷ hs) o e =
    let n = t.place.line in
    let i = empty_idle (map mark g.kids) e.readied in
    let z = drop_stands n n (nodes_in st) (frame_of g) (frames (h ∷ hs)) (held_stands n (part (ru.BehindComma s) ∷ st) (g ∷ h ∷ hs) e) in
    used_stepped f t c (part (ru.BehindComma s)) [] cs ss st (g ∷ h ∷ hs) (h ∷ hs) refl e.following o (λ j. cc)
    (drop_gains (nodes_in st) g h hs e.fitting i) (stands_next n (nodes_in st) (frames (h ∷ hs)) z)

pub comma_stepped : (f : ℕ) (t : Token) (c : Class) (s : Sort) (cs : List Change) (ss st : List Symbol) (gs : List Group) →
    row (ru.BehindComma s) c ≡ Uses cs ss → Held t.place.line (part (ru.BehindComma s) ∷ st) (frames gs) →
    Stepped t.place.line c (part (ru.BehindComma s) ∷ st) gs (ss ++ st) (all_changed f t cs gs)
unfolding nodes_in follows
comma_stepped f t c s cs ss st gs i e = by (of_row s c) (of_ok s c) i
  where
    by : (r : Row) → uses_ok [] r ≡ true → or_skips (led_by (ch.Drop ∷ []) (before r (part (ru.More s) ∷ [])))
        (ch.Close ki.TrailingComma ∷ []) ≡ Uses cs ss →
        Stepped t.place.line c (part (ru.BehindComma s) ∷ st) gs (ss ++ st) (all_changed f t cs gs)
    by Fault a i = cc
    by (Skips ds) a i = cc
    by (Uses ds rs) a i =
        let u = uses_same cs (ch.Drop ∷ ds) ss (rs ++ part (ru.More s) ∷ []) i in
        rw (u.0, u.1) (item_stepped f t c s ds (rs ++ part (ru.More s) ∷ []) st gs
        (uses_before (Uses ds rs) (part (ru.More s)) [] a refl refl) e)

pub comma_skipped : (f : ℕ) (t : Token) (c : Class) (s : Sort) (cs : List Change) (st : List Symbol) (gs : List Group) →
    row (ru.BehindComma s) c ≡ Skips cs → Held t.place.line (part (ru.BehindComma s) ∷ st) (frames gs) →
    Skipped t.place.line (part (ru.BehindComma s) ∷ st) gs st (all_changed f t cs gs)
unfolding nodes_in
comma_skipped f t c s cs st gs i e = by (of_row s c) (of_ok s c) i
  where
    by : (r : Row) → uses_ok [] r ≡ true → or_skips (led_by (ch.Drop ∷ []) (before r (part (ru.More s) ∷ [])))
        (ch.Close ki.TrailingComma ∷ []) ≡ Skips cs → Skipped t.place.line (part (ru.BehindComma s) ∷ st) gs st (all_changed f t cs gs)
    by Fault a i = rw (skips_same cs (ch.Close ki.TrailingComma ∷ []) i)
        (over_skipped f t (part (ru.BehindComma s)) (ch.Close ki.TrailingComma ∷ []) st gs refl refl refl (λ j. cc) e)
    by (Skips ds) a i = cc
    by (Uses ds rs) a i = cc

-- ---- the elements of an array

element_stepped : (f : ℕ) (t : Token) (c : Class) (cs : List Change) (ss st : List Symbol) (gs : List Group) →
    uses_ok [] (Uses cs ss) ≡ true → Held t.place.line (part ru.BehindElementComma ∷ st) (frames gs) →
    Stepped t.place.line c (part ru.BehindElementComma ∷ st) gs (ss ++ st) (all_changed f t (ch.Drop ∷ ch.Drop ∷ cs) gs)
unfolding nodes_in
element_stepped f t c cs ss st [] o e = absurd (omega (arith, e.fitting))
element_stepped f t c cs ss st (g ∷ []) o e = absurd (omega (arith, e.fitting))
element_stepped f t c cs ss st (g ∷ h ∷ []) o e = absurd (omega (arith, e.fitting))
element_stepped f t c cs ss st (g ∷ h ∷ k ∷ ks) o e =
    let n = t.place.line in
    let bs = nodes_in st in
    let s = part ru.BehindElementComma in
    let r = split (is_empty (map mark g.kids)) (idle (map mark h.kids)) e.readied in
    let y = drop_stands n n (false ∷ bs) (frame_of g) (frames (h ∷ k ∷ ks)) (held_stands n (s ∷ st) (g ∷ h ∷ k ∷ ks) e) in
    let z = drop_stands n n bs (frame_of h) (frames (k ∷ ks)) y in
    let a = drop_gains (false ∷ bs) g h (k ∷ ks) e.fitting (empty_idle (map mark g.kids) r.0) in
    let b = drop_gains bs h k ks y.fitting r.1 in
    used_stepped f t c s [] cs ss st (g ∷ h ∷ k ∷ ks) (k ∷ ks) refl e.following o (λ j. cc)
    (gains_then (stack_faults (false ∷ false ∷ bs) (g ∷ h ∷ k ∷ ks)) (stack_faults (false ∷ bs) (h ∷ k ∷ ks)) (stack_faults bs (k ∷ ks)) []
    a b) (stands_next n bs (frames (k ∷ ks)) z)

pub element_comma_stepped : (f : ℕ) (t : Token) (c : Class) (cs : List Change) (ss st : List Symbol) (gs : List Group) →
    row ru.BehindElementComma c ≡ Uses cs ss → Held t.place.line (part ru.BehindElementComma ∷ st) (frames gs) →
    Stepped t.place.line c (part ru.BehindElementComma ∷ st) gs (ss ++ st) (all_changed f t cs gs)
unfolding nodes_in follows
element_comma_stepped f t c cs ss st gs i e = by (level_row 1 c) (level_ok 1 c) i
  where
    by : (r : Row) → uses_ok [] r ≡ true → or_skips (led_by (ch.Drop ∷ ch.Drop ∷ []) (before r (part ru.MoreElements ∷ [])))
        (ch.Close ki.TrailingComma ∷ ch.Lift ∷ []) ≡ Uses cs ss →
        Stepped t.place.line c (part ru.BehindElementComma ∷ st) gs (ss ++ st) (all_changed f t cs gs)
    by Fault a i = cc
    by (Skips ds) a i = cc
    by (Uses ds rs) a i =
        let u = uses_same cs (ch.Drop ∷ ch.Drop ∷ ds) ss (rs ++ part ru.MoreElements ∷ []) i in
        rw (u.0, u.1) (element_stepped f t c ds (rs ++ part ru.MoreElements ∷ []) st gs
        (uses_before (Uses ds rs) (part ru.MoreElements) [] a refl refl) e)

-- the comma is the last, and what was begun for it is lifted
last_comma : (n : ℕ) (st : List Symbol) (gs : List Group) → Held n (part ru.BehindElementComma ∷ st) (frames gs) →
    Skipped n (part ru.BehindElementComma ∷ st) gs st (lift (close ki.TrailingComma gs))
unfolding nodes_in
last_comma n st [] e = absurd (omega (arith, e.fitting))
last_comma n st (g ∷ []) e = absurd (omega (arith, e.fitting))
last_comma n st (g ∷ h ∷ []) e = absurd (omega (arith, e.fitting))
last_comma n st (g ∷ h ∷ k ∷ ks) e =
    let bs = nodes_in st in
    let s = part ru.BehindElementComma in
    let old = g ∷ h ∷ k ∷ ks in
    let comma = branch (head_in ki.TrailingComma g) (nodes_of g.kids) in
    let both = with_kids h (h.kids ++ comma ∷ []) in
    let r = split (is_empty (map mark g.kids)) (idle (map mark h.kids)) e.readied in
    let i : idle (map mark both.kids) ≡ true = idle_put h.kids comma r.1 (bare g.kids r.0) in
    let z = held_stands n (s ∷ st) old e in
    let y : Stands n n (false ∷ bs) (frames (both ∷ k ∷ ks)) =
    rw (frames_close ki.TrailingComma old) (close_stands n n ki.TrailingComma (false ∷ bs) (frames old) z) in
    let x = lift_stands n n bs both k ks i y in
    record {
      held = record {
        fitting = x.fitting;
        ordered = x.ordered;
        below = x.below;
        following = follows_tail s st e.following;
        readied =
            ready_next s st (frames (lift (both ∷ k ∷ ks))) refl e.following (λ j. cc);
      };
      gains = gains_then (stack_faults (false ∷ false ∷ bs) old) (stack_faults (false ∷ bs) (both ∷ k ∷ ks))
          (stack_faults bs (lift (both ∷ k ∷ ks))) [] (closes ki.TrailingComma n n (false ∷ bs) old z)
          (lift_gains bs both k ks y.fitting i);
    }
  where
    bare : (ts : List Node) → is_empty (map mark ts) ≡ true →
        ((mark (branch (head_in ki.TrailingComma g) (nodes_of ts))).height == 0) ≡ true
    bare [] e = refl
    bare (t ∷ ts) e = cc

pub element_comma_skipped : (f : ℕ) (t : Token) (c : Class) (cs : List Change) (st : List Symbol) (gs : List Group) →
    row ru.BehindElementComma c ≡ Skips cs → Held t.place.line (part ru.BehindElementComma ∷ st) (frames gs) →
    Skipped t.place.line (part ru.BehindElementComma ∷ st) gs st (all_changed f t cs gs)
element_comma_skipped f t c cs st gs i e = by (level_row 1 c) (level_ok 1 c) i
  where
    by : (r : Row) → uses_ok [] r ≡ true → or_skips (led_by (ch.Drop ∷ ch.Drop ∷ []) (before r (part ru.MoreElements ∷ [])))
        (ch.Close ki.TrailingComma ∷ ch.Lift ∷ []) ≡ Skips cs →
        Skipped t.place.line (part ru.BehindElementComma ∷ st) gs st (all_changed f t cs gs)
    by Fault a i = rw (skips_same cs (ch.Close ki.TrailingComma ∷ ch.Lift ∷ []) i) (last_comma t.place.line st gs e)
    by (Skips ds) a i = cc
    by (Uses ds rs) a i = cc
