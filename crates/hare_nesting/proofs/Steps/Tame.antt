-- What the changes of a row that passes the check do to the limits that are passed: what is gained is the token, and the gauge finds it.
use Rattle.std.proofs.Common.{◌≡◌, ℕ, suc, List, [], ◌∷◌, ◌++◌, Bool, true, false, ◌⊎◌, inl, inr, ◌&&◌, not, map, refl, ap, sym, ◌∙◌, subst}
use Rattle.std.proofs.Common.{arith, if◌then◌else◌}
use Rattle.std.specs.Prelude.{nat_le}
use Rattle.std.specs.List.{list_all}
use Rattle.hare_tree.specs.declared.kind.Kind.{Kind}
use Rattle.hare_tree.specs.declared.token.Token.{Token}
use Rattle.hare_tree.specs.Node.{Head, branch, none}
use Rattle.hare_tree.specs.Depth.{is_node}
use Rattle.hare_tree.specs.Grammar.{IsOn}
use Rattle.hare_automaton.specs.declared.rule.Change.{Change}
use Rattle.hare_automaton.specs.declared.rule.Change.TheVariants as ch
use Rattle.hare_automaton.specs.Engine.{Group, begun, head_in, add, close, changed, all_changed}
use Rattle.hare_automaton.proofs.Spelled.Paths.{split}
use Rattle.hare_automaton.proofs.Machine.Edges.{true_le}
use Rattle.hare_nesting.specs.Marks.{Mark, Frame, leaf_mark, put}
use Rattle.hare_nesting.specs.Marks as seen
use Rattle.hare_nesting.specs.Gauge.{opened, found, deep_frame, deep_last, high_operand}
use Rattle.hare_nesting.proofs.UnderWay.Stacks.{mark, frame_of, frames, stack_faults, Gains, fits}
use Rattle.hare_nesting.proofs.UnderWay.Lists.{on_left, on_right, gains_refl, gains_none}
use Rattle.hare_nesting.proofs.UnderWay.Seen.{frames_add, frames_changed}
use Rattle.hare_nesting.proofs.UnderWay.Grown.{behind_later, top_grown}
use Rattle.hare_nesting.proofs.UnderWay.Changes.{leaf_faults, absent_gains, open_gains, close_gains, take_same, join_same}
use Rattle.hare_nesting.proofs.CheckedRows.Slots.{undone, all_undone, is_quiet, is_loud, is_still, tame}
use Rattle.hare_nesting.proofs.CheckedRows.SlotForms.{still_undone}
use Rattle.hare_nesting.proofs.Steps.Stands.{at_most, Stands, quiet_stands, loud_stands}

-- The second list is the first but for one token, which the gauge finds.
pub record Grows (n : ℕ) (old new told : List ℕ) : Type 0 where
  pub kept : (x : ℕ) → IsOn x old → IsOn x new
  pub only : (x : ℕ) → IsOn x new → IsOn x old ⊎ ((x ≡ n) × IsOn x told)

pub grows_none : (n : ℕ) (a b told : List ℕ) → Gains a b [] → Grows n a b told
grows_none n a b told g = record { kept = g.kept; only = λ x i. by x (g.only x i) }
  where
    by : (x : ℕ) → IsOn x a ⊎ IsOn x [] → IsOn x a ⊎ ((x ≡ n) × IsOn x told)
    by x (inl i) = inl i
    by x (inr i) = absurd i

pub grows_behind : (n : ℕ) (a b c told : List ℕ) → Gains a b [] → Grows n b c told → Grows n a c told
grows_behind n a b c told g h = record { kept = λ x i. h.kept x (g.kept x i); only = λ x i. by x (h.only x i) }
  where
    old : (x : ℕ) → IsOn x a ⊎ IsOn x [] → IsOn x a ⊎ ((x ≡ n) × IsOn x told)
    old x (inl i) = inl i
    old x (inr i) = absurd i

    by : (x : ℕ) → IsOn x b ⊎ ((x ≡ n) × IsOn x told) → IsOn x a ⊎ ((x ≡ n) × IsOn x told)
    by x (inl i) = old x (g.only x i)
    by x (inr i) = inr i

-- what is gained is the token, if anything, and is found
grows_if : (n : ℕ) (b : Bool) (old new told : List ℕ) → Gains old new (if b then n ∷ [] else []) →
    ((x : ℕ) → IsOn x (if b then n ∷ [] else []) → IsOn x told) → Grows n old new told
grows_if n b old new told g f = record { kept = g.kept; only = λ x i. by x (g.only x i) }
  where
    is : (x : ℕ) (z : Bool) → IsOn x (if z then n ∷ [] else []) → x ≡ n
    is x true (inl e) = e
    is x true (inr i) = absurd i
    is x false i = absurd i

    by : (x : ℕ) → IsOn x old ⊎ IsOn x (if b then n ∷ [] else []) → IsOn x old ⊎ ((x ≡ n) × IsOn x told)
    by x (inl i) = inl i
    by x (inr i) = inr (is x b i, f x i)

-- ---- leaves

leaf_gains : (bs : List Bool) (h : Head) (gs : List Group) → at_most h.place.line (frames gs) ≡ true → fits bs (frames gs) →
    Gains (stack_faults bs gs) (stack_faults bs (add (branch h none) gs))
    (if is_node h.kind && nat_le 256 (opened bs) then h.place.line ∷ [] else [])
leaf_gains bs h [] p i = absurd (omega (arith, i))
leaf_gains bs h (g ∷ hs) p i =
    let t = branch h none in
    let at = split (nat_le g.place.line h.place.line) (at_most h.place.line (frames hs)) p in
    subst (λ l. Gains (stack_faults bs (g ∷ hs)) (stack_faults bs (add t (g ∷ hs))) l) (leaf_faults (opened bs) h)
    (top_grown bs g hs t (behind_later g.place.line (map mark g.kids) (mark t) (true_le g.place.line h.place.line at.0)))

deep_put : (n : ℕ) (ms : List Mark) (m : Mark) → deep_last n (ms ++ m ∷ []) ≡ (if m.node && nat_le 256 n then m.first ∷ [] else [])
unfolding deep_last
deep_put n [] m = refl
deep_put n (p ∷ []) m = refl
deep_put n (p ∷ q ∷ ms) m = deep_put n (q ∷ ms) m

-- a leaf that is deep is found
leaf_found : (n : ℕ) (k : Kind) (bs : List Bool) (f : Frame) (fs : List Frame) (x : ℕ) →
    IsOn x (if is_node k && nat_le 256 (opened bs) then n ∷ [] else []) → IsOn x (found bs (put (leaf_mark k n) (f ∷ fs)))
leaf_found n k bs f fs x i =
    let ms = f.kids ++ leaf_mark k n ∷ [] in
    on_right x (deep_frame bs (record { at = f.at; kids = ms })) (deep_last (opened bs) ms ++ high_operand f.at ms)
    (on_left x (deep_last (opened bs) ms) (high_operand f.at ms) (rw (deep_put (opened bs) f.kids (leaf_mark k n)) i))

-- ---- one change

quiet_leaf : (h : Head) (bs : List Bool) (gs : List Group) → not (is_node h.kind) ≡ true →
    Stands h.place.line (suc h.place.line) bs (frames gs) → Gains (stack_faults bs gs) (stack_faults bs (add (branch h none) gs)) []
quiet_leaf h bs gs q s = by (is_node h.kind) q (leaf_gains bs h gs s.placed s.fitting)
  where
    by : (b : Bool) → not b ≡ true → Gains (stack_faults bs gs) (stack_faults bs (add (branch h none) gs))
        (if b && nat_le 256 (opened bs) then h.place.line ∷ [] else []) →
        Gains (stack_faults bs gs) (stack_faults bs (add (branch h none) gs)) []
    by true i g = cc
    by false i g = g

pub moved : (f : ℕ) (t : Token) (c : Change) (m : ℕ) (bs : List Bool) (gs : List Group) →
    Stands t.place.line m bs (seen.changed t.place.line c (frames gs)) → Stands t.place.line m bs (frames (changed f t c gs))
moved f t c m bs gs s = subst (λ l. Stands t.place.line m bs l) (sym (frames_changed f t c gs)) s

pub closes : (k : Kind) (n m : ℕ) (bs : List Bool) (gs : List Group) → Stands n m (is_node k ∷ bs) (frames gs) →
    Gains (stack_faults (is_node k ∷ bs) gs) (stack_faults bs (close k gs)) []
closes k n m bs [] s = absurd (omega (arith, s.fitting))
closes k n m bs (g ∷ []) s = absurd (omega (arith, s.fitting))
closes k n m bs (g ∷ h ∷ hs) s = close_gains k bs g h hs s.fitting s.ordered

quiet_gains : (f : ℕ) (t : Token) (c : Change) (bs : List Bool) (gs : List Group) → is_quiet c bs ≡ true →
    Stands t.place.line (suc t.place.line) (undone c bs) (frames gs) →
    Gains (stack_faults (undone c bs) gs) (stack_faults bs (changed f t c gs)) []
quiet_gains f t ch.Absent bs gs q s = absent_gains bs f gs s.fitting
quiet_gains f t (ch.Mark k) bs gs q s = quiet_leaf (head_in k (begun t.place [])) bs gs q s
quiet_gains f t (ch.Leaf k) bs gs q s = quiet_leaf
    (record { kind = k; place = t.place; text = t.text; number = t.number; suffix = t.suffix }) bs gs q s
quiet_gains f t ch.Open [] gs q s = cc
quiet_gains f t ch.Open (true ∷ bs) gs q s = cc
quiet_gains f t ch.Open (false ∷ bs) gs q s = open_gains false bs t.place gs s.fitting
quiet_gains f t ch.Take bs gs q s = gains_none (stack_faults bs gs) (stack_faults bs (changed f t ch.Take gs)) (sym (take_same t bs gs))
quiet_gains f t ch.Join bs gs q s = gains_none (stack_faults bs gs) (stack_faults bs (changed f t ch.Join gs)) (sym (join_same t bs gs))
quiet_gains f t (ch.Close k) bs gs q s = closes k t.place.line (suc t.place.line) bs gs s
quiet_gains f t _ bs gs q s = cc

loud_leaf : (h : Head) (bs : List Bool) (gs : List Group) → mark (branch h none) ≡ leaf_mark h.kind h.place.line →
    Stands h.place.line (suc h.place.line) bs (frames gs) →
    Grows h.place.line (stack_faults bs gs) (stack_faults bs (add (branch h none) gs)) (found bs (frames (add (branch h none) gs)))
loud_leaf h bs [] i s = absurd (omega (arith, s.fitting))
loud_leaf h bs (g ∷ gs) i s =
    let new = add (branch h none) (g ∷ gs) in
    grows_if h.place.line (is_node h.kind && nat_le 256 (opened bs)) (stack_faults bs (g ∷ gs)) (stack_faults bs new)
    (found bs (frames new))
    (leaf_gains bs h (g ∷ gs) s.placed s.fitting)
    (λ x j. subst (λ l. IsOn x (found bs l)) (sym (frames_add (branch h none) (g ∷ gs) ∙ ap (λ m. put m (frames (g ∷ gs))) i))
    (leaf_found h.place.line h.kind bs (frame_of g) (frames gs) x j))

begins : (n : ℕ) (b : Bool) (bs : List Bool) (fs : List Frame) (x : ℕ) → IsOn x (if b && nat_le 256 (opened bs) then n ∷ [] else []) →
    IsOn x (found (b ∷ bs) (record { at = n; kids = [] } ∷ fs))
begins n true bs fs x i = on_left x (if nat_le 256 (opened bs) then n ∷ [] else []) (deep_last (opened (true ∷ bs)) [] ++ high_operand n [])
    i
begins n false bs fs x i = absurd i

loud_grows : (f : ℕ) (t : Token) (c : Change) (bs : List Bool) (gs : List Group) → is_loud c bs ≡ true →
    Stands t.place.line (suc t.place.line) (undone c bs) (frames gs) →
    Grows t.place.line (stack_faults (undone c bs) gs) (stack_faults bs (changed f t c gs)) (found bs (frames (changed f t c gs)))
loud_grows f t (ch.Mark k) bs gs q s = loud_leaf (head_in k (begun t.place [])) bs gs refl s
loud_grows f t (ch.Leaf k) bs gs q s = loud_leaf (record { kind = k; place = t.place; text = t.text; number = t.number; suffix = t.suffix })
    bs gs refl s
loud_grows f t ch.Open [] gs q s = cc
loud_grows f t ch.Open (b ∷ bs) gs q s = grows_if t.place.line (b && nat_le 256 (opened bs)) (stack_faults bs gs)
    (stack_faults (b ∷ bs) (begun t.place [] ∷ gs)) (found (b ∷ bs) (frames (begun t.place [] ∷ gs))) (open_gains b bs t.place gs s.fitting)
    (begins t.place.line b bs (frames gs))
loud_grows f t _ bs gs q s = cc

-- ---- all changes of a row

pub still_same : (f : ℕ) (t : Token) (cs : List Change) (bs : List Bool) (gs : List Group) → list_all is_still cs ≡ true →
    (stack_faults bs (all_changed f t cs gs) ≡ stack_faults bs gs) × (frames (all_changed f t cs gs) ≡ frames gs)
still_same f t [] bs gs e = (refl, refl)
still_same f t (ch.Take ∷ cs) bs gs e =
    let r = still_same f t cs bs (changed f t ch.Take gs) e in (r.0 ∙ take_same t bs gs, r.1 ∙ frames_changed f t ch.Take gs)
still_same f t (ch.Join ∷ cs) bs gs e =
    let r = still_same f t cs bs (changed f t ch.Join gs) e in (r.0 ∙ join_same t bs gs, r.1 ∙ frames_changed f t ch.Join gs)
still_same f t (c ∷ cs) bs gs e = cc

-- what the changes of a row leave
pub record Made (n : ℕ) (bs os : List Bool) (gs hs : List Group) : Type 0 where
  pub grows : Grows n (stack_faults bs gs) (stack_faults os hs) (found os (frames hs))
  pub stands : Stands n (suc n) os (frames hs)

pub tame_grows : (f : ℕ) (t : Token) (cs : List Change) (bs : List Bool) (gs : List Group) → tame cs bs ≡ true →
    Stands t.place.line (suc t.place.line) (all_undone cs bs) (frames gs) →
    Made t.place.line (all_undone cs bs) bs gs (all_changed f t cs gs)
tame_grows f t [] bs gs e s = record {
  grows = grows_none t.place.line (stack_faults bs gs) (stack_faults bs gs) (found bs (frames gs))
      (gains_refl (stack_faults bs gs));
  stands = s;
}
tame_grows f t (c ∷ cs) bs gs e s = by (is_quiet c (all_undone cs bs)) refl e (λ i hs q. tame_grows f t cs bs hs i q)
  where
    n : ℕ
    n = t.place.line

    us : List Bool
    us = all_undone cs bs

    hs : List Group
    hs = changed f t c gs

    by : (b : Bool) → is_quiet c us ≡ b → (if b then tame cs bs else is_loud c us && list_all is_still cs) ≡ true →
        (tame cs bs ≡ true → (hs : List Group) → Stands n (suc n) us (frames hs) → Made n us bs hs (all_changed f t cs hs)) →
        Made n (undone c us) bs gs (all_changed f t cs (changed f t c gs))
    by true q i k =
        let a = quiet_gains f t c us gs q s in
        let r = k i hs (moved f t c (suc n) us gs (quiet_stands n c us (frames gs) q s)) in
        record {
          grows = grows_behind n (stack_faults (undone c us) gs) (stack_faults us hs) (stack_faults bs (all_changed f t cs hs))
              (found bs (frames (all_changed f t cs hs))) a r.grows;
          stands = r.stands;
        }
    by false q i k =
        let p = split (is_loud c us) (list_all is_still cs) i in
        let u = still_undone cs bs p.1 in
        let y = still_same f t cs bs hs p.1 in
        let a : Made n (undone c us) us gs hs =
        record { grows = loud_grows f t c us gs p.0 s; stands = moved f t c (suc n) us gs (loud_stands n c us (frames gs) p.0 s) } in
        let b : Made n (undone c us) bs gs hs = subst (λ l. Made n (undone c us) l gs hs) u a in
        record { grows = rw (y.0, y.1) b.grows; stands = rw y.1 b.stands }
