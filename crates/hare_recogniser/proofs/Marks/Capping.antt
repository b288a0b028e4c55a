-- What the machine does with marks does not depend on heights above 256.
use Rattle.std.proofs.Common.{◌≡◌, ℕ, ◌+◌, ◌<◌, List, [], ◌∷◌, ◌++◌, drop, length, get_or, min, Bool, refl, sym, ap, ◌∙◌, arith}
use Rattle.std.proofs.lemmas.List.{drop_more}
use Rattle.hare_tree.specs.declared.kind.Kind.{Kind}
use Rattle.hare_automaton.specs.declared.rule.Change.{Change}
use Rattle.hare_automaton.specs.declared.rule.Change.TheVariants as ch
use Rattle.hare_tree.specs.Depth.{counted}
use Rattle.hare_nesting.specs.Marks.{Mark, Frame, first_in, highest, mark_as, last_mark, but_last_mark, put, close, over, lift, changed}
use Rattle.hare_nesting.specs.Marks.{all_changed}
use Rattle.hare_recogniser.specs.Capped.{cap_mark, cap_marks, cap_frame, capped}

-- ---- marks

cap_twice : (m : Mark) → cap_mark (cap_mark m) ≡ cap_mark m
cap_twice m =
    let e : min (min m.height 256) 256 ≡ min m.height 256 = omega arith in ap (λ h. record { node = m.node; first = m.first; height = h }) e

marks_twice : (ms : List Mark) → cap_marks (cap_marks ms) ≡ cap_marks ms
marks_twice [] = refl
marks_twice (m ∷ ms) = let a = cap_twice m in let b = marks_twice ms in cc

marks_append : (ms ns : List Mark) → cap_marks (ms ++ ns) ≡ cap_marks ms ++ cap_marks ns
marks_append [] ns = refl
marks_append (m ∷ ms) ns = ap (λ l. cap_mark m ∷ l) (marks_append ms ns)

pub first_capped : (n : ℕ) (ms : List Mark) → first_in n (cap_marks ms) ≡ first_in n ms
first_capped n [] = refl
first_capped n (m ∷ ms) = refl

highest_capped : (ms : List Mark) → min (highest (cap_marks ms)) 256 ≡ min (highest ms) 256
highest_capped [] = refl
highest_capped (m ∷ ms) = let e = highest_capped ms in omega (arith, e)

as_capped : (k : Kind) (n : ℕ) (ms : List Mark) → cap_mark (mark_as k n (cap_marks ms)) ≡ cap_mark (mark_as k n ms)
as_capped k n ms = same_mark (first_capped n ms) (capped_sum (counted k) (highest (cap_marks ms)) (highest ms) (highest_capped ms)) where
  capped_sum : (a b c : ℕ) → min b 256 ≡ min c 256 → min (a + b) 256 ≡ min (a + c) 256
  capped_sum a b c e = omega arith

  same_mark : {b : Bool} {m n g h : ℕ} → m ≡ n → g ≡ h →
      (let x : Mark = record { node = b; first = m; height = g } in x ≡ record { node = b; first = n; height = h })
  same_mark e d = cc

last_capped : (ms : List Mark) → last_mark (cap_marks ms) ≡ cap_marks (last_mark ms)
last_capped [] = refl
last_capped (m ∷ []) = refl
last_capped (m ∷ (n ∷ ms)) = last_capped (n ∷ ms)

but_last_capped : (ms : List Mark) → but_last_mark (cap_marks ms) ≡ cap_marks (but_last_mark ms)
but_last_capped [] = refl
but_last_capped (m ∷ []) = refl
but_last_capped (m ∷ (n ∷ ms)) = ap (λ l. cap_mark m ∷ l) (but_last_capped (n ∷ ms))

-- ---- trees under way

frame_twice : (f : Frame) → cap_frame (cap_frame f) ≡ cap_frame f
frame_twice f = ap (λ ms. record { at = f.at; kids = ms }) (marks_twice f.kids)

capped_twice : (fs : List Frame) → capped (capped fs) ≡ capped fs
capped_twice [] = refl
capped_twice (f ∷ fs) = let a = frame_twice f in let b = capped_twice fs in cc

-- frames with the same kids but for heights above 256
same_frame : (n : ℕ) (ms ns : List Mark) (fs gs : List Frame) → cap_marks ms ≡ cap_marks ns → capped fs ≡ capped gs →
    (let f : Frame = record { at = n; kids = ms } in let g : Frame = record { at = n; kids = ns } in capped (f ∷ fs) ≡ capped (g ∷ gs))
same_frame n ms ns fs gs e h = cc

pub put_same : (m n : Mark) (fs : List Frame) → cap_mark m ≡ cap_mark n → capped (put m fs) ≡ capped (put n fs)
put_same m n [] e = refl
put_same m n (f ∷ fs) e =
    same_frame f.at (f.kids ++ m ∷ []) (f.kids ++ n ∷ []) fs fs
    (marks_append f.kids (m ∷ []) ∙ ap (λ x. cap_marks f.kids ++ x ∷ []) e ∙ sym (marks_append f.kids (n ∷ []))) refl

put_capped : (m : Mark) (fs : List Frame) → capped (put m (capped fs)) ≡ capped (put m fs)
put_capped m [] = refl
put_capped m (f ∷ fs) =
    same_frame f.at (cap_marks f.kids ++ m ∷ []) (f.kids ++ m ∷ []) (capped fs) fs
    (marks_append (cap_marks f.kids) (m ∷ []) ∙ ap (λ l. l ++ cap_mark m ∷ []) (marks_twice f.kids) ∙ sym (marks_append f.kids (m ∷ [])))
    (capped_twice fs)

close_capped : (k : Kind) (fs : List Frame) → capped (close k (capped fs)) ≡ capped (close k fs)
close_capped k [] = refl
close_capped k (f ∷ fs) =
    put_capped (mark_as k f.at (cap_marks f.kids)) fs ∙ put_same (mark_as k f.at (cap_marks f.kids)) (mark_as k f.at f.kids) fs
    (as_capped k f.at f.kids)

over_capped : (n : ℕ) (fs : List Frame) → capped (over n (capped fs)) ≡ capped (over n fs)
over_capped n [] = refl
over_capped n (f ∷ fs) =
    let inner = ap cap_marks (last_capped f.kids) ∙ marks_twice (last_mark f.kids) in
    let outer = ap cap_marks (but_last_capped f.kids) ∙ marks_twice (but_last_mark f.kids) in
    same_frame n (last_mark (cap_marks f.kids)) (last_mark f.kids)
    (record { at = f.at; kids = but_last_mark (cap_marks f.kids) } ∷ capped fs) (record { at = f.at; kids = but_last_mark f.kids } ∷ fs)
    inner (same_frame f.at (but_last_mark (cap_marks f.kids)) (but_last_mark f.kids) (capped fs) fs outer (capped_twice fs))

lift_capped : (fs : List Frame) → capped (lift (capped fs)) ≡ capped (lift fs)
lift_capped [] = refl
lift_capped (f ∷ []) = refl
lift_capped (f ∷ (g ∷ fs)) =
    let kids = marks_append (cap_marks g.kids) (cap_marks f.kids) ∙ ap (λ l. l ++ cap_marks (cap_marks f.kids)) (marks_twice g.kids) ∙ ap
    (λ l. cap_marks g.kids ++ l) (marks_twice f.kids) ∙ sym (marks_append g.kids f.kids) in
    same_frame g.at (cap_marks g.kids ++ cap_marks f.kids) (g.kids ++ f.kids) (capped fs) fs kids (capped_twice fs)

changed_capped : (n : ℕ) (c : Change) (fs : List Frame) → capped (changed n c (capped fs)) ≡ capped (changed n c fs)
changed_capped n ch.Absent fs = put_capped _ fs
changed_capped n (ch.Mark k) fs = put_capped _ fs
changed_capped n (ch.Leaf k) fs = put_capped _ fs
changed_capped n ch.Open fs = same_frame n [] [] (capped fs) fs refl (capped_twice fs)
changed_capped n ch.Over fs = over_capped n fs
changed_capped n ch.Take fs = capped_twice fs
changed_capped n ch.Join fs = capped_twice fs
changed_capped n (ch.Close k) fs = close_capped k fs
changed_capped n ch.Lift fs = lift_capped fs
changed_capped n ch.Drop [] = refl
changed_capped n ch.Drop (f ∷ fs) = capped_twice fs

-- ---- frames that are alike but for heights above 256

pub close_alike : (k : Kind) (fs gs : List Frame) → capped fs ≡ capped gs → capped (close k fs) ≡ capped (close k gs)
close_alike k fs gs e = sym (close_capped k fs) ∙ ap (λ hs. capped (close k hs)) e ∙ close_capped k gs

changed_alike : (n : ℕ) (c : Change) (fs gs : List Frame) → capped fs ≡ capped gs → capped (changed n c fs) ≡ capped (changed n c gs)
changed_alike n c fs gs e = sym (changed_capped n c fs) ∙ ap (λ hs. capped (changed n c hs)) e ∙ changed_capped n c gs

pub all_changed_alike : (n : ℕ) (cs : List Change) (fs gs : List Frame) → capped fs ≡ capped gs →
    capped (all_changed n cs fs) ≡ capped (all_changed n cs gs)
unfolding all_changed
all_changed_alike n [] fs gs e = e
all_changed_alike n (c ∷ cs) fs gs e = all_changed_alike n cs (changed n c fs) (changed n c gs) (changed_alike n c fs gs e)

-- one more change of a list
pub next_changed : (n i : ℕ) (cs : List Change) (d : Change) (fs gs : List Frame) → i < length cs →
    capped gs ≡ capped (changed n (get_or cs i d) fs) →
    capped (all_changed n (drop i cs) fs) ≡ capped (all_changed n (drop (i + 1) cs) gs)
unfolding all_changed
next_changed n i cs d fs gs h e =
    ap (λ l. capped (all_changed n l fs)) (drop_more cs i d h) ∙ sym
    (all_changed_alike n (drop (i + 1) cs) gs (changed n (get_or cs i d) fs) e)
