-- Trees under way that begin in front of a token, as the changes of the grammar's machine leave them.
use Rattle.std.proofs.Common.{◌≡◌, ℕ, ◌+◌, ◌≤◌, ◌<◌, List, [], ◌∷◌, ◌++◌, Bool, true, false, ◌&&◌, refl, ◌∙◌, arith}
use Rattle.std.specs.Prelude.{nat_le, if◌then◌else◌}
use Rattle.std.proofs.lemmas.List.Folds.{list_all-append}
use Rattle.hare_tree.specs.declared.kind.Kind.{Kind}
use Rattle.hare_tree.specs.declared.kind.Kind.TheVariants as ki
use Rattle.hare_automaton.specs.declared.rule.Change.TheVariants as ch
use Rattle.hare_automaton.proofs.Machine.Edges.{true_le, le_true}
use Rattle.hare_automaton.proofs.Spelled.Paths.{split}
use Rattle.hare_prefixes.proofs.Outcomes.Breaks.{both}
use Rattle.hare_nesting.specs.Marks.{Mark, Frame, first_in, mark_as, leaf_mark, last_mark, but_last_mark, put, close, over, lift, let_go}
use Rattle.hare_nesting.specs.Marks.{changed}
use Rattle.hare_nesting.proofs.UnderWay.Stacks.{kids_below, frame_below, all_below}

-- a kid that begins in front of the token, where it is a node
abbrev pub kid_below : ℕ → Mark → Bool
kid_below n m = if m.node then nat_le (m.first + 1) n else true

-- ---- one tree

kids_more : (n : ℕ) (ms rs : List Mark) → kids_below n ms ≡ true → kids_below n rs ≡ true → kids_below n (ms ++ rs) ≡ true
kids_more n ms rs e i = list_all-append (kid_below n) ms rs ∙ both (kids_below n ms) (kids_below n rs) e i

kids_last : (n : ℕ) (ms : List Mark) → kids_below n ms ≡ true → kids_below n (last_mark ms) ≡ true
kids_last n [] e = refl
kids_last n (m ∷ []) e = e
kids_last n (m ∷ p ∷ ms) e = kids_last n (p ∷ ms) (split (kid_below n m) (kids_below n (p ∷ ms)) e).1

kids_others : (n : ℕ) (ms : List Mark) → kids_below n ms ≡ true → kids_below n (but_last_mark ms) ≡ true
kids_others n [] e = refl
kids_others n (m ∷ []) e = refl
kids_others n (m ∷ p ∷ ms) e =
    let a = split (kid_below n m) (kids_below n (p ∷ ms)) e in
    both (kid_below n m) (kids_below n (but_last_mark (p ∷ ms))) a.0 (kids_others n (p ∷ ms) a.1)

kid_later : (n k : ℕ) (m : Mark) → n ≤ k → kid_below n m ≡ true → kid_below k m ≡ true
kid_later n k m i e = by m.node e
  where
    by : (b : Bool) → (if b then nat_le (m.first + 1) n else true) ≡ true → (if b then nat_le (m.first + 1) k else true) ≡ true
    by true e = let a = true_le (m.first + 1) n e in le_true (m.first + 1) k (omega arith)
    by false e = refl

kids_later : (n k : ℕ) (ms : List Mark) → n ≤ k → kids_below n ms ≡ true → kids_below k ms ≡ true
kids_later n k [] i e = refl
kids_later n k (m ∷ ms) i e =
    let a = split (kid_below n m) (kids_below n ms) e in
    both (kid_below k m) (kids_below k ms) (kid_later n k m i a.0) (kids_later n k ms i a.1)

le_later : (a n k : ℕ) → n ≤ k → nat_le a n ≡ true → nat_le a k ≡ true
le_later a n k i e = let b = true_le a n e in le_true a k (omega arith)

pub frame_later : (n k : ℕ) (f : Frame) → n ≤ k → frame_below n f ≡ true → frame_below k f ≡ true
frame_later n k f i e =
    let a = split (nat_le f.at n) (kids_below n f.kids) e in
    both (nat_le f.at k) (kids_below k f.kids) (le_later f.at n k i a.0) (kids_later n k f.kids i a.1)

-- ---- all trees

-- the parts of what is said of the innermost tree
record Top (n : ℕ) (f g : Frame) (fs : List Frame) : Type 0 where
  at : nat_le (f.at + 1) n ≡ true
  kids : kids_below n f.kids ≡ true
  rest : all_below n (g ∷ fs) ≡ true

top : (n : ℕ) (f g : Frame) (fs : List Frame) → all_below n (f ∷ g ∷ fs) ≡ true → Top n f g fs
unfolding all_below
top n f g fs e =
    let a = split (nat_le (f.at + 1) n && kids_below n f.kids) (all_below n (g ∷ fs)) e in
    let b = split (nat_le (f.at + 1) n) (kids_below n f.kids) a.0 in
    record { at = b.0; kids = b.1; rest = a.1 }

on_top : (n : ℕ) (f g : Frame) (fs : List Frame) → nat_le (f.at + 1) n ≡ true → kids_below n f.kids ≡ true → all_below n (g ∷ fs) ≡ true →
    all_below n (f ∷ g ∷ fs) ≡ true
unfolding all_below
on_top n f g fs a b c = both (nat_le (f.at + 1) n && kids_below n f.kids) (all_below n (g ∷ fs))
    (both (nat_le (f.at + 1) n) (kids_below n f.kids) a b) c

pub top_below : (n : ℕ) (f : Frame) (fs : List Frame) → all_below n (f ∷ fs) ≡ true → frame_below n f ≡ true
unfolding all_below
top_below n f [] e = e
top_below n f (g ∷ fs) e =
    let t = top n f g fs e in
    let a = true_le (f.at + 1) n t.at in
    both (nat_le f.at n) (kids_below n f.kids) (le_true f.at n (omega (arith, a))) t.kids

pub top_kids_below : (n : ℕ) (f : Frame) (fs : List Frame) → all_below n (f ∷ fs) ≡ true → kids_below n f.kids ≡ true
top_kids_below n f fs e = (split (nat_le f.at n) (kids_below n f.kids) (top_below n f fs e)).1

pub below_later : (n k : ℕ) (fs : List Frame) → n ≤ k → all_below n fs ≡ true → all_below k fs ≡ true
unfolding all_below
below_later n k [] i e = refl
below_later n k (f ∷ []) i e = frame_later n k f i e
below_later n k (f ∷ g ∷ fs) i e =
    let t = top n f g fs e in
    on_top k f g fs (le_later (f.at + 1) n k i t.at) (kids_later n k f.kids i t.kids) (below_later n k (g ∷ fs) i t.rest)

-- ---- the changes

-- the innermost tree with other kids
other_kids : (n : ℕ) (f : Frame) (ms : List Mark) (fs : List Frame) → all_below n (f ∷ fs) ≡ true → kids_below n ms ≡ true →
    all_below n (record { at = f.at; kids = ms } ∷ fs) ≡ true
unfolding all_below
other_kids n f ms [] e i = both (nat_le f.at n) (kids_below n ms) (split (nat_le f.at n) (kids_below n f.kids) e).0 i
other_kids n f ms (g ∷ fs) e i = let t = top n f g fs e in on_top n (record { at = f.at; kids = ms }) g fs t.at i t.rest

pub put_below : (n : ℕ) (m : Mark) (fs : List Frame) → kid_below n m ≡ true → all_below n fs ≡ true → all_below n (put m fs) ≡ true
put_below n m [] i e = e
put_below n m (f ∷ fs) i e = other_kids n f (f.kids ++ m ∷ []) fs e
    (kids_more n f.kids (m ∷ []) (top_kids_below n f fs e) (both (kid_below n m) true i refl))

pub absent_below : (n k : ℕ) (fs : List Frame) → all_below k fs ≡ true → all_below k (changed n ch.Absent fs) ≡ true
absent_below n k fs e = put_below k (leaf_mark ki.None 1) fs refl e

-- a leaf at a token in front of `k`
pub leaf_below : (l : Kind) (n k : ℕ) (fs : List Frame) → n < k → all_below k fs ≡ true → all_below k (put (leaf_mark l n) fs) ≡ true
leaf_below l n k fs i e = put_below k (leaf_mark l n) fs (by (leaf_mark l n).node) e
  where
    by : (b : Bool) → (if b then nat_le (n + 1) k else true) ≡ true
    by true = le_true (n + 1) k (omega (arith, i))
    by false = refl

pub open_below : (n k : ℕ) (fs : List Frame) → n < k → all_below k fs ≡ true → all_below k (record { at = n; kids = [] } ∷ fs) ≡ true
unfolding all_below
open_below n k [] i e = both (nat_le n k) true (le_true n k (omega (arith, i))) refl
open_below n k (f ∷ fs) i e = on_top k (record { at = n; kids = [] }) f fs (le_true (n + 1) k (omega (arith, i))) refl e

pub over_below : (n k : ℕ) (fs : List Frame) → n < k → all_below k fs ≡ true → all_below k (over n fs) ≡ true
over_below n k [] i e = e
over_below n k (f ∷ fs) i e =
    let a = top_kids_below k f fs e in
    on_top k (record { at = n; kids = last_mark f.kids }) (record { at = f.at; kids = but_last_mark f.kids }) fs
    (le_true (n + 1) k (omega (arith, i))) (kids_last k f.kids a) (other_kids k f (but_last_mark f.kids) fs e (kids_others k f.kids a))

-- a tree begins no later than at its place
pub begins_early : (n : ℕ) (ms : List Mark) → first_in n ms ≤ n
begins_early n [] = omega arith
begins_early n (m ∷ ms) = by m.node (nat_le (m.first + 1) n) refl
  where
    by : (a b : Bool) → nat_le (m.first + 1) n ≡ b → (if a && b then m.first else n) ≤ n
    by true true e = let x = true_le (m.first + 1) n e in omega (arith, x)
    by true false e = omega arith
    by false b e = omega arith

pub close_below : (l : Kind) (n : ℕ) (fs : List Frame) → all_below n fs ≡ true → all_below n (close l fs) ≡ true
unfolding all_below
close_below l n [] e = refl
close_below l n (f ∷ []) e = refl
close_below l n (f ∷ g ∷ fs) e =
    let t = top n f g fs e in
    put_below n (mark_as l f.at f.kids) (g ∷ fs) (by (mark_as l f.at f.kids).node (true_le (f.at + 1) n t.at) (begins_early f.at f.kids))
    t.rest
  where
    by : (b : Bool) → f.at + 1 ≤ n → first_in f.at f.kids ≤ f.at → (if b then nat_le (first_in f.at f.kids + 1) n else true) ≡ true
    by true x y = le_true (first_in f.at f.kids + 1) n (omega (arith, x, y))
    by false x y = refl

pub lift_below : (n : ℕ) (fs : List Frame) → all_below n fs ≡ true → all_below n (lift fs) ≡ true
unfolding all_below
lift_below n [] e = refl
lift_below n (f ∷ []) e = refl
lift_below n (f ∷ g ∷ fs) e =
    let t = top n f g fs e in
    other_kids n g (g.kids ++ f.kids) fs t.rest (kids_more n g.kids f.kids (top_kids_below n g fs t.rest) t.kids)

pub drop_below : (n : ℕ) (fs : List Frame) → all_below n fs ≡ true → all_below n (let_go fs) ≡ true
unfolding all_below
drop_below n [] e = refl
drop_below n (f ∷ []) e = refl
drop_below n (f ∷ g ∷ fs) e = (top n f g fs e).rest
