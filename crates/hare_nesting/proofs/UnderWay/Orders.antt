-- Trees under way that begin no earlier than those round them, as the changes of the grammar's machine leave them.
use Rattle.std.proofs.Common.{◌≡◌, ℕ, ◌+◌, List, [], ◌∷◌, ◌++◌, Bool, true, false, ◌&&◌, not, map, refl, ap, sym, subst, ◌≤◌, arith}
use Rattle.std.specs.Prelude.{nat_le, if◌then◌else◌}
use Rattle.hare_tree.specs.declared.kind.Kind.{Kind}
use Rattle.hare_tree.specs.declared.kind.Kind.TheVariants as ki
use Rattle.hare_automaton.specs.declared.rule.Change.TheVariants as ch
use Rattle.hare_automaton.specs.Engine.{Group}
use Rattle.hare_automaton.specs.Engine as engine
use Rattle.hare_automaton.proofs.Machine.Edges.{true_le, le_true}
use Rattle.hare_automaton.proofs.Spelled.Paths.{split}
use Rattle.hare_prefixes.proofs.Outcomes.Breaks.{both}
use Rattle.hare_nesting.specs.Marks.{Mark, Frame, lies_before, first_in, mark_as, leaf_mark, last_mark, but_last_mark, put, close, over}
use Rattle.hare_nesting.specs.Marks.{lift, let_go, changed}
use Rattle.hare_nesting.proofs.UnderWay.Stacks.{mark, frame_of, frames, idle, is_empty, is_ordered, kids_below, all_below, ends_in_operand}
use Rattle.hare_nesting.proofs.UnderWay.Seen.{frames_lift}
use Rattle.hare_nesting.proofs.UnderWay.Grown.{is_behind, behind_plain, first_stays, not_before}
use Rattle.hare_nesting.proofs.UnderWay.Below.{top_below}
use Rattle.hare_nesting.proofs.UnderWay.Idle.{has_no_node, idle_plain}
use Rattle.hare_nesting.proofs.UnderWay.Changes.{ordered_behind}

-- what the kids of the tree round it ask of the first token of a tree
abbrev pub stands_in : ℕ → Frame → Bool
stands_in n g = if is_empty g.kids then nat_le g.at n else true

-- the parts of what is said of the innermost two trees
inner : (f g : Frame) (fs : List Frame) → is_ordered (f ∷ g ∷ fs) ≡ true → (stands_in (first_in f.at f.kids) g ≡ true) ×
    (is_ordered (g ∷ fs) ≡ true)
unfolding is_ordered
inner f g fs e = split (stands_in (first_in f.at f.kids) g) (is_ordered (g ∷ fs)) e

ordered_both : (f g : Frame) (fs : List Frame) → stands_in (first_in f.at f.kids) g ≡ true → is_ordered (g ∷ fs) ≡ true →
    is_ordered (f ∷ g ∷ fs) ≡ true
unfolding is_ordered
ordered_both f g fs a b = both (stands_in (first_in f.at f.kids) g) (is_ordered (g ∷ fs)) a b

-- the innermost tree with other kids, before which its first token stays
pub same_first : (f f' : Frame) (fs : List Frame) → first_in f'.at f'.kids ≡ first_in f.at f.kids → is_ordered (f ∷ fs) ≡ true →
    is_ordered (f' ∷ fs) ≡ true
unfolding is_ordered
same_first f f' [] e i = refl
same_first f f' (g ∷ fs) e i = let a = inner f g fs i in ordered_both f' g fs (subst (λ n. stands_in n g ≡ true) (sym e) a.0) a.1

-- ---- kids that are put

pub put_ordered : (m : Mark) (f : Frame) (fs : List Frame) → is_behind f.at f.kids m ≡ true → is_ordered (f ∷ fs) ≡ true →
    is_ordered (put m (f ∷ fs)) ≡ true
put_ordered m f fs e i = same_first f (record { at = f.at; kids = f.kids ++ m ∷ [] }) fs (first_stays f.at f.kids m e) i

pub plain_ordered : (m : Mark) (fs : List Frame) → m.node ≡ false → is_ordered fs ≡ true → is_ordered (put m fs) ≡ true
plain_ordered m [] e i = i
plain_ordered m (f ∷ fs) e i = put_ordered m f fs (behind_plain f.at f.kids m e) i

pub absent_ordered : (n : ℕ) (fs : List Frame) → is_ordered fs ≡ true → is_ordered (changed n ch.Absent fs) ≡ true
absent_ordered n fs i = plain_ordered (leaf_mark ki.None 1) fs refl i

-- ---- trees begun, closed and let go

-- a tree that is closed is no left operand of the tree round it
pub close_behind : (k : Kind) (f g : Frame) (fs : List Frame) → is_ordered (f ∷ g ∷ fs) ≡ true →
    is_behind g.at g.kids (mark_as k f.at f.kids) ≡ true
close_behind k f g fs i = ordered_behind g.at g.kids (mark_as k f.at f.kids) (inner f g fs i).0

pub close_ordered : (k : Kind) (fs : List Frame) → is_ordered fs ≡ true → is_ordered (close k fs) ≡ true
unfolding is_ordered
close_ordered k [] i = refl
close_ordered k (f ∷ []) i = refl
close_ordered k (f ∷ g ∷ fs) i = put_ordered (mark_as k f.at f.kids) g fs (close_behind k f g fs i) (inner f g fs i).1

pub drop_ordered : (fs : List Frame) → is_ordered fs ≡ true → is_ordered (let_go fs) ≡ true
unfolding is_ordered
drop_ordered [] i = refl
drop_ordered (f ∷ []) i = refl
drop_ordered (f ∷ g ∷ fs) i = (inner f g fs i).1

plain_first : (n : ℕ) (ms rs : List Mark) → has_no_node rs ≡ true → first_in n (ms ++ rs) ≡ first_in n ms
plain_first n (m ∷ ms) rs e = refl
plain_first n [] [] e = refl
plain_first n [] (r ∷ rs) e = by r.node (split (not r.node) (has_no_node rs) e).0
  where
    by : (b : Bool) → not b ≡ true → (if b && nat_le (r.first + 1) n then r.first else n) ≡ n
    by true i = cc
    by false i = refl

pub lift_ordered : (f g : Frame) (fs : List Frame) → has_no_node f.kids ≡ true → is_ordered (f ∷ g ∷ fs) ≡ true →
    is_ordered (lift (f ∷ g ∷ fs)) ≡ true
lift_ordered f g fs e i = same_first g (record { at = g.at; kids = g.kids ++ f.kids }) fs (plain_first g.at g.kids f.kids e)
    (inner f g fs i).1

-- the same of trees
pub lifted_ordered : (g h : Group) (hs : List Group) → idle (map mark g.kids) ≡ true → is_ordered (frames (g ∷ h ∷ hs)) ≡ true →
    is_ordered (frames (engine.lift (g ∷ h ∷ hs))) ≡ true
lifted_ordered g h hs e i = rw (frames_lift (g ∷ h ∷ hs)) (lift_ordered (frame_of g) (frame_of h) (frames hs) (idle_plain g.kids e) i)

-- ---- operators and paths

over_kids : (n a : ℕ) (ms : List Mark) (fs : List Frame) → ends_in_operand a ms ≡ true → a ≤ n →
    is_ordered (record { at = a; kids = ms } ∷ fs) ≡ true →
    is_ordered (record { at = n; kids = last_mark ms } ∷ record { at = a; kids = but_last_mark ms } ∷ fs) ≡ true
over_kids n a [] fs e l i = cc
over_kids n a (m ∷ []) fs e l i =
    let p = split m.node (is_behind a [] m) e in
    ordered_both (record { at = n; kids = m ∷ [] }) (record { at = a; kids = [] }) fs (later (lies_before m n) p.0 (not_before a m p.1))
    (same_first (record { at = a; kids = m ∷ [] }) (record { at = a; kids = [] }) fs (sym (first_stays a [] m p.1)) i)
  where
    later : (b : Bool) → m.node ≡ true → lies_before m a ≡ false → nat_le a (if b then m.first else n) ≡ true
    later true y z = let x : nat_le (m.first + 1) a ≡ false = (rw y at z) in grind (arith, x)
    later false y z = le_true a n l
over_kids n a (m ∷ p ∷ ms) fs e l i =
    ordered_both (record { at = n; kids = last_mark (m ∷ p ∷ ms) }) (record { at = a; kids = but_last_mark (m ∷ p ∷ ms) }) fs refl
    (same_first (record { at = a; kids = m ∷ p ∷ ms }) (record { at = a; kids = but_last_mark (m ∷ p ∷ ms) }) fs refl i)

pub over_ordered : (n : ℕ) (f : Frame) (fs : List Frame) → ends_in_operand f.at f.kids ≡ true → all_below n (f ∷ fs) ≡ true →
    is_ordered (f ∷ fs) ≡ true → is_ordered (over n (f ∷ fs)) ≡ true
over_ordered n f fs e b i = over_kids n f.at f.kids fs e
    (true_le f.at n (split (nat_le f.at n) (kids_below n f.kids) (top_below n f fs b)).0) i

-- a path is no left operand of the tree round the one that was begun for a struct literal
path_kid : (k : Kind) (a b : ℕ) (ms rs : List Mark) (h : Frame) (fs : List Frame) → is_empty ms ≡ true → is_empty rs ≡ true → a ≡ b →
    is_ordered (record { at = a; kids = ms } ∷ record { at = b; kids = rs } ∷ h ∷ fs) ≡ true → is_behind h.at h.kids (mark_as k a ms) ≡ true
path_kid k a b [] [] h fs x y e i =
    let j = (inner (record { at = a; kids = [] }) (record { at = b; kids = [] }) (h ∷ fs) i).1 in
    let s : stands_in b h ≡ true = (inner (record { at = b; kids = [] }) h fs j).0 in
    ordered_behind h.at h.kids (mark_as k a []) (rw e s)
path_kid k a b (m ∷ ms) rs h fs x y e i = cc
path_kid k a b [] (r ∷ rs) h fs x y e i = cc

pub path_behind : (k : Kind) (f g h : Frame) (fs : List Frame) → is_empty f.kids ≡ true → is_empty g.kids ≡ true → f.at ≡ g.at →
    is_ordered (f ∷ g ∷ h ∷ fs) ≡ true → is_behind h.at h.kids (mark_as k f.at f.kids) ≡ true
path_behind k f g h fs x y e i = path_kid k f.at g.at f.kids g.kids h fs x y e i

pub no_marks : (ms : List Mark) → is_empty ms ≡ true → ms ≡ []
no_marks [] e = refl
no_marks (m ∷ ms) e = cc

pub lifted_path : (k : Kind) (f g h : Frame) (fs : List Frame) → is_empty g.kids ≡ true →
    lift (close k (f ∷ g ∷ h ∷ fs)) ≡ put (mark_as k f.at f.kids) (h ∷ fs)
lifted_path k f g h fs y = ap (λ l. record { at = h.at; kids = h.kids ++ (l ++ mark_as k f.at f.kids ∷ []) } ∷ fs) (no_marks g.kids y)

pub path_ordered : (k : Kind) (f g h : Frame) (fs : List Frame) → is_empty f.kids ≡ true → is_empty g.kids ≡ true → f.at ≡ g.at →
    is_ordered (f ∷ g ∷ h ∷ fs) ≡ true → is_ordered (lift (close k (f ∷ g ∷ h ∷ fs))) ≡ true
path_ordered k f g h fs x y e i =
    let j = (inner g h fs (inner f g (h ∷ fs) i).1).1 in
    subst (λ l. is_ordered l ≡ true) (sym (lifted_path k f g h fs y))
    (put_ordered (mark_as k f.at f.kids) h fs (path_behind k f g h fs x y e i) j)
