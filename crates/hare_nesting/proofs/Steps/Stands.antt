-- What holds of the trees under way within a step, and that the changes keep it.
use Rattle.std.proofs.Common.{◌≡◌, ℕ, suc, ◌+◌, List, [], ◌∷◌, Bool, true, false, ◌&&◌, refl, ap, arith, if◌then◌else◌}
use Rattle.std.specs.Prelude.{nat_le}
use Rattle.std.specs.List.{list_all}
use Rattle.hare_tree.specs.declared.kind.Kind.{Kind}
use Rattle.hare_tree.specs.declared.kind.Kind.TheVariants as ki
use Rattle.hare_tree.specs.Depth.{is_node}
use Rattle.hare_automaton.proofs.Spelled.Paths.{split}
use Rattle.hare_automaton.proofs.Machine.Edges.{le_true, true_le}
use Rattle.hare_prefixes.proofs.Outcomes.Breaks.{both}
use Rattle.hare_automaton.specs.declared.rule.Change.{Change}
use Rattle.hare_automaton.specs.declared.rule.Change.TheVariants as ch
use Rattle.hare_nesting.specs.Marks.{Mark, Frame, mark_as, leaf_mark, put, close, changed}
use Rattle.hare_nesting.proofs.UnderWay.Stacks.{fits, is_empty, is_ordered, kids_below, all_below}
use Rattle.hare_nesting.proofs.UnderWay.Grown.{behind_later}
use Rattle.hare_nesting.proofs.UnderWay.Below.{below_later, absent_below, leaf_below, open_below, close_below}
use Rattle.hare_nesting.proofs.UnderWay.Orders.{put_ordered, absent_ordered, close_ordered}
use Rattle.hare_nesting.proofs.CheckedRows.Slots.{undone, is_quiet, is_loud}

-- no tree under way has its place behind the token
abbrev pub at_most : ℕ → List Frame → Bool
at_most n fs = list_all (λ f. nat_le f.at n) fs

-- At the token `n`: in front of `m`, which is the token or the next, all trees under way begin.
pub record Stands (n m : ℕ) (bs : List Bool) (fs : List Frame) : Type 0 where
  pub fitting : fits bs fs
  pub ordered : is_ordered fs ≡ true
  pub below : all_below m fs ≡ true
  pub placed : at_most n fs ≡ true

pub below_placed : (n : ℕ) (fs : List Frame) → all_below n fs ≡ true → at_most n fs ≡ true
unfolding all_below
below_placed n [] e = refl
below_placed n (f ∷ []) e = both (nat_le f.at n) true (split (nat_le f.at n) (kids_below n f.kids) e).0 refl
below_placed n (f ∷ g ∷ fs) e =
    let p = split (nat_le (f.at + 1) n && kids_below n f.kids) (all_below n (g ∷ fs)) e in
    let q = split (nat_le (f.at + 1) n) (kids_below n f.kids) p.0 in
    both (nat_le f.at n) (at_most n (g ∷ fs)) (le_true f.at n (omega (arith, true_le (f.at + 1) n q.0))) (below_placed n (g ∷ fs) p.1)

-- where the token is used, the next one comes
pub stands_next : (n : ℕ) (bs : List Bool) (fs : List Frame) → Stands n n bs fs → Stands n (suc n) bs fs
stands_next n bs fs s = record {
  fitting = s.fitting;
  ordered = s.ordered;
  below = below_later n (suc n) fs (omega arith) s.below;
  placed =
      s.placed;
}

-- ---- kids that are put

put_fits : (m : Mark) (bs : List Bool) (fs : List Frame) → fits bs fs → fits bs (put m fs)
put_fits m bs [] e = e
put_fits m bs (f ∷ fs) e = e

put_placed : (n : ℕ) (m : Mark) (fs : List Frame) → at_most n fs ≡ true → at_most n (put m fs) ≡ true
put_placed n m [] e = e
put_placed n m (f ∷ fs) e = e

pub absent_stands : (n m : ℕ) (bs : List Bool) (fs : List Frame) → Stands n m bs fs → Stands n m bs (put (leaf_mark ki.None 1) fs)
absent_stands n m bs fs s = record {
  fitting = put_fits (leaf_mark ki.None 1) bs fs s.fitting;
  ordered = absent_ordered n fs s.ordered;
  below = absent_below n m fs s.below;
  placed = put_placed n (leaf_mark ki.None 1) fs s.placed;
}

pub leaf_stands : (n : ℕ) (k : Kind) (bs : List Bool) (fs : List Frame) → Stands n (suc n) bs fs →
    Stands n (suc n) bs (put (leaf_mark k n) fs)
leaf_stands n k bs [] s = s
leaf_stands n k bs (f ∷ fs) s =
    let at = split (nat_le f.at n) (at_most n fs) s.placed in
    record {
      fitting = put_fits (leaf_mark k n) bs (f ∷ fs) s.fitting;
      ordered = put_ordered (leaf_mark k n) f fs (behind_later f.at f.kids (leaf_mark k n) (true_le f.at n at.0)) s.ordered;
      below = leaf_below k n (suc n) (f ∷ fs) (omega arith) s.below;
      placed = s.placed;
    }

-- ---- trees that are begun and closed

pub open_stands : (n : ℕ) (b : Bool) (bs : List Bool) (fs : List Frame) → Stands n (suc n) bs fs →
    Stands n (suc n) (b ∷ bs) (record { at = n; kids = [] } ∷ fs)
unfolding is_ordered
open_stands n b bs [] s = absurd (omega (arith, s.fitting))
open_stands n b bs (f ∷ fs) s =
    record {
      fitting = ap suc s.fitting;
      ordered = both (if is_empty f.kids then nat_le f.at n else true) (is_ordered (f ∷ fs)) (by (is_empty f.kids)) s.ordered;
      below = open_below n (suc n) (f ∷ fs) (omega arith) s.below;
      placed = both (nat_le n n) (at_most n (f ∷ fs)) (le_true n n (omega arith)) s.placed;
    }
  where
    by : (b : Bool) → (if b then nat_le f.at n else true) ≡ true
    by true = (split (nat_le f.at n) (at_most n fs) s.placed).0
    by false = refl

pub close_stands : (n m : ℕ) (k : Kind) (bs : List Bool) (fs : List Frame) → Stands n m (is_node k ∷ bs) fs → Stands n m bs (close k fs)
close_stands n m k bs [] s = absurd (omega (arith, s.fitting))
close_stands n m k bs (f ∷ fs) s =
    let t = mark_as k f.at f.kids in
    record {
      fitting = put_fits t bs fs (omega (arith, s.fitting));
      ordered = close_ordered k (f ∷ fs) s.ordered;
      below = close_below k m (f ∷ fs) s.below;
      placed = put_placed n t fs (split (nat_le f.at n) (at_most n fs) s.placed).1;
    }

-- ---- the changes of rows that pass the check

pub quiet_stands : (n : ℕ) (c : Change) (bs : List Bool) (fs : List Frame) → is_quiet c bs ≡ true → Stands n (suc n) (undone c bs) fs →
    Stands n (suc n) bs (changed n c fs)
quiet_stands n ch.Absent bs fs q s = absent_stands n (suc n) bs fs s
quiet_stands n (ch.Mark k) bs fs q s = leaf_stands n k bs fs s
quiet_stands n (ch.Leaf k) bs fs q s = leaf_stands n k bs fs s
quiet_stands n ch.Open [] fs q s = cc
quiet_stands n ch.Open (b ∷ bs) fs q s = open_stands n b bs fs s
quiet_stands n ch.Take bs fs q s = s
quiet_stands n ch.Join bs fs q s = s
quiet_stands n (ch.Close k) bs fs q s = close_stands n (suc n) k bs fs s
quiet_stands n _ bs fs q s = cc

pub loud_stands : (n : ℕ) (c : Change) (bs : List Bool) (fs : List Frame) → is_loud c bs ≡ true → Stands n (suc n) (undone c bs) fs →
    Stands n (suc n) bs (changed n c fs)
loud_stands n (ch.Mark k) bs fs q s = leaf_stands n k bs fs s
loud_stands n (ch.Leaf k) bs fs q s = leaf_stands n k bs fs s
loud_stands n ch.Open [] fs q s = cc
loud_stands n ch.Open (b ∷ bs) fs q s = open_stands n b bs fs s
loud_stands n _ bs fs q s = cc
