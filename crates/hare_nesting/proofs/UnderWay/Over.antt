-- An operator that is put over its left operand: the limits that are passed by it are what the gauge finds.
use Rattle.std.proofs.Common.{◌≡◌, ℕ, suc, ◌+◌, List, [], ◌∷◌, ◌++◌, Bool, true, false, ◌&&◌, map, refl, ap, sym, ◌∙◌, subst, arith}
use Rattle.std.proofs.lemmas.List.{append-nil, map-append}
use Rattle.std.specs.Prelude.{nat_le, if◌then◌else◌}
use Rattle.hare_tree.specs.declared.place.Place.{Place}
use Rattle.hare_tree.specs.Node.{Node}
use Rattle.hare_automaton.specs.Engine.{Group, begun, with_kids, over, last_kid, but_last}
use Rattle.hare_automaton.proofs.Spelled.Paths.{split}
use Rattle.hare_prefixes.proofs.Outcomes.Breaks.{both}
use Rattle.hare_nesting.specs.Marks.{Mark, lies_before}
use Rattle.hare_nesting.specs.Gauge.{opened, found, deep_last}
use Rattle.hare_nesting.proofs.UnderWay.Stacks.{mark, frame_of, frames, faults_of, first_faults, group_faults, stack_faults, Gains, fits}
use Rattle.hare_nesting.proofs.UnderWay.Stacks.{kids_below, all_below, last_is_node, ends_in_operand}
use Rattle.hare_nesting.proofs.UnderWay.Lists.{gains_new}
use Rattle.hare_nesting.proofs.UnderWay.Grown.{is_behind, top_grown}
use Rattle.hare_nesting.proofs.UnderWay.Below.{top_kids_below}

-- ---- the operand is the last kid

-- the last of some trees and the others, as the machine parts them
pub record EndsIn (ts : List Node) : Type 0 where
  pub others : List Node
  pub last : Node
  pub is : ts ≡ others ++ last ∷ []
  pub last_is : last_kid ts ≡ last ∷ []
  pub others_are : but_last ts ≡ others

pub ends_in : (t : Node) (ts : List Node) → EndsIn (t ∷ ts)
ends_in t [] = record { others = []; last = t; is = refl; last_is = refl; others_are = refl }
ends_in t (u ∷ ts) =
    let r = ends_in u ts in
    record {
      others = t ∷ r.others;
      last = r.last;
      is = ap (λ l. t ∷ l) r.is;
      last_is = r.last_is;
      others_are = ap (λ l. t ∷ l)
          r.others_are;
    }

pub node_last : (ms : List Mark) (m : Mark) → last_is_node (ms ++ m ∷ []) ≡ m.node
unfolding last_is_node
node_last [] m = refl
node_last (p ∷ []) m = refl
node_last (p ∷ q ∷ ms) m = node_last (q ∷ ms) m

pub operand_last : (n : ℕ) (ms : List Mark) (m : Mark) → ends_in_operand n (ms ++ m ∷ []) ≡ (m.node && is_behind n ms m)
unfolding last_is_node
operand_last n [] m = refl
operand_last n (p ∷ []) m = by m.node
  where
    by : (b : Bool) → b ≡ (b && true)
    by true = refl
    by false = refl
operand_last n (p ∷ q ∷ ms) m = by (last_is_node (q ∷ (ms ++ m ∷ []))) m.node (node_last (q ∷ ms) m)
  where
    by : (a b : Bool) → a ≡ b → a ≡ (b && true)
    by a true e = e
    by a false e = e

pub last_below : (n : ℕ) (ms : List Mark) (m : Mark) → kids_below n (ms ++ m ∷ []) ≡ true → m.node ≡ true → nat_le (m.first + 1) n ≡ true
last_below n [] m e i = let a = (split (if m.node then nat_le (m.first + 1) n else true) true e).0 in rw i at a
last_below n (p ∷ ms) m e i = last_below n ms m (split (if p.node then nat_le (p.first + 1) n else true) (kids_below n (ms ++ m ∷ [])) e).1
    i

-- ---- what is passed at the operator

-- a left operand has one node more open round it once its operator is there
pub one_more : (n : ℕ) → nat_le 256 (suc n) ≡ nat_le 255 n
one_more n = grind arith

pub operator_faults : (bs : List Bool) (p : Place) (t : Node) (gs : List Group) → lies_before (mark t) p.line ≡ true →
    (mark t).node ≡ true → group_faults true (opened bs) (begun p (t ∷ [])) ≡
    found (true ∷ bs) (frames (begun p (t ∷ []) ∷ gs)) ++ faults_of (opened bs) t
unfolding first_faults opened deep_last
operator_faults bs p t gs e i = rw (e, i, one_more (opened bs), append-nil) refl

-- the last kid is taken out of the tree under way, and is the first of the operator's
over_last : (bs : List Bool) (p : Place) (g : Group) (hs : List Group) (r : EndsIn g.kids) →
    is_behind g.place.line (map mark r.others) (mark r.last) ≡ true → (mark r.last).node ≡ true → lies_before (mark r.last) p.line ≡ true →
    Gains (stack_faults bs (g ∷ hs)) (stack_faults (true ∷ bs) (over p (g ∷ hs))) (found (true ∷ bs) (frames (over p (g ∷ hs))))
unfolding stack_faults
over_last bs p g hs r e i j =
    let others = with_kids g r.others in
    let t = r.last in
    let old : g ≡ with_kids g (r.others ++ t ∷ []) = ap (with_kids g) r.is in
    let put : Gains (stack_faults bs (others ∷ hs)) (stack_faults bs (g ∷ hs)) (faults_of (opened bs) t) =
    subst (λ h. Gains (stack_faults bs (others ∷ hs)) (stack_faults bs (h ∷ hs)) (faults_of (opened bs) t)) (sym old)
    (top_grown bs others hs t e) in
    let made : over p (g ∷ hs) ≡ begun p (t ∷ []) ∷ others ∷ hs =
    ap (λ l. begun p l ∷ with_kids g (but_last g.kids) ∷ hs) r.last_is ∙ ap (λ l. begun p (t ∷ []) ∷ with_kids g l ∷ hs) r.others_are in
    let told = found (true ∷ bs) (frames (begun p (t ∷ []) ∷ others ∷ hs)) in
    let new : Gains (stack_faults bs (g ∷ hs)) ((told ++ faults_of (opened bs) t) ++ stack_faults bs (others ∷ hs)) told =
    gains_new (stack_faults bs (others ∷ hs)) (stack_faults bs (g ∷ hs)) told (faults_of (opened bs) t) put in
    subst (λ gs. Gains (stack_faults bs (g ∷ hs)) (stack_faults (true ∷ bs) gs) (found (true ∷ bs) (frames gs))) (sym made)
    (subst (λ l. Gains (stack_faults bs (g ∷ hs)) (l ++ stack_faults bs (others ∷ hs)) told)
    (sym (operator_faults bs p t (others ∷ hs) j i)) new)

pub over_gains : (bs : List Bool) (p : Place) (g : Group) (hs : List Group) → fits bs (frames (g ∷ hs)) →
    ends_in_operand g.place.line (map mark g.kids) ≡ true → all_below p.line (frames (g ∷ hs)) ≡ true →
    Gains (stack_faults bs (g ∷ hs)) (stack_faults (true ∷ bs) (over p (g ∷ hs))) (found (true ∷ bs) (frames (over p (g ∷ hs))))
over_gains bs p g hs i e b = by g.kids refl
  where
    by : (ts : List Node) → g.kids ≡ ts → Gains (stack_faults bs (g ∷ hs)) (stack_faults (true ∷ bs) (over p (g ∷ hs)))
        (found (true ∷ bs) (frames (over p (g ∷ hs))))
    by [] j = let a : ends_in_operand g.place.line (map mark []) ≡ true = (rw j at e) in cc
    by (t ∷ ts) j =
        let r : EndsIn g.kids = subst EndsIn (sym j) (ends_in t ts) in
        let ms = map mark r.others in
        let m = mark r.last in
        let all : map mark g.kids ≡ ms ++ m ∷ [] = ap (map mark) r.is ∙ map-append mark r.others (r.last ∷ []) in
        let x : (m.node && is_behind g.place.line ms m) ≡ true = sym (operand_last g.place.line ms m) ∙ (rw all at e) in
        let y = split m.node (is_behind g.place.line ms m) x in
        let z : kids_below p.line (ms ++ m ∷ []) ≡ true = (rw all at (top_kids_below p.line (frame_of g) (frames hs) b)) in
        over_last bs p g hs r y.1 y.0 (both m.node (nat_le (m.first + 1) p.line) y.0 (last_below p.line ms m z y.0))
