-- Trees in which no node is: no limit is passed in them, so they may be let go or lifted, and a tree that has no others may turn out to be
-- a node.
use Rattle.std.proofs.Common.{◌≡◌, ℕ, ◌+◌, List, [], ◌∷◌, ◌++◌, Bool, true, false, ◌&&◌, not, map, refl, ap, sym, ◌∙◌, subst, arith}
use Rattle.std.proofs.Common.{append_assoc, ◌==◌}
use Rattle.std.proofs.lemmas.List.{append-nil}
use Rattle.std.specs.Prelude.{nat_le, if◌then◌else◌}
use Rattle.std.specs.List.{list_all}
use Rattle.hare_tree.specs.declared.kind.Kind.{Kind}
use Rattle.hare_tree.specs.Node.{Node, Nodes, branch, none, more, nodes_of}
use Rattle.hare_tree.specs.Depth.{is_node, counted}
use Rattle.hare_automaton.specs.Engine.{Group, with_kids, lift}
use Rattle.hare_automaton.proofs.Spelled.Paths.{split}
use Rattle.hare_prefixes.proofs.Outcomes.Breaks.{both}
use Rattle.hare_nesting.specs.Marks.{Mark, lies_before, first_in, highest}
use Rattle.hare_nesting.specs.Gauge.{opened, found, deep_last, high_operand}
use Rattle.hare_nesting.proofs.UnderWay.Stacks.{mark, marks, frames, left_faults, around, faults_of, first_faults, kid_faults, group_faults}
use Rattle.hare_nesting.proofs.UnderWay.Stacks.{stack_faults, Gains, fits, idle}
use Rattle.hare_nesting.proofs.UnderWay.Lists.{gains_refl, gains_in_front, gains_none, gains_then}
use Rattle.hare_nesting.proofs.UnderWay.Seen.{marks_listed}
use Rattle.hare_nesting.proofs.UnderWay.Grown.{behind_plain, top_grown}

-- none of these is a node
abbrev pub has_no_node : List Mark → Bool
has_no_node ms = list_all (λ m. not m.node) ms

-- ---- heights

no_height : (k : Kind) → counted k ≡ 0 → is_node k ≡ false
no_height k e = by (is_node k) e
  where
    units : Bool → ℕ
    units b = if b then 1 else 0

    by : (b : Bool) → units b ≡ 0 → b ≡ false
    by true e = absurd (omega (arith, e))
    by false e = refl

highest_idle : (ms : List Mark) → highest ms ≡ 0 → idle ms ≡ true
highest_idle [] e = refl
highest_idle (m ∷ ms) e =
    let a : m.height ≡ 0 = omega (arith, e) in
    let b : highest ms ≡ 0 = omega (arith, e) in
    both (m.height == 0) (idle ms) (rw a refl) (highest_idle ms b)

-- a tree of no height is no node, and all its kids have none
pub idle_tree : (k : Kind) (ms : List Mark) → counted k + highest ms ≡ 0 → (is_node k ≡ false) × (idle ms ≡ true)
idle_tree k ms e = (no_height k (omega (arith, e)), highest_idle ms (omega (arith, e)))

pub plain_mark : (t : Node) → (mark t).height ≡ 0 → (mark t).node ≡ false
plain_mark (branch h ts) e = (idle_tree h.kind (marks ts) e).0

pub plains : (ts : Nodes) → idle (marks ts) ≡ true → has_no_node (marks ts) ≡ true
plains none e = refl
plains (more t ts) e =
    let p = split ((mark t).height == 0) (idle (marks ts)) e in
    both (not (mark t).node) (has_no_node (marks ts)) (ap not (plain_mark t (grind (arith, p.0)))) (plains ts p.1)

pub idle_plain : (ts : List Node) → idle (map mark ts) ≡ true → has_no_node (map mark ts) ≡ true
idle_plain ts e = subst (λ l. has_no_node l ≡ true) (marks_listed ts)
    (plains (nodes_of ts) (subst (λ l. idle l ≡ true) (sym (marks_listed ts)) e))

-- ---- no limit is passed

left_none : (o n : ℕ) (ms : List Mark) → has_no_node ms ≡ true → left_faults o n ms ≡ []
left_none o n [] e = refl
left_none o n (m ∷ ms) e = by m.node (split (not m.node) (has_no_node ms) e).0
  where
    by : (b : Bool) → not b ≡ true → (if b && nat_le (m.first + 1) n then (if nat_le 255 o then m.first ∷ [] else []) ++
        (if nat_le 256 m.height then n ∷ [] else []) else []) ≡ []
    by true i = cc
    by false i = refl

mutual
  unfolding faults_of

  pub idle_faults : (o : ℕ) (t : Node) → (mark t).height ≡ 0 → faults_of o t ≡ []
  idle_faults o (branch h ts) e =
      let p = idle_tree h.kind (marks ts) e in
      rw (p.0, left_none o h.place.line (marks ts) (plains ts p.1), idle_first h.place.line o false ts p.1) refl

  pub idle_first : (n o : ℕ) (b : Bool) (ts : Nodes) → idle (marks ts) ≡ true → first_faults n o b ts ≡ []
  idle_first n o b none e = refl
  idle_first n o b (more t ts) e =
      let p = split ((mark t).height == 0) (idle (marks ts)) e in
      rw (idle_faults (if lies_before (mark t) n then o else around b o) t (grind (arith, p.0)), idle_kids (around b o) ts p.1) refl

  pub idle_kids : (o : ℕ) (ts : Nodes) → idle (marks ts) ≡ true → kid_faults o ts ≡ []
  idle_kids o none e = refl
  idle_kids o (more t ts) e =
      let p = split ((mark t).height == 0) (idle (marks ts)) e in
      rw (idle_faults o t (grind (arith, p.0)), idle_kids o ts p.1) refl

-- ---- trees under way

idle_group : (b : Bool) (o : ℕ) (g : Group) → idle (map mark g.kids) ≡ true →
    group_faults b o g ≡ (if b && nat_le 256 o then first_in g.place.line (map mark g.kids) ∷ [] else [])
idle_group b o g e =
    rw (
      left_none o g.place.line (map mark g.kids) (idle_plain g.kids e),
      idle_first g.place.line o b (nodes_of g.kids)
          (rw (marks_listed g.kids) e),
    ) (append-nil _ ∙ append-nil _)

pub drop_gains : (bs : List Bool) (g h : Group) (hs : List Group) → fits (false ∷ bs) (frames (g ∷ h ∷ hs)) →
    idle (map mark g.kids) ≡ true → Gains (stack_faults (false ∷ bs) (g ∷ h ∷ hs)) (stack_faults bs (h ∷ hs)) []
unfolding stack_faults
drop_gains bs g h hs i e = rw (idle_group false (opened bs) g e) (gains_refl (stack_faults bs (h ∷ hs)))

-- idle trees as further kids
pub top_filled : (bs : List Bool) (h : Group) (hs : List Group) (ts : List Node) → idle (map mark ts) ≡ true →
    Gains (stack_faults bs (h ∷ hs)) (stack_faults bs (with_kids h (h.kids ++ ts) ∷ hs)) []
top_filled bs h hs [] e = gains_none (stack_faults bs (h ∷ hs)) (stack_faults bs (with_kids h (h.kids ++ []) ∷ hs))
    (ap (λ l. stack_faults bs (with_kids h l ∷ hs)) (sym (append-nil h.kids)))
top_filled bs h hs (t ∷ ts) e =
    let p = split ((mark t).height == 0) (idle (map mark ts)) e in
    let low : (mark t).height ≡ 0 = grind (arith, p.0) in
    let old = stack_faults bs (h ∷ hs) in
    let middle = stack_faults bs (with_kids h (h.kids ++ t ∷ []) ∷ hs) in
    let one : Gains old middle [] = subst (λ l. Gains old middle l) (idle_faults (opened bs) t low)
    (top_grown bs h hs t (behind_plain h.place.line (map mark h.kids) (mark t) (plain_mark t low))) in
    let rest = top_filled bs (with_kids h (h.kids ++ t ∷ [])) hs ts p.1 in
    gains_then old middle _ [] one (subst (λ l. Gains middle (stack_faults bs (with_kids h l ∷ hs)) []) (append_assoc h.kids (t ∷ []) ts)
    rest)

pub lift_gains : (bs : List Bool) (g h : Group) (hs : List Group) → fits (false ∷ bs) (frames (g ∷ h ∷ hs)) →
    idle (map mark g.kids) ≡ true → Gains (stack_faults (false ∷ bs) (g ∷ h ∷ hs)) (stack_faults bs (lift (g ∷ h ∷ hs))) []
lift_gains bs g h hs i e = gains_then _ (stack_faults bs (h ∷ hs)) _ [] (drop_gains bs g h hs i e) (top_filled bs h hs g.kids e)

-- ---- a tree that turns out to be a node

last_plain : (n : ℕ) (ms : List Mark) → has_no_node ms ≡ true → deep_last n ms ≡ []
unfolding deep_last
last_plain n [] e = refl
last_plain n (m ∷ []) e = by m.node (split (not m.node) true e).0
  where
    by : (b : Bool) → not b ≡ true → (if b && nat_le 256 n then m.first ∷ [] else []) ≡ []
    by true i = cc
    by false i = refl
last_plain n (m ∷ p ∷ ms) e = last_plain n (p ∷ ms) (split (not m.node) (has_no_node (p ∷ ms)) e).1

operand_plain : (n : ℕ) (ms : List Mark) → has_no_node ms ≡ true → high_operand n ms ≡ []
operand_plain n [] e = refl
operand_plain n (m ∷ []) e = by m.node (split (not m.node) true e).0
  where
    by : (b : Bool) → not b ≡ true → (if (b && nat_le (m.first + 1) n) && nat_le 256 m.height then n ∷ [] else []) ≡ []
    by true i = cc
    by false i = refl
operand_plain n (m ∷ p ∷ ms) e = refl

pub turn_gains : (bs : List Bool) (g : Group) (hs : List Group) → idle (map mark g.kids) ≡ true → fits (false ∷ bs) (frames (g ∷ hs)) →
    Gains (stack_faults (false ∷ bs) (g ∷ hs)) (stack_faults (true ∷ bs) (g ∷ hs)) (found (true ∷ bs) (frames (g ∷ hs)))
unfolding stack_faults
turn_gains bs g hs e i =
    let p = idle_plain g.kids e in
    let deep = if nat_le 256 (opened bs) then first_in g.place.line (map mark g.kids) ∷ [] else [] in
    let told : found (true ∷ bs) (frames (g ∷ hs)) ≡ deep =
    rw (last_plain (opened (true ∷ bs)) (map mark g.kids) p, operand_plain g.place.line (map mark g.kids) p) (append-nil deep) in
    rw (idle_group false (opened bs) g e, idle_group true (opened bs) g e, told) (gains_in_front deep (stack_faults bs hs))
