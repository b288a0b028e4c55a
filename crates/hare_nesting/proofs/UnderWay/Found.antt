-- What the gauge finds at the innermost tree under way is passed there.
use Rattle.std.proofs.Common.{◌≡◌, ℕ, List, [], ◌∷◌, ◌++◌, Bool, true, false, ◌&&◌, ◌⊎◌, inl, inr, map, refl, arith}
use Rattle.std.specs.Prelude.{nat_le, if◌then◌else◌}
use Rattle.hare_tree.specs.Node.{Node, branch, nodes_of}
use Rattle.hare_tree.specs.Depth.{is_node}
use Rattle.hare_tree.specs.Grammar.{IsOn}
use Rattle.hare_automaton.specs.Engine.{Group}
use Rattle.hare_nesting.specs.Marks.{Mark, lies_before, first_in}
use Rattle.hare_nesting.specs.Gauge.{opened, found, deep_last, high_operand}
use Rattle.hare_nesting.proofs.UnderWay.Stacks.{mark, marks, frames, left_faults, own_faults, around, faults_of, first_faults, kid_faults}
use Rattle.hare_nesting.proofs.UnderWay.Stacks.{group_faults, stack_faults, fits}
use Rattle.hare_nesting.proofs.UnderWay.Lists.{on_left, on_right, on_either}

-- the token at which a node is too deep
abbrev deep_at : ℕ → Mark → List ℕ
deep_at o m = if m.node && nat_le 256 o then m.first ∷ [] else []

node_deep : (x o : ℕ) (t : Node) → IsOn x (deep_at o (mark t)) → IsOn x (faults_of o t)
unfolding faults_of
node_deep x o (branch h ts) i =
    let n = h.place.line in
    let own = own_faults (is_node h.kind) o n (marks ts) in
    on_left x own (first_faults n o (is_node h.kind) ts) (on_left x (deep_at o (mark (branch h ts))) (left_faults o n (marks ts)) i)

last_deep : (x o : ℕ) (t : Node) (ts : List Node) → IsOn x (deep_last o (map mark (t ∷ ts))) → IsOn x (kid_faults o (nodes_of (t ∷ ts)))
unfolding faults_of deep_last
last_deep x o t [] i = on_left x (faults_of o t) [] (node_deep x o t i)
last_deep x o t (u ∷ ts) i = on_right x (faults_of o t) (kid_faults o (nodes_of (u ∷ ts))) (last_deep x o u ts i)

-- a left operand that is too deep in its operator is told at the operator
left_deep : (x : ℕ) (b : Bool) (o : ℕ) (m : Mark) → IsOn x (deep_at (around b o) m) → IsOn x (if nat_le 255 o then m.first ∷ [] else [])
left_deep x b o m i = by m.node (nat_le 256 (around b o)) refl i
  where
    less : (b : Bool) → nat_le 256 (around b o) ≡ true → nat_le 255 o ≡ true
    less true e = grind (arith, e)
    less false e = grind (arith, e)

    by : (a c : Bool) → nat_le 256 (around b o) ≡ c → IsOn x (if a && c then m.first ∷ [] else []) →
        IsOn x (if nat_le 255 o then m.first ∷ [] else [])
    by true true e i = rw (less b e) i
    by true false e i = absurd i
    by false c e i = absurd i

only_deep : (x : ℕ) (b : Bool) (o n : ℕ) (t : Node) → IsOn x (deep_at (around b o) (mark t)) →
    IsOn x (left_faults o n (mark t ∷ []) ++ (faults_of (if lies_before (mark t) n then o else around b o) t ++ []))
only_deep x b o n t i = by (lies_before (mark t) n)
  where
    high : List ℕ
    high = if nat_le 256 (mark t).height then n ∷ [] else []

    by : (a : Bool) → IsOn x ((if a then (if nat_le 255 o then (mark t).first ∷ [] else []) ++ high else []) ++
        (faults_of (if a then o else around b o) t ++ []))
    by true = on_left x ((if nat_le 255 o then (mark t).first ∷ [] else []) ++ high) (faults_of o t ++ [])
        (on_left x (if nat_le 255 o then (mark t).first ∷ [] else []) high (left_deep x b o (mark t) i))
    by false = on_left x (faults_of (around b o) t) [] (node_deep x (around b o) t i)

kid_deep : (x : ℕ) (b : Bool) (o n : ℕ) (ts : List Node) → IsOn x (deep_last (around b o) (map mark ts)) →
    IsOn x (left_faults o n (map mark ts) ++ first_faults n o b (nodes_of ts))
unfolding faults_of deep_last
kid_deep x b o n [] i = absurd i
kid_deep x b o n (t ∷ []) i = only_deep x b o n t i
kid_deep x b o n (t ∷ u ∷ ts) i =
    let l = left_faults o n (map mark (t ∷ u ∷ ts)) in
    on_right x l (first_faults n o b (nodes_of (t ∷ u ∷ ts)))
    (on_right x (faults_of (if lies_before (mark t) n then o else around b o) t) (kid_faults (around b o) (nodes_of (u ∷ ts)))
    (last_deep x (around b o) u ts i))

high_on : (x o n : ℕ) (ms : List Mark) → IsOn x (high_operand n ms) → IsOn x (left_faults o n ms)
high_on x o n [] i = absurd i
high_on x o n (m ∷ []) i = by (lies_before m n) i
  where
    by : (a : Bool) → IsOn x (if a && nat_le 256 m.height then n ∷ [] else []) →
        IsOn x (if a then (if nat_le 255 o then m.first ∷ [] else []) ++ (if nat_le 256 m.height then n ∷ [] else []) else [])
    by true i = on_right x (if nat_le 255 o then m.first ∷ [] else []) (if nat_le 256 m.height then n ∷ [] else []) i
    by false i = absurd i
high_on x o n (m ∷ p ∷ ms) i = absurd i

three : (x : ℕ) (deep low high left first : List ℕ) → (IsOn x low → IsOn x (left ++ first)) → (IsOn x high → IsOn x left) →
    IsOn x (deep ++ (low ++ high)) → IsOn x ((deep ++ left) ++ first)
three x deep low high left first f g i = by (on_either x deep (low ++ high) i)
  where
    kid : IsOn x left ⊎ IsOn x first → IsOn x ((deep ++ left) ++ first)
    kid (inl j) = on_left x (deep ++ left) first (on_right x deep left j)
    kid (inr j) = on_right x (deep ++ left) first j

    behind : IsOn x low ⊎ IsOn x high → IsOn x ((deep ++ left) ++ first)
    behind (inl j) = kid (on_either x left first (f j))
    behind (inr j) = kid (inl (g j))

    by : IsOn x deep ⊎ IsOn x (low ++ high) → IsOn x ((deep ++ left) ++ first)
    by (inl j) = on_left x (deep ++ left) first (on_left x deep left j)
    by (inr j) = behind (on_either x low high j)

-- what is found at a tree under way, which is a node or not
group_found : (x : ℕ) (b : Bool) (o : ℕ) (g : Group) →
    IsOn x ((if b && nat_le 256 o then first_in g.place.line (map mark g.kids) ∷ [] else []) ++
    (deep_last (around b o) (map mark g.kids) ++ high_operand g.place.line (map mark g.kids))) → IsOn x (group_faults b o g)
group_found x b o g i =
    let n = g.place.line in
    let ms = map mark g.kids in
    three x (if b && nat_le 256 o then first_in n ms ∷ [] else []) (deep_last (around b o) ms) (high_operand n ms) (left_faults o n ms)
    (first_faults n o b (nodes_of g.kids)) (kid_deep x b o n g.kids) (high_on x o n ms) i

pub found_holds : (bs : List Bool) (gs : List Group) → fits bs (frames gs) → (x : ℕ) → IsOn x (found bs (frames gs)) →
    IsOn x (stack_faults bs gs)
unfolding stack_faults opened
found_holds bs [] e x i = absurd i
found_holds [] (g ∷ gs) e x i = group_found x false 0 g i
found_holds (true ∷ bs) (g ∷ gs) e x i = on_left x (group_faults true (opened bs) g) (stack_faults bs gs)
    (group_found x true (opened bs) g i)
found_holds (false ∷ bs) (g ∷ gs) e x i = on_left x (group_faults false (opened bs) g) (stack_faults bs gs)
    (group_found x false (opened bs) g i)
