-- A tree under way with one kid more: what it gains is what is passed in the kid, which is no left operand.
use Rattle.std.proofs.Common.{◌≡◌, ℕ, ◌+◌, ◌≤◌, List, [], ◌∷◌, ◌++◌, Bool, true, false, ◌&&◌, not, map, refl, ap, sym, ◌∙◌, subst, arith}
use Rattle.std.proofs.Common.{append_assoc}
use Rattle.std.proofs.lemmas.List.{append-nil, map-append}
use Rattle.std.specs.Prelude.{nat_le, if◌then◌else◌}
use Rattle.hare_tree.specs.Node.{Node, nodes_of}
use Rattle.hare_automaton.specs.Engine.{Group, with_kids, add}
use Rattle.hare_automaton.proofs.Machine.Edges.{lt_false}
use Rattle.hare_nesting.specs.Marks.{Mark, lies_before, first_in}
use Rattle.hare_nesting.specs.Gauge.{opened}
use Rattle.hare_nesting.proofs.UnderWay.Stacks.{mark, left_faults, own_faults, around, faults_of, first_faults, kid_faults, group_faults}
use Rattle.hare_nesting.proofs.UnderWay.Stacks.{stack_faults, Gains}
use Rattle.hare_nesting.proofs.UnderWay.Lists.{gains_within}

-- where it is put behind these kids of a tree that has its place at `n`, the kid is no left operand
abbrev pub is_behind : ℕ → List Mark → Mark → Bool
is_behind n [] m = not (lies_before m n)
is_behind n (p ∷ ms) m = true

pub behind_plain : (n : ℕ) (ms : List Mark) (m : Mark) → m.node ≡ false → is_behind n ms m ≡ true
behind_plain n [] m e = ap (λ b. not (b && nat_le (m.first + 1) n)) e
behind_plain n (p ∷ ms) m e = refl

pub behind_later : (n : ℕ) (ms : List Mark) (m : Mark) → n ≤ m.first → is_behind n ms m ≡ true
behind_later n [] m e = by m.node (nat_le (m.first + 1) n) (lt_false (m.first + 1) n (omega (arith, e)))
  where
    by : (a b : Bool) → b ≡ false → not (a && b) ≡ true
    by true b e = ap not e
    by false b e = refl
behind_later n (p ∷ ms) m e = refl

pub not_before : (n : ℕ) (m : Mark) → is_behind n [] m ≡ true → lies_before m n ≡ false
not_before n m e = by (lies_before m n) e
  where
    by : (b : Bool) → not b ≡ true → b ≡ false
    by true e = cc
    by false e = refl

-- the first token stays
pub first_stays : (n : ℕ) (ms : List Mark) (m : Mark) → is_behind n ms m ≡ true → first_in n (ms ++ m ∷ []) ≡ first_in n ms
first_stays n [] m e = ap (λ b. if b then m.first else n) (not_before n m e)
first_stays n (p ∷ ms) m e = refl

left_stays : (o n : ℕ) (ms : List Mark) (m : Mark) → is_behind n ms m ≡ true → left_faults o n (ms ++ m ∷ []) ≡ left_faults o n ms
left_stays o n [] m e = ap (λ b. if b then (if nat_le 255 o then m.first ∷ [] else []) ++ (if nat_le 256 m.height then n ∷ [] else []) else
    []) (not_before n m e)
left_stays o n (p ∷ ms) m e = refl

own_stays : (b : Bool) (o n : ℕ) (ms : List Mark) (m : Mark) → is_behind n ms m ≡ true →
    own_faults b o n (ms ++ m ∷ []) ≡ own_faults b o n ms
own_stays b o n ms m e = rw (first_stays n ms m e, left_stays o n ms m e) refl

kids_grown : (o : ℕ) (ts : List Node) (t : Node) → kid_faults o (nodes_of (ts ++ t ∷ [])) ≡ kid_faults o (nodes_of ts) ++ faults_of o t
unfolding faults_of
kids_grown o [] t = append-nil (faults_of o t)
kids_grown o (u ∷ ts) t = ap (λ l. faults_of o u ++ l) (kids_grown o ts t) ∙ sym
    (append_assoc (faults_of o u) (kid_faults o (nodes_of ts)) (faults_of o t))

first_grown : (n o : ℕ) (b : Bool) (ts : List Node) (t : Node) → is_behind n (map mark ts) (mark t) ≡ true →
    first_faults n o b (nodes_of (ts ++ t ∷ [])) ≡ first_faults n o b (nodes_of ts) ++ faults_of (around b o) t
unfolding faults_of
first_grown n o b [] t e = append-nil _ ∙ ap (λ z. faults_of (if z then o else around b o) t) (not_before n (mark t) e)
first_grown n o b (u ∷ ts) t e =
    let front = faults_of (if lies_before (mark u) n then o else around b o) u in
    ap (λ l. front ++ l) (kids_grown (around b o) ts t) ∙ sym
    (append_assoc front (kid_faults (around b o) (nodes_of ts)) (faults_of (around b o) t))

-- a tree under way with one kid more
pub grown : (b : Bool) (o : ℕ) (g : Group) (t : Node) → is_behind g.place.line (map mark g.kids) (mark t) ≡ true →
    group_faults b o (with_kids g (g.kids ++ t ∷ [])) ≡ group_faults b o g ++ faults_of (around b o) t
grown b o g t e =
    let own = own_faults b o g.place.line (map mark g.kids) in
    ap (λ l. own_faults b o g.place.line l ++ first_faults g.place.line o b (nodes_of (g.kids ++ t ∷ []))) (map-append mark g.kids (t ∷ []))
    ∙ ap (λ l. l ++ first_faults g.place.line o b (nodes_of (g.kids ++ t ∷ []))) (own_stays b o g.place.line (map mark g.kids) (mark t) e)
    ∙ ap (λ l. own ++ l) (first_grown g.place.line o b g.kids t e)
    ∙ sym (append_assoc own (first_faults g.place.line o b (nodes_of g.kids)) (faults_of (around b o) t))

-- the nodes open round the kids of the innermost tree
pub opened_around : (b : Bool) (bs : List Bool) → around b (opened bs) ≡ opened (b ∷ bs)
unfolding opened
opened_around true bs = refl
opened_around false bs = refl

pub top_grown : (bs : List Bool) (g : Group) (gs : List Group) (t : Node) → is_behind g.place.line (map mark g.kids) (mark t) ≡ true →
    Gains (stack_faults bs (g ∷ gs)) (stack_faults bs (add t (g ∷ gs))) (faults_of (opened bs) t)
unfolding stack_faults opened
top_grown [] g gs t e = rw (grown false 0 g t e) (by (group_faults false 0 g) (faults_of 0 t))
  where
    by : (a e : List ℕ) → Gains a (a ++ e) e
    by a e = subst (λ l. Gains l (a ++ e) e) (append-nil a) (subst (λ l. Gains (a ++ []) l e) (append-nil (a ++ e)) (gains_within a e []))
top_grown (b ∷ bs) g gs t e = rw (grown b (opened bs) g t e, ← (opened_around b bs))
    (gains_within (group_faults b (opened bs) g) (faults_of (around b (opened bs)) t) (stack_faults bs gs))
