-- What each change of the grammar's machine does to the limits that are passed in the trees under way: kids that are put, trees that are
-- begun and closed, and texts.
use Rattle.std.proofs.Common.{◌≡◌, ℕ, List, [], ◌∷◌, ◌++◌, Bool, true, ◌&&◌, map, refl, ap, ◌∙◌, subst}
use Rattle.std.proofs.lemmas.List.{append-nil}
use Rattle.std.specs.Prelude.{nat_le, if◌then◌else◌}
use Rattle.hare_tree.specs.declared.kind.Kind.{Kind}
use Rattle.hare_tree.specs.declared.kind.Kind.TheVariants as ki
use Rattle.hare_tree.specs.declared.place.Place.{Place}
use Rattle.hare_tree.specs.declared.token.Token.{Token}
use Rattle.hare_tree.specs.Node.{Head, branch, none, nodes_of}
use Rattle.hare_tree.specs.Spell.{start_of}
use Rattle.hare_tree.specs.Depth.{is_node}
use Rattle.hare_automaton.specs.Engine.{Group, begun, head_in, add, close, bare_leaf, take_text, join_text}
use Rattle.hare_automaton.proofs.Machine.Edges.{true_le}
use Rattle.hare_automaton.proofs.Spelled.Paths.{split}
use Rattle.hare_nesting.specs.Marks.{Mark, first_in}
use Rattle.hare_nesting.specs.Gauge.{opened}
use Rattle.hare_nesting.proofs.UnderWay.Stacks.{mark, frame_of, frames, own_faults, faults_of, first_faults, group_faults, stack_faults}
use Rattle.hare_nesting.proofs.UnderWay.Stacks.{Gains, fits, is_empty, is_ordered, frame_below, kids_below}
use Rattle.hare_nesting.proofs.UnderWay.Lists.{gains_refl, gains_in_front, gains_moved}
use Rattle.hare_nesting.proofs.UnderWay.Seen.{marks_listed}
use Rattle.hare_nesting.proofs.UnderWay.Grown.{is_behind, behind_plain, behind_later, top_grown}

-- ---- leaves

pub leaf_faults : (o : ℕ) (h : Head) → faults_of o (branch h none) ≡ (if is_node h.kind && nat_le 256 o then h.place.line ∷ [] else [])
unfolding faults_of
leaf_faults o h = append-nil _ ∙ append-nil _

pub absent_gains : (bs : List Bool) (f : ℕ) (gs : List Group) → fits bs (frames gs) →
    Gains (stack_faults bs gs) (stack_faults bs (add (bare_leaf ki.None (start_of f)) gs)) []
absent_gains bs f [] i = gains_refl (stack_faults bs [])
absent_gains bs f (g ∷ gs) i =
    let t = bare_leaf ki.None (start_of f) in
    subst (λ l. Gains (stack_faults bs (g ∷ gs)) (stack_faults bs (add t (g ∷ gs))) l)
    (leaf_faults (opened bs) (head_in ki.None (begun (start_of f) [])))
    (top_grown bs g gs t (behind_plain g.place.line (map mark g.kids) (mark t) refl))

pub leaf_gains : (bs : List Bool) (h : Head) (g : Group) (hs : List Group) → fits bs (frames (g ∷ hs)) →
    frame_below h.place.line (frame_of g) ≡ true →
    Gains (stack_faults bs (g ∷ hs)) (stack_faults bs (add (branch h none) (g ∷ hs)))
    (if is_node h.kind && nat_le 256 (opened bs) then h.place.line ∷ [] else [])
leaf_gains bs h g hs i e =
    let t = branch h none in
    let later = true_le g.place.line h.place.line
    (split (nat_le g.place.line h.place.line) (kids_below h.place.line (map mark g.kids)) e).0 in
    subst (λ l. Gains (stack_faults bs (g ∷ hs)) (stack_faults bs (add t (g ∷ hs))) l) (leaf_faults (opened bs) h)
    (top_grown bs g hs t (behind_later g.place.line (map mark g.kids) (mark t) later))

-- ---- trees begun and closed

pub begun_faults : (b : Bool) (o : ℕ) (p : Place) → group_faults b o (begun p []) ≡ (if b && nat_le 256 o then p.line ∷ [] else [])
unfolding first_faults
begun_faults b o p = append-nil _ ∙ append-nil _

pub open_gains : (b : Bool) (bs : List Bool) (p : Place) (gs : List Group) → fits bs (frames gs) →
    Gains (stack_faults bs gs) (stack_faults (b ∷ bs) (begun p [] ∷ gs)) (if b && nat_le 256 (opened bs) then p.line ∷ [] else [])
unfolding stack_faults
open_gains b bs p gs i = rw (begun_faults b (opened bs) p)
    (gains_in_front (if b && nat_le 256 (opened bs) then p.line ∷ [] else []) (stack_faults bs gs))

-- what is passed in a tree that is closed is what was passed in it under way
pub closed_faults : (k : Kind) (o : ℕ) (g : Group) → faults_of o (branch (head_in k g) (nodes_of g.kids)) ≡ group_faults (is_node k) o g
unfolding faults_of
closed_faults k o g = ap (λ l. own_faults (is_node k) o g.place.line l ++ first_faults g.place.line o (is_node k) (nodes_of g.kids))
    (marks_listed g.kids)

-- the tree that is closed is no left operand of the tree round it
pub ordered_behind : (n : ℕ) (ms : List Mark) (m : Mark) → (if is_empty ms then nat_le n m.first else true) ≡ true → is_behind n ms m ≡ true
ordered_behind n [] m e = behind_later n [] m (true_le n m.first e)
ordered_behind n (p ∷ ms) m e = refl

pub closed_behind : (k : Kind) (g h : Group) (hs : List Group) → is_ordered (frames (g ∷ h ∷ hs)) ≡ true →
    is_behind h.place.line (map mark h.kids) (mark (branch (head_in k g) (nodes_of g.kids))) ≡ true
unfolding is_ordered
closed_behind k g h hs e =
    let a = (split (if is_empty (map mark h.kids) then nat_le h.place.line (first_in g.place.line (map mark g.kids)) else true)
    (is_ordered (frames (h ∷ hs))) e).0 in
    ordered_behind h.place.line (map mark h.kids) (mark (branch (head_in k g) (nodes_of g.kids))) (rw (marks_listed g.kids) a)

pub close_gains : (k : Kind) (bs : List Bool) (g h : Group) (hs : List Group) → fits (is_node k ∷ bs) (frames (g ∷ h ∷ hs)) →
    is_ordered (frames (g ∷ h ∷ hs)) ≡ true → Gains (stack_faults (is_node k ∷ bs) (g ∷ h ∷ hs)) (stack_faults bs (close k (g ∷ h ∷ hs))) []
unfolding stack_faults
close_gains k bs g h hs i e =
    let t = branch (head_in k g) (nodes_of g.kids) in
    gains_moved (stack_faults bs (h ∷ hs)) (stack_faults bs (add t (h ∷ hs))) (group_faults (is_node k) (opened bs) g)
    (subst (λ l. Gains (stack_faults bs (h ∷ hs)) (stack_faults bs (add t (h ∷ hs))) l) (closed_faults k (opened bs) g)
    (top_grown bs h hs t (closed_behind k g h hs e)))

-- ---- texts

pub take_same : (t : Token) (bs : List Bool) (gs : List Group) → stack_faults bs (take_text t gs) ≡ stack_faults bs gs
unfolding stack_faults
take_same t bs [] = refl
take_same t [] (g ∷ gs) = refl
take_same t (b ∷ bs) (g ∷ gs) = refl

pub join_same : (t : Token) (bs : List Bool) (gs : List Group) → stack_faults bs (join_text t gs) ≡ stack_faults bs gs
unfolding stack_faults
join_same t bs [] = refl
join_same t [] (g ∷ gs) = refl
join_same t (b ∷ bs) (g ∷ gs) = refl
