-- A path at its end: it is lifted out of the tree that was begun for a struct literal, or is the type of one.
use Rattle.std.proofs.Common.{◌≡◌, ℕ, suc, ◌+◌, List, [], ◌∷◌, ◌++◌, Bool, true, false, ◌&&◌, map, refl, ap, sym, ◌∙◌, subst, arith}
use Rattle.std.proofs.lemmas.List.{append-nil}
use Rattle.std.specs.Prelude.{nat_le, if◌then◌else◌}
use Rattle.hare_tree.specs.declared.kind.Kind.{Kind}
use Rattle.hare_tree.specs.declared.kind.Kind.TheVariants as ki
use Rattle.hare_tree.specs.Node.{Node, branch, none}
use Rattle.hare_automaton.specs.Engine.{Group, head_in, with_kids, add, close, lift}
use Rattle.hare_automaton.proofs.Machine.Edges.{lt_false}
use Rattle.hare_automaton.proofs.Spelled.Paths.{split}
use Rattle.hare_nesting.specs.Gauge.{opened, found, deep_last}
use Rattle.hare_nesting.proofs.UnderWay.Stacks.{mark, frames, faults_of, first_faults, group_faults, stack_faults, Gains, fits, is_empty}
use Rattle.hare_nesting.proofs.UnderWay.Stacks.{is_ordered}
use Rattle.hare_nesting.proofs.UnderWay.Lists.{gains_known, gains_moved, gains_within, on_left}
use Rattle.hare_nesting.proofs.UnderWay.Grown.{is_behind, behind_later, grown, top_grown}
use Rattle.hare_nesting.proofs.UnderWay.Changes.{leaf_faults, ordered_behind}

no_kids : (ts : List Node) → is_empty (map mark ts) ≡ true → ts ≡ []
no_kids [] e = refl
no_kids (t ∷ ts) e = cc

pub bare : Group → Group
bare g = with_kids g []

is_bare : (g : Group) → is_empty (map mark g.kids) ≡ true → g ≡ bare g
unfolding bare
is_bare g e = ap (with_kids g) (no_kids g.kids e)

-- a tree under way in which nothing is yet
bare_faults : (b : Bool) (o : ℕ) (g : Group) → group_faults b o (bare g) ≡ (if b && nat_le 256 o then g.place.line ∷ [] else [])
unfolding first_faults bare
bare_faults b o g = append-nil _ ∙ append-nil _

-- the path begins no earlier than the tree round both
path_behind : (k : Kind) (g o h : Group) (hs : List Group) → g.place.line ≡ o.place.line →
    is_ordered (frames (bare g ∷ bare o ∷ h ∷ hs)) ≡ true →
    is_behind h.place.line (map mark h.kids) (mark (branch (head_in k g) none)) ≡ true
unfolding is_ordered bare
path_behind k g o h hs e i =
    let outer = if is_empty (map mark h.kids) then nat_le h.place.line o.place.line else true in
    let a : outer ≡ true = (split outer (is_ordered (frames (h ∷ hs)))
    (split (nat_le o.place.line g.place.line) (outer && is_ordered (frames (h ∷ hs))) i).1).0 in
    ordered_behind h.place.line (map mark h.kids) (mark (branch (head_in k g) none)) (rw e a)

bare_path : (bs : List Bool) (g o h : Group) (hs : List Group) → g.place.line ≡ o.place.line →
    is_ordered (frames (bare g ∷ bare o ∷ h ∷ hs)) ≡ true →
    Gains (stack_faults (true ∷ false ∷ bs) (bare g ∷ bare o ∷ h ∷ hs))
    (stack_faults bs (lift (close ki.Path (bare g ∷ bare o ∷ h ∷ hs)))) []
unfolding stack_faults opened bare
bare_path bs g o h hs e i =
    let t = branch (head_in ki.Path g) none in
    let put = top_grown bs h hs t (path_behind ki.Path g o h hs e i) in
    let deep = if nat_le 256 (opened bs) then g.place.line ∷ [] else [] in
    let seen : Gains (stack_faults bs (h ∷ hs)) (stack_faults bs (add t (h ∷ hs))) deep =
    subst (λ l. Gains (stack_faults bs (h ∷ hs)) (stack_faults bs (add t (h ∷ hs))) l) (leaf_faults (opened bs) (head_in ki.Path g))
    put in
    rw (bare_faults true (opened bs) g, bare_faults false (opened bs) o)
    (gains_moved (stack_faults bs (h ∷ hs)) (stack_faults bs (add t (h ∷ hs))) deep seen)

pub path_gains : (bs : List Bool) (g o h : Group) (hs : List Group) → fits (true ∷ false ∷ bs) (frames (g ∷ o ∷ h ∷ hs)) →
    is_empty (map mark g.kids) ≡ true → is_empty (map mark o.kids) ≡ true → g.place.line ≡ o.place.line →
    is_ordered (frames (g ∷ o ∷ h ∷ hs)) ≡ true →
    Gains (stack_faults (true ∷ false ∷ bs) (g ∷ o ∷ h ∷ hs)) (stack_faults bs (lift (close ki.Path (g ∷ o ∷ h ∷ hs)))) []
path_gains bs g o h hs i a b e d =
    let x = is_bare g a in
    let y = is_bare o b in
    let d' : is_ordered (frames (bare g ∷ bare o ∷ h ∷ hs)) ≡ true =
    subst (λ z. is_ordered (frames (bare g ∷ z ∷ h ∷ hs)) ≡ true) y (subst (λ z. is_ordered (frames (z ∷ o ∷ h ∷ hs)) ≡ true) x d) in
    let first = subst (λ z. Gains (stack_faults (true ∷ false ∷ bs) (bare g ∷ z ∷ h ∷ hs))
    (stack_faults bs (lift (close ki.Path (bare g ∷ z ∷ h ∷ hs)))) []) (sym y) (bare_path bs g o h hs e d') in
    subst (λ z. Gains (stack_faults (true ∷ false ∷ bs) (z ∷ o ∷ h ∷ hs)) (stack_faults bs (lift (close ki.Path (z ∷ o ∷ h ∷ hs)))) [])
    (sym x) first

-- ---- the type of a struct literal

-- where the tree has its place at the token at which its only kid begins, the kid is no left operand
bare_found : (bs : List Bool) (g o : Group) (gs : List Group) → g.place.line ≡ o.place.line →
    found (true ∷ bs) (frames (add (branch (head_in ki.TypePath g) none) (bare o ∷ gs))) ≡
    (if nat_le 256 (opened bs) then o.place.line ∷ [] else []) ++ (if nat_le 256 (suc (opened bs)) then g.place.line ∷ [] else [])
unfolding opened bare deep_last
bare_found bs g o gs e = rw (lt_false (g.place.line + 1) o.place.line (omega (arith, e)), append-nil) refl

bare_struct : (bs : List Bool) (g o h : Group) (hs : List Group) → g.place.line ≡ o.place.line →
    Gains (stack_faults (true ∷ false ∷ bs) (bare g ∷ bare o ∷ h ∷ hs))
    (stack_faults (true ∷ bs) (close ki.TypePath (bare g ∷ bare o ∷ h ∷ hs)))
    (found (true ∷ bs) (frames (close ki.TypePath (bare g ∷ bare o ∷ h ∷ hs))))
unfolding stack_faults opened bare
bare_struct bs g o h hs e =
    let t = branch (head_in ki.TypePath g) none in
    let a = if nat_le 256 (opened bs) then o.place.line ∷ [] else [] in
    let b = if nat_le 256 (suc (opened bs)) then g.place.line ∷ [] else [] in
    let rest = stack_faults bs (h ∷ hs) in
    let made : group_faults true (opened bs) (with_kids o (t ∷ [])) ≡ a ++ b =
    grown true (opened bs) (bare o) t (behind_later o.place.line [] (mark t) (omega (arith, e))) ∙ ap
    (λ l. l ++ faults_of (suc (opened bs)) t) (bare_faults true (opened bs) o) ∙ ap (λ l. a ++ l)
    (leaf_faults (suc (opened bs)) (head_in ki.TypePath g)) in
    let old : group_faults true (opened bs) (bare g) ≡ a =
    bare_faults true (opened bs) g ∙ ap (λ n. if nat_le 256 (opened bs) then n ∷ [] else []) e in
    let new : Gains (a ++ rest) ((a ++ b) ++ rest) (a ++ b) =
    gains_known (a ++ rest) ((a ++ b) ++ rest) b a (gains_within a b rest) (λ n j. on_left n a rest j) in
    rw (made, old, bare_faults false (opened bs) o, bare_found bs g o (h ∷ hs) e) new

pub struct_gains : (bs : List Bool) (g o h : Group) (hs : List Group) → fits (true ∷ false ∷ bs) (frames (g ∷ o ∷ h ∷ hs)) →
    is_empty (map mark g.kids) ≡ true → is_empty (map mark o.kids) ≡ true → g.place.line ≡ o.place.line →
    is_ordered (frames (g ∷ o ∷ h ∷ hs)) ≡ true →
    Gains (stack_faults (true ∷ false ∷ bs) (g ∷ o ∷ h ∷ hs)) (stack_faults (true ∷ bs) (close ki.TypePath (g ∷ o ∷ h ∷ hs)))
    (found (true ∷ bs) (frames (close ki.TypePath (g ∷ o ∷ h ∷ hs))))
struct_gains bs g o h hs i a b e d =
    let x = is_bare g a in
    let y = is_bare o b in
    let told = λ (z : Group) (w : Group). Gains (stack_faults (true ∷ false ∷ bs) (z ∷ w ∷ h ∷ hs))
    (stack_faults (true ∷ bs) (close ki.TypePath (z ∷ w ∷ h ∷ hs))) (found (true ∷ bs) (frames (close ki.TypePath (z ∷ w ∷ h ∷ hs)))) in
    subst (λ z. told z o) (sym x) (subst (λ w. told (bare g) w) (sym y) (bare_struct bs g o h hs e))
