-- Facts on the limits of depth.
use Rattle.std.proofs.Common.{◌≡◌, ℕ, ◌+◌, ◌<◌, ◌≤◌, List, [], ◌∷◌, ◌++◌, Bool, true, false, length, refl, ap, sym, inl, inr, ◌∙◌, arith, if◌then◌else◌}
use Rattle.std.specs.Prelude.{◌&&◌, not, nat_le, min, max, ◌⊎◌}
use Rattle.std.proofs.lemmas.Bool.{leb-true, le-leb, and_parts}
use Rattle.hare_tree.specs.declared.kind.Kind.{Kind}
use Rattle.hare_tree.specs.Node.{Head, Node, Nodes, branch, none, more, nodes_of}
use Rattle.hare_tree.proofs.TreeKids.KidsFrom.{nodes_from-one}
use Rattle.hare_tree.specs.Forms.{form_of}
use Rattle.hare_tree.specs.Spell.{spells}
use Rattle.hare_tree.specs.Depth.{is_node, is_operator, counted, height, greatest_height, left_height, begins, node_faults, open_within, deep, deep_each, is_nil, first_number, numbers_behind, place_in}
use Rattle.hare_tree.specs.Judged.{keeps_low, keep_low, kid_keeps, left_room, nodes_from}

-- ---- tests of numbers

-- two tests that hold together are one
pub same_test : (a b : Bool) → (a ≡ true → b ≡ true) → (b ≡ true → a ≡ true) → a ≡ b
same_test true true f g = refl
same_test false false f g = refl
same_test true false f g = sym (f refl)
same_test false true f g = g refl

pub and_true : (a b : Bool) → a ≡ true → b ≡ true → (a && b) ≡ true
and_true a b e h = rw (e, h) refl

pub nat_le-max : (a b r : ℕ) → nat_le (max a b) r ≡ (nat_le a r && nat_le b r)
nat_le-max a b r =
    same_test _ _
    (λ e. let h : max a b ≤ r = leb-true _ _ e in and_true _ _ (le-leb a r (omega arith)) (le-leb b r (omega arith)))
    (λ e. let p = and_parts _ _ e in let h : a ≤ r = leb-true _ _ p.0 in let k : b ≤ r = leb-true _ _ p.1 in le-leb _ _ (omega arith))

pub nat_le-min : (a b r : ℕ) → nat_le a (min b r) ≡ (nat_le a b && nat_le a r)
nat_le-min a b r =
    same_test _ _
    (λ e. let h : a ≤ min b r = leb-true _ _ e in and_true _ _ (le-leb a b (omega arith)) (le-leb a r (omega arith)))
    (λ e. let p = and_parts _ _ e in let h : a ≤ b = leb-true _ _ p.0 in let k : a ≤ r = leb-true _ _ p.1 in le-leb _ _ (omega arith))

-- the room of a node is one for itself and the rest for its kids
pub nat_le-room : (c a r room : ℕ) → c + r ≡ room → nat_le (c + a) room ≡ nat_le a r
nat_le-room c a r room e =
    same_test _ _
    (λ t. let h : c + a ≤ room = leb-true _ _ t in le-leb _ _ (omega arith))
    (λ t. let h : a ≤ r = leb-true _ _ t in le-leb _ _ (omega arith))

nat_le-over : (a : ℕ) → not (nat_le 256 a) ≡ nat_le a 255
nat_le-over a =
    let cases : (t : Bool) → nat_le 256 a ≡ t → not t ≡ nat_le a 255 =
    λ t. elim t as (λ t. nat_le 256 a ≡ t → not t ≡ nat_le a 255) [
      | true ↦ λ e. same_test _ _ (λ f. absurd cc)
          (λ f. let h : 256 ≤ a = leb-true _ _ e in let k : a ≤ 255 = leb-true _ _ f in absurd (omega arith))
      | false ↦ λ e. same_test _ _ (λ f. first_of (grind arith, omega arith)) (λ f. refl)
    ] in
    cases _ refl

-- ---- the tokens at which a limit is passed, or none

pub is_nil-append : (a b : List ℕ) → is_nil (a ++ b) ≡ (is_nil a && is_nil b)
is_nil-append [] b = refl
is_nil-append (n ∷ a) b = refl

is_nil-one : (b : Bool) (n : ℕ) → is_nil (if b then n ∷ [] else []) ≡ not b
is_nil-one true n = refl
is_nil-one false n = refl

same_and : (a b c d : Bool) → a ≡ b → c ≡ d → (a && c) ≡ (b && d)
same_and a b c d e f = rw (e, f) refl

node_faults-nil : (n o : ℕ) (h : Head) (ts : Nodes) →
    is_nil (node_faults n o h ts) ≡ (not (is_node h.kind && nat_le 256 o) && not (is_operator h.kind && nat_le 256 (left_height ts)))
node_faults-nil n o h ts =
    is_nil-append (if is_node h.kind && nat_le 256 o then n ∷ [] else [])
    (if is_operator h.kind && nat_le 256 (left_height ts) then (n + place_in h ts) ∷ [] else [])
    ∙ same_and _ _ _ _ (is_nil-one (is_node h.kind && nat_le 256 o) n)
    (is_nil-one (is_operator h.kind && nat_le 256 (left_height ts)) (n + place_in h ts))

-- where a tree begins makes no difference
mutual
  unfolding deep

  pub deep-place : (n m o : ℕ) (l : Bool) (t : Node) → is_nil (deep n o l t) ≡ is_nil (deep m o l t)
  deep-place n m o l (branch h ts) =
      is_nil-append (node_faults n o h ts) _
      ∙ (same_and _ _ _ _ (node_faults-nil n o h ts ∙ sym (node_faults-nil m o h ts))
      (deep_each-place (begins h (form_of h.kind) n (spells 0 ts)) (begins h (form_of h.kind) m (spells 0 ts)) (open_within o l h.kind)
      (is_operator h.kind) ts)
      ∙ sym (is_nil-append (node_faults m o h ts) _))

  deep_each-place : (ns ms : List ℕ) (o : ℕ) (l : Bool) (ts : Nodes) → is_nil (deep_each ns o l ts) ≡ is_nil (deep_each ms o l ts)
  deep_each-place ns ms o l none = refl
  deep_each-place ns ms o l (more t ts) =
      is_nil-append (deep (first_number ns) o l t) _
      ∙ (same_and _ _ _ _ (deep-place (first_number ns) (first_number ms) o l t)
      (deep_each-place (numbers_behind ns) (numbers_behind ms) o false ts)
      ∙ sym (is_nil-append (deep (first_number ms) o l t) _))

deep-branch : (n o : ℕ) (l : Bool) (h : Head) (ts : Nodes) →
    is_nil (deep n o l (branch h ts)) ≡
    ((not (is_node h.kind && nat_le 256 o) && not (is_operator h.kind && nat_le 256 (left_height ts))) &&
    is_nil (deep_each [] (open_within o l h.kind) (is_operator h.kind) ts))
unfolding deep
deep-branch n o l h ts =
    is_nil-append (node_faults n o h ts) _ ∙ same_and _ _ _ _ (node_faults-nil n o h ts) (deep_each-place _ [] _ _ ts)

deep_each-more : (o : ℕ) (l : Bool) (t : Node) (ts : Nodes) →
    is_nil (deep_each [] o l (more t ts)) ≡ (is_nil (deep 0 o l t) && is_nil (deep_each [] o false ts))
unfolding deep
deep_each-more o l t ts = is_nil-append (deep 0 o l t) _

-- ---- a tree by its kids

regroup : (D E a g : Bool) → ((D && E) && (a && g)) ≡ ((D && a) && (E && g))
regroup true true a g = refl
regroup true false true g = refl
regroup true false false g = refl
regroup false E a g = refl

and_right : (a : Bool) → a ≡ (a && true)
and_right true = refl
and_right false = refl

regroup_left : (D E a b g : Bool) → ((b && (D && E)) && (a && g)) ≡ ((D && (a && b)) && (E && g))
regroup_left D E a true g = regroup D E a g ∙ ap (λ x. (D && x) && (E && g)) (and_right a)
regroup_left true E true false g = refl
regroup_left true E false false g = refl
regroup_left false E a false g = refl

-- kids keep the limits where the first and those behind it do
pub keep_low-more : (room o : ℕ) (l : Bool) (t : Node) (ts : Nodes) →
    keep_low room o l (more t ts) ≡ (keeps_low room o l t && keep_low room o false ts)
unfolding height
keep_low-more room o l t ts =
    same_and _ _ _ _ (deep_each-more o l t ts) (nat_le-max (height t) (greatest_height ts) room)
    ∙ regroup (is_nil (deep 0 o l t)) (is_nil (deep_each [] o false ts)) (nat_le (height t) room) (nat_le (greatest_height ts) room)

none-op : (op : Bool) → ((true && not (op && false)) && true) ≡ true
none-op true = refl
none-op false = refl

by-operator : (op : Bool) (o r : ℕ) (t : Node) (us : Nodes) →
    (((true && not (op && nat_le 256 (height t))) && (is_nil (deep 0 o op t) && is_nil (deep_each [] o false us))) &&
    (nat_le (height t) r && nat_le (greatest_height us) r)) ≡
    ((is_nil (deep 0 o op t) && nat_le (height t) (if op then min r 255 else r)) &&
    (is_nil (deep_each [] o false us) && nat_le (greatest_height us) r))
by-operator true o r t us =
    rw (nat_le-over, nat_le-min) (regroup_left (is_nil (deep 0 o true t)) (is_nil (deep_each [] o false us)) (nat_le (height t) r)
    (nat_le (height t) 255) (nat_le (greatest_height us) r))
by-operator false o r t us =
    regroup (is_nil (deep 0 o false t)) (is_nil (deep_each [] o false us)) (nat_le (height t) r) (nat_le (greatest_height us) r)

-- a tree that may stand where it stands keeps the limits where its kids do
pub keeps-branch : (h : Head) (ts : Nodes) (room r o : ℕ) (l : Bool) → (is_node h.kind && nat_le 256 o) ≡ false →
    counted h.kind + r ≡ room → keeps_low room o l (branch h ts) ≡
    (kid_keeps (left_room r h.kind) (open_within o l h.kind) (is_operator h.kind) ts &&
    keep_low r (open_within o l h.kind) false (nodes_from 1 ts))
unfolding height deep
keeps-branch h none room r o l e s =
    let d : is_nil (deep 0 o l (branch h none)) ≡ true = deep-branch 0 o l h none ∙ rw e (none-op (is_operator h.kind)) in
    same_and _ _ _ _ d (nat_le-room (counted h.kind) 0 r room s)
keeps-branch h (more t us) room r o l e s =
    let o' = open_within o l h.kind in
    let op = is_operator h.kind in
    let d : is_nil (deep 0 o l (branch h (more t us))) ≡
    ((true && not (op && nat_le 256 (height t))) && (is_nil (deep 0 o' op t) && is_nil (deep_each [] o' false us))) =
    deep-branch 0 o l h (more t us) ∙ rw (e, deep_each-more) refl in
    same_and _ _ _ _ d (nat_le-room (counted h.kind) _ r room s ∙ nat_le-max (height t) (greatest_height us) r) ∙ by-operator op o' r t us

-- a node with too many nodes open round it
pub keeps-open : (h : Head) (ts : Nodes) (room o : ℕ) (l : Bool) → is_node h.kind ≡ true → 256 ≤ o →
    keeps_low room o l (branch h ts) ≡ false
keeps-open h ts room o l e s = rw (deep-branch, e, le-leb 256 o s) refl

-- a node where there is no room
pub keeps-full : (h : Head) (ts : Nodes) (room o : ℕ) (l : Bool) → counted h.kind ≡ 1 → room ≡ 0 → keeps_low room o l (branch h ts) ≡ false
unfolding height
keeps-full h ts room o l e s =
    same_test _ _ (λ t. let p = and_parts _ _ t in let k : counted h.kind + greatest_height ts ≤ room =
    leb-true _ _ p.1 in absurd (omega arith)) (λ t. absurd cc)

-- what is no node may stand where so many are open, and a node where fewer are
pub may-stand : (b : Bool) (o : ℕ) → ((b ≡ true) × (o < 256)) ⊎ (b ≡ false) → (b && nat_le 256 o) ≡ false
may-stand b o (inl p) = rw (p.0) (same_test _ _ (λ e. let h : 256 ≤ o = leb-true _ _ e in absurd (omega arith)) (λ e. absurd cc))
may-stand b o (inr e) = rw e refl

-- the same of what calls for the kids have answered
keeps-answered : (h : Head) (ts : Nodes) (room r o : ℕ) (l : Bool) (lr o' : ℕ) (op k n b : Bool) → ((b ≡ true) × (o < 256)) ⊎ (b ≡ false) →
    b ≡ is_node h.kind → counted h.kind + r ≡ room → lr ≡ left_room r h.kind → o' ≡ open_within o l h.kind → op ≡ is_operator h.kind →
    k ≡ kid_keeps lr o' op ts → n ≡ keep_low r o' false (nodes_from 1 ts) → (k && n) ≡ keeps_low room o l (branch h ts)
keeps-answered h ts room r o l lr o' op k n b e eb s e1 e2 e3 e4 e5 =
    rw (e4, e5, e1, e2, e3) (sym (keeps-branch h ts room r o l (ap (λ x. x && nat_le 256 o) (sym eb) ∙ may-stand b o e) s))

-- what is known of a tree that may stand where it stands, once its first kid has been found to keep the limits
pub record IsAnswered (h : Head) (ts : Nodes) (room r o : ℕ) (l : Bool) (lr o' : ℕ) (op k n b : Bool) : Type 0 where
  pub stands : ((b ≡ true) × (o < 256)) ⊎ (b ≡ false)
  pub node : b ≡ is_node h.kind
  pub within : counted h.kind + r ≡ room
  pub left : lr ≡ left_room r h.kind
  pub opened : o' ≡ open_within o l h.kind
  pub operator : op ≡ is_operator h.kind
  pub first : k ≡ kid_keeps lr o' op ts
  pub keeps : k ≡ true
  pub others : n ≡ keep_low r o' false (nodes_from 1 ts)

pub keeps-then : (h : Head) (ts : Nodes) (room r o : ℕ) (l : Bool) (lr o' : ℕ) (op k n b : Bool) →
    IsAnswered h ts room r o l lr o' op k n b → n ≡ keeps_low room o l (branch h ts)
keeps-then h ts room r o l lr o' op k n b a =
    rw a.keeps at (keeps-answered h ts room r o l lr o' op k n b a.stands a.node a.within a.left a.opened a.operator a.first a.others)

pub keeps-else : (h : Head) (ts : Nodes) (room r o : ℕ) (l : Bool) (lr o' : ℕ) (op k b : Bool) → ((b ≡ true) × (o < 256)) ⊎ (b ≡ false) →
    b ≡ is_node h.kind → counted h.kind + r ≡ room → lr ≡ left_room r h.kind → o' ≡ open_within o l h.kind → op ≡ is_operator h.kind →
    k ≡ kid_keeps lr o' op ts → k ≡ false → k ≡ keeps_low room o l (branch h ts)
keeps-else h ts room r o l lr o' op k b e eb s e1 e2 e3 e4 kf =
    kf ∙ rw kf at (keeps-answered h ts room r o l lr o' op k (keep_low r o' false (nodes_from 1 ts)) b e eb s e1 e2 e3 e4 refl)

-- no kids keep the limits
pub keep_low-none : (room o : ℕ) (l : Bool) → keep_low room o l none ≡ true
unfolding height deep
keep_low-none room o l = le-leb 0 room (omega arith)

-- the kids from one on, by that one and those behind it
pub keep_low-step : (ks : List Node) (i room o : ℕ) → i < length ks → keep_low room o false (nodes_from i (nodes_of ks)) ≡
    (kid_keeps room o false (nodes_from i (nodes_of ks)) && keep_low room o false (nodes_from (i + 1) (nodes_of ks)))
keep_low-step ks i room o lt = let g = nodes_from-one ks i lt in rw (g.1) (keep_low-more room o false g.0 _)

-- ---- the height of what keeps the limits

not-both : (a b : Bool) → not (a && b) ≡ true → a ≡ true → b ≡ false
not-both true true e h = absurd cc
not-both true false e h = refl
not-both false b e h = absurd cc

below : (a b : ℕ) → nat_le a b ≡ false → b < a
below a b e =
    first_of (grind arith, omega arith)

counted-is : (b : Bool) (k : Kind) → is_node k ≡ b → counted k ≡ (if b then 1 else 0)
counted-is b k e = rw e refl

-- nodes that are open round a tree that is no left operand, and its height, come to 511 at most, if they do so for its kids
node-bound : (o g : ℕ) (h : Head) (ts : Nodes) → o ≤ 256 → not (is_node h.kind && nat_le 256 o) ≡ true →
    ((o' : ℕ) → o' ≡ open_within o false h.kind → o' ≤ 256 → g + o' ≤ 511) → (n : Bool) → is_node h.kind ≡ n → counted h.kind + g + o ≤ 511
node-bound o g h ts le q kids true en =
    let lt : o < 256 = below 256 o (not-both _ _ q en) in
    let c : counted h.kind ≡ 1 = counted-is true h.kind en in
    let w : o + 1 ≡ open_within o false h.kind = rw en refl in
    let b = kids (o + 1) w (omega arith) in
    omega arith
node-bound o g h ts le q kids false en =
    let c : counted h.kind ≡ 0 = counted-is false h.kind en in
    let w : o ≡ open_within o false h.kind = rw en refl in
    let b = kids o w le in
    omega arith

mutual
  unfolding height deep

  height-bound : (o : ℕ) (t : Node) → o ≤ 256 → is_nil (deep 0 o false t) ≡ true → height t + o ≤ 511
  height-bound o (branch h ts) le e =
      let p = and_parts _ _ (sym (deep-branch 0 o false h ts) ∙ e) in
      let q = and_parts _ _ p.0 in
      node-bound o (greatest_height ts) h ts le q.0 (λ o' w le'. kids-bound o' (is_operator h.kind) ts le' q.1 (rw (← w) at p.1))
      (is_node h.kind) refl

  kids-bound : (o : ℕ) (op : Bool) (ts : Nodes) → o ≤ 256 → not (op && nat_le 256 (left_height ts)) ≡ true →
      is_nil (deep_each [] o op ts) ≡ true → greatest_height ts + o ≤ 511
  kids-bound o op none le r d = omega arith
  kids-bound o true (more t ts) le r d =
      let p = and_parts _ _ (sym (deep_each-more o true t ts) ∙ d) in
      let l : height t < 256 = below 256 (height t) (not-both _ _ r refl) in
      let b = kids-bound o false ts le refl p.1 in
      omega arith
  kids-bound o false (more t ts) le r d =
      let p = and_parts _ _ (sym (deep_each-more o false t ts) ∙ d) in
      let a = height-bound o t le p.0 in
      let b = kids-bound o false ts le refl p.1 in
      omega arith

-- what keeps the limits is low enough for the walks
pub is_nil-low : (t : Node) → is_nil (deep 0 0 false t) ≡ true → nat_le (height t) 511 ≡ true
is_nil-low t e = let b = height-bound 0 t (omega arith) e in le-leb _ _ (omega arith)
