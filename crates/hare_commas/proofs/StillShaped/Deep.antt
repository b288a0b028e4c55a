-- Commas behind last items pass no limit on depth.
use Rattle.std.proofs.Common.{◌≡◌, ℕ, ◌+◌, List, [], ◌∷◌, ◌++◌, inl, inr, Bool, true, false, ◌&&◌, refl, sym, ap, ◌∙◌, subst, if◌then◌else◌}
use Rattle.std.specs.Prelude.{nat_le}
use Rattle.std.proofs.lemmas.Bool.{and_parts}
use Rattle.hare_tree.specs.Node.{Head, Node, Nodes, branch, none, more}
use Rattle.hare_tree.specs.Forms.{form_of}
use Rattle.hare_tree.specs.Spell.{spells}
use Rattle.hare_tree.specs.Depth.{counted, is_node, is_operator, begins, first_number, numbers_behind, place_in, left_height, open_within, node_faults, deep, deep_each, is_nil, height}
use Rattle.hare_tree.proofs.Low.Limits.{is_nil-append}
use Rattle.hare_commas.proofs.WaysAgain.Kin.{Adds, Kin, IsNothing, comma_for}
use Rattle.hare_commas.proofs.StillShaped.Keeps.{KeepAll, both}
use Rattle.hare_commas.proofs.StillShaped.Shaped.{kin-keeps}

true-false : {A : Type 0} → true ≡ false → A
true-false h = cc

nil-both : (a b : List ℕ) → is_nil a ≡ true → is_nil b ≡ true → is_nil (a ++ b) ≡ true
nil-both a b e f = is_nil-append a b ∙ both (is_nil a) (is_nil b) e f

nil-parts : (a b : List ℕ) → is_nil (a ++ b) ≡ true → (is_nil a ≡ true) × (is_nil b ≡ true)
nil-parts a b e = and_parts (is_nil a) (is_nil b) (sym (is_nil-append a b) ∙ e)

nil-if : (x y : Bool) (n m : ℕ) → y ≡ x → is_nil (if x then n ∷ [] else []) ≡ true → is_nil (if y then m ∷ [] else []) ≡ true
nil-if true y n m e h = true-false (sym h)
nil-if false true n m e h = true-false e
nil-if false false n m e h = refl

faults-kept : (n m o : ℕ) (h : Head) (ts us : Nodes) → left_height us ≡ left_height ts → is_nil (node_faults n o h ts) ≡ true
    → is_nil (node_faults m o h us) ≡ true
faults-kept n m o h ts us e f =
    let first = is_node h.kind && nat_le 256 o in
    let left = λ (x : ℕ). is_operator h.kind && nat_le 256 x in
    let a = nil-parts (if first then n ∷ [] else []) (if left (left_height ts) then (n + place_in h ts) ∷ [] else []) f in
    nil-both (if first then m ∷ [] else []) (if left (left_height us) then (m + place_in h us) ∷ [] else [])
    (nil-if first first n m refl a.0)
    (nil-if (left (left_height ts)) (left (left_height us)) (n + place_in h ts) (m + place_in h us) (ap left e) a.1)

nothing-left : (t : Node) → IsNothing t → height (comma_for t) ≡ height t
unfolding height
nothing-left (branch h none) e = sym (ap (λ k. counted k + 0) e)
nothing-left (branch h (more t ts)) e = absurd e

left-kept : (e : Bool) (ts us : Nodes) → KeepAll e ts us → left_height us ≡ left_height ts
left-kept e none none k = refl
left-kept e none (more u us) k = absurd k
left-kept e (more t ts) none k = absurd k
left-kept e (more t ts) (more u us) (inl k) = k.0.height_same
left-kept e (more t ts) (more u us) (inr k) = ap height k.4 ∙ nothing-left t k.1

comma-deep : (m o : ℕ) (l : Bool) (h : Head) (ts : Nodes) → is_nil (deep m o l (comma_for (branch h ts))) ≡ true
unfolding deep
comma-deep m o l h ts = refl

comma-shallow : (m o : ℕ) (l : Bool) (t u : Node) → u ≡ comma_for t → is_nil (deep m o l u) ≡ true
comma-shallow m o l (branch h ts) u e = ap (λ x. is_nil (deep m o l x)) e ∙ comma-deep m o l h ts

mutual
  unfolding deep

  pub deep-kept : (t u : Node) → Adds t u → (n m o : ℕ) (l : Bool) → is_nil (deep n o l t) ≡ true → is_nil (deep m o l u) ≡ true
  deep-kept (branch h ts) (branch g us) (e, inl k) n m o l d =
      subst (λ x. is_nil (deep m o l (branch x us)) ≡ true) e
      (let a = nil-parts (node_faults n o h ts) _ d in
      nil-both (node_faults m o h us) _ (faults-kept n m o h ts us (left-kept false ts us (kin-keeps false ts us k)) a.0)
      (each-kept false ts us k _ (begins h (form_of h.kind) m (spells 0 us)) (open_within o l h.kind) (is_operator h.kind) a.1))
  deep-kept (branch h ts) (branch g us) (e, inr k) n m o l d =
      subst (λ x. is_nil (deep m o l (branch x us)) ≡ true) e
      (let a = nil-parts (node_faults n o h ts) _ d in
      nil-both (node_faults m o h us) _ (faults-kept n m o h ts us (left-kept true ts us (kin-keeps true ts us k.2)) a.0)
      (each-kept true ts us k.2 _ (begins h (form_of h.kind) m (spells 0 us)) (open_within o l h.kind) (is_operator h.kind) a.1))

  pub each-kept : (e : Bool) (ts us : Nodes) → Kin e ts us → (ns ms : List ℕ) (o : ℕ) (l : Bool) → is_nil (deep_each ns o l ts) ≡ true
      → is_nil (deep_each ms o l us) ≡ true
  each-kept e none none k ns ms o l d = refl
  each-kept e none (more u us) k ns ms o l d = absurd k
  each-kept e (more t ts) none k ns ms o l d = absurd k
  each-kept e (more t ts) (more u us) (inl k) ns ms o l d =
      let a = nil-parts (deep (first_number ns) o l t) _ d in
      nil-both (deep (first_number ms) o l u) _ (deep-kept t u k.1 (first_number ns) (first_number ms) o l a.0)
      (each-kept e ts us k.2 (numbers_behind ns) (numbers_behind ms) o false a.1)
  each-kept e (more t ts) (more u us) (inr k) ns ms o l d =
      nil-both (deep (first_number ms) o l u) _ (comma-shallow (first_number ms) o l t u k.4)
      (ap (λ x. is_nil (deep_each (numbers_behind ms) o false x)) k.3)
