-- The tokens at which a tree passes a limit are its own.
use Rattle.std.proofs.Common.{◌≡◌, ℕ, ◌+◌, ◌<◌, List, [], ◌∷◌, Bool, true, false, ◌&&◌, ◌⊎◌, inl, inr, length, refl, arith, if◌then◌else◌}
use Rattle.std.specs.Prelude.{nat_le}
use Rattle.hare_tree.specs.declared.form.Sort.{Sort}
use Rattle.hare_tree.specs.Node.{Head, Node, Nodes, branch, none, more}
use Rattle.hare_tree.specs.Forms.{form_of}
use Rattle.hare_tree.specs.Levels.{level}
use Rattle.hare_tree.specs.Spell.{spell, spells}
use Rattle.hare_tree.specs.Shape.{is_shaped, kid_pieces}
use Rattle.hare_tree.specs.Depth.{is_node, is_operator, left_height, begins, place_in, first_number, numbers_behind, node_faults, open_within, deep, deep_each, deep_root}
use Rattle.hare_tree.specs.Grammar.{IsOn}
use Rattle.hare_automaton.proofs.Spelled.Paths.{split}
use Rattle.hare_nesting.proofs.UnderWay.Lists.{on_either}
use Rattle.hare_nesting.proofs.ByTheLetter.Begins.{Within, pieces_within}
use Rattle.hare_nesting.proofs.ByTheLetter.FormKids.{has_form, have_forms, shaped_has_form, kids_have_forms, node_some, operand, no_operand}
use Rattle.hare_nesting.proofs.ByTheLetter.LetterTrees.{left_ends}

on_one : (k n : ℕ) (b : Bool) → IsOn k (if b then n ∷ [] else []) → (b ≡ true) × (k ≡ n)
on_one k n true (inl e) = (refl, e)
on_one k n true (inr i) = absurd i
on_one k n false i = absurd i

either : {A B C : Type 0} → A ⊎ B → (A → C) → (B → C) → C
either (inl a) f g = f a
either (inr b) f g = g b

-- at the node itself
own_inside : (n o k : ℕ) (h : Head) (us : Nodes) → has_form (branch h us) ≡ true → IsOn k (node_faults n o h us) →
    k < n + length (spell 0 (branch h us))
own_inside n o k h us e i = by (on_either k (if is_node h.kind && nat_le 256 o then n ∷ [] else []) _ i)
  where
    at_operator : (us : Nodes) → has_form (branch h us) ≡ true → is_operator h.kind ≡ true →
        n + place_in h us < n + length (spell 0 (branch h us))
    at_operator none e d = absurd (no_operand h d e)
    at_operator (more u us) e d = let l = left_ends h u us (operand h u us d e) in rw d (omega (arith, l))

    by : IsOn k (if is_node h.kind && nat_le 256 o then n ∷ [] else []) ⊎ IsOn k
        (if is_operator h.kind && nat_le 256 (left_height us) then (n + place_in h us) ∷ [] else []) →
        k < n + length (spell 0 (branch h us))
    by (inl j) =
        let p = on_one k n (is_node h.kind && nat_le 256 o) j in
        let s = node_some (branch h us) (split (is_node h.kind) (nat_le 256 o) p.0).0 in
        omega (arith, s, p.1)
    by (inr j) =
        let p = on_one k (n + place_in h us) (is_operator h.kind && nat_le 256 (left_height us)) j in
        let s = at_operator us e (split (is_operator h.kind) (nat_le 256 (left_height us)) p.0).0 in
        omega (arith, s, p.1)

mutual
  unfolding deep spell

  deep_inside : (n o k : ℕ) (l : Bool) (t : Node) → has_form t ≡ true → IsOn k (deep n o l t) → k < n + length (spell 0 t)
  deep_inside n o k l (branch h us) e i =
      let w = pieces_within h (level h.kind h.text) (form_of h.kind) n us e in
      let f = kids_have_forms (level h.kind h.text) (kid_pieces (form_of h.kind)) us e in
      let ns = begins h (form_of h.kind) n (spells 0 us) in
      let d = open_within o l h.kind in
      either (on_either k (node_faults n o h us) (deep_each ns d (is_operator h.kind) us) i) (λ j. own_inside n o k h us e j)
      (λ j. each_inside n (n + length (spell 0 (branch h us))) ns d k (is_operator h.kind) us f w j)

  pub each_inside : (low high : ℕ) (ns : List ℕ) (o k : ℕ) (l : Bool) (us : Nodes) → have_forms us ≡ true →
      Within low high ns (spells 0 us) → IsOn k (deep_each ns o l us) → k < high
  each_inside low high ns o k l none e w i = absurd i
  each_inside low high ns o k l (more u us) e w i =
      let p = split (has_form u) (have_forms us) e in
      either (on_either k (deep (first_number ns) o l u) (deep_each (numbers_behind ns) o false us) i)
      (λ j. let r = deep_inside (first_number ns) o k l u p.0 j in omega (arith, r, w.1))
      (λ j. each_inside low high (numbers_behind ns) o k false us p.1 w.2 j)

pub root_inside : (s : Sort) (t : Node) → is_shaped s t ≡ true → (k : ℕ) → IsOn k (deep_root t) → k < length (spell 0 t)
root_inside s t e k i = let r = deep_inside 0 0 k false t (shaped_has_form s t e) i in omega (arith, r)
