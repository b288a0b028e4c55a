-- By the letter and as they are read, shaped trees pass the limits at the same tokens.
use Rattle.std.proofs.Common.{◌≡◌, ℕ, ◌+◌, ◌≤◌, List, Bool, true, false, length, refl, ap, ◌∙◌, arith, if◌then◌else◌}
use Rattle.hare_tree.specs.declared.place.Place.{Place}
use Rattle.hare_tree.specs.declared.token.Token.{Token}
use Rattle.hare_tree.specs.Node.{Head, Node, Nodes, branch, none, more}
use Rattle.hare_tree.specs.Forms.{form_of}
use Rattle.hare_tree.specs.Spell.{start_of, spell, spells}
use Rattle.hare_tree.specs.Levels.{level}
use Rattle.hare_tree.specs.Shape.{is_none, kid_pieces}
use Rattle.hare_tree.specs.Depth.{is_operator, begins, place_in, first_number, numbers_behind}
use Rattle.hare_tree.specs.Grammar.{place_of, HasPlaces, HavePlaces}
use Rattle.hare_automaton.proofs.Spelled.Paths.{split}
use Rattle.hare_nesting.proofs.Telling.Claims.{Rises, FaultsAgree}
use Rattle.hare_nesting.proofs.ByTheLetter.Begins.{Within, pieces_within}
use Rattle.hare_nesting.proofs.ByTheLetter.FormKids.{has_form, have_forms, shaped_has_form, kids_have_forms, nothing_in_none, operand, no_operand}
use Rattle.hare_nesting.proofs.ByTheLetter.OnList.{same_numbers}
use Rattle.hare_nesting.proofs.ByTheLetter.LetterTrees.{line, Agrees, AllAgree, Behind, behind_none, behind_more, not_before, node_not_none, plain_tree, operator_is_node, operator_tree}

abbrev place_at : ℕ → List Token → ℕ → Head → Nodes → Place
place_at f ts n h us = if is_none h.kind then start_of f else place_of ts (n + place_in h us)

line_at : (f : ℕ) (ts : List Token) (n m : ℕ) (h : Head) (us : Nodes) → h.place ≡ place_at f ts n h us → is_none h.kind ≡ false →
    place_in h us ≡ m → h.place.line ≡ line ts (n + m)
line_at f ts n m h us p i e = ap (λ z. z.line) (rw (i, e) at p)

plain_line : (f : ℕ) (ts : List Token) (n : ℕ) (h : Head) (us : Nodes) → h.place ≡ place_at f ts n h us → is_none h.kind ≡ false →
    is_operator h.kind ≡ false → h.place.line ≡ line ts n
plain_line f ts n h us p i e = let z : n + 0 ≡ n = omega arith in line_at f ts n 0 h us p i (first_token us) ∙ ap (line ts) z
  where
    first_token : (us : Nodes) → place_in h us ≡ 0
    first_token none = refl
    first_token (more u us) = rw e refl

-- no kid of such a tree begins in front of it
kids_behind : (f : ℕ) (ts : List Token) (n high : ℕ) (h : Head) (us : Nodes) (ns : List ℕ) → Rises ts → is_operator h.kind ≡ false →
    has_form (branch h us) ≡ true → h.place ≡ place_at f ts n h us → Within n high ns (spells 0 us) → high ≤ length ts → AllAgree ts ns us →
    Behind h.place.line us
unfolding spell
kids_behind f ts n high h none ns r e k p w l a = behind_none h.place.line
kids_behind f ts n high h (more u us) ns r e k p w l a = by (is_none h.kind) refl
  where
    by : (b : Bool) → is_none h.kind ≡ b → Behind h.place.line (more u us)
    by true i = absurd (nothing_in_none h u us i k)
    by false i =
        let q = not_before ts n (first_number ns) u r w.0 (omega (arith, w.1)) a.0 in
        behind_more h.place.line u us (rw (plain_line f ts n h (more u us) p i e) q)

node_agrees : (f : ℕ) (ts : List Token) (n : ℕ) (h : Head) (us : Nodes) → Rises ts → has_form (branch h us) ≡ true →
    h.place ≡ place_at f ts n h us → Within n (n + length (spell 0 (branch h us))) (begins h (form_of h.kind) n (spells 0 us))
    (spells 0 us) → n + length (spell 0 (branch h us)) ≤ length ts → AllAgree ts (begins h (form_of h.kind) n (spells 0 us)) us →
    Agrees ts n (branch h us)
node_agrees f ts n h us r k p w l a = by (is_operator h.kind) refl
  where
    operates : (us : Nodes) → is_operator h.kind ≡ true → has_form (branch h us) ≡ true → h.place ≡ place_at f ts n h us →
        n + length (spell 0 (branch h us)) ≤ length ts → AllAgree ts (begins h (form_of h.kind) n (spells 0 us)) us →
        Agrees ts n (branch h us)
    operates none e k p l a = absurd (no_operand h e k)
    operates (more u us) e k p l a = operator_tree ts n h u us r e (operand h u us e k) l
        (line_at f ts n (length (spell 0 u)) h (more u us) p (node_not_none h.kind (operator_is_node h.kind e)) (rw e refl)) a

    by : (b : Bool) → is_operator h.kind ≡ b → Agrees ts n (branch h us)
    by true e = operates us e k p l a
    by false e =
        plain_tree ts n h us e (λ i. plain_line f ts n h us p (node_not_none h.kind i) e)
        (kids_behind f ts n (n + length (spell 0 (branch h us))) h us (begins h (form_of h.kind) n (spells 0 us)) r e k p w l a) a

mutual
  unfolding HasPlaces spell

  pub agrees : (f : ℕ) (ts : List Token) (n : ℕ) (t : Node) → Rises ts → has_form t ≡ true → n + length (spell 0 t) ≤ length ts →
      HasPlaces f ts n t → Agrees ts n t
  agrees f ts n (branch h us) r k l p =
      let w = pieces_within h (level h.kind h.text) (form_of h.kind) n us k in
      node_agrees f ts n h us r k p.0 w l (all_agree f ts n (n + length (spell 0 (branch h us))) (begins h (form_of h.kind) n (spells 0 us))
      us r (kids_have_forms (level h.kind h.text) (kid_pieces (form_of h.kind)) us k) w l p.1)

  pub all_agree : (f : ℕ) (ts : List Token) (low high : ℕ) (ns : List ℕ) (us : Nodes) → Rises ts → have_forms us ≡ true →
      Within low high ns (spells 0 us) → high ≤ length ts → HavePlaces f ts ns us → AllAgree ts ns us
  all_agree f ts low high ns none r k w l p = tt
  all_agree f ts low high ns (more u us) r k w l p =
      let q = split (has_form u) (have_forms us) k in
      (agrees f ts (first_number ns) u r q.0 (omega (arith, w.1)) p.0, all_agree f ts low high (numbers_behind ns) us r q.1 w.2 l p.1)

pub faults_agree : FaultsAgree
faults_agree s i f ts t r e l p =
    same_numbers _ _ ((agrees f ts 0 t r (shaped_has_form s t e) (omega arith) p).by_itself 0)
