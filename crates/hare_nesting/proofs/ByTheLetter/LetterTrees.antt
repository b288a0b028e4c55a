-- A tree of which the kids pass the limits at the same tokens by the letter and as they are read does so too.
use Rattle.std.proofs.Common.{◌≡◌, ℕ, suc, ◌+◌, ◌<◌, ◌≤◌, List, [], ◌∷◌, ◌++◌, Bool, true, false, inl, inr, ◌&&◌, not, map, length, refl}
use Rattle.std.proofs.Common.{ap, sym, ◌∙◌, subst, arith, add-one, if◌then◌else◌}
use Rattle.std.specs.Prelude.{◌||◌, ◌==◌, nat_le}
use Rattle.std.proofs.lemmas.List.{length-append}
use Rattle.std.proofs.lemmas.Bool.{cases_lt}
use Rattle.hare_tree.specs.declared.kind.Kind.{Kind}
use Rattle.hare_tree.specs.declared.kind.Kind.TheVariants as ki
use Rattle.hare_tree.specs.declared.token.Token.{Token}
use Rattle.hare_tree.specs.Node.{Head, Node, Nodes, branch, none, more, head}
use Rattle.hare_tree.specs.Forms.{form_of}
use Rattle.hare_tree.specs.Spell.{pieces_tokens, spell, spells}
use Rattle.hare_tree.specs.Shape.{is_none}
use Rattle.hare_tree.specs.Depth.{is_node, is_operator, counted, height, greatest_height, begins, open_within, deep, deep_each}
use Rattle.hare_tree.specs.Depth.{first_number, numbers_behind}
use Rattle.hare_tree.specs.Grammar.{place_of}
use Rattle.hare_automaton.proofs.Machine.Edges.{lt_false, le_true}
use Rattle.hare_nesting.specs.Marks.{lies_before, first_in, highest}
use Rattle.hare_nesting.proofs.UnderWay.Stacks.{mark, marks, left_faults, around, faults_of, first_faults, kid_faults}
use Rattle.hare_nesting.proofs.Telling.Claims.{Rises}
use Rattle.hare_nesting.proofs.ByTheLetter.FormKids.{node_some, pieces_some, Operand}
use Rattle.hare_nesting.proofs.ByTheLetter.OnList.{on, on_append, on_map, same_or}
use Rattle.hare_nesting.proofs.ByTheLetter.LetterTests.{one_more, more_holds, plain_agrees, plain_left, rejoin, rejoin_left, further}
use Rattle.hare_nesting.proofs.ByTheLetter.LetterTests.{operator_letter, operator_read}

-- the number that stands at a token
abbrev pub line : List Token → ℕ → ℕ
line ts k = (place_of ts k).line

-- ---- what is shown of a tree that begins at a token

pub record Agrees (ts : List Token) (n : ℕ) (t : Node) : Type 0 where
  pub first : is_node (head t).kind ≡ true → (mark t).first ≡ line ts n
  pub tall : (mark t).height ≡ height t
  pub by_itself : (o x : ℕ) → on x (map (line ts) (deep n o false t)) ≡ on x (faults_of o t)
  -- as a left operand, which has one more node open round it by the letter
  pub as_left : is_node (head t).kind ≡ true → (o x : ℕ) →
      on x (map (line ts) (deep n (suc o) true t)) ≡ (on x (faults_of o t) || (nat_le 255 o && x == line ts n))

abbrev pub AllAgree : List Token → List ℕ → Nodes → Type 0
AllAgree ts ns none = Unit {0}
AllAgree ts ns (more u us) = Agrees ts (first_number ns) u × AllAgree ts (numbers_behind ns) us

-- ---- kids

-- all but a left operand
pub kids_agree : (ts : List Token) (ns : List ℕ) (us : Nodes) → AllAgree ts ns us → (o x : ℕ) →
    on x (map (line ts) (deep_each ns o false us)) ≡ on x (kid_faults o us)
unfolding deep faults_of
kids_agree ts ns none a o x = refl
kids_agree ts ns (more u us) a o x =
    on_map (line ts) x (deep (first_number ns) o false u) (deep_each (numbers_behind ns) o false us)
    ∙ same_or _ _ _ _ (a.0.by_itself o x) (kids_agree ts (numbers_behind ns) us a.1 o x)
    ∙ sym (on_append x (faults_of o u) (kid_faults o us))

tall_kids : (ts : List Token) (ns : List ℕ) (us : Nodes) → AllAgree ts ns us → highest (marks us) ≡ greatest_height us
unfolding height
tall_kids ts ns none a = refl
tall_kids ts ns (more u us) a = rw (a.0.tall, tall_kids ts (numbers_behind ns) us a.1) refl

-- ---- a tree of which no kid begins in front of its place

pub record Behind (p : ℕ) (us : Nodes) : Type 0 where
  pub first : first_in p (marks us) ≡ p
  pub no_left : (o : ℕ) → left_faults o p (marks us) ≡ []
  pub kids : (o : ℕ) (b : Bool) → first_faults p o b us ≡ kid_faults (around b o) us

pub behind_none : (p : ℕ) → Behind p none
unfolding faults_of
behind_none p = record { first = refl; no_left = λ o. refl; kids = λ o b. refl }

pub behind_more : (p : ℕ) (u : Node) (us : Nodes) → lies_before (mark u) p ≡ false → Behind p (more u us)
unfolding faults_of
behind_more p u us i = record { first = rw i refl; no_left = λ o. rw i refl; kids = λ o b. rw i refl }

-- ---- numbers of tokens

rises_le : (ts : List Token) (j k : ℕ) → Rises ts → j ≤ k → k < length ts → line ts j ≤ line ts k
rises_le ts j k r e l = elim (cases_lt j k) [
  | inl h ↦ let q : line ts j < line ts k = r.1 j k h l in omega (arith, q)
  | inr h ↦ let q : j ≡ k = omega arith in rw q (omega arith)
]

node_of_mark : (t : Node) → (mark t).node ≡ is_node (head t).kind
node_of_mark (branch h ts) = refl

pub node_not_none : (k : Kind) → is_node k ≡ true → is_none k ≡ false
node_not_none ki.None e = cc
node_not_none _ e = refl

-- a kid that begins no earlier than a token does not lie in front of it
pub not_before : (ts : List Token) (n k : ℕ) (t : Node) → Rises ts → n ≤ k → k + length (spell 0 t) ≤ length ts → Agrees ts k t →
    lies_before (mark t) (line ts n) ≡ false
not_before ts n k t r e w a = by (is_node (head t).kind) refl
  where
    by : (b : Bool) → is_node (head t).kind ≡ b → lies_before (mark t) (line ts n) ≡ false
    by true i =
        let s = node_some t i in
        let q = rises_le ts n k r e (omega (arith, s)) in
        let g = lt_false ((mark t).first + 1) (line ts n) (omega (arith, q, a.first i)) in
        rw (node_of_mark t, i, g) refl
    by false i = rw (node_of_mark t, i) refl

-- the left operand of an operator does
is_before : (ts : List Token) (n k : ℕ) (t : Node) → Rises ts → is_node (head t).kind ≡ true → n < k → k < length ts → Agrees ts n t →
    lies_before (mark t) (line ts k) ≡ true
is_before ts n k t r i e w a =
    let q = r.1 n k e w in
    let g = le_true ((mark t).first + 1) (line ts k) (omega (arith, q, a.first i)) in
    rw (node_of_mark t, i, g) refl

-- ---- a tree that is no operator

opened_round : (b : Bool) (o : ℕ) → (if b && not false then o + 1 else o) ≡ around b o
opened_round true o = add-one o
opened_round false o = refl

plain_letter : (n o : ℕ) (l : Bool) (h : Head) (us : Nodes) → is_operator h.kind ≡ false →
    deep n o l (branch h us) ≡ ((if is_node h.kind && nat_le 256 o then n ∷ [] else []) ++ []) ++ deep_each
    (begins h (form_of h.kind) n (spells 0 us)) (open_within o l h.kind) false us
unfolding deep
plain_letter n o l h us e = rw e refl

plain_read : (o : ℕ) (h : Head) (us : Nodes) → Behind h.place.line us →
    faults_of o (branch h us) ≡ ((if is_node h.kind && nat_le 256 o then h.place.line ∷ [] else []) ++ []) ++ kid_faults
    (around (is_node h.kind) o) us
unfolding faults_of
plain_read o h us b = rw (b.first, b.no_left o, b.kids o (is_node h.kind)) refl

pub plain_tree : (ts : List Token) (n : ℕ) (h : Head) (us : Nodes) → is_operator h.kind ≡ false →
    (is_node h.kind ≡ true → h.place.line ≡ line ts n) → Behind h.place.line us →
    AllAgree ts (begins h (form_of h.kind) n (spells 0 us)) us → Agrees ts n (branch h us)
unfolding height
plain_tree ts n h us e p b a =
    let ns = begins h (form_of h.kind) n (spells 0 us) in
    record {
      first = λ i. b.first ∙ p i;
      tall = ap (λ z. counted h.kind + z) (tall_kids ts ns us a);
      by_itself = λ o x.
          let k = is_node h.kind in
          ap (λ l. on x (map (line ts) l)) (plain_letter n o false h us e ∙ ap
          (λ z. ((if k && nat_le 256 o then n ∷ [] else []) ++ []) ++ deep_each ns z false us) (opened_round k o))
          ∙ plain_agrees (line ts) k n h.place.line o x _ _ p (kids_agree ts ns us a (around k o) x)
          ∙ sym (ap (on x) (plain_read o h us b));
      as_left = λ i o x.
          let l : deep n (suc o) true (branch h us) ≡ ((if nat_le 256 (suc o) then n ∷ [] else []) ++ []) ++ deep_each ns (suc o) false us =
          rw i at (plain_letter n (suc o) true h us e) in
          let r : faults_of o (branch h us) ≡ ((if nat_le 256 o then h.place.line ∷ [] else []) ++ []) ++ kid_faults (suc o) us =
          rw i at (plain_read o h us b) in
          ap (λ l. on x (map (line ts) l)) l
          ∙ plain_left (line ts) n h.place.line o x _ _ (p i) (kids_agree ts ns us a (suc o) x)
          ∙ sym (ap (λ l. on x l || (nat_le 255 o && x == line ts n)) r);
    }

-- ---- an operator

pub operator_is_node : (k : Kind) → is_operator k ≡ true → is_node k ≡ true
operator_is_node ki.Arith e = refl
operator_is_node _ e = cc

-- the left operand begins with the operator's tree, and a token stands behind it
left_begins : (h : Head) (u : Node) (us : Nodes) (n : ℕ) → Operand h u →
    first_number (begins h (form_of h.kind) n (spells 0 (more u us))) ≡ n
unfolding spell
left_begins h u us n o = rw o.form (omega arith)

pub left_ends : (h : Head) (u : Node) (us : Nodes) → Operand h u → length (spell 0 u) < length (spell 0 (branch h (more u us)))
unfolding spell
left_ends h u us o =
    let s = pieces_some h o.rest (spells 0 us) o.token in
    rw o.form (omega (arith, s, length-append (spell 0 u) [], length-append (spell 0 u ++ []) (pieces_tokens 0 h o.rest (spells 0 us))))

operator_deep : (n o : ℕ) (l : Bool) (h : Head) (u : Node) (us : Nodes) → is_operator h.kind ≡ true → Operand h u →
    deep n o l (branch h (more u us)) ≡ ((if nat_le 256 o then n ∷ [] else []) ++
    (if nat_le 256 (height u) then (n + length (spell 0 u)) ∷ [] else [])) ++
    (deep n (if not l then o + 1 else o) true u ++ deep_each (numbers_behind (begins h (form_of h.kind) n (spells 0 (more u us))))
    (if not l then o + 1 else o) false us)
unfolding deep
operator_deep n o l h u us e q = rw (e, operator_is_node h.kind e, left_begins h u us n q) refl

operator_faults : (ts : List Token) (n m o : ℕ) (h : Head) (u : Node) (us : Nodes) → is_operator h.kind ≡ true →
    lies_before (mark u) h.place.line ≡ true → h.place.line ≡ line ts m → (mark u).first ≡ line ts n → (mark u).height ≡ height u →
    faults_of o (branch h (more u us)) ≡ ((if nat_le 256 o then line ts n ∷ [] else []) ++
    ((if nat_le 255 o then line ts n ∷ [] else []) ++ (if nat_le 256 (height u) then line ts m ∷ [] else []))) ++
    (faults_of o u ++ kid_faults (suc o) us)
unfolding faults_of
operator_faults ts n m o h u us e b p f t = rw (operator_is_node h.kind e, b, p, f, t) refl

pub operator_tree : (ts : List Token) (n : ℕ) (h : Head) (u : Node) (us : Nodes) → Rises ts → is_operator h.kind ≡ true → Operand h u →
    n + length (spell 0 (branch h (more u us))) ≤ length ts → h.place.line ≡ line ts (n + length (spell 0 u)) →
    AllAgree ts (begins h (form_of h.kind) n (spells 0 (more u us))) (more u us) → Agrees ts n (branch h (more u us))
unfolding height
operator_tree ts n h u us r e q w p a =
    let ns = begins h (form_of h.kind) n (spells 0 (more u us)) in
    let m = n + length (spell 0 u) in
    let c = nat_le 256 (height u) in
    let d : Agrees ts n u = subst (λ z. Agrees ts z u) (left_begins h u us n q) a.0 in
    let some = node_some u q.node in
    let ends = left_ends h u us q in
    let b : lies_before (mark u) h.place.line ≡ true =
    rw p (is_before ts n m u r q.node (omega (arith, some)) (omega (arith, ends, w)) d) in
    let right = numbers_behind ns in
    record {
      first = λ i. rw b (d.first q.node);
      tall = ap (λ z. counted h.kind + z) (tall_kids ts ns (more u us) a);
      by_itself = λ o x.
          let f = nat_le 256 o in
          let g = nat_le 255 o in
          ap (λ l. on x (map (line ts) l)) (operator_deep n o false h u us e q ∙ ap
          (λ z. ((if f then n ∷ [] else []) ++ (if c then m ∷ [] else [])) ++ (deep n z true u ++ deep_each right z false us))
          (add-one o))
          ∙ operator_letter (line ts) x n m f c (deep n (suc o) true u) (deep_each right (suc o) false us)
          ∙ same_or ((f && x == line ts n) || (c && x == line ts m)) _ _ _ refl
          (same_or _ _ _ _ (d.as_left q.node o x) (kids_agree ts right us a.1 (suc o) x))
          ∙ rejoin (f && x == line ts n) (g && x == line ts n) (c && x == line ts m) (on x (faults_of o u)) (on x (kid_faults (suc o) us))
          ∙ sym (ap (on x) (operator_faults ts n m o h u us e b p (d.first q.node) d.tall) ∙ operator_read x (line ts n) (line ts m) f g c
          (faults_of o u) (kid_faults (suc o) us));
      as_left = λ i o x.
          let f = nat_le 256 o in
          let g = nat_le 255 o in
          ap (λ l. on x (map (line ts) l)) (operator_deep n (suc o) true h u us e q)
          ∙ operator_letter (line ts) x n m (nat_le 256 (suc o)) c (deep n (suc o) true u) (deep_each right (suc o) false us)
          ∙ same_or _ _ _ _ (ap (λ z. (z && x == line ts n) || (c && x == line ts m)) (one_more o))
          (same_or _ _ _ _ (d.as_left q.node o x) (kids_agree ts right us a.1 (suc o) x))
          ∙ rejoin_left (f && x == line ts n) (g && x == line ts n) (c && x == line ts m) (on x (faults_of o u))
          (on x (kid_faults (suc o) us)) (further f g (x == line ts n) (more_holds o))
          ∙ sym (ap (λ z. z || (g && x == line ts n))
          (ap (on x) (operator_faults ts n m o h u us e b p (d.first q.node) d.tall) ∙ operator_read x (line ts n) (line ts m) f g c
          (faults_of o u) (kid_faults (suc o) us)));
    }
