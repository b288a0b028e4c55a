-- Each row of the operators behind an operand is right.
use Rattle.std.proofs.Common.{◌≡◌, ℕ, ◌+◌, List, [], ◌∷◌, ◌++◌, Bool, true, false, ◌&&◌, map, length, refl, ap, sym, ◌∙◌, subst, arith, append_assoc, if◌then◌else◌}
use Rattle.std.specs.Prelude.{nat_le}
use Rattle.std.proofs.lemmas.List.{append-nil, length-append, length-map, map-append}
use Rattle.hare_tree.specs.declared.kind.Kind.{Kind}
use Rattle.hare_tree.specs.declared.kind.Kind.TheVariants as ki
use Rattle.hare_tree.specs.declared.place.Place.{Place}
use Rattle.hare_tree.specs.declared.token.TokenKind.TheVariants as tk
use Rattle.hare_tree.specs.declared.token.Token.{Token}
use Rattle.hare_tree.specs.declared.form.Sign.{Sign}
use Rattle.hare_tree.specs.declared.form.Sign.TheVariants as si
use Rattle.hare_tree.specs.declared.form.Own.TheVariants as ow
use Rattle.hare_tree.specs.declared.form.Sort.{Sort}
use Rattle.hare_tree.specs.declared.form.Sort.TheVariants as so
use Rattle.hare_tree.specs.declared.form.Piece.{Piece}
use Rattle.hare_tree.specs.declared.form.Piece.TheVariants as pi
use Rattle.hare_tree.specs.Node.{Head, Node, branch, none, more}
use Rattle.hare_tree.specs.Words.{is_listed}
use Rattle.hare_tree.specs.Signs.{sign_word, sign_kind}
use Rattle.hare_tree.specs.Forms.{form_of, expr, unary, postfix}
use Rattle.hare_tree.specs.Levels.{operators, operator_level, level, admits, sort_in}
use Rattle.hare_tree.specs.Spell.{word_token, pieces_tokens, spell, spells}
use Rattle.hare_tree.specs.Shape.{is_shaped, are_kids, is_own, is_none, is_yield, has_text_alone, kid_pieces, own_of, kids_end, edges, form_stops, stops, stops_each}
use Rattle.hare_tree.specs.Depth.{begins, is_operator}
use Rattle.hare_tree.specs.Grammar.{HasPlaces, HavePlaces, place_of, unplaced}
use Rattle.hare_automaton.specs.declared.class.Class.{Class}
use Rattle.hare_automaton.specs.declared.class.Class.TheVariants as cl
use Rattle.hare_automaton.specs.declared.rule.Rule.TheVariants as ru
use Rattle.hare_automaton.specs.declared.rule.Symbol.TheVariants as sy
use Rattle.hare_automaton.specs.declared.rule.Change.TheVariants as ch
use Rattle.hare_automaton.specs.Classes.{head_of, class_of}
use Rattle.hare_automaton.specs.Rows.{Row, Skips, Uses, of, part, before, symbols, rest_of}
use Rattle.hare_automaton.specs.ExpressionRows.{climbs, assigns, behind_operand as operand_row, binary_kind, binary_at, climb_row}
use Rattle.hare_automaton.specs.Engine.{Group, begun, add, close, over, take_text}
use Rattle.hare_automaton.proofs.Spelled.Paths.{split}
use Rattle.hare_automaton.proofs.Machine.Edges.{le_true, true_le}
use Rattle.hare_automaton.proofs.Spelled.Operators.{over_last}
use Rattle.hare_prefixes.proofs.Soundness.Seen.{binary_is, assign_is}
use Rattle.hare_prefixes.proofs.Soundness.Trees.{Source, IsTree, Tree, made_tree, as_sort}
use Rattle.hare_prefixes.proofs.Soundness.Means.{HasGroup, Means}
use Rattle.hare_prefixes.proofs.Soundness.Stacks.{Reads, last_part, Used, used_before}
use Rattle.hare_prefixes.proofs.Soundness.Forms.{no_label, form_tree, Operand, SignForm, behind_operand}
use Rattle.hare_prefixes.proofs.RightRows.TypeRows.{sign_parts}

-- ---- levels

-- what binds tightly binds loosely too
pub level_down : (l j : ℕ) → nat_le l j ≡ true → (k : Kind) (y : List ℕ) → admits (so.Level j) k y ≡ true → admits (so.Level l) k y ≡ true
level_down l j e k y a = let p = true_le l j e in let q = true_le j (level k y) a in le_true l (level k y) (omega (arith, p, q))

over_here : (p : Place) (a : Node) (gs hs : List Group) (o : HasGroup hs) → gs ≡ add a hs → over p gs ≡ begun p (a ∷ []) ∷ hs
over_here p a gs hs o e = ap (over p) (e ∙ ap (add a) o.is) ∙ over_last p a o.g o.hs ∙ ap (λ l. begun p (a ∷ []) ∷ l) (sym o.is)

-- ---- an operator, and those that may follow

-- what an operator of level `m` makes of the operand, and the operators behind it
abbrev Makes : Source → ℕ → ℕ → Row → Token → Type 0
Makes x j m r t = (a : Node) (gs hs : List Group) (n n1 : ℕ) (v u w : List Token) (gs' : List Group) → HasGroup hs → nat_le m j ≡ true →
    gs ≡ add a hs → IsTree x (so.Level j) n v (t ∷ (u ++ w)) a → n1 ≡ n + length v → Used x r t gs n1 u w gs' →
    Tree x (so.Level m) hs n (v ++ (t ∷ u)) w gs'

-- behind the operator the operators of its level go on
goes_on : (x : Source) (l j m : ℕ) (r : Row) (t : Token) → nat_le l m ≡ true → Makes x j m r t → nat_le m j ≡ true →
    (gs : List Group) (n1 : ℕ) (u w : List Token) (gs' : List Group) → Used x (before r (part (ru.Climb l m) ∷ [])) t gs n1 u w gs' →
    Means x (ru.Climb l j) gs n1 (t ∷ u) w gs'
goes_on x l j m r t p f q gs n1 u w gs' h a hs n v o i g d at =
    let b = used_before x r (part (ru.Climb l m) ∷ []) t gs n1 u w gs' h in
    let is : (t ∷ u) ++ w ≡ t ∷ (b.v ++ (b.v' ++ w)) = ap (λ y. t ∷ (y ++ w)) b.is ∙ ap (λ y. t ∷ y) (append_assoc b.v b.v' w) in
    let made = f a gs hs n n1 v b.v (b.v' ++ w) b.hs o q g (subst (λ y. IsTree x (so.Level j) n v y a) is d) at b.first in
    let far : b.n ≡ n + length (v ++ (t ∷ b.v)) = omega (arith, b.at, at, length-append v (t ∷ b.v)) in
    let r' = last_part x (ru.Climb l m) b.hs b.n b.v' w gs' b.rest made.t hs n (v ++ (t ∷ b.v)) o p made.adds made.is far in
    subst (λ y. Tree x (so.Level l) hs n y w gs') (append_assoc v (t ∷ b.v) b.v' ∙ ap (λ y. v ++ (t ∷ y)) (sym b.is)) r'

climbs_means : (x : Source) (l j m : ℕ) (r : Row) (t : Token) → Makes x j m r t →
    (gs : List Group) (n1 : ℕ) (u w : List Token) (gs' : List Group) → Used x (climbs l j m r) t gs n1 u w gs' →
    Means x (ru.Climb l j) gs n1 (t ∷ u) w gs'
climbs_means x l j m r t f gs n1 u w gs' h = by (nat_le l m && nat_le m j) refl h
  where
    by : (b : Bool) → (nat_le l m && nat_le m j) ≡ b →
        Used x (if b then before r (part (ru.Climb l m) ∷ []) else Skips []) t gs n1 u w gs' → Means x (ru.Climb l j) gs n1 (t ∷ u) w gs'
    by true i h = let p = split (nat_le l m) (nat_le m j) i in goes_on x l j m r t p.0 f p.1 gs n1 u w gs' h
    by false i h = absurd h

-- an assignment, whose left side binds as a prefix operator's operand or more tightly
assigns_means : (x : Source) (l j : ℕ) (r : Row) (t : Token) → (nat_le 14 j ≡ true → Makes x j 1 r t) →
    (gs : List Group) (n1 : ℕ) (u w : List Token) (gs' : List Group) → Used x (assigns l j r) t gs n1 u w gs' →
    Means x (ru.Climb l j) gs n1 (t ∷ u) w gs'
assigns_means x l j r t f gs n1 u w gs' h = by (nat_le l 1 && nat_le 14 j) refl h
  where
    one : nat_le 14 j ≡ true → nat_le 1 j ≡ true
    one e = let p = true_le 14 j e in le_true 1 j (omega (arith, p))

    by : (b : Bool) → (nat_le l 1 && nat_le 14 j) ≡ b →
        Used x (if b then before r (part (ru.Climb l 1) ∷ []) else Skips []) t gs n1 u w gs' → Means x (ru.Climb l j) gs n1 (t ∷ u) w gs'
    by true i h = let p = split (nat_le l 1) (nat_le 14 j) i in goes_on x l j 1 r t p.0 (f p.1) (one p.1) gs n1 u w gs' h
    by false i h = absurd h

-- ---- forms behind an operand

-- the operand as one of the sort that the form asks for
operand_of : (x : Source) (s : ℕ) (j : ℕ) (a : Node) (n n1 : ℕ) (v rest : List Token) → nat_le s j ≡ true →
    IsTree x (so.Level j) n v rest a → n1 ≡ n + length v → Operand x (so.Level s) a n n1 v rest
operand_of x s j a n n1 v rest e d at = record { is = as_sort x (so.Level j) (so.Level s) n v rest a (level_down s j e) d; at = at }

-- a form of the level `m` with a sign behind its operand, which is of the level `s`
record SignOperator (k : Kind) (s m : ℕ) (r : Sort) (d : Sign) (ps : List Piece) : Type 0 where
  -- the operand, the sign, and the pieces behind it
  form : SignForm k (so.Level s) r d ps
  -- trees of the kind do not stand for what is absent
  none : is_none k ≡ false
  -- they are of the level
  admitted : (y : List ℕ) → admits (so.Level m) k y ≡ true
  -- the row of the sign goes on with the pieces behind it
  rest_is : rest_of 2 k ≡ symbols ps ++ sy.Close k ∷ []

sign_makes : (x : Source) (k : Kind) (s m j : ℕ) (r : Sort) (d : Sign) (ps : List Piece) (t : Token) → nat_le s j ≡ true →
    class_of t ≡ cl.Sign d → SignOperator k s m r d ps → Makes x j m (operand_row k) t
sign_makes x k s m j r d ps t le e f a gs hs n n1 v u w gs' o q i ta at h =
    let reads = subst (λ z. Reads x (symbols ps ++ sy.Close k ∷ []) z h.n u w gs') (over_here t.place a gs hs o i)
    (subst (λ z. Reads x z (over t.place gs) h.n u w gs') f.rest_is h.reads) in
    form_tree x (so.Level m) k hs n (v ++ (t ∷ u)) w gs' f.none f.admitted
    (behind_operand x k (so.Level s) r d ps hs a t n n1 h.n v u w gs' f.form (operand_of x s j a n n1 v (t ∷ (u ++ w)) le ta at)
    (record { class = e; place = h.place; next = h.at }) reads)

sign_assign : SignOperator ki.Assign 14 1 unary si.Equals (pi.Kid expr ∷ [])
sign_assign = record {
  form = record { form = refl; operand = λ y. refl; operator = refl; yield = refl; simple = (refl, tt) };
  none = refl;
  admitted = λ y. refl;
  rest_is = refl;
}

sign_cast : SignOperator ki.Cast 13 13 so.Left si.Colon (pi.Kid so.Type ∷ [])
sign_cast = record {
  form = record { form = refl; operand = λ y. refl; operator = refl; yield = refl; simple = (refl, tt) };
  none = refl;
  admitted = λ y. refl;
  rest_is = refl;
}

sign_as : SignOperator ki.As 13 13 so.Left si.As (pi.Kid so.Type ∷ [])
sign_as = record {
  form = record { form = refl; operand = λ y. refl; operator = refl; yield = refl; simple = (refl, tt) };
  none = refl;
  admitted = λ y. refl;
  rest_is = refl;
}

sign_is : SignOperator ki.Is 13 13 so.Left si.Is (pi.Kid so.Type ∷ [])
sign_is = record {
  form = record { form = refl; operand = λ y. refl; operator = refl; yield = refl; simple = (refl, tt) };
  none = refl;
  admitted = λ y. refl;
  rest_is = refl;
}

sign_call : SignOperator ki.Call 15 15 postfix si.LeftParen (pi.List expr ∷ pi.Fixed si.RightParen ∷ [])
sign_call = record {
  form = record { form = refl; operand = λ y. refl; operator = refl; yield = refl; simple = (refl, tt) };
  none = refl;
  admitted = λ y. refl;
  rest_is = refl;
}

sign_field : SignOperator ki.Field 15 15 postfix si.Dot (pi.Own ow.Member ∷ [])
sign_field = record {
  form = record { form = refl; operand = λ y. refl; operator = refl; yield = refl; simple = (refl, tt) };
  none = refl;
  admitted = λ y. refl;
  rest_is = refl;
}

sign_try : SignOperator ki.Try 15 15 postfix si.Question []
sign_try = record {
  form = record { form = refl; operand = λ y. refl; operator = refl; yield = refl; simple = tt };
  none = refl;
  admitted = λ y. refl;
  rest_is = refl;
}

sign_force : SignOperator ki.Force 15 15 postfix si.Bang []
sign_force = record {
  form = record { form = refl; operand = λ y. refl; operator = refl; yield = refl; simple = tt };
  none = refl;
  admitted = λ y. refl;
  rest_is = refl;
}

-- ---- operators with a text

-- The token is an operator of the kind, whose trees are then of the level `m`, between operands of the sorts `Level s` and `r'`.
record TextOperator (k : Kind) (s m : ℕ) (l r r' : Sort) (t : Token) : Type 0 where
  -- an operand, the operator, and an operand
  form : form_of k ≡ pi.Kid l ∷ pi.Own ow.Operator ∷ pi.Kid r ∷ []
  -- its level
  level_is : level k t.text ≡ m
  -- the sorts of the operands
  left : sort_in m l ≡ so.Level s
  right : sort_in m r ≡ r'
  -- trees of the kind are placed at the operator
  operator : is_operator k ≡ true
  -- they do not stand for what is absent
  none : is_none k ≡ false
  -- and are no `yield`
  yield : is_yield k ≡ false
  -- the token's text is one of the kind's operators
  listed : is_listed (operators k) t.text ≡ true
  -- it has no number and no suffix
  alone : has_text_alone (head_of t) ≡ true
  -- it is such a token as the operator is spelled by
  is : unplaced t ≡ word_token 0 tk.Mark t.text

-- a binary operator or an operator of an assignment
operator_makes : (x : Source) (k : Kind) (s m j : ℕ) (l r r' : Sort) (t : Token) → nat_le s j ≡ true → TextOperator k s m l r r' t →
    Makes x j m (Uses (ch.Over ∷ ch.Take ∷ []) (of r' ∷ sy.Close k ∷ [])) t
unfolding is_shaped spell stops HasPlaces
operator_makes x k s m j l r r' t le f a gs hs n n1 v u w gs' o q i ta at h =
    let g : Group = record { place = t.place; text = t.text; number = t.number; suffix = t.suffix; kids = a ∷ [] } in
    let p = h.reads in
    let here : take_text t (over t.place gs) ≡ g ∷ hs = ap (take_text t) (over_here t.place a gs hs o i) in
    let b = p.part (record { g = g; hs = hs; is = here }) in
    let e : p.v' ≡ [] = p.rest.0 in
    let u_is : u ≡ p.v = p.is ∙ ap (λ z. p.v ++ z) e ∙ append-nil p.v in
    let bt : IsTree x r' h.n u w b.t = subst (λ z. IsTree x r' h.n z w b.t) (sym u_is)
    (subst (λ z. IsTree x r' h.n p.v (z ++ w) b.t) e b.is) in
    let a_is = as_sort x (so.Level j) (so.Level s) n v (t ∷ (u ++ w)) a (level_down s j le) ta in
    let hd : Head = record { kind = k; place = t.place; text = t.text; number = t.number; suffix = t.suffix } in
    let ts = more a (more b.t none) in
    let la : length (spell 0 a) ≡ length v = ap length ta.spelled ∙ length-map v unplaced in
    let adds : gs' ≡ add (branch hd ts) hs = p.rest.1 ∙ ap (close k) (b.adds ∙ ap (add b.t) here) in
    record {
      t = branch hd ts;
      is = made_tree x (so.Level m) k n (v ++ (t ∷ u)) w hd ts f.none
          (subst (λ z. nat_le z (level k t.text) ≡ true) f.level_is (le_true (level k t.text) (level k t.text) (omega arith))) (record {
            kind_is = refl;
            place_is = sym h.place ∙ ap (place_of x.tokens)
                (at ∙ ap (λ z. n + z) (sym (ap (λ z. if z then length (spell 0 a) else 0) f.operator ∙ la)));
            own = subst (λ z. is_own (own_of z) hd ≡ true) (sym f.form) (rw (f.listed, f.alone) refl);
            kids = subst (λ z. are_kids (level k t.text) (kid_pieces z) ts ≡ true) (sym f.form)
                (rw f.level_is (kids_two a b.t a_is.shaped bt.shaped));
            ends = subst (λ z. kids_end z (edges ts) ≡ true) (sym f.form) refl;
            label = no_label hd ts k refl f.yield;
            spelled = ap (λ z. pieces_tokens 0 hd z (spells 0 ts)) f.form ∙
                (rw (append-nil (spell 0 a), append-nil (spell 0 b.t), append-nil (spell 0 b.t))
                (ap (λ z. z ++ (word_token 0 tk.Mark t.text ∷ spell 0 b.t)) ta.spelled ∙ ap
                (λ z. map unplaced v ++ (word_token 0 tk.Mark t.text ∷ z)) bt.spelled ∙ ap (λ z. map unplaced v ++ (z ∷ map unplaced u))
                (sym f.is) ∙ sym (map-append unplaced v (t ∷ u))));
            placed = subst (λ z. HavePlaces x.file x.tokens (begins hd z n (spells 0 ts)) ts) (sym f.form) (
              subst (λ z. HasPlaces x.file x.tokens z a) (omega arith) ta.placed,
              (
                subst (λ z. HasPlaces x.file x.tokens z b.t) (omega (arith, h.at, at, la, ap length (append-nil (spell 0 a)))) bt.placed,
                tt,
              ),
            );
            stops_at = λ z d. subst (λ q. form_stops z hd true q (stops_each z ts) ≡ true) (sym f.form) (bt.ends z d);
          });
      adds = adds;
    }
  where
    kids_two : (a b : Node) → is_shaped (so.Level s) a ≡ true → is_shaped r' b ≡ true →
        (is_shaped (sort_in m l) a && (is_shaped (sort_in m r) b && true)) ≡ true
    kids_two a b p q = rw (f.left, f.right, p, q) refl

-- the kinds of binary operators
record IsBinary (k : Kind) : Type 0 where
  form : form_of k ≡ pi.Kid so.Left ∷ pi.Own ow.Operator ∷ pi.Kid so.Right ∷ []
  level_is : (y : List ℕ) → level k y ≡ operator_level y
  operator : is_operator k ≡ true
  none : is_none k ≡ false
  yield : is_yield k ≡ false

binary_is_binary : (m : ℕ) → IsBinary (binary_kind m)
binary_is_binary m = by (nat_le m 4) (nat_le m 5) (nat_le m 6) (nat_le 10 m && nat_le m 10)
  where
    by : (a b c d : Bool) → IsBinary (if a then ki.Logic else if b then ki.Equal else if c then ki.Less else if d then ki.Shift else
        ki.Arith)
    by true b c d = record { form = refl; level_is = λ y. refl; operator = refl; none = refl; yield = refl }
    by false true c d = record { form = refl; level_is = λ y. refl; operator = refl; none = refl; yield = refl }
    by false false true d = record { form = refl; level_is = λ y. refl; operator = refl; none = refl; yield = refl }
    by false false false true = record { form = refl; level_is = λ y. refl; operator = refl; none = refl; yield = refl }
    by false false false false = record { form = refl; level_is = λ y. refl; operator = refl; none = refl; yield = refl }

-- a sign that is an operator
sign_operator : (x : Source) (s : Sign) (m j : ℕ) (t : Token) → nat_le m j ≡ true → class_of t ≡ cl.Sign s → sign_kind s ≡ tk.Mark →
    is_listed (operators (binary_kind m)) (sign_word s) ≡ true → level (binary_kind m) (sign_word s) ≡ m → Makes x j m (binary_at m) t
sign_operator x s m j t le e k li lv =
    let p = sign_parts t s e in
    let b = binary_is_binary m in
    operator_makes x (binary_kind m) m m j so.Left so.Right (so.Level (m + 1)) t le (record {
      form = b.form;
      level_is = ap (level (binary_kind m)) p.text ∙ lv;
      left = refl;
      right = refl;
      operator = b.operator;
      none = b.none;
      yield = b.yield;
      listed = ap (is_listed (operators (binary_kind m))) p.text ∙ li;
      alone = p.alone;
      is = p.is ∙ ap (λ z. word_token 0 z t.text) k;
    })

-- an operator that is no sign
mark_operator : (x : Source) (m j : ℕ) (t : Token) → nat_le m j ≡ true → class_of t ≡ cl.Binary m → Makes x j m (binary_at m) t
mark_operator x m j t le e =
    let p = binary_is t m e in
    let b = binary_is_binary m in
    operator_makes x (binary_kind m) m m j so.Left so.Right (so.Level (m + 1)) t le (record {
      form = b.form;
      level_is = b.level_is t.text ∙ p.level;
      left = refl;
      right = refl;
      operator = b.operator;
      none = b.none;
      yield = b.yield;
      listed = p.listed;
      alone = p.plain.alone;
      is = p.plain.is;
    })

assign_operator : (x : Source) (j : ℕ) (t : Token) → nat_le 14 j ≡ true → class_of t ≡ cl.OpAssign →
    Makes x j 1 (Uses (ch.Over ∷ ch.Take ∷ []) (of expr ∷ sy.Close ki.OpAssign ∷ [])) t
assign_operator x j t le e =
    let p = assign_is t e in
    operator_makes x ki.OpAssign 14 1 j unary expr expr t le (record {
      form = refl;
      level_is = refl;
      left = refl;
      right = refl;
      operator = refl;
      none = refl;
      yield = refl;
      listed = p.listed;
      alone = p.plain.alone;
      is = p.plain.is;
    })

-- ---- indices and slices

bracket_makes : (x : Source) (j : ℕ) (t : Token) → class_of t ≡ cl.Sign si.LeftBracket →
    Makes x j 15 (Uses (ch.Over ∷ []) (part ru.InIndex ∷ [])) t
bracket_makes x j t e a gs hs n n1 v u w gs' o q i ta at h =
    last_part x ru.InIndex (over t.place gs) h.n u w gs' h.reads a hs n n1 v t (over_here t.place a gs hs o i)
    (as_sort x (so.Level j) postfix n v (t ∷ (u ++ w)) a (level_down 15 j q) ta) at (record { class = e; place = h.place; next = h.at })

-- ---- all operators

-- where the operator is too loose or too tight nothing is used
makes_if : (x : Source) (l j m : ℕ) (r : Row) (t : Token) → (nat_le m j ≡ true → Makes x j m r t) →
    (gs : List Group) (n1 : ℕ) (u w : List Token) (gs' : List Group) → Used x (climbs l j m r) t gs n1 u w gs' →
    Means x (ru.Climb l j) gs n1 (t ∷ u) w gs'
makes_if x l j m r t f gs n1 u w gs' h = climbs_means x l j m r t (λ a gs hs n n1 v u w gs' o q. f q a gs hs n n1 v u w gs' o q) gs n1 u w
    gs' h

pub climb_means : (x : Source) (l j : ℕ) (c : Class) (t : Token) (gs : List Group) (m : ℕ) (u w : List Token) (gs' : List Group) →
    class_of t ≡ c → Used x (climb_row l j c) t gs m u w gs' → Means x (ru.Climb l j) gs m (t ∷ u) w gs'
climb_means x l j (cl.Binary b) t gs m u w gs' e h = makes_if x l j b (binary_at b) t (λ q. mark_operator x b j t q e) gs m u w gs' h
climb_means x l j cl.OpAssign t gs m u w gs' e h =
    assigns_means x l j (Uses (ch.Over ∷ ch.Take ∷ []) (of expr ∷ sy.Close ki.OpAssign ∷ [])) t (λ q. assign_operator x j t q e) gs m u w
    gs' h
climb_means x l j (cl.Sign si.Equals) t gs m u w gs' e h =
    assigns_means x l j (operand_row ki.Assign) t
    (λ q. sign_makes x ki.Assign 14 1 j unary si.Equals (pi.Kid expr ∷ []) t q e sign_assign) gs m u w gs' h
climb_means x l j (cl.Sign si.Star) t gs m u w gs' e h =
    makes_if x l j 12 (binary_at 12) t (λ q. sign_operator x si.Star 12 j t q e refl refl refl) gs m u w gs' h
climb_means x l j (cl.Sign si.Minus) t gs m u w gs' e h =
    makes_if x l j 11 (binary_at 11) t (λ q. sign_operator x si.Minus 11 j t q e refl refl refl) gs m u w gs' h
climb_means x l j (cl.Sign si.Ampersand) t gs m u w gs' e h =
    makes_if x l j 9 (binary_at 9) t (λ q. sign_operator x si.Ampersand 9 j t q e refl refl refl) gs m u w gs' h
climb_means x l j (cl.Sign si.Bar) t gs m u w gs' e h =
    makes_if x l j 7 (binary_at 7) t (λ q. sign_operator x si.Bar 7 j t q e refl refl refl) gs m u w gs' h
climb_means x l j (cl.Sign si.Colon) t gs m u w gs' e h =
    makes_if x l j 13 (operand_row ki.Cast) t
    (λ q. sign_makes x ki.Cast 13 13 j so.Left si.Colon (pi.Kid so.Type ∷ []) t q e sign_cast) gs m u w gs' h
climb_means x l j (cl.Sign si.As) t gs m u w gs' e h =
    makes_if x l j 13 (operand_row ki.As) t (λ q. sign_makes x ki.As 13 13 j so.Left si.As (pi.Kid so.Type ∷ []) t q e sign_as) gs m u w
    gs' h
climb_means x l j (cl.Sign si.Is) t gs m u w gs' e h =
    makes_if x l j 13 (operand_row ki.Is) t (λ q. sign_makes x ki.Is 13 13 j so.Left si.Is (pi.Kid so.Type ∷ []) t q e sign_is) gs m u w
    gs' h
climb_means x l j (cl.Sign si.LeftParen) t gs m u w gs' e h =
    makes_if x l j 15 (operand_row ki.Call) t
    (λ q. sign_makes x ki.Call 15 15 j postfix si.LeftParen (pi.List expr ∷ pi.Fixed si.RightParen ∷ []) t q e sign_call) gs m u w gs' h
climb_means x l j (cl.Sign si.LeftBracket) t gs m u w gs' e h =
    makes_if x l j 15 (Uses (ch.Over ∷ []) (part ru.InIndex ∷ [])) t (λ q. bracket_makes x j t e) gs m u w gs' h
climb_means x l j (cl.Sign si.Dot) t gs m u w gs' e h =
    makes_if x l j 15 (operand_row ki.Field) t
    (λ q. sign_makes x ki.Field 15 15 j postfix si.Dot (pi.Own ow.Member ∷ []) t q e sign_field) gs m u w gs' h
climb_means x l j (cl.Sign si.Question) t gs m u w gs' e h =
    makes_if x l j 15 (operand_row ki.Try) t
    (λ q. sign_makes x ki.Try 15 15 j postfix si.Question [] t q e sign_try) gs m u w gs' h
climb_means x l j (cl.Sign si.Bang) t gs m u w gs' e h =
    makes_if x l j 15 (operand_row ki.Force) t
    (λ q. sign_makes x ki.Force 15 15 j postfix si.Bang [] t q e sign_force) gs m u w gs' h
climb_means x l j (cl.Sign _) t gs m u w gs' e h = absurd h
climb_means x l j _ t gs m u w gs' e h = absurd h
