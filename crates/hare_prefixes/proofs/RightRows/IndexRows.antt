-- Each row behind the bracket of an index is right.
use Rattle.std.proofs.Common.{◌≡◌, ℕ, ◌+◌, List, [], ◌∷◌, ◌++◌, length, refl, ap, sym, ◌∙◌, subst, arith, append_assoc}
use Rattle.hare_tree.specs.declared.kind.Kind.TheVariants as ki
use Rattle.hare_tree.specs.declared.token.Token.{Token}
use Rattle.hare_tree.specs.declared.form.Sign.TheVariants as si
use Rattle.hare_tree.specs.declared.form.Sort.TheVariants as so
use Rattle.hare_tree.specs.declared.form.Piece.{Piece}
use Rattle.hare_tree.specs.declared.form.Piece.TheVariants as pi
use Rattle.hare_tree.specs.Node.{Node}
use Rattle.hare_tree.specs.Forms.{expr, postfix}
use Rattle.hare_automaton.specs.declared.class.Class.{Class}
use Rattle.hare_automaton.specs.declared.class.Class.TheVariants as cl
use Rattle.hare_automaton.specs.declared.rule.Rule.TheVariants as ru
use Rattle.hare_automaton.specs.declared.rule.Symbol.TheVariants as sy
use Rattle.hare_automaton.specs.Classes.{class_of}
use Rattle.hare_automaton.specs.Rows.{part, symbols, rest_of}
use Rattle.hare_automaton.specs.ExpressionRows.{level_row, after_value_row, in_index_row, after_index_row}
use Rattle.hare_automaton.specs.Engine.{Group, begun, add}
use Rattle.hare_prefixes.proofs.Soundness.Trees.{Source, IsTree, Tree, Begun}
use Rattle.hare_prefixes.proofs.Soundness.Means.{absent, present, Means}
use Rattle.hare_prefixes.proofs.Soundness.Stacks.{Reads, last_part, Goes, Used}
use Rattle.hare_prefixes.proofs.Soundness.Kids.{nothing}
use Rattle.hare_prefixes.proofs.Soundness.Forms.{form_tree, behind_operand}
use Rattle.hare_prefixes.proofs.RightRows.TypeRows.{unit, wants, inside_form}
use Rattle.hare_prefixes.proofs.RightRows.StartRows.{level_means}

-- ---- behind `(` and a value

pub after_value_means : (x : Source) (c : Class) (t1 : Token) (gs : List Group) (m : ℕ) (u w : List Token) (gs' : List Group) →
    class_of t1 ≡ c → Used x (after_value_row c) t1 gs m u w gs' → Means x ru.AfterValue gs m (t1 ∷ u) w gs'
after_value_means x (cl.Sign si.RightParen) t1 gs m u w gs' e h t n n' hs a v i b q at =
    let h' : Goes x (sy.Close ki.Paren ∷ []) gs t1 m u w gs' = record { n = h.n; place = h.place; at = h.at; reads = h.reads } in
    form_tree x (so.Level 16) ki.Paren hs n (t ∷ (v ++ (t1 ∷ u))) w gs' refl (λ y. refl)
    (inside_form x ki.Paren si.LeftParen expr si.RightParen [] hs t t1 n n' m a v u w gs gs' refl
    (record { none = refl; operator = refl; yield = refl }) (refl, tt) i (record { begun = b; is = q; at = at; class = e }) h')
after_value_means x (cl.Sign si.Comma) t1 gs m u w gs' e h t n n' hs a v i b q at =
    form_tree x (so.Level 16) ki.Tuple hs n (t ∷ (v ++ (t1 ∷ u))) w gs' refl (λ y. refl)
    (inside_form x ki.Tuple si.LeftParen expr si.Comma (pi.Kid expr ∷ pi.More expr ∷ pi.Fixed si.RightParen ∷ []) hs t t1 n n' m a v u w
    gs gs' refl (record { none = refl; operator = refl; yield = refl }) (refl, (refl, (refl, tt))) i
    (record { begun = b; is = q; at = at; class = e }) h)
after_value_means x (cl.Sign _) t1 gs m u w gs' e h t n n' hs a v i b q at = absurd h
after_value_means x _ t1 gs m u w gs' e h t n n' hs a v i b q at = absurd h

-- ---- behind `[`

abbrev slice_pieces : List Piece
slice_pieces = pi.Optional expr ∷ pi.Fixed si.DotDot ∷ pi.Optional expr ∷ pi.Fixed si.RightBracket ∷ []

slice_tree : (x : Source) (hs : List Group) (a : Node) (t : Token) (n n1 m : ℕ) (v u w : List Token) (gs' : List Group) →
    IsTree x postfix n v (t ∷ (u ++ w)) a → n1 ≡ n + length v → Begun x si.LeftBracket t n1 m →
    Reads x (symbols slice_pieces ++ sy.Close ki.Slice ∷ []) (begun t.place (a ∷ []) ∷ hs) m u w gs' →
    Tree x postfix hs n (v ++ (t ∷ u)) w gs'
slice_tree x hs a t n n1 m v u w gs' q at b r =
    form_tree x postfix ki.Slice hs n (v ++ (t ∷ u)) w gs' refl (λ y. refl)
    (behind_operand x ki.Slice postfix postfix si.LeftBracket slice_pieces hs a t n n1 m v u w gs'
    (record { form = refl; operand = λ y. refl; operator = refl; yield = refl; simple = (refl, (refl, tt)) })
    (record { is = q; at = at }) b r)

pub in_index_means : (x : Source) (c : Class) (t1 : Token) (gs : List Group) (m : ℕ) (u w : List Token) (gs' : List Group) →
    class_of t1 ≡ c → Used x (in_index_row c) t1 gs m u w gs' → Means x ru.InIndex gs m (t1 ∷ u) w gs'
in_index_means x (cl.Sign si.DotDot) t1 gs m u w gs' e h a hs n n1 v t i q at b =
    let r : Reads x (symbols slice_pieces ++ sy.Close ki.Slice ∷ []) gs m (t1 ∷ u) w gs' =
    record {
      v = [];
      v' = t1 ∷ u;
      n = m;
      hs = add (nothing x) gs;
      is = refl;
      at = omega arith;
      part = λ o. absent refl refl;
      rest =
          wants x si.DotDot (rest_of 4 ki.Slice) t1 (add (nothing x) gs) m u w gs' e h;
    } in
    slice_tree x hs a t n n1 m v (t1 ∷ u) w gs' q at b
    (subst (λ z. Reads x (symbols slice_pieces ++ sy.Close ki.Slice ∷ []) z m (t1 ∷ u) w gs') i r)
in_index_means x c t1 gs m u w gs' e h a hs n n1 v t i q at b =
    let p = unit x (level_row 1) expr (level_means x 1) (part ru.AfterIndex ∷ []) c t1 gs m u w gs' e h in
    let k = p.part (record { g = begun t.place (a ∷ []); hs = hs; is = i }) in
    let fr : (t1 ∷ u) ++ w ≡ p.v ++ (p.v' ++ w) = ap (λ l. l ++ w) p.is ∙ append_assoc p.v p.v' w in
    let r = last_part x ru.AfterIndex p.hs p.n p.v' w gs' p.rest a hs n n1 m v t k.t p.v (k.adds ∙ ap (add k.t) i)
    (subst (λ l. IsTree x postfix n v (t ∷ l) a) fr q) at b k.is p.at in
    subst (λ l. Tree x postfix hs n (v ++ (t ∷ l)) w gs') (sym p.is) r

pub after_index_means : (x : Source) (c : Class) (t1 : Token) (gs : List Group) (m : ℕ) (u w : List Token) (gs' : List Group) →
    class_of t1 ≡ c → Used x (after_index_row c) t1 gs m u w gs' → Means x ru.AfterIndex gs m (t1 ∷ u) w gs'
after_index_means x (cl.Sign si.RightBracket) t1 gs m u w gs' e h a hs n n1 n2 v t b v' i q at k r at' =
    let h' : Goes x (sy.Close ki.Index ∷ []) gs t1 m u w gs' = record { n = h.n; place = h.place; at = h.at; reads = h.reads } in
    let rest = subst (λ z. Reads x (sy.Want si.RightBracket ∷ sy.Close ki.Index ∷ []) z m (t1 ∷ u) w gs') i
    (wants x si.RightBracket (sy.Close ki.Index ∷ []) t1 gs m u w gs' e h') in
    form_tree x postfix ki.Index hs n (v ++ (t ∷ (v' ++ (t1 ∷ u)))) w gs' refl (λ y. refl)
    (behind_operand x ki.Index postfix postfix si.LeftBracket (pi.Kid expr ∷ pi.Fixed si.RightBracket ∷ []) hs a t n n1 n2 v
    (v' ++ (t1 ∷ u)) w gs' (record { form = refl; operand = λ y. refl; operator = refl; yield = refl; simple = (refl, tt) })
    (record { is = subst (λ l. IsTree x postfix n v (t ∷ l) a) (sym (append_assoc v' (t1 ∷ u) w)) q; at = at }) k
    (record {
      v = v';
      v' = t1 ∷ u;
      n = m;
      hs = begun t.place (a ∷ b ∷ []) ∷ hs;
      is = refl;
      at = at';
      part = λ o.
          record { t = b; is = r; adds = refl };
      rest = rest;
    }))
after_index_means x (cl.Sign si.DotDot) t1 gs m u w gs' e h a hs n n1 n2 v t b v' i q at k r at' =
    let rest = subst (λ z. Reads x (sy.Want si.DotDot ∷ rest_of 4 ki.Slice) z m (t1 ∷ u) w gs') i
    (wants x si.DotDot (rest_of 4 ki.Slice) t1 gs m u w gs' e h) in
    slice_tree x hs a t n n1 n2 v (v' ++ (t1 ∷ u)) w gs' (subst (λ l. IsTree x postfix n v (t ∷ l) a) (sym (append_assoc v' (t1 ∷ u) w)) q)
    at k
    (record {
      v = v';
      v' = t1 ∷ u;
      n = m;
      hs = begun t.place (a ∷ b ∷ []) ∷ hs;
      is = refl;
      at = at';
      part = λ o. present
          (record { t = b; is = r; adds = refl });
      rest = rest;
    })
after_index_means x (cl.Sign _) t1 gs m u w gs' e h a hs n n1 n2 v t b v' i q at k r at' = absurd h
after_index_means x _ t1 gs m u w gs' e h a hs n n1 n2 v t b v' i q at k r at' = absurd h
