-- Which expressions begin with the `:` of a label: what a `yield` asks of its value.
use Rattle.std.proofs.Common.{◌≡◌, ℕ, zero, suc, ◌≤◌, List, [], ◌∷◌, ◌++◌, Bool, true, false, not, codes, refl, ap, sym, ◌∙◌, subst, arith, if◌then◌else◌}
use Rattle.std.specs.Prelude.{nat_le}
use Rattle.hare_tree.specs.declared.kind.Kind.{Kind}
use Rattle.hare_tree.specs.declared.kind.Kind.TheVariants as ki
use Rattle.hare_tree.specs.declared.token.TokenKind.TheVariants as tk
use Rattle.hare_tree.specs.declared.token.Token.{Token}
use Rattle.hare_tree.specs.declared.form.Sign.TheVariants as si
use Rattle.hare_tree.specs.declared.form.Own.TheVariants as ow
use Rattle.hare_tree.specs.declared.form.Sort.{Sort}
use Rattle.hare_tree.specs.declared.form.Sort.TheVariants as so
use Rattle.hare_tree.specs.declared.form.Piece.{Piece}
use Rattle.hare_tree.specs.declared.form.Piece.TheVariants as pi
use Rattle.hare_tree.specs.Node.{Node, Nodes, branch, none, more, size_of, sizes_of}
use Rattle.hare_tree.specs.Words.{is_listed}
use Rattle.hare_tree.specs.Forms.{form_of}
use Rattle.hare_tree.specs.Levels.{is_name, level, operator_level, operators, sort_in}
use Rattle.hare_tree.specs.Spell.{word_token, sign_token, full_token, label_tokens, parts, path_tokens, pieces_tokens, spell, spells}
use Rattle.hare_tree.specs.Shape.{is_shaped, are_kids, is_own, is_empty, has_text_alone, are_names, kid_pieces, own_of, begins_labelled, first_labelled, form_begins_labelled}
use Rattle.hare_automaton.specs.declared.class.Class.{Class}
use Rattle.hare_automaton.specs.declared.class.Class.TheVariants as cl
use Rattle.hare_automaton.specs.declared.rule.Symbol.{Symbol}
use Rattle.hare_automaton.specs.declared.rule.Change.{Change}
use Rattle.hare_automaton.specs.Classes.{class_of}
use Rattle.hare_automaton.specs.Rows.{Uses, has_sign}
use Rattle.hare_automaton.specs.DeclarationRows.{of_row}
use Rattle.hare_automaton.proofs.Machine.Tokens.{class_sign, class_name, class_number}
use Rattle.hare_automaton.proofs.Spelled.Paths.{split, path_split, further_tokens, parts_some}
use Rattle.hare_automaton.proofs.Machine.Edges.{le_true, true_le, ReadsTo}
use Rattle.hare_automaton.proofs.Spelled.Kids.{begins}
use Rattle.hare_automaton.proofs.Spelled.Nodes.{whole}
use Rattle.hare_automaton.proofs.Spelled.Leaves.{class_rune, class_text, class_bool}

-- the sorts of the first kids of expressions
abbrev starts_sort : Sort → Bool
starts_sort (so.Level l) = nat_le 1 l
starts_sort so.TypePath = true
starts_sort _ = false

-- the first pieces of the forms of expressions; the number is the level of the tree
abbrev starts : ℕ → List Piece → Bool
starts m (pi.Fixed d ∷ ps) = not (has_sign si.Colon (cl.Sign d))
starts m (pi.Own ow.Label ∷ pi.Fixed si.LeftBrace ∷ ps) = true
starts m (pi.Own ow.Path ∷ ps) = true
starts m (pi.Own ow.Bool ∷ ps) = true
starts m (pi.Own ow.Number ∷ ps) = true
starts m (pi.Own ow.Rune ∷ ps) = true
starts m (pi.Own ow.Text ∷ ps) = true
starts m (pi.Kid s ∷ ps) = starts_sort (sort_in m s)
starts m _ = false

operator_one : (x : List ℕ) → nat_le 1 (operator_level x) ≡ true
operator_one x = by (is_listed (codes "*" ∷ codes "/" ∷ codes "%" ∷ []) x) (is_listed (codes "+" ∷ codes "-" ∷ []) x)
    (is_listed (operators ki.Shift) x) (is_listed (codes "&" ∷ []) x) (is_listed (codes "^" ∷ []) x) (is_listed (codes "|" ∷ []) x)
    (is_listed (operators ki.Less) x) (is_listed (operators ki.Equal) x) (is_listed (codes "&&" ∷ []) x) (is_listed (codes "^^" ∷ []) x)
  where
    by : (a b c d e f g h i j : Bool) → nat_le 1
        (if a then 12 else if b then 11 else if c then 10 else if d then 9 else if e then 8 else if f then 7 else if g then 6 else if h then
        5 else if i then 4 else if j then 3 else 2) ≡ true
    by true b c d e f g h i j = refl
    by false true c d e f g h i j = refl
    by false false true d e f g h i j = refl
    by false false false true e f g h i j = refl
    by false false false false true f g h i j = refl
    by false false false false false true g h i j = refl
    by false false false false false false true h i j = refl
    by false false false false false false false true i j = refl
    by false false false false false false false false true j = refl
    by false false false false false false false false false true = refl
    by false false false false false false false false false false = refl

expr_starts : (k : Kind) (x : List ℕ) → nat_le 1 (level k x) ≡ true → starts (level k x) (form_of k) ≡ true
expr_starts ki.Arith x e = operator_one x
expr_starts ki.Shift x e = operator_one x
expr_starts ki.Less x e = operator_one x
expr_starts ki.Equal x e = operator_one x
expr_starts ki.Logic x e = operator_one x
expr_starts _ x e = cc

same_head : (a b : Token) (u v : List Token) → a ∷ u ≡ b ∷ v → a ≡ b
same_head a b u v e = ap (first a) e
  where
    first : Token → List Token → Token
    first a [] = a
    first a (x ∷ xs) = x

not_false : (b : Bool) → not b ≡ true → b ≡ false
not_false false e = refl
not_false true e = cc

path_class : (c : Class) (cs : List Change) (ss : List Symbol) → of_row so.TypePath c ≡ Uses cs ss → c ≡ cl.Name
path_class cl.Name cs ss e = refl
path_class _ cs ss e = cc

-- a tree whose first token is a `:` begins with a label, up to a size
abbrev pub Labels : ℕ → ℕ → ℕ → Type 0
Labels f n m = (l : ℕ) (t : Node) → size_of t ≤ m → size_of t ≤ n → nat_le 1 l ≡ true → is_shaped (so.Level l) t ≡ true →
    (x : Token) (u : List Token) → spell f t ≡ x ∷ u → class_of x ≡ cl.Sign si.Colon → begins_labelled t ≡ true

pub first_colon : (f n : ℕ) → ReadsTo f n → (m : ℕ) → Labels f n m
unfolding spell is_shaped begins_labelled
first_colon f n ih zero l (branch h ts) z z' c e x u i o = absurd (omega (arith, z))
first_colon f n ih (suc m) l (branch h ts) z z' c e x u i o =
    let p = whole (so.Level l) h ts e in
    by (first_colon f n ih m) (form_of h.kind) (expr_starts h.kind h.text (up l (level h.kind h.text) c p.admitted)) p.own p.kids i
  where
    up : (l j : ℕ) → nat_le 1 l ≡ true → nat_le l j ≡ true → nat_le 1 j ≡ true
    up l j a b = let x = true_le 1 l a in let y = true_le l j b in le_true 1 j (omega (arith, x, y))

    other : (c : Class) (ps : List Piece) → class_of x ≡ c → has_sign si.Colon c ≡ false →
        form_begins_labelled h ps (first_labelled ts) ≡ true
    other c ps a b =
        let d : c ≡ cl.Sign si.Colon = sym a ∙ o in
        let v : has_sign si.Colon (cl.Sign si.Colon) ≡ false = subst (λ y. has_sign si.Colon y ≡ false) d b in
        cc

    token : (a : Token) (v : List Token) → a ∷ v ≡ x ∷ u → class_of x ≡ class_of a
    token a v e = ap class_of (sym (same_head a x v u e))

    label : (y : List ℕ) (v : List Token) → label_tokens f y ++ (sign_token f si.LeftBrace ∷ v) ≡ x ∷ u → not (is_empty y) ≡ true
    label [] v e =
        let d : cl.Sign si.LeftBrace ≡ cl.Sign si.Colon = sym (token (sign_token f si.LeftBrace) v e ∙ class_sign f si.LeftBrace) ∙ o in
        cc
    label (c ∷ y) v e = refl

    kid : Labels f n m → (r : Sort) (t : Node) → size_of t ≤ m → size_of t ≤ n → starts_sort r ≡ true → is_shaped r t ≡ true →
        (v : List Token) → (spell f t ++ []) ++ v ≡ x ∷ u → begins_labelled t ≡ true
    kid again (so.Level a) t y y' q e' v j =
        let b = begins f n ih (so.Level a) t y' q e' in
        let w : class_of x ≡ class_of b.head = token b.head ((b.tail ++ []) ++ v) (ap (λ k. (k ++ []) ++ v) (sym b.is) ∙ j) in
        again a t y y' q e' b.head b.tail b.is (sym w ∙ o)
    kid again so.TypePath t y y' q e' v j =
        let b = begins f n ih so.TypePath t y' refl e' in
        let w : class_of x ≡ class_of b.head = token b.head ((b.tail ++ []) ++ v) (ap (λ k. (k ++ []) ++ v) (sym b.is) ∙ j) in
        let d : cl.Name ≡ cl.Sign si.Colon = sym (w ∙ path_class (class_of b.head) b.changes b.symbols b.uses) ∙ o in
        cc
    kid again _ t y y' q e' v j = cc

    by : Labels f n m → (ps : List Piece) → starts (level h.kind h.text) ps ≡ true → is_own (own_of ps) h ≡ true →
        are_kids (level h.kind h.text) (kid_pieces ps) ts ≡ true → pieces_tokens f h ps (spells f ts) ≡ x ∷ u →
        form_begins_labelled h ps (first_labelled ts) ≡ true
    by again [] a q k j = cc
    by again (pi.Fixed d ∷ ps) a q k j = other (cl.Sign d) (pi.Fixed d ∷ ps)
        (token (sign_token f d) (pieces_tokens f h ps (spells f ts)) j ∙ class_sign f d) (not_false (has_sign si.Colon (cl.Sign d)) a)
    by again (pi.Own ow.Label ∷ pi.Fixed si.LeftBrace ∷ ps) a q k j = label h.text (pieces_tokens f h ps (spells f ts)) j
    by again (pi.Own ow.Path ∷ ps) a q k j =
        let v = parts_some h.text in
        let own = split (are_names false (parts h.text)) (has_text_alone h) q in
        let names : are_names false (v.first ∷ v.others) ≡ true = subst (λ y. are_names false y ≡ true) v.is own.0 in
        let p = split (is_name false v.first) (are_names true v.others) names in
        let j' : (word_token f tk.Name v.first ∷ further_tokens f v.others) ++ pieces_tokens f h ps (spells f ts) ≡ x ∷ u =
        ap (λ y. y ++ pieces_tokens f h ps (spells f ts)) (sym (ap (path_tokens f) v.is ∙ path_split f v.first v.others)) ∙ j in
        other cl.Name (pi.Own ow.Path ∷ ps) (token (word_token f tk.Name v.first)
        (further_tokens f v.others ++ pieces_tokens f h ps (spells f ts)) j' ∙ class_name f v.first p.0) refl
    by again (pi.Own ow.Bool ∷ ps) a q k j =
        let own = split (is_listed (codes "true" ∷ codes "false" ∷ []) h.text) (has_text_alone h) q in
        other cl.Bool (pi.Own ow.Bool ∷ ps) (token (word_token f tk.Keyword h.text) (pieces_tokens f h ps (spells f ts)) j ∙ class_bool
        h.text own.0) refl
    by again (pi.Own ow.Number ∷ ps) a q k j =
        other cl.Number (pi.Own ow.Number ∷ ps)
        (token (full_token f tk.Number h) (pieces_tokens f h ps (spells f ts)) j ∙ class_number f h q) refl
    by again (pi.Own ow.Rune ∷ ps) a q k j =
        other cl.Rune (pi.Own ow.Rune ∷ ps) (token (full_token f tk.RuneLit h) (pieces_tokens f h ps (spells f ts)) j ∙ class_rune f h q)
        refl
    by again (pi.Own ow.Text ∷ ps) a q k j =
        other cl.Text (pi.Own ow.Text ∷ ps) (token (word_token f tk.Str h.text) (pieces_tokens f h ps (spells f ts)) j ∙ class_text f
        h.text) refl
    by again (pi.Kid s ∷ ps) a q k j = first again ts z z' k j
      where
        first : Labels f n m → (us : Nodes) → suc (sizes_of us) ≤ suc m → suc (sizes_of us) ≤ n →
            are_kids (level h.kind h.text) (pi.Kid s ∷ kid_pieces ps) us ≡ true → pieces_tokens f h (pi.Kid s ∷ ps) (spells f us) ≡ x ∷ u →
            first_labelled us ≡ true
        first again none y y' k j = cc
        first again (more t us) y y' k j =
            let g = split (is_shaped (sort_in (level h.kind h.text) s) t) (are_kids (level h.kind h.text) (kid_pieces ps) us) k in
            kid again (sort_in (level h.kind h.text) s) t (omega (arith, y)) (omega (arith, y')) a g.0 (pieces_tokens f h ps (spells f us))
            j
    by again _ a q k j = cc
