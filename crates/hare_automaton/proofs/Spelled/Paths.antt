-- Names joined by `::`: their tokens are read as their text.
use Rattle.std.proofs.Common.{◌≡◌, ℕ, List, [], ◌∷◌, ◌++◌, Bool, true, false, ◌&&◌, drop, codes, refl, ap, sym, ◌∙◌, subst, ◌⊎◌, inl, inr, append_assoc, ◌==◌, if◌then◌else◌, arith}
use Rattle.std.specs.Prelude.{slice_index}
use Rattle.std.proofs.lemmas.List.{append-nil}
use Rattle.hare_tree.specs.declared.kind.Kind.{Kind}
use Rattle.hare_tree.specs.declared.token.TokenKind.TheVariants as tk
use Rattle.hare_tree.specs.declared.token.Suffix.TheVariants as suffix
use Rattle.hare_tree.specs.declared.token.Token.{Token}
use Rattle.hare_tree.specs.declared.form.Sign.TheVariants as si
use Rattle.hare_tree.specs.Levels.{is_name}
use Rattle.hare_tree.specs.Spell.{start_of, word_token, sign_token, parts, parts_from, path_tokens}
use Rattle.hare_tree.specs.Shape.{are_names}
use Rattle.hare_automaton.specs.declared.class.Class.{Class}
use Rattle.hare_automaton.specs.declared.class.Class.TheVariants as cl
use Rattle.hare_automaton.specs.declared.rule.Rule.{Rule}
use Rattle.hare_automaton.specs.declared.rule.Rule.TheVariants as ru
use Rattle.hare_automaton.specs.declared.rule.Symbol.{Symbol}
use Rattle.hare_automaton.specs.declared.rule.Change.TheVariants as ch
use Rattle.hare_automaton.specs.Classes.{class_of}
use Rattle.hare_automaton.specs.Rows.{Skips, Uses, part, has_sign}
use Rattle.hare_automaton.specs.Table.{row}
use Rattle.hare_automaton.specs.Engine.{Group, close, run}
use Rattle.hare_automaton.proofs.Machine.Steps.{front, run_uses, run_ends}
use Rattle.hare_automaton.proofs.Machine.Tokens.{class_name, class_path_name}

-- both tests hold
pub split : (a b : Bool) → (a && b) ≡ true → (a ≡ true) × (b ≡ true)
split true b e = (refl, e)
split false b e = cc

-- ---- the text of a path

-- `::` and a name for each of these
abbrev pub further : List (List ℕ) → List ℕ
further [] = []
further (q ∷ qs) = 58 ∷ 58 ∷ (q ++ further qs)

abbrev pub glued : List (List ℕ) → List ℕ
glued [] = []
glued (p ∷ ps) = p ++ further ps

-- there is always a part
pub further_glued : (taken : Bool) (part s : List ℕ) → further (parts_from taken part s) ≡ 58 ∷ 58 ∷ glued (parts_from taken part s)
further_glued taken part [] = refl
further_glued true part (c ∷ s) = further_glued false part s
further_glued false part (c ∷ s) = by (c == 58 && slice_index s 0 == 58) (further_glued false (part ++ c ∷ []) s)
  where
    by : (b : Bool) → further (parts_from false (part ++ c ∷ []) s) ≡ 58 ∷ 58 ∷ glued (parts_from false (part ++ c ∷ []) s) →
        further (if b then part ∷ parts_from true [] s else parts_from false (part ++ c ∷ []) s) ≡
        58 ∷ 58 ∷ glued (if b then part ∷ parts_from true [] s else parts_from false (part ++ c ∷ []) s)
    by true e = refl
    by false e = e

-- two colons in front
pub colons : (c : ℕ) (s : List ℕ) → (c == 58 && slice_index s 0 == 58) ≡ true → c ∷ s ≡ 58 ∷ 58 ∷ drop 1 s
colons c [] e = grind (arith, e)
colons c (d ∷ s) e =
    let a : c ≡ 58 = grind (arith, e) in
    let b : d ≡ 58 = grind (arith, e) in
    rw (a, b) refl

-- the parts of a text make it up
pub parts_glued : (taken : Bool) (part s : List ℕ) → glued (parts_from taken part s) ≡ part ++ (if taken then drop 1 s else s)
parts_glued true part [] = refl
parts_glued false part [] = refl
parts_glued true part (c ∷ s) = parts_glued false part s
parts_glued false part (c ∷ s) = by (c == 58 && slice_index s 0 == 58) refl (parts_glued true [] s) (parts_glued false (part ++ c ∷ []) s)
  where
    by : (b : Bool) → (c == 58 && slice_index s 0 == 58) ≡ b → glued (parts_from true [] s) ≡ drop 1 s →
        glued (parts_from false (part ++ c ∷ []) s) ≡ (part ++ c ∷ []) ++ s →
        glued (if b then part ∷ parts_from true [] s else parts_from false (part ++ c ∷ []) s) ≡ part ++ c ∷ s
    by true e p q = ap (λ l. part ++ l) (further_glued true [] s ∙ ap (λ l. 58 ∷ 58 ∷ l) p ∙ sym (colons c s e))
    by false e p q = q ∙ append_assoc part (c ∷ []) s

pub record Some (x : List ℕ) : Type 0 where
  pub first : List ℕ
  pub others : List (List ℕ)
  pub is : parts x ≡ first ∷ others
  pub text : x ≡ first ++ further others

pub parts_some : (x : List ℕ) → Some x
parts_some x = by (parts x) refl (further_glued false [] x) (parts_glued false [] x)
  where
    by : (ps : List (List ℕ)) → parts x ≡ ps → further ps ≡ 58 ∷ 58 ∷ glued ps → glued ps ≡ x → Some x
    by [] e p q = cc
    by (q ∷ qs) e p r = record { first = q; others = qs; is = e; text = sym r }

-- ---- reading a path

abbrev pub further_tokens : ℕ → List (List ℕ) → List Token
further_tokens f [] = []
further_tokens f (q ∷ qs) = sign_token f si.PathMark ∷ word_token f tk.Name q ∷ further_tokens f qs

pub path_split : (f : ℕ) (p : List ℕ) (ps : List (List ℕ)) → path_tokens f (p ∷ ps) ≡ word_token f tk.Name p ∷ further_tokens f ps
path_split f p [] = refl
path_split f p (q ∷ qs) = ap (λ l. word_token f tk.Name p ∷ sign_token f si.PathMark ∷ l) (path_split f q qs)

-- the group with this put behind its text
abbrev pub joined_by : List ℕ → Group → Group
joined_by x g = record { place = g.place; text = g.text ++ x; number = g.number; suffix = g.suffix; kids = g.kids }

no_mark_skips : (k : Kind) (c : Class) → has_sign si.PathMark c ≡ false → row (ru.PathRest k) c ≡ Skips (ch.Close k ∷ [])
no_mark_skips k (cl.Sign si.PathMark) e = cc
no_mark_skips k (cl.Sign _) e = refl
no_mark_skips k _ e = refl

joined_nothing : (g : Group) → joined_by [] g ≡ g
joined_nothing g = ap (λ x. record { place = g.place; text = x; number = g.number; suffix = g.suffix; kids = g.kids }) (append-nil g.text)

joined_more : (g : Group) (x y z : List ℕ) → joined_by z (joined_by y (joined_by x g)) ≡ joined_by (x ++ (y ++ z)) g
joined_more g x y z = ap (λ l. record { place = g.place; text = l; number = g.number; suffix = g.suffix; kids = g.kids })
    (append_assoc (g.text ++ x) y z ∙ append_assoc g.text x (y ++ z))

pub read_further : (f : ℕ) (k : Kind) (qs : List (List ℕ)) → are_names true qs ≡ true →
    (w : List Token) (st : List Symbol) (g : Group) (gs : List Group) → has_sign si.PathMark (front w) ≡ false →
    run f (further_tokens f qs ++ w) (part (ru.PathRest k) ∷ st) (g ∷ gs) ≡ run f w st (close k (joined_by (further qs) g ∷ gs))
read_further f k [] h w st g gs e =
    run_ends f w (ru.PathRest k) k st (g ∷ gs) (no_mark_skips k (front w) e) ∙ ap (λ x. run f w st (close k (x ∷ gs)))
    (sym (joined_nothing g))
read_further f k (q ∷ qs) h w st g gs e =
    let p = split (is_name true q) (are_names true qs) h in
    run_uses f (sign_token f si.PathMark) _ (ru.PathRest k) st (g ∷ gs) (ch.Join ∷ []) (part ru.PathName ∷ part (ru.PathRest k) ∷ []) refl
    ∙ run_uses f (word_token f tk.Name q) _ ru.PathName _ _ (ch.Join ∷ []) [] (takes (class_path_name f q p.0))
    ∙ read_further f k qs p.1 w st _ gs e
    ∙ ap (λ x. run f w st (close k (x ∷ gs))) (joined_more g (codes "::") q (further qs))
  where
    takes : (class_of (word_token f tk.Name q) ≡ cl.Name) ⊎ (class_of (word_token f tk.Name q) ≡ cl.PathWord) →
        row ru.PathName (class_of (word_token f tk.Name q)) ≡ Uses (ch.Join ∷ []) []
    takes (inl i) = rw i refl
    takes (inr i) = rw i refl

-- a tree with this text under way
abbrev pub texted : ℕ → List ℕ → Group
texted f x = record { place = start_of f; text = x; number = 0; suffix = suffix.None; kids = [] }

-- a rule that begins a path at a name
pub read_path : (f : ℕ) (n : Rule) (k : Kind) (ss : List Symbol) (x : List ℕ) → are_names false (parts x) ≡ true →
    row n cl.Name ≡ Uses (ch.Open ∷ ch.Take ∷ []) (part (ru.PathRest k) ∷ ss) → (w : List Token) (st : List Symbol) (gs : List Group) →
    has_sign si.PathMark (front w) ≡ false →
    run f (path_tokens f (parts x) ++ w) (part n ∷ st) gs ≡ run f w (ss ++ st) (close k (texted f x ∷ gs))
read_path f n k ss x h r w st gs e =
    let v = parts_some x in
    let names : are_names false (v.first ∷ v.others) ≡ true = subst (λ ps. are_names false ps ≡ true) v.is h in
    let p = split (is_name false v.first) (are_names true v.others) names in
    let r' : row n (class_of (word_token f tk.Name v.first)) ≡ Uses (ch.Open ∷ ch.Take ∷ []) (part (ru.PathRest k) ∷ ss) =
    rw (class_name f v.first p.0) r in
    rw (v.is, path_split f v.first v.others)
    (run_uses f (word_token f tk.Name v.first) _ n st gs _ _ r'
    ∙ read_further f k v.others p.1 w (ss ++ st) (texted f v.first) gs e
    ∙ ap (λ l. run f w (ss ++ st) (close k (texted f l ∷ gs))) (sym v.text))
