-- Which classes a kind of token has, and the parts that a class is made from.
use Rattle.std.proofs.Common.{◌≡◌, ℕ, List, [], ◌∷◌, Bool, true, false, ◌&&◌, codes, refl, ap, sym, ◌∙◌, subst, if◌then◌else◌}
use Rattle.std.specs.Prelude.{bytes_eq}
use Rattle.std.specs.List.{list_all}
use Rattle.std.proofs.lemmas.Slice.Eq.{bytes_eq-Decides}
use Rattle.hare_tree.specs.declared.token.TokenKind.{TokenKind}
use Rattle.hare_tree.specs.declared.token.TokenKind.TheVariants as tk
use Rattle.hare_tree.specs.declared.token.Token.{Token}
use Rattle.hare_tree.specs.declared.kind.Kind.TheVariants as ki
use Rattle.hare_tree.specs.declared.form.Sign.{Sign}
use Rattle.hare_tree.specs.declared.form.Own.TheVariants as ow
use Rattle.hare_tree.specs.Node.{Head}
use Rattle.hare_tree.specs.Words.{is_listed}
use Rattle.hare_tree.specs.Signs.{sign_word}
use Rattle.hare_tree.specs.Levels.{operators, operator_level, is_name}
use Rattle.hare_tree.specs.Shape.{is_own, has_text_alone, scalars}
use Rattle.hare_tree.specs.Grammar.{unplaced}
use Rattle.hare_automaton.specs.declared.class.Class.{Class}
use Rattle.hare_automaton.specs.declared.class.Class.TheVariants as cl
use Rattle.hare_automaton.specs.Classes.{keyword_signs, mark_signs, sign_or, is_binary, word_class, operator_class, name_class, when, head_of, class_in, class_of}

-- ---- which classes a kind of token has

abbrev may_be : TokenKind → Class → Bool
may_be tk.Name cl.Name = true
may_be tk.Name cl.PathWord = true
may_be tk.Keyword (cl.Sign s) = true
may_be tk.Keyword cl.Scalar = true
may_be tk.Keyword cl.Bool = true
may_be tk.Number cl.Number = true
may_be tk.Str cl.Text = true
may_be tk.RuneLit cl.Rune = true
may_be tk.Mark (cl.Sign s) = true
may_be tk.Mark (cl.Binary m) = true
may_be tk.Mark cl.OpAssign = true
may_be _ cl.Junk = true
may_be _ _ = false

junk_may : (k : TokenKind) → may_be k cl.Junk ≡ true
junk_may tk.Name = refl
junk_may _ = refl

when_may : (k : TokenKind) (b : Bool) (c : Class) → may_be k c ≡ true → may_be k (when b c) ≡ true
when_may k true c e = e
when_may k false c e = junk_may k

sign_or_may : (k : TokenKind) (other : Class) (ss : List Sign) (x : List ℕ) → ((s : Sign) → may_be k (cl.Sign s) ≡ true) →
    may_be k other ≡ true → may_be k (sign_or other ss x) ≡ true
sign_or_may k other [] x f e = e
sign_or_may k other (s ∷ ss) x f e = by (bytes_eq (sign_word s) x) (sign_or_may k other ss x f e)
  where
    by : (b : Bool) → may_be k (sign_or other ss x) ≡ true → may_be k (if b then cl.Sign s else sign_or other ss x) ≡ true
    by true r = f s
    by false r = r

name_may : (x : List ℕ) → may_be tk.Name (name_class x) ≡ true
name_may x = by (is_name false x) (is_name true x)
  where
    by : (b d : Bool) → may_be tk.Name (if b then cl.Name else if d then cl.PathWord else cl.Junk) ≡ true
    by true d = refl
    by false true = refl
    by false false = refl

word_may : (x : List ℕ) → may_be tk.Keyword (word_class x) ≡ true
word_may x = by (is_listed scalars x) (is_listed (codes "true" ∷ codes "false" ∷ []) x)
  where
    by : (b d : Bool) → may_be tk.Keyword (if b then cl.Scalar else if d then cl.Bool else cl.Junk) ≡ true
    by true d = refl
    by false true = refl
    by false false = refl

operator_may : (x : List ℕ) → may_be tk.Mark (operator_class x) ≡ true
operator_may x = by (is_binary x) (is_listed (operators ki.OpAssign) x)
  where
    by : (b d : Bool) → may_be tk.Mark (if b then cl.Binary (operator_level x) else if d then cl.OpAssign else cl.Junk) ≡ true
    by true d = refl
    by false true = refl
    by false false = refl

may : (k : TokenKind) (h : Head) → may_be k (class_in k h) ≡ true
may tk.Name h = when_may tk.Name (has_text_alone h) (name_class h.text) (name_may h.text)
may tk.Keyword h = when_may tk.Keyword (has_text_alone h) (sign_or (word_class h.text) keyword_signs h.text)
    (sign_or_may tk.Keyword (word_class h.text) keyword_signs h.text (λ s. refl) (word_may h.text))
may tk.Number h = when_may tk.Number (is_own ow.Number h) cl.Number refl
may tk.Str h = when_may tk.Str (is_own ow.Text h) cl.Text refl
may tk.RuneLit h = when_may tk.RuneLit (is_own ow.Rune h) cl.Rune refl
may tk.Mark h = when_may tk.Mark (has_text_alone h) (sign_or (operator_class h.text) mark_signs h.text)
    (sign_or_may tk.Mark (operator_class h.text) mark_signs h.text (λ s. refl) (operator_may h.text))
may tk.End h = refl

-- the kind of a token with this class
pub seen_may : (t : Token) (k : TokenKind) (c : Class) → t.kind ≡ k → class_of t ≡ c → may_be k c ≡ true
seen_may t k c i e = subst (λ y. may_be k y ≡ true) (ap (λ y. class_in y (head_of t)) (sym i) ∙ e) (may k (head_of t))

-- the class says nothing of the place
pub class_unplaced : (t : Token) → class_of (unplaced t) ≡ class_of t
class_unplaced t = by t.kind
  where
    by : (k : TokenKind) → class_in k (head_of (unplaced t)) ≡ class_in k (head_of t)
    by tk.Name = refl
    by _ = refl

-- ---- parts of a class

abbrev pub is_junk : Class → Bool
is_junk cl.Junk = true
is_junk _ = false

abbrev pub is_sign_class : Class → Bool
is_sign_class (cl.Sign s) = true
is_sign_class _ = false

pub when_is : (b : Bool) (c d : Class) → is_junk d ≡ false → when b c ≡ d → (b ≡ true) × (c ≡ d)
when_is true c d j e = (refl, e)
when_is false c d j e = let x : is_junk d ≡ true = ap is_junk (sym e) in cc

-- a class that is no sign is the other one
pub sign_or_other : (other : Class) (ss : List Sign) (x : List ℕ) (c : Class) → is_sign_class c ≡ false → sign_or other ss x ≡ c → other ≡ c
sign_or_other other [] x c n e = e
sign_or_other other (s ∷ ss) x c n e = by (bytes_eq (sign_word s) x) e (λ q. sign_or_other other ss x c n q)
  where
    by : (b : Bool) → (if b then cl.Sign s else sign_or other ss x) ≡ c → (sign_or other ss x ≡ c → other ≡ c) → other ≡ c
    by true e f = let y : is_sign_class c ≡ true = ap is_sign_class (sym e) in cc
    by false e f = f e

-- a sign is one of the list, and is spelled so
pub sign_or_sign : (p : Sign → Bool) (other : Class) (ss : List Sign) (x : List ℕ) (s : Sign) → list_all p ss ≡ true →
    is_sign_class other ≡ false → sign_or other ss x ≡ cl.Sign s → (p s ≡ true) × (sign_word s ≡ x)
sign_or_sign p other [] x s a n e = let y : is_sign_class other ≡ true = ap is_sign_class e in cc
sign_or_sign p other (r ∷ ss) x s a n e = by (bytes_eq (sign_word r) x) refl (p r) refl a e (λ b q. sign_or_sign p other ss x s b n q)
  where
    by : (b : Bool) → bytes_eq (sign_word r) x ≡ b → (d : Bool) → p r ≡ d → (d && list_all p ss) ≡ true →
        (if b then cl.Sign r else sign_or other ss x) ≡ cl.Sign s →
        (list_all p ss ≡ true → sign_or other ss x ≡ cl.Sign s → (p s ≡ true) × (sign_word s ≡ x)) → (p s ≡ true) × (sign_word s ≡ x)
    by b i false j a e f = cc
    by true i true j a e f =
        let y : r ≡ s = cc in
        (ap p (sym y) ∙ j, ap sign_word (sym y) ∙ (bytes_eq-Decides (sign_word r) x).0 i)
    by false i true j a e f = f a e
