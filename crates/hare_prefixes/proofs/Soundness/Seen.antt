-- What a token is, by its class: the tokens that trees are spelled by are those of all classes but Junk.
use Rattle.std.proofs.Common.{◌≡◌, ℕ, List, [], ◌∷◌, Bool, true, false, codes, refl, ap, sym, ◌∙◌, subst, if◌then◌else◌}
use Rattle.hare_tree.specs.declared.token.TokenKind.{TokenKind}
use Rattle.hare_tree.specs.declared.token.TokenKind.TheVariants as tk
use Rattle.hare_tree.specs.declared.token.Token.{Token}
use Rattle.hare_tree.specs.declared.kind.Kind.TheVariants as ki
use Rattle.hare_tree.specs.declared.form.Sign.{Sign}
use Rattle.hare_tree.specs.declared.form.Own.TheVariants as ow
use Rattle.hare_tree.specs.Words.{is_listed}
use Rattle.hare_tree.specs.Signs.{sign_word, sign_kind}
use Rattle.hare_tree.specs.Levels.{operators, operator_level, is_name}
use Rattle.hare_tree.specs.Spell.{word_token, sign_token, full_token}
use Rattle.hare_tree.specs.Shape.{is_own, has_text_alone, scalars}
use Rattle.hare_tree.specs.Grammar.{unplaced}
use Rattle.hare_automaton.specs.declared.class.Class.{Class}
use Rattle.hare_automaton.specs.declared.class.Class.TheVariants as cl
use Rattle.hare_automaton.specs.Classes.{keyword_signs, mark_signs, sign_or, is_binary, word_class, operator_class, name_class, head_of, class_in, class_of}
use Rattle.hare_automaton.specs.ExpressionRows.{binary_kind}
use Rattle.hare_automaton.proofs.Machine.Tokens.{of_listed}
use Rattle.hare_automaton.proofs.Spelled.Lists.{alone}
use Rattle.hare_prefixes.proofs.Soundness.TokenKinds.{seen_may, is_junk, is_sign_class, when_is, sign_or_other, sign_or_sign}

-- ---- what a token is

-- a token of this kind that says no more than its text
pub record Plain (k : TokenKind) (t : Token) : Type 0 where
  pub is : unplaced t ≡ word_token 0 k t.text
  pub alone : has_text_alone (head_of t) ≡ true

plain_token : (k : TokenKind) (t : Token) → t.kind ≡ k → has_text_alone (head_of t) ≡ true → Plain k t
plain_token k t i e = let a = alone (head_of t) e in record { is = rw (i, a.number, a.suffix) refl; alone = e }

abbrev is_keyword_kind : TokenKind → Bool
is_keyword_kind tk.Keyword = true
is_keyword_kind _ = false

abbrev is_mark_kind : TokenKind → Bool
is_mark_kind tk.Mark = true
is_mark_kind _ = false

keyword_kind : (k : TokenKind) → is_keyword_kind k ≡ true → k ≡ tk.Keyword
keyword_kind tk.Keyword e = refl
keyword_kind _ e = cc

mark_kind : (k : TokenKind) → is_mark_kind k ≡ true → k ≡ tk.Mark
mark_kind tk.Mark e = refl
mark_kind _ e = cc

word_no_sign : (x : List ℕ) → is_sign_class (word_class x) ≡ false
word_no_sign x = by (is_listed scalars x) (is_listed (codes "true" ∷ codes "false" ∷ []) x)
  where
    by : (b d : Bool) → is_sign_class (if b then cl.Scalar else if d then cl.Bool else cl.Junk) ≡ false
    by true d = refl
    by false true = refl
    by false false = refl

operator_no_sign : (x : List ℕ) → is_sign_class (operator_class x) ≡ false
operator_no_sign x = by (is_binary x) (is_listed (operators ki.OpAssign) x)
  where
    by : (b d : Bool) → is_sign_class (if b then cl.Binary (operator_level x) else if d then cl.OpAssign else cl.Junk) ≡ false
    by true d = refl
    by false true = refl
    by false false = refl

-- a sign
pub sign_is : (t : Token) (s : Sign) → class_of t ≡ cl.Sign s → unplaced t ≡ sign_token 0 s
sign_is t s e = by t.kind refl
  where
    sign_from : (k : TokenKind) → t.kind ≡ k → has_text_alone (head_of t) ≡ true → sign_kind s ≡ k → sign_word s ≡ t.text →
        unplaced t ≡ sign_token 0 s
    sign_from k i a j x = let p = plain_token k t i a in p.is ∙ (rw (j, x) refl)

    by : (k : TokenKind) → t.kind ≡ k → unplaced t ≡ sign_token 0 s
    by tk.Keyword i =
        let c : class_in tk.Keyword (head_of t) ≡ cl.Sign s = ap (λ y. class_in y (head_of t)) (sym i) ∙ e in
        let w = when_is (has_text_alone (head_of t)) (sign_or (word_class t.text) keyword_signs t.text) (cl.Sign s) refl c in
        let p = sign_or_sign (λ r. is_keyword_kind (sign_kind r)) (word_class t.text) keyword_signs t.text s refl (word_no_sign t.text)
        w.1 in
        sign_from tk.Keyword i w.0 (keyword_kind (sign_kind s) p.0) p.1
    by tk.Mark i =
        let c : class_in tk.Mark (head_of t) ≡ cl.Sign s = ap (λ y. class_in y (head_of t)) (sym i) ∙ e in
        let w = when_is (has_text_alone (head_of t)) (sign_or (operator_class t.text) mark_signs t.text) (cl.Sign s) refl c in
        let p = sign_or_sign (λ r. is_mark_kind (sign_kind r)) (operator_class t.text) mark_signs t.text s refl (operator_no_sign t.text)
        w.1 in
        sign_from tk.Mark i w.0 (mark_kind (sign_kind s) p.0) p.1
    by k i = let m = seen_may t k (cl.Sign s) i e in cc

pub record Named (b : Bool) (t : Token) : Type 0 where
  pub plain : Plain tk.Name t
  pub name : is_name b t.text ≡ true

-- a name
pub name_is : (t : Token) → class_of t ≡ cl.Name → Named false t
name_is t e = by t.kind refl
  where
    named : (b : Bool) → is_name false t.text ≡ b → (d : Bool) → (if b then cl.Name else if d then cl.PathWord else cl.Junk) ≡ cl.Name →
        is_name false t.text ≡ true
    named true i d e = i
    named false i true e = cc
    named false i false e = cc

    by : (k : TokenKind) → t.kind ≡ k → Named false t
    by tk.Name i =
        let c : class_in tk.Name (head_of t) ≡ cl.Name = ap (λ y. class_in y (head_of t)) (sym i) ∙ e in
        let w = when_is (has_text_alone (head_of t)) (name_class t.text) cl.Name refl c in
        record { plain = plain_token tk.Name t i w.0; name = named (is_name false t.text) refl (is_name true t.text) w.1 }
    by k i = let m = seen_may t k cl.Name i e in cc

-- a word that is a name behind `::` alone
pub path_word_is : (t : Token) → class_of t ≡ cl.PathWord → Named true t
path_word_is t e = by t.kind refl
  where
    named : (b d : Bool) → is_name true t.text ≡ d → (if b then cl.Name else if d then cl.PathWord else cl.Junk) ≡ cl.PathWord →
        is_name true t.text ≡ true
    named true d i e = cc
    named false true i e = i
    named false false i e = cc

    by : (k : TokenKind) → t.kind ≡ k → Named true t
    by tk.Name i =
        let c : class_in tk.Name (head_of t) ≡ cl.PathWord = ap (λ y. class_in y (head_of t)) (sym i) ∙ e in
        let w = when_is (has_text_alone (head_of t)) (name_class t.text) cl.PathWord refl c in
        record { plain = plain_token tk.Name t i w.0; name = named (is_name false t.text) (is_name true t.text) refl w.1 }
    by k i = let m = seen_may t k cl.PathWord i e in cc

-- a number, a rune, a string
pub number_is : (t : Token) → class_of t ≡ cl.Number → (unplaced t ≡ full_token 0 tk.Number (head_of t)) ×
    (is_own ow.Number (head_of t) ≡ true)
number_is t e = by t.kind refl
  where
    by : (k : TokenKind) → t.kind ≡ k → (unplaced t ≡ full_token 0 tk.Number (head_of t)) × (is_own ow.Number (head_of t) ≡ true)
    by tk.Number i =
        let c : class_in tk.Number (head_of t) ≡ cl.Number = ap (λ y. class_in y (head_of t)) (sym i) ∙ e in
        (rw i refl, (when_is (is_own ow.Number (head_of t)) cl.Number cl.Number refl c).0)
    by k i = let m = seen_may t k cl.Number i e in cc

pub rune_is : (t : Token) → class_of t ≡ cl.Rune → (unplaced t ≡ full_token 0 tk.RuneLit (head_of t)) × (is_own ow.Rune (head_of t) ≡ true)
rune_is t e = by t.kind refl
  where
    by : (k : TokenKind) → t.kind ≡ k → (unplaced t ≡ full_token 0 tk.RuneLit (head_of t)) × (is_own ow.Rune (head_of t) ≡ true)
    by tk.RuneLit i =
        let c : class_in tk.RuneLit (head_of t) ≡ cl.Rune = ap (λ y. class_in y (head_of t)) (sym i) ∙ e in
        (rw i refl, (when_is (is_own ow.Rune (head_of t)) cl.Rune cl.Rune refl c).0)
    by k i = let m = seen_may t k cl.Rune i e in cc

pub text_is : (t : Token) → class_of t ≡ cl.Text → Plain tk.Str t
text_is t e = by t.kind refl
  where
    by : (k : TokenKind) → t.kind ≡ k → Plain tk.Str t
    by tk.Str i =
        let c : class_in tk.Str (head_of t) ≡ cl.Text = ap (λ y. class_in y (head_of t)) (sym i) ∙ e in
        plain_token tk.Str t i (when_is (is_own ow.Text (head_of t)) cl.Text cl.Text refl c).0
    by k i = let m = seen_may t k cl.Text i e in cc

-- a token whose text is one of a list
pub record Listed (k : TokenKind) (ws : List (List ℕ)) (t : Token) : Type 0 where
  pub plain : Plain k t
  pub listed : is_listed ws t.text ≡ true

-- what a keyword that is no sign is
word_is : (t : Token) (c : Class) → is_sign_class c ≡ false → is_junk c ≡ false → t.kind ≡ tk.Keyword → class_of t ≡ c →
    (has_text_alone (head_of t) ≡ true) × (word_class t.text ≡ c)
word_is t c n j i e =
    let d : class_in tk.Keyword (head_of t) ≡ c = ap (λ y. class_in y (head_of t)) (sym i) ∙ e in
    let w = when_is (has_text_alone (head_of t)) (sign_or (word_class t.text) keyword_signs t.text) c j d in
    (w.0, sign_or_other (word_class t.text) keyword_signs t.text c n w.1)

pub scalar_is : (t : Token) → class_of t ≡ cl.Scalar → Listed tk.Keyword scalars t
scalar_is t e = by t.kind refl
  where
    which : (b : Bool) → is_listed scalars t.text ≡ b → (d : Bool) → (if b then cl.Scalar else if d then cl.Bool else cl.Junk) ≡ cl.Scalar →
        is_listed scalars t.text ≡ true
    which true i d e = i
    which false i true e = cc
    which false i false e = cc

    by : (k : TokenKind) → t.kind ≡ k → Listed tk.Keyword scalars t
    by tk.Keyword i =
        let w = word_is t cl.Scalar refl refl i e in
        record {
          plain = plain_token tk.Keyword t i w.0;
          listed = which (is_listed scalars t.text) refl
              (is_listed (codes "true" ∷ codes "false" ∷ []) t.text) w.1;
        }
    by k i = let m = seen_may t k cl.Scalar i e in cc

pub bool_is : (t : Token) → class_of t ≡ cl.Bool → Listed tk.Keyword (codes "true" ∷ codes "false" ∷ []) t
bool_is t e = by t.kind refl
  where
    which : (b d : Bool) → is_listed (codes "true" ∷ codes "false" ∷ []) t.text ≡ d →
        (if b then cl.Scalar else if d then cl.Bool else cl.Junk) ≡ cl.Bool → is_listed (codes "true" ∷ codes "false" ∷ []) t.text ≡ true
    which true d i e = cc
    which false true i e = i
    which false false i e = cc

    by : (k : TokenKind) → t.kind ≡ k → Listed tk.Keyword (codes "true" ∷ codes "false" ∷ []) t
    by tk.Keyword i =
        let w = word_is t cl.Bool refl refl i e in
        record {
          plain = plain_token tk.Keyword t i w.0;
          listed = which (is_listed scalars t.text)
              (is_listed (codes "true" ∷ codes "false" ∷ []) t.text) refl w.1;
        }
    by k i = let m = seen_may t k cl.Bool i e in cc

-- what a mark that is no sign is
mark_is : (t : Token) (c : Class) → is_sign_class c ≡ false → is_junk c ≡ false → t.kind ≡ tk.Mark → class_of t ≡ c →
    (has_text_alone (head_of t) ≡ true) × (operator_class t.text ≡ c)
mark_is t c n j i e =
    let d : class_in tk.Mark (head_of t) ≡ c = ap (λ y. class_in y (head_of t)) (sym i) ∙ e in
    let w = when_is (has_text_alone (head_of t)) (sign_or (operator_class t.text) mark_signs t.text) c j d in
    (w.0, sign_or_other (operator_class t.text) mark_signs t.text c n w.1)

pub assign_is : (t : Token) → class_of t ≡ cl.OpAssign → Listed tk.Mark (operators ki.OpAssign) t
assign_is t e = by t.kind refl
  where
    which : (b d : Bool) → is_listed (operators ki.OpAssign) t.text ≡ d →
        (if b then cl.Binary (operator_level t.text) else if d then cl.OpAssign else cl.Junk) ≡ cl.OpAssign →
        is_listed (operators ki.OpAssign) t.text ≡ true
    which true d i e = cc
    which false true i e = i
    which false false i e = cc

    by : (k : TokenKind) → t.kind ≡ k → Listed tk.Mark (operators ki.OpAssign) t
    by tk.Mark i =
        let w = mark_is t cl.OpAssign refl refl i e in
        record {
          plain = plain_token tk.Mark t i w.0;
          listed = which (is_binary t.text) (is_listed (operators ki.OpAssign) t.text) refl
              w.1;
        }
    by k i = let m = seen_may t k cl.OpAssign i e in cc

-- ---- binary operators

-- the word is an operator of the kind that its level has
abbrev InKind : List ℕ → Type 0
InKind x = is_listed (operators (binary_kind (operator_level x))) x ≡ true

in_kind : (x : List ℕ) → is_binary x ≡ true → InKind x
in_kind x e = by (is_listed (operators ki.Arith) x) refl (is_listed (operators ki.Shift) x) refl (is_listed (operators ki.Less) x) refl
    (is_listed (operators ki.Equal) x) refl e
  where
    by : (a : Bool) → is_listed (operators ki.Arith) x ≡ a → (b : Bool) → is_listed (operators ki.Shift) x ≡ b → (c : Bool) →
        is_listed (operators ki.Less) x ≡ c → (d : Bool) → is_listed (operators ki.Equal) x ≡ d →
        (if a then true else if b then true else if c then true else if d then true else is_listed (operators ki.Logic) x) ≡ true → InKind x
    by true i b j c k d l e = of_listed InKind (operators ki.Arith) x i (refl, (refl, (refl, (refl, (refl, (refl, (refl, (refl, tt))))))))
    by false i true j c k d l e = of_listed InKind (operators ki.Shift) x j (refl, (refl, tt))
    by false i false j true k d l e = of_listed InKind (operators ki.Less) x k (refl, (refl, (refl, (refl, tt))))
    by false i false j false k true l e = of_listed InKind (operators ki.Equal) x l (refl, (refl, tt))
    by false i false j false k false l e = of_listed InKind (operators ki.Logic) x e (refl, (refl, (refl, tt)))

-- an operator that is no sign, with its level
pub record Operator (m : ℕ) (t : Token) : Type 0 where
  pub plain : Plain tk.Mark t
  pub level : operator_level t.text ≡ m
  pub listed : is_listed (operators (binary_kind m)) t.text ≡ true

pub binary_is : (t : Token) (m : ℕ) → class_of t ≡ cl.Binary m → Operator m t
binary_is t m e = by t.kind refl
  where
    which : (b : Bool) → is_binary t.text ≡ b → (d : Bool) →
        (if b then cl.Binary (operator_level t.text) else if d then cl.OpAssign else cl.Junk) ≡ cl.Binary m → (is_binary t.text ≡ true) ×
        (operator_level t.text ≡ m)
    which true i d e = (i, cc)
    which false i true e = cc
    which false i false e = cc

    by : (k : TokenKind) → t.kind ≡ k → Operator m t
    by tk.Mark i =
        let w = mark_is t (cl.Binary m) refl refl i e in
        let v = which (is_binary t.text) refl (is_listed (operators ki.OpAssign) t.text) w.1 in
        record {
          plain = plain_token tk.Mark t i w.0;
          level = v.1;
          listed = subst (λ y. is_listed (operators (binary_kind y)) t.text ≡ true)
              v.1 (in_kind t.text v.0);
        }
    by k i = let n = seen_may t k (cl.Binary m) i e in cc
