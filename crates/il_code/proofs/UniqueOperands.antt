-- The tokens of operands and operations are those of one alone.
use Rattle.std.proofs.Common.{◌≡◌, ℕ, List, [], ◌∷◌, ◌++◌, Option, None, Some, Bool, true, false, cond, refl, sym, ap, ◌∙◌, inl, inr, codes, eqb, bytes_eq}
use Rattle.std.proofs.lemmas.Bool.Decides.{Decides-eqb}
use Rattle.hx_base.specs.declared.Class.{Class}
use Rattle.hx_base.specs.declared.Class.TheVariants.{W, L}
use Rattle.il_code.specs.declared.op.IlOp.{IlOp}
use Rattle.il_code.specs.declared.op.IlOp.TheVariants as op
use Rattle.il_code.specs.declared.types.IlParam.{IlParam}
use Rattle.il_code.specs.declared.types.PhiArg.{PhiArg}
use Rattle.il_code.specs.declared.types.IlValue.{IlValue}
use Rattle.il_code.specs.declared.types.IlValue.TheVariants.{Number, Temp, Symbol}
use Rattle.il_code.specs.declared.types.IlArg.{IlArg}
use Rattle.il_code.specs.Words.{op_word}
use Rattle.il_code.specs.Tokens.{IlToken, Word, TempName, SymbolName, LabelName, Numeral, Quoted, Mark}
use Rattle.il_code.specs.Grammar.{Pattern, never, token, word, both, equals, Fits, class_pattern, value_pattern, target_pattern, param_pattern, arg_pattern, phi_arg_pattern, op_pattern}
use Rattle.il_code.proofs.Unique.{Unique, any, begins, begins-first, by_reader, seen_as, then, begun, weaker}
use Rattle.il_code.proofs.UniqueCommas.{Listed, is_word, at_end}

-- ---- single tokens

abbrev temp_in : List IlToken → Option (List ℕ × List IlToken)
temp_in (TempName t ∷ ts) = Some (t, ts)
temp_in ts = None

abbrev symbol_in : List IlToken → Option (List ℕ × List IlToken)
symbol_in (SymbolName t ∷ ts) = Some (t, ts)
symbol_in ts = None

abbrev label_in : List IlToken → Option (List ℕ × List IlToken)
label_in (LabelName t ∷ ts) = Some (t, ts)
label_in ts = None

abbrev numeral_in : List IlToken → Option (ℕ × List IlToken)
numeral_in (Numeral n ∷ ts) = Some (n, ts)
numeral_in ts = None

abbrev quoted_in : List IlToken → Option (List ℕ × List IlToken)
quoted_in (Quoted s ∷ ts) = Some (s, ts)
quoted_in ts = None

pub unique_temp : Unique (List ℕ) (λ t. token (TempName t)) any
unique_temp = by_reader _ any temp_in (λ x a r h k. ap (λ z. temp_in (z ++ r)) h)

pub unique_symbol : Unique (List ℕ) (λ t. token (SymbolName t)) any
unique_symbol = by_reader _ any symbol_in (λ x a r h k. ap (λ z. symbol_in (z ++ r)) h)

pub unique_label : Unique (List ℕ) (λ t. token (LabelName t)) any
unique_label = by_reader _ any label_in (λ x a r h k. ap (λ z. label_in (z ++ r)) h)

pub unique_numeral : Unique ℕ (λ n. token (Numeral n)) any
unique_numeral = by_reader _ any numeral_in (λ x a r h k. ap (λ z. numeral_in (z ++ r)) h)

pub unique_quoted : Unique (List ℕ) (λ s. token (Quoted s)) any
unique_quoted = by_reader _ any quoted_in (λ x a r h k. ap (λ z. quoted_in (z ++ r)) h)

-- ---- words

-- what the word in front stands for
abbrev paired : {A : Type 0} → Option A → List IlToken → Option (A × List IlToken)
paired None ts = None
paired (Some x) ts = Some (x, ts)

abbrev word_in : {A : Type 0} → (List ℕ → Option A) → List IlToken → Option (A × List IlToken)
word_in code (Word w ∷ ts) = paired (code w) ts
word_in code ts = None

-- the tokens are a word that stands for it
abbrev pub IsWordFor : {A : Type 0} → (List ℕ → Option A) → A → List IlToken → Type 0
IsWordFor code x a = (w : List ℕ) × (a ≡ Word w ∷ []) × (code w ≡ Some x)

pub by_word : {A : Type 0} (P : A → Pattern) (code : List ℕ → Option A) → ((x : A) (a : List IlToken) → Fits (P x) a → IsWordFor code x a) →
    Unique A P any
by_word P code h = by_reader P any (word_in code)
    (λ x a r f k. let w = h x a f in ap (λ z. word_in code (z ++ r)) w.1 ∙ ap (λ z. paired z r) w.2)

abbrev class_of : List ℕ → Option Class
class_of w = cond (bytes_eq w (codes "w")) (Some W) (cond (bytes_eq w (codes "l")) (Some L) None)

class_word : (c : Class) (a : List IlToken) → Fits (class_pattern c) a → IsWordFor class_of c a
class_word W a h = (codes "w", h, refl)
class_word L a h = (codes "l", h, refl)

pub unique_class : Unique Class class_pattern any
unique_class = by_word class_pattern class_of class_word

-- ---- operations

-- `loadw` apart
abbrev ops : List IlOp
ops = op.Neg ∷ op.Copy ∷ op.Alloc4 ∷ op.Alloc8 ∷ op.Alloc16 ∷ op.Extsb ∷ op.Extub ∷ op.Extsh ∷ op.Extuh ∷ op.Extsw ∷ op.Extuw ∷ op.Loadsb ∷
    op.Loadub ∷ op.Loadsh ∷ op.Loaduh ∷ op.Loadsw ∷ op.Loaduw ∷ op.Loadl ∷ op.Add ∷ op.Sub ∷ op.Mul ∷ op.Div ∷ op.Rem ∷ op.Udiv ∷ op.Urem ∷
    op.And ∷ op.Or ∷ op.Xor ∷ op.Shl ∷ op.Shr ∷ op.Sar ∷ op.Ceqw ∷ op.Ceql ∷ op.Cnew ∷ op.Cnel ∷ op.Cslew ∷ op.Cslel ∷ op.Csltw ∷ op.Csltl ∷
    op.Csgew ∷ op.Csgel ∷ op.Csgtw ∷ op.Csgtl ∷ op.Culew ∷ op.Culel ∷ op.Cultw ∷ op.Cultl ∷ op.Cugew ∷ op.Cugel ∷ op.Cugtw ∷ op.Cugtl ∷ []

abbrev named_op : List IlOp → List ℕ → Option IlOp
named_op [] w = None
named_op (o ∷ os) w = cond (bytes_eq (op_word o) w) (Some o) (named_op os w)

abbrev pub op_of : List ℕ → Option IlOp
op_of w = cond (bytes_eq w (codes "loadw")) (Some op.Loadsw) (named_op ops w)

pub op_is : (o : IlOp) (a : List IlToken) → Fits (op_pattern o) a → IsWordFor op_of o a
op_is op.Neg a h = (op_word op.Neg, h, refl)
op_is op.Copy a h = (op_word op.Copy, h, refl)
op_is op.Alloc4 a h = (op_word op.Alloc4, h, refl)
op_is op.Alloc8 a h = (op_word op.Alloc8, h, refl)
op_is op.Alloc16 a h = (op_word op.Alloc16, h, refl)
op_is op.Extsb a h = (op_word op.Extsb, h, refl)
op_is op.Extub a h = (op_word op.Extub, h, refl)
op_is op.Extsh a h = (op_word op.Extsh, h, refl)
op_is op.Extuh a h = (op_word op.Extuh, h, refl)
op_is op.Extsw a h = (op_word op.Extsw, h, refl)
op_is op.Extuw a h = (op_word op.Extuw, h, refl)
op_is op.Loadsb a h = (op_word op.Loadsb, h, refl)
op_is op.Loadub a h = (op_word op.Loadub, h, refl)
op_is op.Loadsh a h = (op_word op.Loadsh, h, refl)
op_is op.Loaduh a h = (op_word op.Loaduh, h, refl)
op_is op.Loadsw a (inl h) = (codes "loadsw", h, refl)
op_is op.Loadsw a (inr h) = (codes "loadw", h, refl)
op_is op.Loaduw a h = (op_word op.Loaduw, h, refl)
op_is op.Loadl a h = (op_word op.Loadl, h, refl)
op_is op.Add a h = (op_word op.Add, h, refl)
op_is op.Sub a h = (op_word op.Sub, h, refl)
op_is op.Mul a h = (op_word op.Mul, h, refl)
op_is op.Div a h = (op_word op.Div, h, refl)
op_is op.Rem a h = (op_word op.Rem, h, refl)
op_is op.Udiv a h = (op_word op.Udiv, h, refl)
op_is op.Urem a h = (op_word op.Urem, h, refl)
op_is op.And a h = (op_word op.And, h, refl)
op_is op.Or a h = (op_word op.Or, h, refl)
op_is op.Xor a h = (op_word op.Xor, h, refl)
op_is op.Shl a h = (op_word op.Shl, h, refl)
op_is op.Shr a h = (op_word op.Shr, h, refl)
op_is op.Sar a h = (op_word op.Sar, h, refl)
op_is op.Ceqw a h = (op_word op.Ceqw, h, refl)
op_is op.Ceql a h = (op_word op.Ceql, h, refl)
op_is op.Cnew a h = (op_word op.Cnew, h, refl)
op_is op.Cnel a h = (op_word op.Cnel, h, refl)
op_is op.Cslew a h = (op_word op.Cslew, h, refl)
op_is op.Cslel a h = (op_word op.Cslel, h, refl)
op_is op.Csltw a h = (op_word op.Csltw, h, refl)
op_is op.Csltl a h = (op_word op.Csltl, h, refl)
op_is op.Csgew a h = (op_word op.Csgew, h, refl)
op_is op.Csgel a h = (op_word op.Csgel, h, refl)
op_is op.Csgtw a h = (op_word op.Csgtw, h, refl)
op_is op.Csgtl a h = (op_word op.Csgtl, h, refl)
op_is op.Culew a h = (op_word op.Culew, h, refl)
op_is op.Culel a h = (op_word op.Culel, h, refl)
op_is op.Cultw a h = (op_word op.Cultw, h, refl)
op_is op.Cultl a h = (op_word op.Cultl, h, refl)
op_is op.Cugew a h = (op_word op.Cugew, h, refl)
op_is op.Cugel a h = (op_word op.Cugel, h, refl)
op_is op.Cugtw a h = (op_word op.Cugtw, h, refl)
op_is op.Cugtl a h = (op_word op.Cugtl, h, refl)

pub unique_op : Unique IlOp op_pattern any
unique_op = by_word op_pattern op_of op_is

-- ---- operands

abbrev value_in : List IlToken → Option (IlValue × List IlToken)
value_in (Numeral n ∷ ts) = Some (Number n, ts)
value_in (TempName t ∷ ts) = Some (Temp t, ts)
value_in (SymbolName s ∷ ts) = Some (Symbol s, ts)
value_in ts = None

value_read : (v : IlValue) (a r : List IlToken) → Fits (value_pattern v) a → any r ≡ true → value_in (a ++ r) ≡ Some (v, r)
value_read (Number n) a r h k = ap (λ z. value_in (z ++ r)) h
value_read (Temp t) a r h k = ap (λ z. value_in (z ++ r)) h
value_read (Symbol s) a r h k = ap (λ z. value_in (z ++ r)) h

pub unique_value : Unique IlValue value_pattern any
unique_value = by_reader value_pattern any value_in value_read

pub unique_target : Unique (List ℕ × Class) (λ z. target_pattern z.0 z.1) any
unique_target = then (λ _ c. both equals (class_pattern c)) any unique_temp (λ _. begun (Mark 61) unique_class) (λ x y b r h k. refl)

pub unique_param : Unique IlParam param_pattern any
unique_param = seen_as param_pattern (λ p. (p.class, p.name)) (λ z. record { name = z.1; class = z.0 }) (λ y b h. (h, refl))
    (then (λ _ t. token (TempName t)) any unique_class (λ _. unique_temp) (λ x y b r h k. refl))

pub unique_arg : Unique IlArg arg_pattern any
unique_arg = seen_as arg_pattern (λ p. (p.class, p.value)) (λ z. record { class = z.0; value = z.1 }) (λ y b h. (h, refl))
    (then (λ _ v. value_pattern v) any unique_class (λ _. unique_value) (λ x y b r h k. refl))

pub unique_phi_arg : Unique PhiArg phi_arg_pattern any
unique_phi_arg = seen_as phi_arg_pattern (λ p. (p.label, p.value)) (λ z. record { label = z.0; value = z.1 }) (λ y b h. (h, refl))
    (then (λ _ v. value_pattern v) any unique_label (λ _. unique_value) (λ x y b r h k. refl))

class_opens : (c : Class) (q : Pattern) (b r : List IlToken) → Fits (both (class_pattern c) q) b → begins is_word (b ++ r) ≡ true
class_opens W q b r h = begins-first is_word (Word (codes "w")) q b r refl h
class_opens L q b r h = begins-first is_word (Word (codes "l")) q b r refl h

pub params_listed : Listed IlParam param_pattern
params_listed = record {
  one = weaker at_end (λ r h. refl) unique_param;
  opens = λ p a r h. class_opens p.class (token (TempName p.name)) a
      r h;
}

pub args_listed : Listed IlArg arg_pattern
args_listed = record { one = weaker at_end (λ r h. refl) unique_arg; opens = λ p a r h. class_opens p.class (value_pattern p.value) a r h }

-- ---- words for widths

-- one of four words, by a width in bytes
abbrev pub by_width : (p q r s : List ℕ) → ℕ → Pattern
by_width p q r s n = cond (eqb n 1) (word p) (cond (eqb n 2) (word q) (cond (eqb n 4) (word r) (cond (eqb n 8) (word s) never)))

-- the width that a word stands for
abbrev pub width_in : (p q r s : List ℕ) → List ℕ → Option ℕ
width_in p q r s w = cond (bytes_eq w p) (Some 1)
    (cond (bytes_eq w q) (Some 2) (cond (bytes_eq w r) (Some 4) (cond (bytes_eq w s) (Some 8) None)))

by_width_cases : (code : List ℕ → Option ℕ) (p q r s : List ℕ) → code p ≡ Some 1 → code q ≡ Some 2 → code r ≡ Some 4 → code s ≡ Some 8 →
    (n : ℕ) (one two four eight : Bool) → eqb n 1 ≡ one → eqb n 2 ≡ two → eqb n 4 ≡ four → eqb n 8 ≡ eight → (a : List IlToken) →
    Fits (cond one (word p) (cond two (word q) (cond four (word r) (cond eight (word s) never)))) a → IsWordFor code n a
by_width_cases code p q r s hp hq hr hs n true two four eight e1 e2 e4 e8 a h = (p, h, hp ∙ ap Some (sym ((Decides-eqb n 1).0 e1)))
by_width_cases code p q r s hp hq hr hs n false true four eight e1 e2 e4 e8 a h = (q, h, hq ∙ ap Some (sym ((Decides-eqb n 2).0 e2)))
by_width_cases code p q r s hp hq hr hs n false false true eight e1 e2 e4 e8 a h = (r, h, hr ∙ ap Some (sym ((Decides-eqb n 4).0 e4)))
by_width_cases code p q r s hp hq hr hs n false false false true e1 e2 e4 e8 a h = (s, h, hs ∙ ap Some (sym ((Decides-eqb n 8).0 e8)))
by_width_cases code p q r s hp hq hr hs n false false false false e1 e2 e4 e8 a h = absurd h

pub by_width_is : (p q r s : List ℕ) → width_in p q r s p ≡ Some 1 → width_in p q r s q ≡ Some 2 → width_in p q r s r ≡ Some 4 →
    width_in p q r s s ≡ Some 8 → (n : ℕ) (a : List IlToken) → Fits (by_width p q r s n) a → IsWordFor (width_in p q r s) n a
by_width_is p q r s hp hq hr hs n a h = by_width_cases (width_in p q r s) p q r s hp hq hr hs n (eqb n 1) (eqb n 2) (eqb n 4) (eqb n 8) refl
    refl refl refl a h
