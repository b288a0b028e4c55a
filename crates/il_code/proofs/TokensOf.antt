-- The printed text has the tokens that are printed: tokens, operands and lists.
use Rattle.std.proofs.Common.{◌≡◌, ℕ, ◌<◌, ◌^◌, List, [], ◌∷◌, ◌++◌, Bool, true, false, refl, sym, ap, inl, subst, append_assoc, length, codes, decimal, arith, map, slice_index, eqb}
use Rattle.std.specs.List.{list_all, flat_map}
use Rattle.std.specs.Char.{is_ascii_digit}
use Rattle.std.specs.Str.{all_ascii_digits}
use Rattle.std.specs.Str.Parse.{digits_value}
use Rattle.std.proofs.lemmas.Bool.{and_parts, false≢true}
use Rattle.std.proofs.lemmas.Bool.Decides.{nat_tests}
use Rattle.std.proofs.lemmas.Grind.{common_steps}
use Rattle.std.proofs.lemmas.Fmt.{decimal_nonempty, digits_decimal, digits_value-decimal}
use Rattle.std.proofs.lemmas.Str.Parse.{IsNumeralModel, numerals_by_value, tells_all_ascii_digits}
use Rattle.hx_base.specs.declared.Class.{Class}
use Rattle.hx_base.specs.declared.Class.TheVariants.{W, L}
use Rattle.il_code.specs.declared.op.IlOp.{IlOp}
use Rattle.il_code.specs.declared.op.IlOp.TheVariants as op
use Rattle.il_code.specs.declared.types.IlParam.{IlParam}
use Rattle.il_code.specs.declared.types.IlValue.{IlValue}
use Rattle.il_code.specs.declared.types.IlValue.TheVariants.{Number, Temp, Symbol}
use Rattle.il_code.specs.declared.types.IlArg.{IlArg}
use Rattle.il_code.specs.Words.{op_word}
use Rattle.il_code.specs.Print.{class_text, value_text, target_text, param_text, arg_text, behind_commas, with_commas}
use Rattle.il_code.specs.Tokens.{IlToken, Word, TempName, SymbolName, LabelName, Numeral, Quoted, Mark, LineEnd, is_digit_byte, is_name_byte, is_identifier, is_blank, is_mark, is_string_byte, behind_gap, Tokens}
use Rattle.il_code.specs.Grammar.{Pattern, row, behind_comma, listed, commas, class_pattern, value_pattern, target_pattern, param_pattern, arg_pattern, op_pattern}
use Rattle.il_code.specs.Shaped.{is_bits, is_value, is_param, is_arg}
use Rattle.il_code.proofs.Possible.{printed}

-- the rest goes on with no byte of a name
abbrev pub Stops : List ℕ → Type 0
Stops rest = is_name_byte (slice_index rest 0) ≡ false

-- ---- bytes

stops_digit : (c : ℕ) → is_name_byte c ≡ false → is_digit_byte c ≡ false
stops_digit c h = grind (arith, nat_tests, common_steps)

name_no_blank : (c : ℕ) → is_name_byte c ≡ true → is_blank c ≡ false
name_no_blank c h = grind (arith, nat_tests, common_steps)

name_no_comment : (c : ℕ) → is_name_byte c ≡ true → eqb c 35 ≡ false
name_no_comment c h = grind (arith, nat_tests, common_steps)

digit_name : (c : ℕ) → is_ascii_digit c ≡ true → is_name_byte c ≡ true
digit_name c h = grind (arith, nat_tests, common_steps)

bits_below : (n : ℕ) → is_bits n ≡ true → n < 2 ^ 64
bits_below n h = grind (arith, nat_tests)

gap_name : (c : ℕ) (s : List ℕ) → is_name_byte c ≡ true → behind_gap (c ∷ s) ≡ c ∷ s
gap_name c s h = rw (name_no_blank c h, name_no_comment c h) refl

gap_digits : (s rest : List ℕ) → all_ascii_digits s ≡ true → 0 < length s → behind_gap (s ++ rest) ≡ s ++ rest
gap_digits [] rest h some = absurd (omega arith)
gap_digits (c ∷ s) rest h some = gap_name c (s ++ rest) (digit_name c (and_parts _ _ h).0)

-- ---- tokens

pub space_at : (rest : List ℕ) (ts : List IlToken) → Tokens rest ts → Tokens (32 ∷ rest) ts
space_at rest [] h = h
space_at rest (t ∷ ts) h = h

pub tab_at : (rest : List ℕ) (ts : List IlToken) → Tokens rest ts → Tokens (9 ∷ rest) ts
tab_at rest [] h = h
tab_at rest (t ∷ ts) h = h

pub word_at : (w rest : List ℕ) (ts : List IlToken) → is_identifier w ≡ true → Stops rest → Tokens rest ts →
    Tokens (w ++ rest) (Word w ∷ ts)
word_at [] rest ts h stop more = absurd (false≢true h)
word_at (c ∷ w) rest ts h stop more = (c ∷ w, rest, gap_name c (w ++ rest) (and_parts _ _ (and_parts _ _ h).1).0, (h, refl), stop, more)

pub temp_at : (t rest : List ℕ) (ts : List IlToken) → is_identifier t ≡ true → Stops rest → Tokens rest ts →
    Tokens (37 ∷ (t ++ rest)) (TempName t ∷ ts)
temp_at t rest ts h stop more = (37 ∷ t, rest, refl, (h, refl), stop, more)

pub symbol_at : (t rest : List ℕ) (ts : List IlToken) → is_identifier t ≡ true → Stops rest → Tokens rest ts →
    Tokens (36 ∷ (t ++ rest)) (SymbolName t ∷ ts)
symbol_at t rest ts h stop more = (36 ∷ t, rest, refl, (h, refl), stop, more)

pub label_at : (t rest : List ℕ) (ts : List IlToken) → is_identifier t ≡ true → Stops rest → Tokens rest ts →
    Tokens (64 ∷ (t ++ rest)) (LabelName t ∷ ts)
label_at t rest ts h stop more = (64 ∷ t, rest, refl, (h, refl), stop, more)

own : IsNumeralModel (λ ds. all_ascii_digits ds ≡ true) (digits_value 10)
own = numerals_by_value _ tells_all_ascii_digits

pub number_at : (n : ℕ) (rest : List ℕ) (ts : List IlToken) → is_bits n ≡ true → Stops rest → Tokens rest ts →
    Tokens (decimal n ++ rest) (Numeral n ∷ ts)
number_at n rest ts h stop more =
    let below = bits_below n h in
    let all : all_ascii_digits (decimal n) ≡ true = digits_decimal own n below in
    let some : 0 < length (decimal n) = decimal_nonempty n below in
    let value : digits_value 10 (decimal n) ≡ n = digits_value-decimal own n below in (
      decimal n,
      rest,
      gap_digits (decimal n) rest all some,
      (h, inl (record { digits = all; some = some; value = value })),
      stops_digit
          (slice_index rest 0) stop,
      more,
    )

pub mark_at : (c : ℕ) (rest : List ℕ) (ts : List IlToken) → behind_gap (c ∷ rest) ≡ c ∷ rest → is_mark c ≡ true → Tokens rest ts →
    Tokens (c ∷ rest) (Mark c ∷ ts)
mark_at c rest ts gap is more = (c ∷ [], rest, gap, (is, refl), refl, more)

pub line_at : (rest : List ℕ) (ts : List IlToken) → Tokens rest ts → Tokens (10 ∷ rest) (LineEnd ∷ ts)
line_at rest ts more = (10 ∷ [], rest, refl, (refl, refl), refl, more)

pub quoted_at : (b rest : List ℕ) (ts : List IlToken) → list_all is_string_byte b ≡ true → Tokens rest ts →
    Tokens (34 ∷ (b ++ 34 ∷ rest)) (Quoted b ∷ ts)
quoted_at b rest ts h more = (34 ∷ (b ++ 34 ∷ []), rest, ap (λ x. 34 ∷ x) (sym (append_assoc b (34 ∷ []) rest)), (h, refl), refl, more)

-- ---- operands

pub class_at : (c : Class) (rest : List ℕ) (ts : List IlToken) → Stops rest → Tokens rest ts →
    Tokens (class_text c ++ rest) (printed (class_pattern c) ts)
class_at W rest ts stop more = word_at (codes "w") rest ts refl stop more
class_at L rest ts stop more = word_at (codes "l") rest ts refl stop more

pub value_at : (v : IlValue) (rest : List ℕ) (ts : List IlToken) → is_value v ≡ true → Stops rest → Tokens rest ts →
    Tokens (value_text v ++ rest) (printed (value_pattern v) ts)
value_at (Number n) rest ts h stop more = number_at n rest ts h stop more
value_at (Temp t) rest ts h stop more = temp_at t rest ts h stop more
value_at (Symbol s) rest ts h stop more = symbol_at s rest ts h stop more

target_is : (t : List ℕ) (c : Class) (rest : List ℕ) → target_text t c ++ rest ≡ 37 ∷ (t ++ 32 ∷ 61 ∷ (class_text c ++ 32 ∷ rest))
target_is t c rest = simp append_assoc

pub target_at : (t : List ℕ) (c : Class) (rest : List ℕ) (ts : List IlToken) → is_identifier t ≡ true → Tokens rest ts →
    Tokens (target_text t c ++ rest) (printed (target_pattern t c) ts)
target_at t c rest ts h more =
    let class = class_at c (32 ∷ rest) ts refl (space_at rest ts more) in
    let marked = mark_at 61 (class_text c ++ 32 ∷ rest) (printed (class_pattern c) ts) refl refl class in
    subst (λ x. Tokens x (printed (target_pattern t c) ts)) (sym (target_is t c rest))
    (temp_at t (32 ∷ 61 ∷ (class_text c ++ 32 ∷ rest)) (Mark 61 ∷ printed (class_pattern c) ts) h refl
    (space_at (61 ∷ (class_text c ++ 32 ∷ rest)) (Mark 61 ∷ printed (class_pattern c) ts) marked))

param_is : (p : IlParam) (rest : List ℕ) → param_text p ++ rest ≡ class_text p.class ++ 32 ∷ 37 ∷ (p.name ++ rest)
param_is p rest = simp append_assoc

pub param_at : (p : IlParam) (rest : List ℕ) (ts : List IlToken) → is_param p ≡ true → Stops rest → Tokens rest ts →
    Tokens (param_text p ++ rest) (printed (param_pattern p) ts)
param_at p rest ts h stop more =
    let name = temp_at p.name rest ts h stop more in
    subst (λ x. Tokens x (printed (param_pattern p) ts)) (sym (param_is p rest))
    (class_at p.class (32 ∷ 37 ∷ (p.name ++ rest)) (TempName p.name ∷ ts) refl
    (space_at (37 ∷ (p.name ++ rest)) (TempName p.name ∷ ts) name))

arg_is : (a : IlArg) (rest : List ℕ) → arg_text a ++ rest ≡ class_text a.class ++ 32 ∷ (value_text a.value ++ rest)
arg_is a rest = simp append_assoc

pub arg_at : (a : IlArg) (rest : List ℕ) (ts : List IlToken) → is_arg a ≡ true → Stops rest → Tokens rest ts →
    Tokens (arg_text a ++ rest) (printed (arg_pattern a) ts)
arg_at a rest ts h stop more =
    let value = value_at a.value rest ts h stop more in
    subst (λ x. Tokens x (printed (arg_pattern a) ts)) (sym (arg_is a rest))
    (class_at a.class (32 ∷ (value_text a.value ++ rest)) (printed (value_pattern a.value) ts) refl
    (space_at (value_text a.value ++ rest) (printed (value_pattern a.value) ts) value))

pub op_at : (o : IlOp) (rest : List ℕ) (ts : List IlToken) → Stops rest → Tokens rest ts →
    Tokens (op_word o ++ rest) (printed (op_pattern o) ts)
op_at op.Neg rest ts stop more = word_at (op_word op.Neg) rest ts refl stop more
op_at op.Copy rest ts stop more = word_at (op_word op.Copy) rest ts refl stop more
op_at op.Alloc4 rest ts stop more = word_at (op_word op.Alloc4) rest ts refl stop more
op_at op.Alloc8 rest ts stop more = word_at (op_word op.Alloc8) rest ts refl stop more
op_at op.Alloc16 rest ts stop more = word_at (op_word op.Alloc16) rest ts refl stop more
op_at op.Extsb rest ts stop more = word_at (op_word op.Extsb) rest ts refl stop more
op_at op.Extub rest ts stop more = word_at (op_word op.Extub) rest ts refl stop more
op_at op.Extsh rest ts stop more = word_at (op_word op.Extsh) rest ts refl stop more
op_at op.Extuh rest ts stop more = word_at (op_word op.Extuh) rest ts refl stop more
op_at op.Extsw rest ts stop more = word_at (op_word op.Extsw) rest ts refl stop more
op_at op.Extuw rest ts stop more = word_at (op_word op.Extuw) rest ts refl stop more
op_at op.Loadsb rest ts stop more = word_at (op_word op.Loadsb) rest ts refl stop more
op_at op.Loadub rest ts stop more = word_at (op_word op.Loadub) rest ts refl stop more
op_at op.Loadsh rest ts stop more = word_at (op_word op.Loadsh) rest ts refl stop more
op_at op.Loaduh rest ts stop more = word_at (op_word op.Loaduh) rest ts refl stop more
op_at op.Loadsw rest ts stop more = word_at (op_word op.Loadsw) rest ts refl stop more
op_at op.Loaduw rest ts stop more = word_at (op_word op.Loaduw) rest ts refl stop more
op_at op.Loadl rest ts stop more = word_at (op_word op.Loadl) rest ts refl stop more
op_at op.Add rest ts stop more = word_at (op_word op.Add) rest ts refl stop more
op_at op.Sub rest ts stop more = word_at (op_word op.Sub) rest ts refl stop more
op_at op.Mul rest ts stop more = word_at (op_word op.Mul) rest ts refl stop more
op_at op.Div rest ts stop more = word_at (op_word op.Div) rest ts refl stop more
op_at op.Rem rest ts stop more = word_at (op_word op.Rem) rest ts refl stop more
op_at op.Udiv rest ts stop more = word_at (op_word op.Udiv) rest ts refl stop more
op_at op.Urem rest ts stop more = word_at (op_word op.Urem) rest ts refl stop more
op_at op.And rest ts stop more = word_at (op_word op.And) rest ts refl stop more
op_at op.Or rest ts stop more = word_at (op_word op.Or) rest ts refl stop more
op_at op.Xor rest ts stop more = word_at (op_word op.Xor) rest ts refl stop more
op_at op.Shl rest ts stop more = word_at (op_word op.Shl) rest ts refl stop more
op_at op.Shr rest ts stop more = word_at (op_word op.Shr) rest ts refl stop more
op_at op.Sar rest ts stop more = word_at (op_word op.Sar) rest ts refl stop more
op_at op.Ceqw rest ts stop more = word_at (op_word op.Ceqw) rest ts refl stop more
op_at op.Ceql rest ts stop more = word_at (op_word op.Ceql) rest ts refl stop more
op_at op.Cnew rest ts stop more = word_at (op_word op.Cnew) rest ts refl stop more
op_at op.Cnel rest ts stop more = word_at (op_word op.Cnel) rest ts refl stop more
op_at op.Cslew rest ts stop more = word_at (op_word op.Cslew) rest ts refl stop more
op_at op.Cslel rest ts stop more = word_at (op_word op.Cslel) rest ts refl stop more
op_at op.Csltw rest ts stop more = word_at (op_word op.Csltw) rest ts refl stop more
op_at op.Csltl rest ts stop more = word_at (op_word op.Csltl) rest ts refl stop more
op_at op.Csgew rest ts stop more = word_at (op_word op.Csgew) rest ts refl stop more
op_at op.Csgel rest ts stop more = word_at (op_word op.Csgel) rest ts refl stop more
op_at op.Csgtw rest ts stop more = word_at (op_word op.Csgtw) rest ts refl stop more
op_at op.Csgtl rest ts stop more = word_at (op_word op.Csgtl) rest ts refl stop more
op_at op.Culew rest ts stop more = word_at (op_word op.Culew) rest ts refl stop more
op_at op.Culel rest ts stop more = word_at (op_word op.Culel) rest ts refl stop more
op_at op.Cultw rest ts stop more = word_at (op_word op.Cultw) rest ts refl stop more
op_at op.Cultl rest ts stop more = word_at (op_word op.Cultl) rest ts refl stop more
op_at op.Cugew rest ts stop more = word_at (op_word op.Cugew) rest ts refl stop more
op_at op.Cugel rest ts stop more = word_at (op_word op.Cugel) rest ts refl stop more
op_at op.Cugtw rest ts stop more = word_at (op_word op.Cugtw) rest ts refl stop more
op_at op.Cugtl rest ts stop more = word_at (op_word op.Cugtl) rest ts refl stop more

-- ---- lists

-- each text has its tokens, in front of what goes on with no byte of a name
abbrev pub Each : (A : Type 0) → (A → List ℕ) → (A → Pattern) → (A → Bool) → Type 0
Each A text pat ok = (x : A) (rest : List ℕ) (ts : List IlToken) → ok x ≡ true → Stops rest → Tokens rest ts →
    Tokens (text x ++ rest) (printed (pat x) ts)

pub stops_behind : {A : Type 0} (text : A → List ℕ) (xs : List A) (rest : List ℕ) → Stops rest → Stops (behind_commas text xs ++ rest)
stops_behind text [] rest stop = stop
stops_behind text (x ∷ xs) rest stop = refl

behind_is : {A : Type 0} (text : A → List ℕ) (x : A) (xs : List A) (rest : List ℕ) →
    behind_commas text (x ∷ xs) ++ rest ≡ 44 ∷ 32 ∷ (text x ++ (behind_commas text xs ++ rest))
behind_is text x xs rest = ap (λ z. 44 ∷ 32 ∷ z) (append_assoc (text x) (behind_commas text xs) rest)

pub behind_at : {A : Type 0} (text : A → List ℕ) (pat : A → Pattern) (ok : A → Bool) → Each A text pat ok →
    (xs : List A) (rest : List ℕ) (ts : List IlToken) → list_all ok xs ≡ true → Stops rest → Tokens rest ts →
    Tokens (behind_commas text xs ++ rest) (printed (behind_comma (map pat xs)) ts)
behind_at text pat ok each [] rest ts h stop more = more
behind_at text pat ok each (x ∷ xs) rest ts h stop more =
    let parts = and_parts (ok x) (list_all ok xs) h in
    let after = behind_at text pat ok each xs rest ts parts.1 stop more in
    let one = each x (behind_commas text xs ++ rest) (printed (behind_comma (map pat xs)) ts) parts.0 (stops_behind text xs rest stop)
    after in
    let spaced = space_at (text x ++ (behind_commas text xs ++ rest)) (printed (pat x) (printed (behind_comma (map pat xs)) ts)) one in
    subst (λ z. Tokens z (printed (behind_comma (map pat (x ∷ xs))) ts)) (sym (behind_is text x xs rest))
    (mark_at 44 (32 ∷ (text x ++ (behind_commas text xs ++ rest))) (printed (pat x) (printed (behind_comma (map pat xs)) ts)) refl refl
    spaced)

pub listed_at : {A : Type 0} (text : A → List ℕ) (pat : A → Pattern) (ok : A → Bool) → Each A text pat ok →
    (xs : List A) (rest : List ℕ) (ts : List IlToken) → list_all ok xs ≡ true → Stops rest → Tokens rest ts →
    Tokens (with_commas text xs ++ rest) (printed (listed (map pat xs)) ts)
listed_at text pat ok each [] rest ts h stop more = more
listed_at text pat ok each (x ∷ xs) rest ts h stop more =
    let parts = and_parts (ok x) (list_all ok xs) h in
    let after = behind_at text pat ok each xs rest ts parts.1 stop more in
    subst (λ z. Tokens z (printed (listed (map pat (x ∷ xs))) ts)) (sym (append_assoc (text x) (behind_commas text xs) rest))
    (each x (behind_commas text xs ++ rest) (printed (behind_comma (map pat xs)) ts) parts.0 (stops_behind text xs rest stop) after)

pub commas_at : {A : Type 0} (text : A → List ℕ) (pat : A → Pattern) (ok : A → Bool) → Each A text pat ok →
    (xs : List A) (rest : List ℕ) (ts : List IlToken) → list_all ok xs ≡ true → Stops rest → Tokens rest ts →
    Tokens (with_commas text xs ++ rest) (printed (commas (map pat xs)) ts)
commas_at text pat ok each [] rest ts h stop more = more
commas_at text pat ok each (x ∷ xs) rest ts h stop more =
    let parts = and_parts (ok x) (list_all ok xs) h in
    let after = behind_at text pat ok each xs rest ts parts.1 stop more in
    subst (λ z. Tokens z (printed (commas (map pat (x ∷ xs))) ts)) (sym (append_assoc (text x) (behind_commas text xs) rest))
    (each x (behind_commas text xs ++ rest) (printed (behind_comma (map pat xs)) ts) parts.0 (stops_behind text xs rest stop) after)

-- each text has its tokens, whatever goes on
abbrev pub Whole : (A : Type 0) → (A → List ℕ) → (A → Pattern) → (A → Bool) → Type 0
Whole A text pat ok = (x : A) (rest : List ℕ) (ts : List IlToken) → ok x ≡ true → Tokens rest ts →
    Tokens (text x ++ rest) (printed (pat x) ts)

pub row_at : {A : Type 0} (text : A → List ℕ) (pat : A → Pattern) (ok : A → Bool) → Whole A text pat ok →
    (xs : List A) (rest : List ℕ) (ts : List IlToken) → list_all ok xs ≡ true → Tokens rest ts →
    Tokens (flat_map text xs ++ rest) (printed (row (map pat xs)) ts)
row_at text pat ok each [] rest ts h more = more
row_at text pat ok each (x ∷ xs) rest ts h more =
    let parts = and_parts (ok x) (list_all ok xs) h in
    let after = row_at text pat ok each xs rest ts parts.1 more in
    subst (λ z. Tokens z (printed (row (map pat (x ∷ xs))) ts)) (sym (append_assoc (text x) (flat_map text xs) rest))
    (each x (flat_map text xs ++ rest) (printed (row (map pat xs)) ts) parts.0 after)
