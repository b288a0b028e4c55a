-- A plain program for small texts: readers of pieces, which give what they read, or the number and the offset of the first fault.
use Rattle.std.proofs.Common.{ℕ, zero, suc, List, [], ◌∷◌, Option, None, Some, Bool, true, false, ◌||◌, ◌==◌, codes, bytes_eq}
use Rattle.std.specs.Prelude.{if◌then◌else◌}
use Rattle.hx_base.specs.declared.Class.{Class}
use Rattle.hx_base.specs.declared.Class.TheVariants.{W, L}
use Rattle.il_code.specs.declared.types.IlValue.{IlValue}
use Rattle.il_code.specs.declared.types.IlValue.TheVariants.{Number, Temp, Symbol}
use Rattle.il_code.specs.Tokens.{IlToken, Word, TempName, SymbolName, LabelName, Numeral, Quoted, Mark, LineEnd}
use Rattle.il_code.specs.Faults.{is_left_class, is_left_head, is_left_word}
use Rattle.il_code.proofs.TextPieces.{Piece, Whole, Far, Stray, End, choose}

-- ---- readers

-- what was read, with the pieces behind it, or a fault
pub data Outcome (A : Type 0) : Type 0 where
  got : (x : A) (behind : List Piece) → Outcome A
  bad : (number at : ℕ) → Outcome A

abbrev pub Reader : Type 0 → Type 0
Reader A = List Piece → Outcome A

abbrev pub and_then : {A B : Type 0} → Outcome A → (A → Reader B) → Outcome B
and_then (got x behind) f = f x behind
and_then (bad number at) f = bad number at

infixl 10 ◌>>=◌
abbrev pub ◌>>=◌ : {A B : Type 0} → Reader A → (A → Reader B) → Reader B
m >>= f = λ s. and_then (m s) f

abbrev pub done : {A : Type 0} → A → Reader A
done x = λ s. got x s

-- what may stand at a place beside what is looked for: a class, the beginning of a definition or an instruction, the target of a call
pub data Site : Type 0 where
  Plain : Site
  ClassSite : Site
  HeadSite : Site
  TargetSite : Site

abbrev pub colon_number : Site → ℕ
colon_number Plain = 2
colon_number ClassSite = 4
colon_number HeadSite = 2
colon_number TargetSite = 2

abbrev pub word_number : Site → List ℕ → ℕ
word_number Plain w = if is_left_word w then 4 else 3
word_number ClassSite w = if is_left_word w || is_left_class w then 4 else 3
word_number HeadSite w = if is_left_word w || is_left_head w then 4 else 3
word_number TargetSite w = if is_left_word w then 4 else 3

abbrev pub temp_number : Site → ℕ
temp_number Plain = 3
temp_number ClassSite = 3
temp_number HeadSite = 3
temp_number TargetSite = 4

abbrev pub token_number : Site → IlToken → ℕ
token_number site (Word w) = word_number site w
token_number site (TempName t) = temp_number site
token_number site (SymbolName s) = 3
token_number site (LabelName l) = 3
token_number site (Numeral n) = 3
token_number site (Quoted b) = 3
token_number site (Mark c) = if c == 58 then colon_number site else 3
token_number site LineEnd = 3

-- nothing goes on with the next piece
abbrev pub stuck : {A : Type 0} → Site → Reader A
stuck site [] = bad 3 0
stuck site (Whole at minus t ∷ ps) = bad (token_number site t) at
stuck site (Far at ∷ ps) = bad 12 at
stuck site (Stray at ∷ ps) = bad 2 at
stuck site (End at ∷ ps) = bad 3 at

abbrev pub answered : {A : Type 0} → Site → Option A → List Piece → List Piece → Outcome A
answered site None here behind = stuck site here
answered site (Some x) here behind = got x behind

-- the next token, which the test takes
abbrev pub expect : {A : Type 0} → Site → (IlToken → Option A) → Reader A
expect site test [] = stuck site []
expect site test (Whole at minus t ∷ ps) = answered site (test t) (Whole at minus t ∷ ps) ps
expect site test (Far at ∷ ps) = stuck site (Far at ∷ ps)
expect site test (Stray at ∷ ps) = stuck site (Stray at ∷ ps)
expect site test (End at ∷ ps) = stuck site (End at ∷ ps)

-- the same, and the token is left
abbrev pub look : {A : Type 0} → Site → (IlToken → Option A) → Reader A
look site test s = and_then (expect site test s) (λ x _. got x s)

abbrev pub passes_next : (IlToken → Bool) → List Piece → Bool
passes_next test [] = false
passes_next test (Whole at minus t ∷ ps) = test t
passes_next test (Far at ∷ ps) = false
passes_next test (Stray at ∷ ps) = false
passes_next test (End at ∷ ps) = false

-- the one where the next token passes, else the other
abbrev pub where_next : {A : Type 0} → (IlToken → Bool) → Reader A → Reader A → Reader A
where_next test one other = λ s. choose (passes_next test s) (λ _. one s) (λ _. other s)

-- ---- tokens

abbrev pub only : Bool → Option Bool
only true = Some true
only false = None

abbrev pub is_the_mark : ℕ → IlToken → Bool
is_the_mark m (Word w) = false
is_the_mark m (TempName t) = false
is_the_mark m (SymbolName s) = false
is_the_mark m (LabelName l) = false
is_the_mark m (Numeral n) = false
is_the_mark m (Quoted b) = false
is_the_mark m (Mark c) = c == m
is_the_mark m LineEnd = false

abbrev pub is_the_word : List ℕ → IlToken → Bool
is_the_word v (Word w) = bytes_eq w v
is_the_word v (TempName t) = false
is_the_word v (SymbolName s) = false
is_the_word v (LabelName l) = false
is_the_word v (Numeral n) = false
is_the_word v (Quoted b) = false
is_the_word v (Mark c) = false
is_the_word v LineEnd = false

abbrev pub word_of : IlToken → Option (List ℕ)
word_of (Word w) = Some w
word_of (TempName t) = None
word_of (SymbolName s) = None
word_of (LabelName l) = None
word_of (Numeral n) = None
word_of (Quoted b) = None
word_of (Mark c) = None
word_of LineEnd = None

abbrev pub temp_of : IlToken → Option (List ℕ)
temp_of (Word w) = None
temp_of (TempName t) = Some t
temp_of (SymbolName s) = None
temp_of (LabelName l) = None
temp_of (Numeral n) = None
temp_of (Quoted b) = None
temp_of (Mark c) = None
temp_of LineEnd = None

abbrev pub symbol_of : IlToken → Option (List ℕ)
symbol_of (Word w) = None
symbol_of (TempName t) = None
symbol_of (SymbolName s) = Some s
symbol_of (LabelName l) = None
symbol_of (Numeral n) = None
symbol_of (Quoted b) = None
symbol_of (Mark c) = None
symbol_of LineEnd = None

abbrev pub label_of : IlToken → Option (List ℕ)
label_of (Word w) = None
label_of (TempName t) = None
label_of (SymbolName s) = None
label_of (LabelName l) = Some l
label_of (Numeral n) = None
label_of (Quoted b) = None
label_of (Mark c) = None
label_of LineEnd = None

abbrev pub number_of : IlToken → Option ℕ
number_of (Word w) = None
number_of (TempName t) = None
number_of (SymbolName s) = None
number_of (LabelName l) = None
number_of (Numeral n) = Some n
number_of (Quoted b) = None
number_of (Mark c) = None
number_of LineEnd = None

abbrev pub value_of : IlToken → Option IlValue
value_of (Word w) = None
value_of (TempName t) = Some (Temp t)
value_of (SymbolName s) = Some (Symbol s)
value_of (LabelName l) = None
value_of (Numeral n) = Some (Number n)
value_of (Quoted b) = None
value_of (Mark c) = None
value_of LineEnd = None

abbrev pub is_a_line : IlToken → Bool
is_a_line (Word w) = false
is_a_line (TempName t) = false
is_a_line (SymbolName s) = false
is_a_line (LabelName l) = false
is_a_line (Numeral n) = false
is_a_line (Quoted b) = false
is_a_line (Mark c) = false
is_a_line LineEnd = true

abbrev pub class_named : List ℕ → Option Class
class_named w = if bytes_eq w (codes "w") then Some W else if bytes_eq w (codes "l") then Some L else None

abbrev pub class_word : Option (List ℕ) → Option Class
class_word None = None
class_word (Some w) = class_named w

abbrev pub class_of : IlToken → Option Class
class_of t = class_word (word_of t)

abbrev pub mark : ℕ → Reader Bool
mark m = expect Plain (λ t. only (is_the_mark m t))

abbrev pub a_class : Reader Class
a_class = expect ClassSite class_of

abbrev pub a_value : Reader IlValue
a_value = expect Plain value_of

abbrev pub a_label : Reader (List ℕ)
a_label = expect Plain label_of

abbrev pub behind_lines : List Piece → List Piece
behind_lines [] = []
behind_lines (Whole at minus t ∷ ps) = choose (is_a_line t) (λ _. behind_lines ps) (λ _. Whole at minus t ∷ ps)
behind_lines (Far at ∷ ps) = Far at ∷ ps
behind_lines (Stray at ∷ ps) = Stray at ∷ ps
behind_lines (End at ∷ ps) = End at ∷ ps

-- line feeds, if there are any
abbrev pub some_lines : Reader Bool
some_lines = λ s. got true (behind_lines s)

abbrev pub lines : Reader Bool
lines = do
  _ ← expect Plain (λ t. only (is_a_line t))
  some_lines

-- elements with commas between and maybe behind, in front of a `)`
abbrev pub listing : {A : Type 0} → Reader A → ℕ → Reader (List A)
listing item zero = stuck Plain
listing item (suc n) = where_next (is_the_mark 41) (done []) do
  x ← item
  where_next (is_the_mark 44) (do _ ← mark 44; xs ← listing item n; done (x ∷ xs)) (done (x ∷ []))
