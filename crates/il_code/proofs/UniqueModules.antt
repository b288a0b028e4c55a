-- A text spells at most one module, and the texts that are printed for two valid modules differ.
use Rattle.std.proofs.Common.{◌≡◌, ℕ, List, [], ◌∷◌, ◌++◌, Option, None, Some, Bool, true, false, not, ◌||◌, refl, ap, ◌∙◌, inl, inr, ◌⊎◌, subst, codes, bytes_eq, map, append_assoc}
use Rattle.std.proofs.lemmas.Bool.{false≢true}
use Rattle.hx_base.specs.declared.Class.{Class}
use Rattle.hx_base.specs.declared.Class.TheVariants.{W, L}
use Rattle.il_code.specs.declared.types.IlItem.{IlItem}
use Rattle.il_code.specs.declared.types.IlItem.TheVariants.{Data, Function}
use Rattle.il_code.specs.declared.types.Module.{Module}
use Rattle.il_code.specs.declared.types.Part.{Part}
use Rattle.il_code.specs.declared.types.IlParam.{IlParam}
use Rattle.il_code.specs.declared.types.Block.{Block}
use Rattle.il_code.specs.Tokens.{IlToken, Word, SymbolName, Mark}
use Rattle.il_code.specs.Grammar.{Pattern, nothing, token, word, both, many, row, spaced, equals, may_lines, usual_lines, listed, align_pattern, parts_pattern, class_pattern, param_pattern, result_class_pattern, blocks_pattern, export_word, export_pattern, item_pattern, module_pattern, Fits, Spells}
use Rattle.il_code.specs.Print.{module_text}
use Rattle.il_code.specs.TextLaws.{TextsSpellOne, PrintIsInjective}
use Rattle.il_code.proofs.Unique.{ahead-begins, Unique, any, ahead, begins, skip, skip-append, skip_ahead, fails, by_reader, seen_as, weaker, then, next, behind, begun, closed, ended, skipped, choice, or_else, if_there, maybe, front_both, front_token, front_nothing, ahead-first, first_of_token}
use Rattle.il_code.proofs.UniqueLists.{Repeats, row_leads, unique_row, is_line, no_line}
use Rattle.il_code.proofs.UniqueCommas.{is_word, is_close, unique_listed, word_no_line}
use Rattle.il_code.proofs.UniqueOperands.{unique_class, unique_symbol, params_listed}
use Rattle.il_code.proofs.UniqueBlocks.{unique_blocks, blocks_lead}
use Rattle.il_code.proofs.UniqueData.{no_word, data_row, unique_data}
use Rattle.il_code.proofs.ScannedTokens.{Tokens-unique}

-- ---- functions

class_begins : (c : Class) (a r : List IlToken) → Fits (class_pattern c) a → no_word r ≡ true → begins is_word (a ++ r) ≡ true
class_begins W a r h k = ap (λ z. begins is_word (z ++ r)) h
class_begins L a r h k = ap (λ z. begins is_word (z ++ r)) h

result_class_fits : (c : Option Class) (b : List IlToken) → Fits (result_class_pattern c) b → Fits (if_there class_pattern c) b × (c ≡ c)
result_class_fits None b h = (h, refl)
result_class_fits (Some c) b h = (h, refl)

unique_result_class : Unique (Option Class) result_class_pattern no_word
unique_result_class = seen_as result_class_pattern (λ c. c) (λ c. c) result_class_fits
    (maybe (begins is_word) class_begins (ahead-begins is_word) (weaker no_word (λ r h. refl) unique_class))

-- what stands between a function's parameters and its end
abbrev body_row : List Block → Pattern
body_row bs = row (token (Mark 41) ∷ may_lines ∷ token (Mark 123) ∷ usual_lines ∷ blocks_pattern bs ∷ token (Mark 125) ∷ [])

abbrev signature_row : List ℕ × (List IlParam × List Block) → Pattern
signature_row z = both (token (SymbolName z.0)) (both (token (Mark 40)) (both (listed (map param_pattern z.1.0)) (body_row z.1.1)))

-- the row of a function behind `export`
abbrev function_row : Option Class × (List ℕ × (List IlParam × List Block)) → Pattern
function_row z = both (word (codes "function")) (both (result_class_pattern z.0) (signature_row z.1))

unique_blocks_row : Unique (List Block) (λ bs. row (usual_lines ∷ blocks_pattern bs ∷ token (Mark 125) ∷ [])) any
unique_blocks_row = behind usual_lines no_line (skipped is_line usual_lines refl) (ended (Mark 125) (λ r. refl) unique_blocks) lead
  where
    lead : (bs : List Block) (b r : List IlToken) → Fits (both (blocks_pattern bs) (both (token (Mark 125)) nothing)) b → any r ≡ true →
        no_line (b ++ r) ≡ true
    lead bs b r h k = ap (λ z. no_line (z ++ r)) h.2 ∙ ap no_line (append_assoc h.0 h.1 r) ∙ blocks_lead bs h.0 (h.1 ++ r) h.3
        (ahead-first is_close (Mark 125) nothing h.1 r refl h.4)

unique_body : Unique (List Block) body_row any
unique_body = begun (Mark 41) (behind may_lines no_line (skipped is_line may_lines refl) (begun (Mark 123) unique_blocks_row)
    (λ bs b r h k. ahead-first (fails is_line) (Mark 123) (row (usual_lines ∷ blocks_pattern bs ∷ token (Mark 125) ∷ [])) b r refl h))

unique_signature : Unique (List ℕ × (List IlParam × List Block)) signature_row any
unique_signature = next unique_symbol (begun (Mark 40)
    (then (λ _ bs. body_row bs) any (unique_listed params_listed) (λ _. unique_body)
    (λ _ bs b r h k. ahead-first is_close (Mark 41)
    (row (may_lines ∷ token (Mark 123) ∷ usual_lines ∷ blocks_pattern bs ∷ token (Mark 125) ∷ [])) b r refl h)))

unique_function : Unique (Option Class × (List ℕ × (List IlParam × List Block))) function_row any
unique_function = begun (Word (codes "function"))
    (then (λ _ z. signature_row z) any unique_result_class (λ _. unique_signature)
    (λ _ z b r h k. ahead-first (fails is_word) (SymbolName z.0)
    (both (token (Mark 40)) (both (listed (map param_pattern z.1.0)) (body_row z.1.1))) b r refl h))

-- ---- exports

abbrev is_export : IlToken → Bool
is_export (Word w) = bytes_eq w (codes "export")
is_export t = false

abbrev is_export_or_line : IlToken → Bool
is_export_or_line t = is_export t || is_line t

abbrev behind_export : List IlToken → Bool
behind_export = ahead (fails is_export_or_line)

abbrev export_in : List IlToken → Option (Bool × List IlToken)
export_in ts = Some (begins is_export ts, skip is_export_or_line ts)

either_not : (a b : Bool) → not (a || b) ≡ true → a ≡ false
either_not true b h = absurd (false≢true h)
either_not false b h = refl

behind_export-begins : (r : List IlToken) → behind_export r ≡ true → begins is_export r ≡ false
behind_export-begins [] h = refl
behind_export-begins (t ∷ r) h = either_not (is_export t) (is_line t) h

export_opens : (a r : List IlToken) → Fits (export_pattern true) a → begins is_export (a ++ r) ≡ true
export_opens = front_both (begins is_export) true export_word (many export_word)
    (front_both (begins is_export) true (word (codes "export")) may_lines
    (front_token (begins is_export) true (Word (codes "export")) (λ s. refl)))

export_read : (e : Bool) (a r : List IlToken) → Fits (export_pattern e) a → behind_export r ≡ true → export_in (a ++ r) ≡ Some (e, r)
export_read true a r h k = rw (export_opens a r h, skip-append is_export_or_line (export_pattern true) a r refl h k) refl
export_read false a r h k = ap (λ z. export_in (z ++ r)) h ∙ rw (behind_export-begins r k, skip_ahead is_export_or_line r k) refl

unique_export : Unique Bool export_pattern behind_export
unique_export = by_reader export_pattern behind_export export_in export_read

-- ---- items and modules

abbrev is_data : IlToken → Bool
is_data (Word w) = bytes_eq w (codes "data")
is_data t = false

abbrev DataRow : Type 0
DataRow = List ℕ × (ℕ × List Part)

abbrev FunctionRow : Type 0
FunctionRow = Option Class × (List ℕ × (List IlParam × List Block))

data_front : {V : Type 0} (E : List IlToken → V) (x : V) (z : DataRow) → ((r : List IlToken) → E (Word (codes "data") ∷ r) ≡ x) →
    (a r : List IlToken) → Fits (data_row z) a → E (a ++ r) ≡ x
data_front E x z k a r h =
    let y = first_of_token (Word (codes "data"))
    (row (token (SymbolName z.0) ∷ equals ∷ align_pattern z.1.0 ∷ spaced (Mark 123) ∷ parts_pattern z.1.1 ∷ token (Mark 125) ∷ [])) a r
    h in ap E y.1 ∙ k y.0

function_front : {V : Type 0} (E : List IlToken → V) (x : V) (z : FunctionRow) →
    ((r : List IlToken) → E (Word (codes "function") ∷ r) ≡ x) → (a r : List IlToken) → Fits (function_row z) a → E (a ++ r) ≡ x
function_front E x z k a r h =
    let y = first_of_token (Word (codes "function")) (both (result_class_pattern z.0) (signature_row z.1)) a r h in ap E y.1 ∙ k y.0

abbrev item_row : DataRow ⊎ FunctionRow → Pattern
item_row = choice data_row function_row

row_front : {V : Type 0} (E : List IlToken → V) (x : V) (z : DataRow ⊎ FunctionRow) →
    ((r : List IlToken) → E (Word (codes "data") ∷ r) ≡ x) → ((r : List IlToken) → E (Word (codes "function") ∷ r) ≡ x) →
    (a r : List IlToken) → Fits (item_row z) a → E (a ++ r) ≡ x
row_front E x (inl z) k l = data_front E x z k
row_front E x (inr z) k l = function_front E x z l

unique_item_row : Unique (DataRow ⊎ FunctionRow) item_row any
unique_item_row = or_else (begins is_data) (λ z a r h k. data_front (begins is_data) true z (λ s. refl) a r h)
    (λ z a r h k. function_front (begins is_data) false z (λ s. refl) a r h) unique_data unique_function

abbrev item_parts : IlItem → Bool × (DataRow ⊎ FunctionRow)
item_parts (Data export name align parts) = (export, inl (name, (align, parts)))
item_parts (Function export class name params blocks) = (export, inr (class, (name, (params, blocks))))

abbrev item_of : Bool × (DataRow ⊎ FunctionRow) → IlItem
item_of z = elim (z.1) as (λ y. IlItem) [ inl d ↦ Data z.0 d.0 d.1.0 d.1.1 | inr f ↦ Function z.0 f.0 f.1.0 f.1.1.0 f.1.1.1 ]

item_fits : (i : IlItem) (a : List IlToken) → Fits (item_pattern i) a →
    Fits (both (export_pattern (item_parts i).0) (item_row (item_parts i).1)) a × (item_of (item_parts i) ≡ i)
item_fits (Data export name align parts) a h = (h, refl)
item_fits (Function export class name params blocks) a h = (h, refl)

unique_item : Unique IlItem item_pattern any
unique_item = seen_as item_pattern item_parts item_of item_fits
    (then (λ _ z. item_row z) any unique_export (λ _. unique_item_row)
    (λ _ z b r h k. row_front behind_export true z (λ s. refl) (λ s. refl) b r h))

parts_open : (e : Bool) (z : DataRow ⊎ FunctionRow) (a r : List IlToken) → Fits (both (export_pattern e) (item_row z)) a →
    begins is_word (a ++ r) ≡ true
parts_open true z = front_both (begins is_word) true (export_pattern true) (item_row z)
    (front_both (begins is_word) true export_word (many export_word)
    (front_both (begins is_word) true (word (codes "export")) may_lines
    (front_token (begins is_word) true (Word (codes "export")) (λ s. refl))))
parts_open false z = front_nothing (begins is_word) true (item_row z) (row_front (begins is_word) true z (λ s. refl) (λ s. refl))

-- the end of the text
abbrev at_text_end : List IlToken → Bool
at_text_end = ahead (λ t. false)

text_end-no_word : (r : List IlToken) → at_text_end r ≡ true → begins is_word r ≡ false
text_end-no_word [] h = refl
text_end-no_word (t ∷ r) h = absurd (false≢true h)

text_end-no_line : (r : List IlToken) → at_text_end r ≡ true → no_line r ≡ true
text_end-no_line [] h = refl
text_end-no_line (t ∷ r) h = absurd (false≢true h)

repeats_item : Repeats IlItem (λ i. both (item_pattern i) usual_lines) no_line (begins is_word) at_text_end
repeats_item = record {
  one = closed usual_lines no_line unique_item (skipped is_line usual_lines refl) (λ b r h k. refl);
  opens = λ i. front_both (begins is_word) true (item_pattern i) usual_lines
      (λ a r h. parts_open (item_parts i).0 (item_parts i).1 a r (item_fits i a h).0);
  apart = text_end-no_word;
  inside = word_no_line;
  over = text_end-no_line;
}

unique_module : Unique Module module_pattern at_text_end
unique_module = seen_as module_pattern (λ m. m.items) (λ is. record { items = is }) (λ m a h. (h, refl))
    (behind may_lines no_line (skipped is_line may_lines refl) (unique_row repeats_item)
    (λ is b r h k. row_leads repeats_item no_line word_no_line text_end-no_line is b r h k))

-- the grammar is unambiguous
Fits-unique : (m n : Module) (ts : List IlToken) → Fits (module_pattern m) ts → Fits (module_pattern n) ts → m ≡ n
Fits-unique m n ts h k = (unique_module.same m n ts ts [] [] h k refl refl refl).0

-- ---- texts

pub texts_spell_one : TextsSpellOne
texts_spell_one text m n h k =
    let same = Tokens-unique text h.tokens k.tokens h.read k.read in
    Fits-unique m n k.tokens (subst (λ ts. Fits (module_pattern m) ts) same h.fits) k.fits

pub print_is_injective : PrintIsInjective
print_is_injective m n h k e = texts_spell_one (module_text n) m n (subst (λ text. Spells text m) e h.spells) k.spells
