-- The tokens of data are those of one alone.
use Rattle.std.proofs.Common.{◌≡◌, ℕ, zero, suc, List, [], ◌∷◌, ◌++◌, Option, Some, Bool, true, false, cond, not, ◌||◌, refl, sym, ap, ◌∙◌, inl, inr, ◌⊎◌, codes, eqb, map, arith, append_assoc}
use Rattle.std.specs.Option.{is_some}
use Rattle.std.proofs.lemmas.Bool.{false≢true}
use Rattle.std.proofs.lemmas.Bool.Decides.{nat_tests, Decides-eqb}
use Rattle.std.proofs.lemmas.Grind.{common_steps}
use Rattle.il_code.specs.declared.types.Part.{Part}
use Rattle.il_code.specs.declared.types.Part.TheVariants.{Values, Zero}
use Rattle.il_code.specs.declared.types.PartValue.{PartValue}
use Rattle.il_code.specs.declared.types.PartValue.TheVariants as part
use Rattle.il_code.specs.Tokens.{IlToken, Word, TempName, SymbolName, LabelName, Numeral, Quoted, Mark, LineEnd}
use Rattle.il_code.specs.Grammar.{Pattern, never, nothing, token, word, both, row, spaced, may_lines, equals, usually, Fits, offset_pattern, part_value_pattern, width_pattern, values_pattern, part_pattern, parts_pattern, align_pattern}
use Rattle.il_code.proofs.Unique.{false_from_not, ahead-begins, Unique, any, ahead, begins, fails, seen_as, weaker, then, next, behind, begun, ended, or_default, front_both, front_token, ahead-first}
use Rattle.il_code.proofs.UniqueLists.{Repeats, row_leads, unique_row, is_line, no_line, unique_spaced, spaced_any}
use Rattle.il_code.proofs.UniqueCommas.{Listed, is_word, is_close, at_end, closes, spaced_parts, unique_parts_of, parts_lead, word_no_line, closes-no_line}
use Rattle.il_code.proofs.UniqueOperands.{unique_numeral, unique_quoted, unique_symbol, by_width, width_in, by_width_is, by_word, IsWordFor}

-- ---- what stands next

abbrev is_plus : IlToken → Bool
is_plus (Mark c) = eqb c 43
is_plus t = false

abbrev is_line_or_plus : IlToken → Bool
is_line_or_plus t = is_line t || is_plus t

-- behind a value of a part
abbrev behind_value : List IlToken → Bool
behind_value = ahead (fails is_line_or_plus)

abbrev is_part_value : IlToken → Bool
is_part_value (Numeral n) = true
is_part_value (Quoted s) = true
is_part_value (SymbolName s) = true
is_part_value t = false

behind_value-no_line : (r : List IlToken) → behind_value r ≡ true → no_line r ≡ true
behind_value-no_line [] h = refl
behind_value-no_line (LineEnd ∷ r) h = absurd (false≢true h)
behind_value-no_line (t ∷ r) h = refl

behind_value-no_plus : (r : List IlToken) → behind_value r ≡ true → begins is_plus r ≡ false
behind_value-no_plus [] h = refl
behind_value-no_plus (Mark c ∷ r) h = false_from_not (eqb c 43) h
behind_value-no_plus (t ∷ r) h = refl

end_no_plus : (c : ℕ) → (eqb c 44 || (eqb c 41 || eqb c 125)) ≡ true → not (eqb c 43) ≡ true
end_no_plus c h = grind (arith, nat_tests, common_steps)

at_end-behind_value : (r : List IlToken) → at_end r ≡ true → behind_value r ≡ true
at_end-behind_value [] h = refl
at_end-behind_value (Mark c ∷ r) h = end_no_plus c h
at_end-behind_value (LineEnd ∷ r) h = absurd (false≢true h)
at_end-behind_value (t ∷ r) h = refl

at_end-no_line : (r : List IlToken) → at_end r ≡ true → no_line r ≡ true
at_end-no_line r h = behind_value-no_line r (at_end-behind_value r h)

at_end-no_value : (r : List IlToken) → at_end r ≡ true → begins is_part_value r ≡ false
at_end-no_value [] h = refl
at_end-no_value (Mark c ∷ r) h = refl
at_end-no_value (Word w ∷ r) h = refl
at_end-no_value (TempName w ∷ r) h = refl
at_end-no_value (LabelName w ∷ r) h = refl
at_end-no_value (LineEnd ∷ r) h = refl
at_end-no_value (t ∷ r) h = absurd (false≢true h)

value_behind_value : (r : List IlToken) → begins is_part_value r ≡ true → behind_value r ≡ true
value_behind_value [] h = refl
value_behind_value (Numeral n ∷ r) h = refl
value_behind_value (Quoted s ∷ r) h = refl
value_behind_value (SymbolName s ∷ r) h = refl
value_behind_value (t ∷ r) h = absurd (false≢true h)

-- ---- values of parts

abbrev plus_pattern : ℕ → Pattern
plus_pattern n = both (spaced (Mark 43)) (spaced (Numeral n))

plus_opens : (n : ℕ) (a r : List IlToken) → Fits (plus_pattern n) a → begins is_plus (a ++ r) ≡ true
plus_opens n = front_both (begins is_plus) true (spaced (Mark 43)) (spaced (Numeral n))
    (front_both (begins is_plus) true (token (Mark 43)) may_lines (front_token (begins is_plus) true (Mark 43) (λ r. refl)))

unique_plus : Unique ℕ plus_pattern no_line
unique_plus = behind (spaced (Mark 43)) no_line (unique_spaced (Mark 43)) (spaced_any unique_numeral)
    (λ n b r h k. ahead-first (fails is_line) (Numeral n) may_lines b r refl h)

offset_split : (n : ℕ) (a : List IlToken) → Fits (offset_pattern n) a → Fits (plus_pattern n) a ⊎ ((n ≡ 0) × (a ≡ []))
offset_split zero a (inl h) = inr (refl, h)
offset_split zero a (inr h) = inl h
offset_split (suc n) a h = inl h

unique_offset : Unique ℕ offset_pattern behind_value
unique_offset = or_default offset_pattern 0 (begins is_plus) offset_split (λ n a r h k. plus_opens n a r h) behind_value-no_plus
    (weaker behind_value behind_value-no_line unique_plus)

plus_no_line : (r : List IlToken) → begins is_plus r ≡ true → no_line r ≡ true
plus_no_line [] h = refl
plus_no_line (LineEnd ∷ r) h = absurd (false≢true h)
plus_no_line (t ∷ r) h = refl

offset_leads : (n : ℕ) (b r : List IlToken) → Fits (plus_pattern n) b ⊎ ((n ≡ 0) × (b ≡ [])) → behind_value r ≡ true →
    no_line (b ++ r) ≡ true
offset_leads n b r (inl h) k = plus_no_line (b ++ r) (plus_opens n b r h)
offset_leads n b r (inr h) k = ap (λ z. no_line (z ++ r)) h.1 ∙ behind_value-no_line r k

unique_address : Unique (List ℕ × ℕ) (λ z. part_value_pattern (part.Symbol z.0 z.1)) behind_value
unique_address = then (λ _ n. offset_pattern n) behind_value (spaced_any unique_symbol) (λ _. unique_offset)
    (λ _ n b r h k. offset_leads n b r (offset_split n b h) k)

data ValueNext : Type 0 where
  NumberNext StringNext SymbolNext OtherNext : ValueNext

abbrev value_next : List IlToken → ValueNext
value_next (Numeral n ∷ ts) = NumberNext
value_next (Quoted s ∷ ts) = StringNext
value_next (SymbolName s ∷ ts) = SymbolNext
value_next ts = OtherNext

abbrev next_of_value : PartValue → ValueNext
next_of_value (part.Number n) = NumberNext
next_of_value (part.Str s) = StringNext
next_of_value (part.Symbol s n) = SymbolNext

abbrev value_token : PartValue → IlToken
value_token (part.Number n) = Numeral n
value_token (part.Str s) = Quoted s
value_token (part.Symbol s n) = SymbolName s

value_front : {V : Type 0} (E : List IlToken → V) (x : V) (v : PartValue) → ((r : List IlToken) → E (value_token v ∷ r) ≡ x) →
    (a r : List IlToken) → Fits (part_value_pattern v) a → E (a ++ r) ≡ x
value_front E x (part.Number n) k = front_both E x (token (Numeral n)) may_lines (front_token E x (Numeral n) k)
value_front E x (part.Str s) k = front_both E x (token (Quoted s)) may_lines (front_token E x (Quoted s) k)
value_front E x (part.Symbol s n) k = front_both E x (spaced (SymbolName s)) (offset_pattern n)
    (front_both E x (token (SymbolName s)) may_lines (front_token E x (SymbolName s) k))

value_shows : (v : PartValue) (r : List IlToken) → value_next (value_token v ∷ r) ≡ next_of_value v
value_shows (part.Number n) r = refl
value_shows (part.Str s) r = refl
value_shows (part.Symbol s n) r = refl

is_part_value-token : (v : PartValue) → is_part_value (value_token v) ≡ true
is_part_value-token (part.Number n) = refl
is_part_value-token (part.Str s) = refl
is_part_value-token (part.Symbol s n) = refl

value_same : (v w : PartValue) (a b r s : List IlToken) → Fits (part_value_pattern v) a → Fits (part_value_pattern w) b → a ++ r ≡ b ++ s →
    behind_value r ≡ true → behind_value s ≡ true → next_of_value v ≡ next_of_value w → (v ≡ w) × (r ≡ s)
value_same (part.Number m) (part.Number n) a b r s fv fw e kr ks k =
    let z = (spaced_any unique_numeral).same m n a b r s fv fw e (behind_value-no_line r kr)
    (behind_value-no_line s ks) in (ap part.Number z.0, z.1)
value_same (part.Str m) (part.Str n) a b r s fv fw e kr ks k =
    let z = (spaced_any unique_quoted).same m n a b r s fv fw e (behind_value-no_line r kr)
    (behind_value-no_line s ks) in (ap part.Str z.0, z.1)
value_same (part.Symbol x m) (part.Symbol y n) a b r s fv fw e kr ks k =
    let z = unique_address.same (x, m) (y, n) a b r s fv fw e kr ks in (ap (λ z. part.Symbol z.0 z.1) z.0, z.1)
value_same v w a b r s fv fw e kr ks k = absurd (cc)

unique_part_value : Unique PartValue part_value_pattern behind_value
unique_part_value =
    let shows = λ (v : PartValue). value_front value_next (next_of_value v) v (value_shows v) in
    record {
      same = λ v w a b r s fv fw e kr ks. value_same v w a b r s fv fw e kr ks
          (sym (shows v a r fv) ∙ ap value_next e ∙ shows w b s fw);
    }

repeats_value : Repeats PartValue part_value_pattern behind_value (begins is_part_value) at_end
repeats_value = record {
  one = unique_part_value;
  opens = λ v. value_front (begins is_part_value) true v (λ r. is_part_value-token v);
  apart = at_end-no_value;
  inside = value_behind_value;
  over = at_end-behind_value;
}

values_fits : (vs : List PartValue) (a : List IlToken) → Fits (values_pattern vs) a → Fits (row (map part_value_pattern vs)) a
values_fits [] a h = absurd h
values_fits (v ∷ vs) a h = h

unique_values : Unique (List PartValue) values_pattern at_end
unique_values = seen_as values_pattern (λ vs. vs) (λ vs. vs) (λ vs a h. (values_fits vs a h, refl)) (unique_row repeats_value)

values_lead : (vs : List PartValue) (b r : List IlToken) → Fits (values_pattern vs) b → at_end r ≡ true → no_line (b ++ r) ≡ true
values_lead vs b r h k = row_leads repeats_value no_line (λ s l. behind_value-no_line s (value_behind_value s l)) at_end-no_line vs b r
    (values_fits vs b h) k

-- ---- parts

abbrev letter_pattern : ℕ → Pattern
letter_pattern = by_width (codes "b") (codes "h") (codes "w") (codes "l")

abbrev letter_width : List ℕ → Option ℕ
letter_width = width_in (codes "b") (codes "h") (codes "w") (codes "l")

letter_word : (n : ℕ) (a : List IlToken) → Fits (letter_pattern n) a → IsWordFor letter_width n a
letter_word = by_width_is (codes "b") (codes "h") (codes "w") (codes "l") refl refl refl refl

letter_cases : (one two four eight : Bool) (p q r s : List ℕ) (a : List IlToken) →
    Fits (cond one (spaced (Word p)) (cond two (spaced (Word q)) (cond four (spaced (Word r)) (cond eight (spaced (Word s)) never)))) a →
    Fits (both (cond one (word p) (cond two (word q) (cond four (word r) (cond eight (word s) never)))) may_lines) a
letter_cases true two four eight p q r s a h = h
letter_cases false true four eight p q r s a h = h
letter_cases false false true eight p q r s a h = h
letter_cases false false false true p q r s a h = h
letter_cases false false false false p q r s a h = absurd h

letter_fits : (n : ℕ) (a : List IlToken) → Fits (width_pattern n) a → Fits (both (letter_pattern n) may_lines) a
letter_fits n a h = letter_cases (eqb n 1) (eqb n 2) (eqb n 4) (eqb n 8) (codes "b") (codes "h") (codes "w") (codes "l") a h

unique_width : Unique ℕ width_pattern no_line
unique_width = seen_as width_pattern (λ n. n) (λ n. n) (λ n a h. (letter_fits n a h, refl))
    (spaced_any (by_word letter_pattern letter_width letter_word))

unique_of_width : Unique (ℕ × List PartValue) (λ z. part_pattern (Values z.0 z.1)) at_end
unique_of_width = then (λ _ vs. values_pattern vs) at_end unique_width (λ _. unique_values) (λ _ vs b r h k. values_lead vs b r h k)

unique_zeros : Unique ℕ (λ n. part_pattern (Zero n)) at_end
unique_zeros = weaker at_end at_end-no_line (behind (spaced (Word (codes "z"))) no_line (unique_spaced (Word (codes "z")))
    (spaced_any unique_numeral) (λ n b r h k. ahead-first (fails is_line) (Numeral n) may_lines b r refl h))

-- whether the width of values is what a word stands for
abbrev width_next : List IlToken → Bool
width_next (Word w ∷ ts) = is_some (letter_width w)
width_next ts = false

abbrev has_width : Part → Bool
has_width (Values width vs) = true
has_width (Zero n) = false

width_front : (n : ℕ) (a r : List IlToken) → Fits (width_pattern n) a → (w : List ℕ) × (ts : List IlToken) × (a ++ r ≡ Word w ∷ ts) ×
    (letter_width w ≡ Some n)
width_front n a r h =
    let k = letter_fits n a h in
    let word = letter_word n k.0 k.3 in
    (word.0, k.1 ++ r, ap (λ z. z ++ r) (k.2 ∙ ap (λ z. z ++ k.1) word.1), word.2)

width_shows : (n : ℕ) (a r : List IlToken) → Fits (width_pattern n) a → width_next (a ++ r) ≡ true
width_shows n a r h = let w = width_front n a r h in ap width_next w.2 ∙ ap is_some w.3

width_opens : (n : ℕ) (a r : List IlToken) → Fits (width_pattern n) a → begins is_word (a ++ r) ≡ true
width_opens n a r h = let w = width_front n a r h in ap (begins is_word) w.2

zeros_front : {V : Type 0} (E : List IlToken → V) (x : V) (n : ℕ) → ((r : List IlToken) → E (Word (codes "z") ∷ r) ≡ x) →
    (a r : List IlToken) → Fits (part_pattern (Zero n)) a → E (a ++ r) ≡ x
zeros_front E x n k = front_both E x (spaced (Word (codes "z"))) (spaced (Numeral n))
    (front_both E x (word (codes "z")) may_lines (front_token E x (Word (codes "z")) k))

part_shows : (p : Part) (a r : List IlToken) → Fits (part_pattern p) a → width_next (a ++ r) ≡ has_width p
part_shows (Values width vs) = front_both width_next true (width_pattern width) (values_pattern vs) (width_shows width)
part_shows (Zero n) = zeros_front width_next false n (λ r. refl)

part_opens : (p : Part) (a r : List IlToken) → Fits (part_pattern p) a → begins is_word (a ++ r) ≡ true
part_opens (Values width vs) = front_both (begins is_word) true (width_pattern width) (values_pattern vs) (width_opens width)
part_opens (Zero n) = zeros_front (begins is_word) true n (λ r. refl)

part_same : (p q : Part) (a b r s : List IlToken) → Fits (part_pattern p) a → Fits (part_pattern q) b → a ++ r ≡ b ++ s → at_end r ≡ true →
    at_end s ≡ true → has_width p ≡ has_width q → (p ≡ q) × (r ≡ s)
part_same (Values m vs) (Values n ws) a b r s fp fq e kr ks k =
    let z = unique_of_width.same (m, vs) (n, ws) a b r s fp fq e kr ks in (ap (λ z. Values z.0 z.1) z.0, z.1)
part_same (Zero m) (Zero n) a b r s fp fq e kr ks k = let z = unique_zeros.same m n a b r s fp fq e kr ks in (ap Zero z.0, z.1)
part_same (Values m vs) (Zero n) a b r s fp fq e kr ks k = absurd (false≢true (sym k))
part_same (Zero m) (Values n ws) a b r s fp fq e kr ks k = absurd (false≢true k)

parts_listed : Listed Part part_pattern
parts_listed = record {
  one = record {
    same = λ p q a b r s fp fq e kr ks. part_same p q a b r s fp fq e kr ks
        (sym (part_shows p a r fp) ∙ ap width_next e ∙ part_shows q b s fq);
  };
  opens = part_opens;
}

parts_fits : (ps : List Part) (a : List IlToken) → Fits (parts_pattern ps) a → Fits (spaced_parts part_pattern ps) a
parts_fits [] a h = h
parts_fits (p ∷ ps) a h = h

unique_parts : Unique (List Part) parts_pattern closes
unique_parts = seen_as parts_pattern (λ ps. ps) (λ ps. ps) (λ ps a h. (parts_fits ps a h, refl)) (unique_parts_of parts_listed)

-- ---- data items

abbrev pub no_word : List IlToken → Bool
no_word = ahead (fails is_word)

abbrev aligned : ℕ → Pattern
aligned n = both (word (codes "align")) (token (Numeral n))

align_cases : (n : ℕ) (usual : Bool) → eqb n 8 ≡ usual → (a : List IlToken) → Fits (cond usual (usually (aligned n)) (aligned n)) a →
    Fits (aligned n) a ⊎ ((n ≡ 8) × (a ≡ []))
align_cases n true e a (inl h) = inl h
align_cases n true e a (inr h) = inr ((Decides-eqb n 8).0 e, h)
align_cases n false e a h = inl h

unique_align : Unique ℕ align_pattern no_word
unique_align = or_default align_pattern 8 (begins is_word) (λ n a h. align_cases n (eqb n 8) refl a h)
    (λ n a r h k. front_both (begins is_word) true (word (codes "align")) (token (Numeral n))
    (front_token (begins is_word) true (Word (codes "align")) (λ s. refl)) a r h) (ahead-begins is_word)
    (weaker no_word (λ r h. refl) (begun (Word (codes "align")) unique_numeral))

abbrev braces_row : List Part → Pattern
braces_row ps = row (spaced (Mark 123) ∷ parts_pattern ps ∷ token (Mark 125) ∷ [])

-- the row of a data item behind `export`
abbrev pub data_row : List ℕ × (ℕ × List Part) → Pattern
data_row z = both (word (codes "data")) (row
    (token (SymbolName z.0) ∷ equals ∷ align_pattern z.1.0 ∷ spaced (Mark 123) ∷ parts_pattern z.1.1 ∷ token (Mark 125) ∷ []))

unique_braces : Unique (List Part) braces_row any
unique_braces = behind (spaced (Mark 123)) no_line (unique_spaced (Mark 123)) (ended (Mark 125) (λ r. refl) unique_parts) lead
  where
    lead : (ps : List Part) (b r : List IlToken) → Fits (both (parts_pattern ps) (both (token (Mark 125)) nothing)) b → any r ≡ true →
        no_line (b ++ r) ≡ true
    lead ps b r h k = ap (λ z. no_line (z ++ r)) h.2 ∙ ap no_line (append_assoc h.0 h.1 r) ∙ parts_lead parts_listed no_line word_no_line
        closes-no_line ps h.0 (h.1 ++ r) (parts_fits ps h.0 h.3) (ahead-first is_close (Mark 125) nothing h.1 r refl h.4)

pub unique_data : Unique (List ℕ × (ℕ × List Part)) data_row any
unique_data = begun (Word (codes "data")) (next unique_symbol
    (begun (Mark 61) (then (λ _ ps. braces_row ps) any unique_align (λ _. unique_braces)
    (λ _ ps b r h k. front_both no_word true (spaced (Mark 123)) (row (parts_pattern ps ∷ token (Mark 125) ∷ []))
    (front_both no_word true (token (Mark 123)) may_lines (front_token no_word true (Mark 123) (λ s. refl))) b r h))))
