-- Data items are read as they are printed.
use Rattle.std.proofs.Common.{◌≡◌, ℕ, zero, suc, ◌<◌, ◌^◌, List, [], ◌∷◌, ◌++◌, Some, None, Bool, true, false, length, refl, ap, ◌∙◌, append_assoc, arith, codes, decimal, nat_lt, ◌&&◌}
use Rattle.std.specs.List.{flat_map, list_all}
use Rattle.std.proofs.lemmas.Bool.{and_parts}
use Rattle.il_code.specs.declared.types.IlItem.TheVariants.{Data}
use Rattle.il_code.specs.declared.types.Part.{Part}
use Rattle.il_code.specs.declared.types.Part.TheVariants.{Values, Zero}
use Rattle.il_code.specs.declared.types.PartValue.{PartValue}
use Rattle.il_code.specs.declared.types.PartValue.TheVariants as part
use Rattle.il_code.specs.Tokens.{is_identifier}
use Rattle.il_code.specs.Shaped.{is_bits, is_width, some, is_part_value, is_part}
use Rattle.il_code.specs.Print.{part_value_text, width_text, part_text, parts_text, with_commas}
use Rattle.il_read.specs.Front.{behind}
use Rattle.il_read.specs.Data.{offset_at, address_at, text_at, amount_at, part_value_at, begins_value, width_at, values_at, zeros_at, part_at, some_parts_at, parts_at, align_at, data_at}
use Rattle.il_read.proofs.FrontsAgain.{Stops, digit_is_no, name_again, number_again, number_is_no, number_first, string_again}
use Rattle.il_read.proofs.ListsAgain.{length-rest, each_again, listed_again}
use Rattle.il_read.proofs.ValuesAgain.{symbol_again}
use Rattle.il_read.proofs.LinesAgain.{by_width}

-- ---- values of parts

-- neither a name nor a number nor an offset goes on with this rest
pub record Ends (rest : List ℕ) : Type 0 where
  pub stops : Stops rest
  pub no_offset : behind (codes " + ") rest ≡ None

part_value_again : (v : PartValue) (rest : List ℕ) → is_part_value v ≡ true → Ends rest →
    part_value_at (part_value_text v ++ rest) ≡ Some (v, rest)
unfolding part_value_at text_at address_at offset_at amount_at
part_value_again (part.Number n) rest h e =
    let no_quote = number_is_no n rest 34 h refl in
    let no_symbol = number_is_no n rest 36 h refl in
    let number = number_again n rest h e.stops in
    rw (no_quote, no_symbol, number) refl
part_value_again (part.Str s) rest h e =
    let text : part_value_text (part.Str s) ++ rest ≡ codes " \"" ++ (s ++ 34 ∷ rest) = simp append_assoc in
    let string = string_again s rest h in
    ap part_value_at text ∙ rw string refl
part_value_again (part.Symbol s zero) rest h e =
    let p = and_parts (is_identifier s) (is_bits zero) h in
    let name = name_again s rest p.0 e.stops in
    let none = e.no_offset in
    rw name (rw none refl)
part_value_again (part.Symbol s (suc n)) rest h e =
    let p = and_parts (is_identifier s) (is_bits (suc n)) h in
    let text : part_value_text (part.Symbol s (suc n)) ++ rest ≡ codes " $" ++ (s ++ (codes " + " ++ (decimal (suc n) ++ rest))) =
    simp append_assoc in
    let name = name_again s (codes " + " ++ (decimal (suc n) ++ rest)) p.0 refl in
    let number = number_again (suc n) rest p.1 e.stops in
    ap part_value_at text ∙ rw name (rw number refl)

-- a number is neither the brace nor the plus sign
number_begins : (n : ℕ) (rest : List ℕ) → is_bits n ≡ true → (begins_value (32 ∷ (decimal n ++ rest)) ≡ true) ×
    (behind (codes " + ") (32 ∷ (decimal n ++ rest)) ≡ None)
number_begins n rest h =
    let k = number_first n h in
    let is : decimal n ≡ k.0 ∷ k.1 = k.2 in
    let brace = digit_is_no k.0 125 k.3 refl in
    let plus = digit_is_no k.0 43 k.3 refl in
    (rw (is, brace) refl, rw (is, plus) refl)

value_begins : (v : PartValue) (rest : List ℕ) → is_part_value v ≡ true → begins_value (part_value_text v ++ rest) ≡ true
value_begins (part.Number n) rest h = (number_begins n rest h).0
value_begins (part.Str s) rest h = refl
value_begins (part.Symbol s zero) rest h = refl
value_begins (part.Symbol s (suc n)) rest h = refl

value_ends : (v : PartValue) (rest : List ℕ) → is_part_value v ≡ true → Ends (part_value_text v ++ rest)
value_ends (part.Number n) rest h = record { stops = refl; no_offset = (number_begins n rest h).1 }
value_ends (part.Str s) rest h = record { stops = refl; no_offset = refl }
value_ends (part.Symbol s zero) rest h = record { stops = refl; no_offset = refl }
value_ends (part.Symbol s (suc n)) rest h = record { stops = refl; no_offset = refl }

some_value : (v : PartValue) → 0 < length (part_value_text v)
some_value (part.Number n) = omega arith
some_value (part.Str s) = omega arith
some_value (part.Symbol s zero) = omega arith
some_value (part.Symbol s (suc n)) = omega arith

-- ---- parts

-- no value goes on with this rest, and none begins
pub record EndsPart (rest : List ℕ) : Type 0 where
  pub ends : Ends rest
  pub no_value : begins_value rest ≡ false

values_again : (w : ℕ) (vs : List PartValue) (rest : List ℕ) → is_width w ≡ true → list_all is_part_value vs ≡ true → EndsPart rest →
    part_at (width_text w ++ (flat_map part_value_text vs ++ rest)) ≡ Some (Values w vs, rest)
unfolding part_at values_at width_at
values_again w vs rest hw hv e =
    let all = each_again part_value_at begins_value part_value_text is_part_value Ends part_value_again value_begins value_ends vs rest
    (length (flat_map part_value_text vs ++ rest)) hv (length-rest part_value_text some_value vs rest) e.ends e.no_value in
    let P : ℕ → Type 0 = λ n. part_at (width_text n ++ (flat_map part_value_text vs ++ rest)) ≡ Some (Values n vs, rest) in
    by_width P w hw (rw all refl) (rw all refl) (rw all refl) (rw all refl)

part_again : (p : Part) (rest : List ℕ) → is_part p ≡ true → EndsPart rest → part_at (part_text p ++ rest) ≡ Some (p, rest)
unfolding part_at zeros_at
part_again (Values w vs) rest h e =
    let p = and_parts (is_width w) (some vs && list_all is_part_value vs) h in
    ap part_at (append_assoc (width_text w) (flat_map part_value_text vs) rest) ∙ values_again w vs rest p.0
    (and_parts (some vs) (list_all is_part_value vs) p.1).1 e
part_again (Zero n) rest h e = let number = number_again n rest h e.ends.stops in rw number refl

comma_ends : (r : List ℕ) → EndsPart (codes ", " ++ r)
comma_ends r = record { ends = record { stops = refl; no_offset = refl }; no_value = refl }

brace_ends : (r : List ℕ) → EndsPart (codes " }" ++ r)
brace_ends r = record { ends = record { stops = refl; no_offset = refl }; no_value = refl }

-- a part begins with no closing brace
part_begins : (p : Part) (rest : List ℕ) → is_part p ≡ true → behind (codes "{ }") (codes "{ " ++ (part_text p ++ rest)) ≡ None
part_begins (Values w vs) rest h =
    let P : ℕ → Type 0 = λ n. behind (codes "{ }") (codes "{ " ++ ((width_text n ++ flat_map part_value_text vs) ++ rest)) ≡ None in
    by_width P w (and_parts (is_width w) (some vs && list_all is_part_value vs) h).0 refl refl refl refl
part_begins (Zero n) rest h = refl

parts_again : (ps : List Part) (rest : List ℕ) → list_all is_part ps ≡ true → parts_at (parts_text ps ++ 10 ∷ rest) ≡ Some (ps, 10 ∷ rest)
unfolding parts_at some_parts_at
parts_again [] rest h = refl
parts_again (p ∷ ps) rest h =
    let end = 125 ∷ 10 ∷ rest in
    let inside = with_commas part_text (p ∷ ps) ++ 32 ∷ end in
    let text : parts_text (p ∷ ps) ++ 10 ∷ rest ≡ codes "{ " ++ inside = simp append_assoc in
    let no_end : behind (codes "{ }") (codes "{ " ++ inside) ≡ None =
    ap (λ x. behind (codes "{ }") (codes "{ " ++ x)) (append_assoc (part_text p) _ (32 ∷ end)) ∙ part_begins p _
    (and_parts (is_part p) (list_all is_part ps) h).0 in
    let list = listed_again part_at part_text is_part EndsPart part_again comma_ends p ps 32 end h (brace_ends (10 ∷ rest)) refl in
    ap parts_at text ∙ rw no_end (rw list refl)

-- ---- items

align_again : (n : ℕ) (rest : List ℕ) → is_bits n ≡ true → nat_lt n (2 ^ 32) ≡ true → Stops rest →
    align_at (decimal n ++ rest) ≡ Some (n, rest)
unfolding align_at
align_again n rest h k stop = let number = number_again n rest h stop in rw number (rw k refl)

pub data_again : (export : Bool) (name : List ℕ) (align : ℕ) (ps : List Part) (rest : List ℕ) → is_identifier name ≡ true →
    is_bits align ≡ true → nat_lt align (2 ^ 32) ≡ true → list_all is_part ps ≡ true →
    data_at export (36 ∷ (name ++ (codes " = align " ++ (decimal align ++ 32 ∷ (parts_text ps ++ 10 ∷ rest))))) ≡
    Some (Data export name align ps, rest)
unfolding data_at
data_again export name align ps rest hn ha short hp =
    let list = parts_text ps ++ 10 ∷ rest in
    let one = symbol_again name (codes " = align " ++ (decimal align ++ 32 ∷ list)) hn refl in
    let two = align_again align (32 ∷ list) ha short refl in
    let three = parts_again ps rest hp in
    rw one (rw two (rw three refl))
