-- Names that are made of numbers: they are identifiers, and they differ where the numbers do.
use Rattle.std.proofs.Common.{◌≡◌, ℕ, ◌<◌, ◌^◌, true, List, [], ◌∷◌, refl, arith}
use Rattle.std.specs.Prelude.{bytes_eq, nat_eq}
use Rattle.std.specs.Char.{is_ascii_digit}
use Rattle.std.specs.Fmt.{decimal}
use Rattle.std.specs.List.{list_all}
use Rattle.std.specs.Str.{all_ascii_digits}
use Rattle.std.specs.Str.Parse.{digits_value}
use Rattle.std.proofs.lemmas.Bool.{and_parts}
use Rattle.std.proofs.lemmas.Bool.Decides.{nat_tests}
use Rattle.std.proofs.lemmas.Fmt.{digits_decimal}
use Rattle.std.proofs.lemmas.Grind.{common_steps}
use Rattle.std.proofs.lemmas.Slice.Eq.{bytes_eq-Decides}
use Rattle.std.proofs.lemmas.Str.Parse.{IsNumeralModel, numerals_by_value, tells_all_ascii_digits}
use Rattle.flat_code.proofs.NumberNames.{decimal_eq}
use Rattle.il_code.specs.Tokens.{is_name_byte, is_identifier}
use Rattle.il_emit.specs.Names.{temp_name, address_name, label_name}
use Rattle.il_emit.proofs.Lines.Counts.{both_true}

pub bytes_same : (s : List ℕ) → bytes_eq s s ≡ true
bytes_same s = (bytes_eq-Decides s s).1 refl

pub temp_eq : (m n : ℕ) → m < 2 ^ 64 → n < 2 ^ 64 → bytes_eq (temp_name m) (temp_name n) ≡ nat_eq m n
temp_eq m n hm hn = decimal_eq m n hm hn

pub label_eq : (m n : ℕ) → m < 2 ^ 64 → n < 2 ^ 64 → bytes_eq (label_name m) (label_name n) ≡ nat_eq m n
label_eq m n hm hn = decimal_eq m n hm hn

-- ---- identifiers

digit_in_name : (c : ℕ) → is_ascii_digit c ≡ true → is_name_byte c ≡ true
digit_in_name c h = grind (arith, nat_tests, common_steps)

digits_in_name : (s : List ℕ) → all_ascii_digits s ≡ true → list_all is_name_byte s ≡ true
digits_in_name [] h = refl
digits_in_name (c ∷ s) h =
    let k = and_parts (is_ascii_digit c) (all_ascii_digits s) h in both_true (is_name_byte c) _ (digit_in_name c k.0) (digits_in_name s k.1)

own : IsNumeralModel (λ ds. all_ascii_digits ds ≡ true) (digits_value 10)
own = numerals_by_value _ tells_all_ascii_digits

decimal_in_name : (n : ℕ) → n < 2 ^ 64 → list_all is_name_byte (decimal n) ≡ true
decimal_in_name n h = digits_in_name (decimal n) (digits_decimal own n h)

pub temp_identifier : (n : ℕ) → n < 2 ^ 64 → is_identifier (temp_name n) ≡ true
temp_identifier n h = decimal_in_name n h

pub address_identifier : (n : ℕ) → n < 2 ^ 64 → is_identifier (address_name n) ≡ true
address_identifier n h = decimal_in_name n h

pub label_identifier : (n : ℕ) → n < 2 ^ 64 → is_identifier (label_name n) ≡ true
label_identifier n h = decimal_in_name n h
