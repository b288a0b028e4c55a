use Rattle.std.proofs.Common.{◌≡◌, true, sym, ◌∙◌}
use Rattle.std.specs.Str.{all_ascii_digits}
use Rattle.std.proofs.lemmas.Str.Parse.{parse_digits}
use Rattle.std.proofs.lemmas.Str.{IsUtf8-from_ascii}
use Rattle.harec_words.proofs.PartsOfWords.Digits.{own, IsAscii-digits, some_of_ok, list_all-digits}
use Rattle.harec_words.proofs.units.number_of.Goals as goal

pub returns-in-Ok : goal.returns-in-Ok
returns-in-Ok c =
    let ds = c.args.digits.now in
    let r = c.parse.result in
    let digits : all_ascii_digits ds ≡ true = sym (list_all-digits ds) ∙ c.requires in
    rw c.ok.ensures.value (some_of_ok r _ _ (parse_digits own 64 ds r (rw c.in-Ok.ensures.cases.0 at c.parse.ensures.value.0) digits))

pub returns-in-Err : goal.returns-in-Err
returns-in-Err c =
    let ds = c.args.digits.now in
    absurd (c.in-Err.ensures.cases.0 (IsUtf8-from_ascii ds (IsAscii-digits ds (sym (list_all-digits ds) ∙ c.requires))))
