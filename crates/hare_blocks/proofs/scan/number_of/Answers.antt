use Rattle.std.proofs.Common.{◌∙◌}
use Rattle.std.proofs.lemmas.Str.Parse.{parse_digits}
use Rattle.std.proofs.lemmas.Str.{IsUtf8-from_ascii}
use Rattle.hare_blocks.proofs.FirstTokens.Scanned.{own, number_is, IsAscii-digits}
use Rattle.hare_blocks.proofs.scan.number_of.Goals as goal

pub returns-in-Ok : goal.returns-in-Ok
returns-in-Ok c =
    let ds = c.args.digits.now in
    let r = c.parse.result in
    c.ok.ensures.value ∙ number_is ds r (parse_digits own 64 ds r (rw c.in-Ok.ensures.cases.0 at c.parse.ensures.value.0) c.requires)

pub returns-in-Err : goal.returns-in-Err
returns-in-Err c = absurd (c.in-Err.ensures.cases.0 (IsUtf8-from_ascii c.args.digits.now (IsAscii-digits c.args.digits.now c.requires)))
