use Rattle.std.proofs.Common.{refl, ap, ◌∙◌}
use Rattle.std.proofs.lemmas.Str.{is_utf8-from_IsUtf8}
use Rattle.hare_lex.specs.Lexing.{only_char}
use Rattle.hare_lex.proofs.Turns.Steps.{not_utf8}
use Rattle.hare_lex.proofs.literal.character.Goals as goal

pub returns-in-Ok : goal.returns-in-Ok
returns-in-Ok c =
    rw (is_utf8-from_IsUtf8 c.args.s.now c.in-Ok.ensures.cases.1) (c.only_char.ensures ∙ ap only_char c.in-Ok.ensures.cases.0)

pub returns-in-Err : goal.returns-in-Err
returns-in-Err c = rw (not_utf8 c.args.s.now _ refl c.in-Err.ensures.cases.0) refl
