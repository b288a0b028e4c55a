use Rattle.std.proofs.Common.{sym, ap, ◌∙◌}
use Rattle.std.proofs.lemmas.Int.{to_z-of_z}
use mir.Syntax.{w128}
use Rattle.hare_types.specs.Assign.{default_word}
use Rattle.hare_bytes.proofs.RowLemmas.{default-there}
use Rattle.hare_bytes.proofs.declared.default_beside.Goals as goal

pub returns-then-is_word : goal.returns-then-is_word
returns-then-is_word c =
    default-there c.args.s.now c.in_ok-row_of.ensures.sound c.args.v c.in-Some-Of.word c.in-Some-Of.t c.in_ok-row_of.field-0.now
    (sym c.in-Some-Of.is-0 ∙ c.default_of.ensures ∙ ap default_word (to_z-of_z w128 c.args.v c.ranges.v)) c.in_ok-row_of.ensures.row
    (sym c.is_word.ensures ∙ c.if-is_word.true)
