use Rattle.std.proofs.Common.{sym, ◌∙◌, arith}
use Rattle.hare_lex.proofs.Turns.GapParts.{blanks_part, comment_part, no_part}
use Rattle.hare_lex.proofs.gap.gap_part.Goals as goal

pub returns-then-blanks-gt0 : goal.returns-then-blanks-gt0
returns-then-blanks-gt0 c = blanks_part c.args.s.now c.blank_len-blanks.result c.blank_len-blanks.ensures.value c.if-blanks-gt0.true

pub returns-then-begins_comment : goal.returns-then-begins_comment
returns-then-begins_comment c =
    comment_part c.args.s.now c.line_len.result c.line_len.ensures.value (sym c.begins_comment.ensures ∙ c.if-begins_comment.true)

pub returns-else-begins_comment : goal.returns-else-begins_comment
returns-else-begins_comment c =
    no_part c.args.s.now c.blank_len-blanks.result c.blank_len-blanks.ensures.value (omega (arith, c.if-blanks-gt0.false))
    (sym c.begins_comment.ensures ∙ c.if-begins_comment.false)
