use Rattle.std.proofs.Common.{rules}
use Rattle.hare_lex.proofs.Fronts.ShortMarks.{front_of_two}
use Rattle.hare_lex.proofs.table.mark_len.Goals as goal

pub returns-in-len2-up-clause-value : goal.returns-in-len2-up-clause-value
returns-in-len2-up-clause-value c =
    front_of_two c.args.s.now c.in-len2-up.len_at_least (search rules) (search rules)
