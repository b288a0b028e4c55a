use Rattle.hare_lex.proofs.Whole.Unique.{only_tokens, only_break}
use Rattle.hare_lex.proofs.Order.Ordered.{found_in_order}
use Rattle.hare_lex.proofs.lexer.tokens.Goals as goal

pub returns-clause-order : goal.returns-clause-order
returns-clause-order c = found_in_order c.args.file c.args.src.now c.found.result c.found.ensures.ok

pub returns-clause-only_tokens : goal.returns-clause-only_tokens
returns-clause-only_tokens c = only_tokens c.args.file c.args.src.now c.found.result c.found.ensures.ok c.found.ensures.err

pub returns-clause-only_break : goal.returns-clause-only_break
returns-clause-only_break c = only_break c.args.file c.args.src.now c.found.result c.found.ensures.ok c.found.ensures.err
