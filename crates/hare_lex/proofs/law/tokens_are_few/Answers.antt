use Rattle.hare_lex.proofs.Order.Ordered.{tokens_are_few, kept_are_few}
use Rattle.hare_lex.proofs.law.tokens_are_few.Goals as goal

pub returns-clause-tokens : goal.returns-clause-tokens
returns-clause-tokens c = tokens_are_few

pub returns-clause-kept : goal.returns-clause-kept
returns-clause-kept c = kept_are_few
