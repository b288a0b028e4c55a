use Rattle.hare_lex.proofs.Order.Ordered.{tokens_are_in_order, kept_are_in_order}
use Rattle.hare_lex.proofs.law.tokens_are_in_order.Goals as goal

pub returns-clause-tokens : goal.returns-clause-tokens
returns-clause-tokens c = tokens_are_in_order

pub returns-clause-kept : goal.returns-clause-kept
returns-clause-kept c = kept_are_in_order
