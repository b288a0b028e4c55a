use Rattle.std.proofs.Common.{Bool, cond, ap, sym, ◌∙◌}
use Rattle.hare_types.specs.declared.row.Scalar.TheVariants as keyword
use Rattle.hare_rules.specs.Words.{typed_as, word_id}
use Rattle.rule_join.proofs.types.for_type.Goals as goal

pub returns-then-is_endless-clause-value : goal.returns-then-is_endless-clause-value
returns-then-is_endless-clause-value c f l =
    ap (λ (b : Bool). typed_as (word_id f (cond b keyword.Never keyword.Void))) (sym (c.if-is_endless.ensures f)) ∙
    c.in_ok-never.ensures.value f l

pub returns-clause-value : goal.returns-clause-value
returns-clause-value c f l =
    ap (λ (b : Bool). typed_as (word_id f (cond b keyword.Never keyword.Void))) (sym (c.if-is_endless.ensures f)) ∙
    c.in_ok-void.ensures.value f l
