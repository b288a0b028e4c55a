use Rattle.std.proofs.Common.{Bool, cond, refl, ap, sym, ◌∙◌}
use Rattle.hare_types.proofs.LaterLemmas.{later_trans}
use Rattle.hare_types.specs.declared.row.Scalar.TheVariants as keyword
use Rattle.hare_rules.specs.Words.{typed_as, word_id}
use Rattle.rule_judge.specs.Turns.{context_in}
use Rattle.rule_join.proofs.TypeLemmas.{block_joined, block_unyielded}
use Rattle.rule_join.proofs.types.block_type.Goals as goal

pub returns-then-not-is_empty-clause-value : goal.returns-then-not-is_empty-clause-value
returns-then-not-is_empty-clause-value c f l =
    block_joined (context_in f c.args.t.now) c.args.t.now.case.now.yields refl c.if-not-is_empty.ensures ∙ c.in_ok-joined.ensures.value f l

pub returns-then-is_open-clause-value : goal.returns-then-is_open-clause-value
returns-then-is_open-clause-value c f l =
    block_unyielded (context_in f c.args.t.now) c.args.t.now.case.now.yields refl c.if-not-is_empty.ensures
    ∙ ap (λ (b : Bool). typed_as (word_id f (cond b keyword.Void keyword.Never)))
    (sym (c.if-is_open.ensures f (later_trans c.args.s.now c.word_type.new.s f c.word_type.ensures.grown.later l)))
    ∙ c.in_ok-void.ensures.value f l

pub returns-clause-value : goal.returns-clause-value
returns-clause-value c f l =
    block_unyielded (context_in f c.args.t.now) c.args.t.now.case.now.yields refl c.if-not-is_empty.ensures
    ∙ ap (λ (b : Bool). typed_as (word_id f (cond b keyword.Void keyword.Never)))
    (sym (c.if-is_open.ensures f (later_trans c.args.s.now c.word_type-2.new.s f c.word_type-2.ensures.grown.later l)))
    ∙ c.in_ok-never.ensures.value f l
