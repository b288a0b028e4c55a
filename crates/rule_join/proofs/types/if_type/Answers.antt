use Rattle.std.proofs.Common.{Bool, cond, ap, sym, ◌∙◌}
use Rattle.hare_types.specs.declared.row.Scalar.TheVariants as keyword
use Rattle.hare_rules.specs.Control.{branches}
use Rattle.hare_rules.specs.Joined.{joined}
use Rattle.hare_rules.specs.Words.{typed_as, word_id}
use Rattle.rule_judge.specs.Turns.{context_in}
use Rattle.rule_join.proofs.types.if_type.Goals as goal

pub returns-then-is_there-clause-value : goal.returns-then-is_there-clause-value
returns-then-is_there-clause-value c f l =
    let w = context_in f c.args.t.now in
    ap (λ (b : Bool). typed_as (cond b (joined f w.hint (branches w)) (word_id f keyword.Void))) (sym c.if-is_there.ensures) ∙
    c.in_ok-joined.ensures.value f l

pub returns-clause-value : goal.returns-clause-value
returns-clause-value c f l =
    let w = context_in f c.args.t.now in
    ap (λ (b : Bool). typed_as (cond b (joined f w.hint (branches w)) (word_id f keyword.Void))) (sym c.if-is_there.ensures) ∙
    c.in_ok-void.ensures.value f l
