use Rattle.std.proofs.Common.{Bool, cond, ap, sym, ◌∙◌}
use Rattle.hare_types.specs.declared.coercion.Ty.{Ty}
use Rattle.hare_typed.specs.Given.{given, base_row, element_in}
use Rattle.hare_typed.specs.Order.{tree_from_front}
use Rattle.hare_rules.specs.Aggregates.{refusable, slice_of, pointer_to}
use Rattle.hare_rules.specs.Words.{default_in}
use Rattle.rule_mem.proofs.BoolLemmas.{or_rest}
use Rattle.rule_mem.proofs.types.alloc_type.Goals as goal

pub sequence_type-requires-clause-met : goal.sequence_type-requires-clause-met
sequence_type-requires-clause-met c f l = or_rest c.has_capacity.result _ _ c.if-has_capacity.true (c.has_capacity.ensures f)
    (c.requires.sequence f l)

pub returns-then-has_capacity-clause-value : goal.returns-then-has_capacity-clause-value
returns-then-has_capacity-clause-value c f l =
    let x = given (tree_from_front 0 c.args.t.now.kids.now) in
    ap (λ (b : Bool). cond b (refusable f (slice_of f (element_in (base_row f x)))) (refusable f (pointer_to f (default_in f x))))
    (sym (c.has_capacity.ensures f) ∙ c.if-has_capacity.true)
    ∙ c.in_ok-a.ensures.value f l

pub returns-clause-value : goal.returns-clause-value
returns-clause-value c f l =
    let x = given (tree_from_front 0 c.args.t.now.kids.now) in
    ap (λ (b : Bool). cond b (refusable f (slice_of f (element_in (base_row f x)))) (refusable f (pointer_to f (default_in f x))))
    (sym (c.has_capacity.ensures f) ∙ c.if-has_capacity.false)
    ∙ c.in_ok-a-2.ensures.value f l
