use Rattle.std.proofs.Common.{◌≡◌, ◌<◌, get_or, sym, ◌∙◌, subst, arith}
use Rattle.std.proofs.lemmas.List.{get_or_default}
use borrow.Author.Count.{below_more}
use Rattle.hare_types.proofs.fields.are_named.Goals as goal

pub loop-field-preserved : goal.loop-field-preserved
loop-field-preserved c = λ k d l.
    let fs = c.fields_in-field-items.result.now in
    let i = c.loop-field.field-index in
    let here : get_or fs i d ≡ c.field-item.result =
    get_or_default fs i d c.field-item.result c.loop-field-test.true ∙ sym c.field-item.is in
    below_more (λ n. (get_or fs n d).name < c.args.names) i (λ n h. c.loop-field.invariant n d h) (rw here c.if-field-names.false) k l

pub returns : goal.returns
returns c = λ yes f m.
    let fs = c.fields_in-field-items.result.now in
    let there = rw (← c.fields_in-field-items.ensures) at m in
    subst (λ g. g.name < c.args.names) there.2 (c.loop-field.invariant there.0 f (omega (arith, there.1, c.loop-field-test.false)))
