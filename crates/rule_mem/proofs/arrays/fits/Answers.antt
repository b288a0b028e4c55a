use Rattle.std.proofs.Common.{ℕ, Option, ap₂, sym, ◌∙◌}
use Rattle.hare_types.proofs.LaterLemmas.{later_trans}
use Rattle.hare_rules.specs.Rows.{small_item}
use Rattle.rule_judge.specs.Turns.{context_in}
use Rattle.rule_mem.proofs.TupleLemmas.{array_fits}
use Rattle.rule_mem.proofs.arrays.fits.Goals as goal

pub returns-in_ok-made-in-Some-clause-value : goal.returns-in_ok-made-in-Some-clause-value
returns-in_ok-made-in-Some-clause-value c f l =
    let typed = later_trans c.item_type.new.s c.array_of.new.s f c.array_of.ensures.grown.later l in
    let counted = later_trans c.args.s.now c.item_type.new.s f c.item_type.ensures.grown.later typed in
    c.is_small.ensures f l ∙ array_fits f l.sound c.element_count-count.result c.in-Some.u c.in_ok-made-in-Some.made
    (c.in_ok-made-in-Some.ensures.id f l)
    ∙ ap₂ (λ (n : ℕ) (o : Option ℕ). small_item (context_in f c.args.t.now) n o) (c.element_count-count.ensures f counted)
    (sym c.in-Some.is ∙ c.in_ok-u.ensures.value f typed)
