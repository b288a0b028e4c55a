use Rattle.std.proofs.Common.{ap, sym, ◌∙◌}
use Rattle.hare_types.proofs.LaterLemmas.{later_trans}
use Rattle.hare_rules.specs.Rows.{small_fields}
use Rattle.rule_judge.specs.Turns.{context_in}
use Rattle.rule_mem.proofs.TupleLemmas.{tuple_small}
use Rattle.rule_mem.proofs.tuples.fits.Goals as goal

pub returns-in_ok-made-in-Some-clause-value : goal.returns-in_ok-made-in-Some-clause-value
returns-in_ok-made-in-Some-clause-value c f l =
    c.is_small.ensures f l ∙ tuple_small f l.sound c.in-Some.types c.in_ok-made-in-Some.made (c.in_ok-made-in-Some.ensures.id f l)
    ∙ ap (small_fields (context_in f c.args.t.now))
    (sym c.in-Some.is ∙ c.in_ok-types.ensures.value f
    (later_trans c.components.new.s c.tuple_of.new.s f c.tuple_of.ensures.grown.later l))
