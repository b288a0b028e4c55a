use Rattle.std.proofs.Common.{◌≡◌, true, false, is_some, ap, sym, ◌∙◌}
use Rattle.hare_types.proofs.LaterLemmas.{later_here, later_trans}
use Rattle.rule_mem.proofs.ItemLemmas.{tuple_typed}
use Rattle.rule_mem.proofs.tuples.tuple_type.Goals as goal

pub unreachable-requires : goal.unreachable-requires
unreachable-requires c =
    let h = later_here c.args.s.now c.declarations-law.ensures.sound in
    let no : false ≡ true = sym (ap is_some c.in-None.is) ∙ c.in_ok-types.ensures.there c.args.s.now h ∙ c.requires.met c.args.s.now h in
    cc

pub returns-clause-value : goal.returns-clause-value
returns-clause-value c f l =
    tuple_typed f _ c.in-Some.types c.in_ok-made-in-Some.made
    (sym (c.in_ok-types.ensures.value f (later_trans c.components.new.s c.tuple_of.new.s f c.tuple_of.ensures.grown.later l)) ∙
    c.in-Some.is) (c.in_ok-made-in-Some.ensures.id f l)
