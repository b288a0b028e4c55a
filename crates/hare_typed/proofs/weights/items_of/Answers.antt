use Rattle.std.proofs.Common.{◌-◌, ap, sym, ◌∙◌}
use Rattle.hare_typed.proofs.GivenLemmas.{items_of-two, items_of-one}
use Rattle.hare_typed.proofs.weights.items_of.Goals as goal

pub returns-in-StructLit : goal.returns-in-StructLit
returns-in-StructLit c = c.saturating_sub.ensures ∙ ap (λ n. n - 2) c.len.ensures ∙ sym
    (items_of-two c.args.k c.args.kids.now c.in-StructLit.is)

pub returns-in-Tuple : goal.returns-in-Tuple
returns-in-Tuple c = c.saturating_sub-in-Tuple.ensures ∙ ap (λ n. n - 1) c.len-in-Tuple.ensures ∙ sym
    (items_of-one c.args.k c.args.kids.now c.in-Tuple.is)
