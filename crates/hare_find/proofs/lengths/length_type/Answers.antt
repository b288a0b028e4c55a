use Rattle.std.proofs.Common.{◌<◌, ◌^◌, ap, sym, ◌∙◌, subst}
use Rattle.hare_tree.specs.Node.{head}
use Rattle.rule_ops.proofs.TypeLemmas.{number_small}
use Rattle.hare_find.proofs.lengths.length_type.Goals as goal

pub number_type-requires : goal.number_type-requires
number_type-requires c =
    let shaped = c.requires.shaped in
    subst (λ n. (head n).number < 2 ^ 127) (sym c.node.view_is)
    (number_small shaped.0 c.args.node.now shaped.1 (sym (ap (λ n. (head n).kind) c.node.view_is) ∙ c.in-Number.is))
