use Rattle.std.proofs.Common.{ap, sym, ◌∙◌}
use Rattle.hare_tree.specs.Node.{head}
use Rattle.hare_tree.specs.Shape.{scalars}
use Rattle.hare_tree.specs.Words.{is_listed}
use Rattle.rule_types.proofs.WordLemmas.{listed_word}
use Rattle.rule_types.proofs.scalars.scalar.Goals as goal

pub unreachable-requires : goal.unreachable-requires
unreachable-requires c =
    listed_word c.bytes.result.now (ap (is_listed scalars) (c.bytes.ensures ∙ ap (λ n. (head n).text) c.node.view_is) ∙ c.requires)
    (sym c.word_written.ensures ∙ c.in-None.is)
