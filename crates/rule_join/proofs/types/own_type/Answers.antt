use Rattle.std.proofs.Common.{ap, sym, ◌∙◌}
use Rattle.hare_tree.specs.Node.{head}
use Rattle.rule_judge.specs.Turns.{context_in, kind_in}
use Rattle.rule_join.specs.Kinds.{is_block}
use Rattle.rule_join.proofs.TypeLemmas.{branches_default, yields_default, block_typed}
use Rattle.rule_join.proofs.types.own_type.Goals as goal

pub block_type-requires-clause-defaults : goal.block_type-requires-clause-defaults
block_type-requires-clause-defaults c f l =
    yields_default (context_in f c.args.t.now) (c.if-is_block.ensures ∙ ap (λ n. is_block (head n).kind) c.node.view_is)
    (c.requires.rows f l)

pub returns-then-is_block-clause-value : goal.returns-then-is_block-clause-value
returns-then-is_block-clause-value c f l =
    block_typed (context_in f c.args.t.now) (kind_in c.args.t.now) (c.if-is_block.ensures ∙ ap (λ n. is_block (head n).kind) c.node.view_is)
    ∙ c.in_ok-a.ensures.value f l

pub if_type-requires-clause-defaults : goal.if_type-requires-clause-defaults
if_type-requires-clause-defaults c f l =
    branches_default (context_in f c.args.t.now) (sym (ap (λ n. (head n).kind) c.node.view_is) ∙ c.in-If.is) (c.requires.rows f l)
