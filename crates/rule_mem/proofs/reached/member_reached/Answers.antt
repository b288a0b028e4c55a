use Rattle.std.proofs.Common.{ap, ◌∙◌}
use Rattle.hare_tree.specs.Node.{head}
use Rattle.hare_types.specs.declared.coercion.Ty.{Ty}
use Rattle.hare_typed.specs.Given.{base_row}
use Rattle.hare_typed.specs.Followed.{reached_type}
use Rattle.hare_typed.specs.Order.{tree_from_front}
use Rattle.hare_rules.specs.Aggregates.{reached}
use Rattle.rule_mem.specs.Members.{member_of}
use Rattle.rule_judge.specs.Turns.{context_in}
use Rattle.rule_mem.proofs.StructLemmas.{member_type-of}
use Rattle.rule_mem.proofs.reached.member_reached.Goals as goal

pub returns-clause-value : goal.returns-clause-value
returns-clause-value c f l =
    c.member.ensures.value f l
    ∙ ap (λ (a : Ty). member_of f (head c.args.t.now.node.now) (base_row f a))
    (c.reached.ensures.value f l ∙ ap (reached_type f) c.seen.ensures.value)
    ∙ member_type-of (context_in f c.args.t.now) (reached f (tree_from_front 0 c.args.t.now.kids.now))
