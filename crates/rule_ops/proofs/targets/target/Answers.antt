use Rattle.std.proofs.Common.{nat_eq, ap, ap₂, sym, ◌∙◌}
use Rattle.hare_tree.specs.Node.{head}
use Rattle.hare_rules.specs.Settles.{target_of}
use Rattle.rule_judge.specs.Turns.{context_in}
use Rattle.rule_ops.specs.Typed.{equal_target_of}
use Rattle.rule_ops.proofs.TargetLemmas.{equal_by_place}
use Rattle.rule_ops.proofs.targets.target.Goals as goal

pub returns-in-Equal-clause-value : goal.returns-in-Equal-clause-value
returns-in-Equal-clause-value c f l =
    let x = context_in f c.args.t.now in
    c.equal_target.ensures.value f l ∙ ap₂ (λ a b. equal_target_of f a b (nat_eq c.args.i 0)) c.operand-a.ensures.value
    c.operand-b.ensures.value ∙ equal_by_place x c.args.i
    ∙ sym (ap (λ k. target_of x k c.args.i) (sym (ap (λ n. (head n).kind) c.node.view_is) ∙ c.in-Equal.is))
