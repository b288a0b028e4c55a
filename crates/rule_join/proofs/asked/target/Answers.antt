use Rattle.std.proofs.Common.{◌≡◌, ap, sym, ◌∙◌}
use Rattle.hare_tree.specs.declared.kind.Kind.TheVariants as ki
use Rattle.hare_tree.specs.Node.{head}
use Rattle.hare_rules.specs.Settles.{target_of}
use Rattle.rule_judge.specs.Turns.{context_in, kind_in}
use Rattle.rule_join.proofs.AskedLemmas.{if_typed}
use Rattle.rule_join.proofs.asked.target.Goals as goal

pub returns-in-If-clause-value : goal.returns-in-If-clause-value
returns-in-If-clause-value c f e =
    let x = context_in f c.args.t.now in
    let k : kind_in c.args.t.now ≡ ki.If = sym (ap (λ n. (head n).kind) c.node.view_is) ∙ c.in-If.is in
    c.branch_target.ensures.value f (if_typed x (kind_in c.args.t.now) c.args.ty.now k e) ∙ ap (λ q. target_of x q c.args.i) (sym k)
