use Rattle.std.proofs.Common.{ap, sym, ◌∙◌}
use Rattle.hare_tree.specs.declared.kind.Kind.{Kind}
use Rattle.hare_rules.specs.Settles.{target_of}
use Rattle.hare_rules.specs.Types.{type_by}
use Rattle.rule_judge.specs.Turns.{context_in, kind_in}
use Rattle.rule_match.proofs.UnmetLemmas.{is_match}
use Rattle.rule_match.proofs.cases.target.Goals as goal

pub returns-clause-value : goal.returns-clause-value
returns-clause-value c f e =
    let x = context_in f c.args.t.now in
    let k = is_match (kind_in c.args.t.now) c.requires.kind in
    c.case_target.ensures.value f (sym (ap (type_by x) k) ∙ e)
    ∙ sym (ap (λ (q : Kind). target_of x q c.args.i) k)
