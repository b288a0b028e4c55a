use Rattle.std.proofs.Common.{Some, refl, ap, sym, ◌∙◌}
use Rattle.hare_tree.specs.Node.{head}
use Rattle.hare_tree.specs.declared.kind.Kind.TheVariants as ki
use Rattle.hare_typed.specs.Given.{given}
use Rattle.hare_typed.specs.Order.{tree_from_front}
use Rattle.hare_rules.specs.Context.{own_type}
use Rattle.hare_rules.specs.Types.{type_by}
use Rattle.hare_rules.specs.declared.row_id.RowId.TheVariants as row
use Rattle.rule_judge.specs.Turns.{context_in}
use Rattle.rule_judge.proofs.RowLemmas.{row_met}
use Rattle.rule_ctl.proofs.TypeLemmas.{member_typed}
use Rattle.rule_ctl.proofs.types.own_type.Goals as goal

pub returns-in-As-clause-value : goal.returns-in-As-clause-value
returns-in-As-clause-value c f l =
    let x = context_in f c.args.t.now in
    let xs = c.args.t.now.kids.now in
    let kind = sym (ap (λ n. (head n).kind) c.node.view_is) ∙ c.in-As.is in
    ap (type_by x) kind
    ∙ member_typed f (given (tree_from_front 0 xs)) (own_type (tree_from_front 1 xs))
    (row_met x ki.As 1 row.TestMember kind refl (c.requires.rows f l))
    ∙ ap Some (sym c.own.ensures.value)

pub call_type-requires-clause-met : goal.call_type-requires-clause-met
call_type-requires-clause-met c f l =
    row_met (context_in f c.args.t.now) ki.Call 0 row.CallCallable (sym (ap (λ n. (head n).kind) c.node.view_is) ∙ c.in-Call.is) refl
    (c.requires.rows f l)

pub rest_type-requires-clause-met : goal.rest_type-requires-clause-met
rest_type-requires-clause-met c f l =
    row_met (context_in f c.args.t.now) ki.Try 0 row.TryErrors (sym (ap (λ n. (head n).kind) c.node.view_is) ∙ c.in-Try.is) refl
    (c.requires.rows f l)

pub rest_type-requires-in-Force-clause-met : goal.rest_type-requires-in-Force-clause-met
rest_type-requires-in-Force-clause-met c f l =
    row_met (context_in f c.args.t.now) ki.Force 0 row.ForceErrors (sym (ap (λ n. (head n).kind) c.node.view_is) ∙ c.in-Force.is) refl
    (c.requires.rows f l)
