use Rattle.std.proofs.Common.{◌≡◌, ◌↔◌, IsTrue, IfOk, true, false, [], sym, ◌∙◌, subst}
use Rattle.std.specs.Prelude.{Contains}
use Rattle.hare_graph.proofs.Elements.{get_or-there, get_or-none, Contains-none}
use Rattle.hare_depends.specs.Edges.{SomeLeads}
use Rattle.hare_depends.proofs.circles.returns.Goals as goal

pub returns-in_default : goal.returns-in_default
returns-in_default c = (
  λ t. let e : false ≡ true = t in absurd cc,
  λ r. absurd (Contains-none r.0 (subst (λ xs. Contains xs r.0) (get_or-none c.args.forward.now c.args.node [] (sym c.in_default.ensures))
      r.1)),
)

pub returns_over-requires-clause-edges : goal.returns_over-requires-clause-edges
returns_over-requires-clause-edges c =
    λ x k. subst (λ xs. Contains xs x) (c.as_slice.ensures ∙ sym
    (get_or-there c.args.forward.now c.args.node c.in-Some.targets.now [] (sym c.in-Some.ensures))) k

pub returns : goal.returns
returns c =
    subst (λ xs. IfOk c.returns_over.result (λ b. IsTrue b ↔ SomeLeads c.args.forward.now c.args.node xs))
    (c.as_slice.ensures ∙ sym (get_or-there c.args.forward.now c.args.node c.in-Some.targets.now [] (sym c.in-Some.ensures)))
    c.returns_over.ensures
