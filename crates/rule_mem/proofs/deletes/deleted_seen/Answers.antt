use Rattle.std.proofs.Common.{ap, ◌∙◌}
use Rattle.hare_typed.specs.Typed.{TypedNode}
use Rattle.hare_typed.specs.Given.{given}
use Rattle.hare_typed.specs.Order.{kid_from_front}
use Rattle.rule_judge.proofs.KidLemmas.{kid_defined, front_found}
use Rattle.rule_mem.proofs.deletes.deleted_seen.Goals as goal

pub returns-in-Some-clause-value : goal.returns-in-Some-clause-value
returns-in-Some-clause-value c f =
    c.operand_seen.ensures.value
    ∙ ap (λ (t : TypedNode). given (kid_from_front 0 t)) (front_found c.args.t.now.kids.now 0 c.in-Some.tree.now c.in-Some.ensures.found)

pub returns-in-Some-clause-defined : goal.returns-in-Some-clause-defined
returns-in-Some-clause-defined c s h =
    c.operand_seen.ensures.defined s (kid_defined s c.args.t.now.kids.now 0 c.in-Some.tree.now h.types c.in-Some.ensures.found)
