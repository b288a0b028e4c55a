use Rattle.std.proofs.Common.{ap, ap₂, ◌∙◌, arith, ℕ, List}
use Rattle.hare_tree.specs.Node.{head}
use Rattle.hare_types.specs.declared.coercion.Ty.{Ty}
use Rattle.hare_typed.specs.Given.{base_row}
use Rattle.hare_rules.specs.Aggregates.{field_type}
use Rattle.rule_judge.specs.Defined.{IsDefinedTy}
use Rattle.rule_judge.proofs.KidLemmas.{own_defined}
use Rattle.hare_types.proofs.LaterLemmas.{later_here}
use Rattle.hare_above.proofs.BareLemmas.{field-later, field_type-defined}
use Rattle.hare_above.proofs.values.field_hint.Goals as goal

pub field_of-requires : goal.field_of-requires
field_of-requires c = rw c.type_at.ensures (own_defined c.args.s.now c.args.q.now.done.now 0 c.requires)

pub returns-clause-value : goal.returns-clause-value
returns-clause-value c w l =
    field-later w c.args.q.now.done.now (head c.args.q.now.kid.now) c.field_of.result c.hint_to.result (λ e. omega (arith, e))
    (c.field_of.ensures w.store l
    ∙ ap₂ (λ (a : Ty) (x : List ℕ). field_type w.store (base_row w.store a) x) c.type_at.ensures
    (c.bytes.ensures ∙ ap (λ t. (head t).text) c.kid.view_is))
    c.hint_to.ensures.value

pub returns-clause-defined : goal.returns-clause-defined
returns-clause-defined c =
    let here = later_here c.args.s.now c.declarations-law.ensures.sound in
    let known : IsDefinedTy c.args.s.now c.type_at.result =
    rw c.type_at.ensures (own_defined c.args.s.now c.args.q.now.done.now 0 c.requires) in
    c.hint_to.ensures.defined c.args.s.now
    (field_type-defined c.args.s.now c.declarations-law.ensures.sound c.type_at.result c.bytes.result.now c.field_of.result known
    (c.field_of.ensures c.args.s.now here))
