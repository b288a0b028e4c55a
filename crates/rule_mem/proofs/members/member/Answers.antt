use Rattle.std.proofs.Common.{ap, sym, ◌∙◌, Some}
use Rattle.hare_tree.specs.Node.{head}
use Rattle.hare_types.proofs.LaterLemmas.{later_here}
use Rattle.rule_mem.specs.Members.{member_of}
use Rattle.rule_mem.proofs.StructLemmas.{field_defined, component_defined}
use Rattle.rule_mem.proofs.members.member.Goals as goal

pub returns-in-Tuple-clause-value : goal.returns-in-Tuple-clause-value
returns-in-Tuple-clause-value c f l =
    c.component.ensures f ∙ ap (member_of f (head c.args.node.now)) (sym (ap Some c.in-Tuple.is) ∙ c.in-Some.ensures.value f l)

pub returns-in-Tuple-clause-defined : goal.returns-in-Tuple-clause-defined
returns-in-Tuple-clause-defined c =
    component_defined c.args.s.now c.in-Some.row.now c.in-Tuple.types _ _ c.component.result c.in-Some.ensures.defined c.in-Tuple.is
    (c.component.ensures c.args.s.now)

pub returns-in-Struct-clause-defined : goal.returns-in-Struct-clause-defined
returns-in-Struct-clause-defined c =
    let here = later_here c.args.s.now c.in-Some-base.ensures.sound in
    field_defined c.args.s.now c.in-Some.row.now c.in-Struct.fields c.bytes.result.now c.field.result c.in-Some.ensures.defined
    c.in-Struct.is (c.field.ensures c.args.s.now here)
