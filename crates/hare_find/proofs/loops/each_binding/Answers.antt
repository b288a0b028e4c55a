use Rattle.std.proofs.Common.{ap, sym, ◌∙◌}
use Rattle.hare_tree.specs.Node.{Node, head}
use Rattle.hare_types.proofs.LaterLemmas.{later_trans}
use Rattle.hare_rules.specs.Context.{Odd}
use Rattle.rule_judge.proofs.KidLemmas.{own_defined}
use Rattle.hare_find.proofs.BindingsSeen.Loops.{each_odd, each_known}
use Rattle.hare_find.proofs.loops.each_binding.Goals as goal

pub element-requires : goal.element-requires
element-requires c = rw c.type_at-operand.ensures (own_defined c.args.s.now c.args.kids.now 1 c.requires.defined)

pub returns-in_default-clause-value : goal.returns-in_default-clause-value
returns-in_default-clause-value c w l =
    ap (λ (t : Node). Odd (head t).place) c.node.view_is
    ∙ each_odd w (head c.args.node.now) c.args.kids.now c.type_at-operand.result c.requires.two c.type_at-operand.ensures
    (sym c.in_default.is ∙ c.element.ensures.value w.store l)

pub returns-clause-value : goal.returns-clause-value
returns-clause-value c w l =
    let later = later_trans c.args.s.now c.bound_element.new.s w.store c.bound_element.ensures.grown.later l in
    each_known w (head c.args.node.now) c.args.kids.now c.type_at-operand.result c.in-Some.t c.in_ok-ty.ty c.requires.two
    c.type_at-operand.ensures
    (sym c.in-Some.is ∙ c.element.ensures.value w.store later)
    (c.in_ok-ty.ensures.value w l)
