use Rattle.std.proofs.Common.{List, ℕ, Some, ap, sym, ◌∙◌, subst}
use Rattle.hare_types.proofs.LaterLemmas.{later_here}
use Rattle.hare_types.specs.Rows.{AreMembers}
use Rattle.rule_judge.proofs.HintLemmas.{held_members}
use Rattle.rule_judge.proofs.MemberLemmas.{union_reduced}
use Rattle.rule_judge.proofs.members.members_in.Goals as goal

pub returns-in-Some-Union-clause-defined : goal.returns-in-Some-Union-clause-defined
returns-in-Some-Union-clause-defined c =
    held_members c.args.s.now c.in-Some-Union.field-0.now c.in-Some-Union.members c.as_slice.result.now c.in-Some-Union.ensures.defined
    c.in-Some-Union.field-0-is c.as_slice.ensures

pub returns-in-Some-Union-clause-reduced : goal.returns-in-Some-Union-clause-reduced
returns-in-Some-Union-clause-reduced c =
    let s = c.args.s.now in
    let sound = c.declarations-law.ensures.sound in
    subst (λ (is : List ℕ). AreMembers s.rows is) (sym c.as_slice.ensures)
    (union_reduced s sound c.args.a.now c.in-Some-Union.members
    (sym (c.in-Some-Union.ensures.value s (later_here s sound)) ∙ ap Some c.in-Some-Union.field-0-is))
