use Rattle.std.proofs.Common.{◌≡◌, true, refl, sym, ap, ◌∙◌, subst}
use denote.Enum.Bare.{same_false}
use Rattle.hare_tree.specs.contracts.kind.Kind.{the_type}
use Rattle.hare_tree.specs.KidSorts.{IsKid}
use Rattle.hare_tree.specs.Levels.{level}
use Rattle.hare_tree.specs.Node.{Head, Node, head}
use Rattle.hare_tree.specs.Shape.{is_shaped}
use Rattle.judge_table.proofs.ShapedLemmas.{part-shaped}
use Rattle.judge_table.proofs.part.part.Goals as goal

pub returns-in-Some-kid_sort : goal.returns-in-Some-kid_sort
returns-in-Some-kid_sort c =
    let d = c.tree.inside in
    let b = c.in-Some.kid.now in
    let h : Head = record { kind = d.kind; place = d.place; text = d.text; number = d.number; suffix = d.suffix } in
    let shaped = subst (λ (n : Node). is_shaped c.requires.0 n ≡ true) (sym c.tree.view_is) c.requires.1 in
    let kid = c.kid_sort.ensures.shaped c.requires.0 h d.kids b refl (sym c.len.ensures) shaped c.in-Some.ensures.found in
    part-shaped (level d.kind d.text) c.in-Some-kid_sort._sort b
    (λ e. same_false the_type _ _ (sym c.eq.ensures ∙ c.if-eq.false) (ap (λ (n : Node). (head n).kind) c.kid.view_is ∙ e))
    (subst (λ r. IsKid (level d.kind d.text) r b) c.in-Some-kid_sort.is kid)
