use Rattle.std.proofs.Common.{◌≡◌, true, refl, sym, ap, ◌∙◌, subst, Some}
use denote.Enum.Bare.{same_false}
use Rattle.hare_tree.specs.contracts.kind.Kind.{the_type}
use Rattle.hare_tree.specs.declared.form.Sort.TheVariants as so
use Rattle.hare_tree.specs.KidSorts.{IsKid}
use Rattle.hare_tree.specs.Levels.{level}
use Rattle.hare_tree.specs.Node.{Head, Node, head}
use Rattle.hare_tree.specs.Shape.{is_shaped}
use Rattle.body_table.proofs.ProgramLemmas.{kid-shaped}
use Rattle.body_table.proofs.program.body_of.Goals as goal

pub returns-in-Some-Level-eq1 : goal.returns-in-Some-Level-eq1
returns-in-Some-Level-eq1 c =
    let d = c.decl.inside in
    let b = c.in-Some.body.now in
    let h : Head = record { kind = d.kind; place = d.place; text = d.text; number = d.number; suffix = d.suffix } in
    let shaped = subst (λ (n : Node). is_shaped so.Decl n ≡ true) (sym c.decl.view_is) c.requires in
    let kid = c.kid_sort.ensures.shaped so.Decl h d.kids b refl (sym c.len.ensures) shaped c.in-Some.ensures.found in
    let sort : c.kid_sort.result ≡ Some (so.Level 1) = cc in
    kid-shaped (level d.kind d.text) b
    (λ e. same_false the_type _ _ (sym c.eq.ensures ∙ c.if-eq.false) (ap (λ (n : Node). (head n).kind) c.body.view_is ∙ e))
    (subst (λ r. IsKid (level d.kind d.text) r b) sort kid)
