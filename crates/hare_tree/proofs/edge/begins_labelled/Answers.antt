use Rattle.std.proofs.Common.{◌≡◌, true, false, length, ap, sym, ◌∙◌}
use Rattle.std.specs.Prelude.{not, ◌==◌}
use Rattle.hare_tree.specs.Forms.{form_of}
use Rattle.hare_tree.specs.Shape.{begins_labelled}
use Rattle.hare_tree.specs.Judged.{begins_with_kid, begins_with_label}
use Rattle.hare_tree.proofs.TreeKids.Behind.{begins-kid, begins-own, first-labelled, none-labelled, is_empty-length, kid_size-tree}
use Rattle.hare_tree.proofs.edge.begins_labelled.Goals as goal

pub loop-tree-smaller : goal.loop-tree-smaller
loop-tree-smaller c = kid_size-tree _ c.tree.inside.kids c.loop-tree.tree.now c.in-Some.kid.now 0 c.tree.view_is c.in-Some.ensures.found

pub loop-tree-preserved : goal.loop-tree-preserved
loop-tree-preserved c =
    let kid : begins_with_kid (form_of c.tree.inside.kind) ≡ true =
    ap begins_with_kid (sym c.form_of.ensures) ∙ (sym c.begins_with_kid.ensures ∙ c.loop-tree-test.true) in
    sym (first-labelled c.tree.inside.kids c.in-Some.kid.now c.in-Some.ensures.found) ∙
    (sym (begins-kid _ _ kid) ∙ (ap begins_labelled c.tree.view_is ∙ c.loop-tree.invariant))

pub returns-in-None : goal.returns-in-None
returns-in-None c =
    let kid : begins_with_kid (form_of c.tree.inside.kind) ≡ true =
    ap begins_with_kid (sym c.form_of.ensures) ∙ (sym c.begins_with_kid.ensures ∙ c.loop-tree-test.true) in
    sym (none-labelled c.tree.inside.kids c.in-None.ensures.none) ∙
    (sym (begins-kid _ _ kid) ∙ (ap begins_labelled c.tree.view_is ∙ c.loop-tree.invariant))

pub returns-then-begins_with_label : goal.returns-then-begins_with_label
returns-then-begins_with_label c =
    let kid : begins_with_kid (form_of c.tree.inside.kind) ≡ false =
    ap begins_with_kid (sym c.form_of.ensures) ∙ (sym c.begins_with_kid.ensures ∙ c.loop-tree-test.false) in
    let label : begins_with_label (form_of c.tree.inside.kind) ≡ true =
    ap begins_with_label (sym c.form_of-2.ensures) ∙ (sym c.begins_with_label.ensures ∙ c.if-begins_with_label.true) in
    ap not (c.is_empty.ensures ∙ (ap (λ s. length s == 0) c.bytes.ensures ∙ is_empty-length c.tree.inside.text))
    ∙ (sym (begins-own _ _ true kid label) ∙ (ap begins_labelled c.tree.view_is ∙ c.loop-tree.invariant))

pub returns-else-begins_with_label : goal.returns-else-begins_with_label
returns-else-begins_with_label c =
    let kid : begins_with_kid (form_of c.tree.inside.kind) ≡ false =
    ap begins_with_kid (sym c.form_of.ensures) ∙ (sym c.begins_with_kid.ensures ∙ c.loop-tree-test.false) in
    let label : begins_with_label (form_of c.tree.inside.kind) ≡ false =
    ap begins_with_label (sym c.form_of-2.ensures) ∙ (sym c.begins_with_label.ensures ∙ c.if-begins_with_label.false) in
    c.if-begins_with_label.false ∙ (sym (begins-own _ _ false kid label) ∙ (ap begins_labelled c.tree.view_is ∙ c.loop-tree.invariant))
