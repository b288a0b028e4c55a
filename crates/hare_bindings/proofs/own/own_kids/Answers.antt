use Rattle.std.proofs.Common.{◌≡◌, ◌∙◌, ap, sym, length}
use Rattle.hare_tree.specs.Node.{Node, kids_of}
use Rattle.hare_typed.specs.Erased.{erase}
use Rattle.hare_modules.proofs.Trees.{kid-there}
use Rattle.hare_bindings.specs.Own.{void_leaf, type_or_leaf, kids_with}
use Rattle.hare_bindings.proofs.ToldOfNode.Kids.{first_written, four_kids, four_same, four_erased, kids_are, erased_are}
use Rattle.hare_bindings.proofs.own.own_kids.Goals as goal

pub written-requires : goal.written-requires
written-requires c x g =
    let t = c.args.decl.now in
    first_written t c.args.types.now c.requires.kind c.requires.types x g
    ∙ sym (kid-there _ _ t c.in-Some-get-2.third.now 2 c.decl.view_is c.in-Some-get-2.ensures.found)

pub returns-clause-kids : goal.returns-clause-kids
returns-clause-kids c =
    let t = c.args.decl.now in
    let void = c.args.void in
    let ts = c.args.types.now in
    let v = c.args.value.now in
    let first = kid-there _ _ t c.in-Some.first.now 0 c.decl.view_is c.in-Some.ensures.found in
    let name = kid-there _ _ t c.in-Some-get.name.now 1 c.decl.view_is c.in-Some-get.ensures.found in
    let third = kid-there _ _ t c.in-Some-get-2.third.now 2 c.decl.view_is c.in-Some-get-2.ensures.found in
    four_same c.four.result c.in_ok-export.export c.in_ok-called.called c.in_ok-of.of c.in_ok-copy.copy (kids_with void t ts v)
    c.four.ensures
    (kids_are t c.in_ok-export.export c.in_ok-called.called c.in_ok-of.of c.in_ok-copy.copy void ts v
    (c.in_ok-export.ensures.value ∙ ap (λ (u : Node). void_leaf void u) first)
    (c.in_ok-called.ensures.value ∙ ap (λ (u : Node). void_leaf void u) name)
    (c.in_ok-of.ensures.value ∙ ap (λ (u : Node). type_or_leaf void u ts) third) c.in_ok-copy.ensures)

pub returns-clause-erases : goal.returns-clause-erases
returns-clause-erases c =
    let t = c.args.decl.now in
    let first = kid-there _ _ t c.in-Some.first.now 0 c.decl.view_is c.in-Some.ensures.found in
    let name = kid-there _ _ t c.in-Some-get.name.now 1 c.decl.view_is c.in-Some-get.ensures.found in
    let third = kid-there _ _ t c.in-Some-get-2.third.now 2 c.decl.view_is c.in-Some-get-2.ensures.found in
    let many : length c.decl.inside.kids ≡ 4 = sym c.len.ensures ∙ c.if-len-ne-KIDS.false in
    four_erased c.four.result c.in_ok-export.export c.in_ok-called.called c.in_ok-of.of c.in_ok-copy.copy (kids_of t) c.four.ensures
    (erased_are t c.in_ok-export.export c.in_ok-called.called c.in_ok-of.of c.in_ok-copy.copy (c.in_ok-export.ensures.erases ∙ first)
    (c.in_ok-called.ensures.erases ∙ name) (c.in_ok-of.ensures.erases ∙ third) (ap erase c.in_ok-copy.ensures ∙ c.requires.value)
    ∙ four_kids _ c.decl.inside.kids t c.decl.view_is many)
