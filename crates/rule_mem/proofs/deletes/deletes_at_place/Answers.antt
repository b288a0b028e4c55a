use Rattle.std.proofs.Common.{refl, ap, sym, ◌∙◌, is_some}
use Rattle.hare_typed.specs.Typed.{TypedNode}
use Rattle.hare_typed.specs.Given.{pointee}
use Rattle.hare_typed.specs.Order.{kid_from_front}
use Rattle.hare_rules.specs.Places.{is_place}
use Rattle.rule_judge.specs.Settings.{setting_of, entries}
use Rattle.rule_judge.proofs.KidLemmas.{kid_defined, front_found}
use Rattle.rule_mem.proofs.BoolLemmas.{or_first, or_second}
use Rattle.rule_mem.proofs.deletes.deletes_at_place.Goals as goal

pub returns-then-is_some : goal.returns-then-is_some
returns-then-is_some c f l =
    or_first _ _ _ refl (sym c.if-is_some.true ∙ c.is_some.ensures ∙ ap is_some
    (c.pointee.ensures.value f l ∙ ap (pointee f) (c.deleted_seen.ensures.value f)))

pub is_operand_place-requires : goal.is_operand_place-requires
is_operand_place-requires c = kid_defined c.args.s.now c.args.t.now.kids.now 0 c.in-Some.tree.now c.requires.types c.in-Some.ensures.found

pub returns-in-Some : goal.returns-in-Some
returns-in-Some c f l =
    or_second c.is_some.result _ _ _ c.if-is_some.false
    (c.is_some.ensures ∙ ap is_some (c.pointee.ensures.value f l ∙ ap (pointee f) (c.deleted_seen.ensures.value f)))
    (c.is_operand_place.ensures f l
    ∙ ap (λ (x : TypedNode). is_place (setting_of f c.args.t.now.decls.now) (kid_from_front 0 x))
    (front_found c.args.t.now.kids.now 0 c.in-Some.tree.now c.in-Some.ensures.found))
