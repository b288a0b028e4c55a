use Rattle.std.proofs.Common.{refl, ap, sym, ◌∙◌, subst, Some, None}
use Rattle.hare_tree.specs.declared.place.Place.{Place}
use Rattle.hare_tree.specs.Node.{Node, head}
use Rattle.hare_flow.specs.declared.yields.Handed.{Handed}
use Rattle.hare_flow.specs.Seen.{given_of}
use Rattle.hare_rules.specs.Context.{Given}
use Rattle.rule_judge.specs.Defined.{IsDefinedTy}
use Rattle.rule_judge.proofs.KidLemmas.{own_defined}
use Rattle.hare_find.proofs.Behind.Closed.{handed_value, handed_void}
use Rattle.hare_find.proofs.yields.handed.Goals as goal

pub returns-then-is_there-clause-value : goal.returns-then-is_there-clause-value
returns-then-is_there-clause-value c =
    let x : Handed = record { place = c.place_at.result; ty = Some c.type_at.result; node = Some c.first_number.result } in
    handed_value (head c.args.node.now) c.args.kids.now c.place_at.result c.type_at.result c.first_number.result (given_of x)
    (sym c.is_there.ensures ∙ c.if-is_there.true) c.place_at.ensures c.type_at.ensures c.first_number.ensures refl

pub returns-clause-value : goal.returns-clause-value
returns-clause-value c =
    let x : Handed = record { place = c.node.inside.place; ty = None; node = None } in
    let place = ap (λ (t : Node). (head t).place) c.node.view_is in
    handed_void (head c.args.node.now) c.args.kids.now (given_of x) (sym c.is_there.ensures ∙ c.if-is_there.false)
    (ap (λ (p : Place). let g : Given = record { place = p; ty = None; node = None } in g) place)

pub returns-then-is_there-clause-defined : goal.returns-then-is_there-clause-defined
returns-then-is_there-clause-defined c s h = subst (IsDefinedTy s) (sym c.type_at.ensures) (own_defined s c.args.kids.now 0 h)
