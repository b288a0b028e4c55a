use Rattle.std.proofs.Common.{◌∙◌, ap, arith, ◌≡◌, ◌++◌, ◌∷◌, []}
use Rattle.hare_tree.specs.declared.kind.Kind.TheVariants as kind
use Rattle.hare_typed.specs.Typed.{kids_of}
use Rattle.hare_typed.specs.Weight.{items_of}
use Rattle.hare_typed.specs.ConstantForms.{counted_from}
use Rattle.hare_const.proofs.NodeLemmas.{count-kids}
use Rattle.hare_const.proofs.PartLemmas.{counted_more, counted_all}
use Rattle.hare_const.proofs.parts.components_given.Goals as goal

pub loop-i-preserved : goal.loop-i-preserved
loop-i-preserved c =
    counted_more c.loop-i.i c.saturating_sub-i-end.result c.loop-i.places.items c.push.new.self.items
    (counted_from 0 c.saturating_sub-i-end.result)
    c.loop-i-test.true c.loop-i.invariant
    (c.in_ok-push.ensures.items ∙ ap (λ n. c.loop-i.places.items ++ n ∷ []) c.in_ok-part_number.ensures)

pub returns : goal.returns
returns c =
    let all = count-kids c.args.t.now _ _ c.t.inside.kids c.t.view_is in
    let many : c.saturating_sub-i-end.result ≡ items_of kind.Tuple (kids_of c.args.t.now) =
    omega (arith, all, c.saturating_sub-i-end.ensures, c.len.ensures) in
    counted_all c.loop-i.i c.saturating_sub-i-end.result c.loop-i.places.items (counted_from 0 c.saturating_sub-i-end.result)
    c.loop-i-test.false
    c.loop-i.invariant
    ∙ ap (counted_from 0) many
