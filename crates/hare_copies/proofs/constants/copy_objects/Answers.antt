use Rattle.std.proofs.Common.{List, [], ◌∷◌, ◌++◌, take, ap, sym, ◌∙◌, arith}
use Rattle.std.specs.Prelude.{option_copied}
use Rattle.hare_typed.specs.declared.constant.ConstObject.{ConstObject}
use Rattle.hare_typed.specs.declared.cell.Cell.{Cell}
use Rattle.hare_typed.proofs.KidLemmas.{take-get}
use Rattle.hare_copies.proofs.constants.copy_objects.Goals as goal

pub loop-i-preserved : goal.loop-i-preserved
loop-i-preserved c =
    let i = c.loop-i.i in
    let os : List ConstObject = c.args.objects.now in
    let o : ConstObject = c.in-Some.object.now in
    let there = take-get os i o (sym c.get.ensures ∙ ap option_copied c.in-Some.is) in
    record {
      within = omega arith;
      copied =
          c.in_ok-push.ensures.ok
          ∙ ap (λ zs. zs ++ record { object = o.object; cells = c.in_ok-cells.cells } ∷ []) c.loop-i.invariant.copied
          ∙ ap (λ (z : List Cell). take i os ++ record { object = o.object; cells = z } ∷ []) c.in_ok-cells.ensures
          ∙ sym there;
    }
