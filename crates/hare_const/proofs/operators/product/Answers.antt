use Rattle.std.proofs.Common.{◌≡◌, ◌∙◌, ap, false, ◌⊎◌, inl, inr, subst, to_z, of_z}
use Rattle.std.specs.Prelude.{pos, ◌*ℤ◌}
use lib.IntN.{nat_abs}
use lib.Signed.{le_z}
use mir.Syntax.{w128}
use Rattle.hare_typed.specs.Arithmetic as spec
use Rattle.hare_const.specs.Operators.{int_of}
use Rattle.hare_const.proofs.OperatorLemmas.{kept, whole-kept, product_cut, product_of, product_fits}
use Rattle.hare_const.proofs.operators.product.Goals.{else-x-ge0-via-then-x-ge0+else-y-ge0, else-x-ge0-via-else-x-ge0}
use Rattle.hare_const.proofs.operators.product.Goals as goal

pub returns-then-y-ge0 : goal.returns-then-y-ge0
returns-then-y-ge0 c =
    let t = c.args.t in
    let x = whole-kept c.args.x c.requires.left in
    let y = whole-kept c.args.y c.requires.right in
    kept c.cut.result c.cut.type_inv
    ∙ c.cut.ensures
    ∙ product_cut t (nat_abs (to_z w128 (of_z w128 c.args.x))) (nat_abs (to_z w128 (of_z w128 c.args.y))) c.requires.width
    ∙ ap (spec.cut (int_of t)) (product_of (to_z w128 (of_z w128 c.args.x)) (to_z w128 (of_z w128 c.args.y)) c.if-x-ge0.true
    c.if-y-ge0.true)
    ∙ ap (λ v. spec.cut (int_of t) (v *ℤ to_z w128 (of_z w128 c.args.y))) x
    ∙ ap (λ v. spec.cut (int_of t) (c.args.x *ℤ v)) y

pub returns-else-x-ge0 : goal.returns-else-x-ge0
returns-else-x-ge0 c =
    let t = c.args.t in
    let x = whole-kept c.args.x c.requires.left in
    let y = whole-kept c.args.y c.requires.right in
    let negative : (le_z (pos 0) c.args.x ≡ false) ⊎ (le_z (pos 0) c.args.y ≡ false) =
    elim c.else-x-ge0.branch [
      | else-x-ge0-via-then-x-ge0+else-y-ge0 w ↦ inr (subst (λ v. le_z (pos 0) v ≡ false) y w.if-y-ge0.false)
      | else-x-ge0-via-else-x-ge0 w ↦ inl (subst (λ v. le_z (pos 0) v ≡ false) x w.if-x-ge0.false)
    ] in
    kept c.cut-else-x-ge0.result c.cut-else-x-ge0.type_inv
    ∙ c.cut-else-x-ge0.ensures
    ∙ ap (λ v. spec.cut (int_of t) (to_z w128 (of_z w128 (v *ℤ to_z w128 (of_z w128 c.args.y))))) x
    ∙ ap (λ v. spec.cut (int_of t) (to_z w128 (of_z w128 (c.args.x *ℤ v)))) y
    ∙ ap (spec.cut (int_of t)) (kept (c.args.x *ℤ c.args.y) (product_fits c.args.x c.args.y c.requires.left c.requires.right negative))
