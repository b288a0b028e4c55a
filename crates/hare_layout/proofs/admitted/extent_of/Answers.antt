use Rattle.std.proofs.Common.{sym, subst}
use Rattle.std.specs.Prelude.{IfNone}
use Rattle.hare_types.specs.declared.extent.Extent.{Extent}
use Rattle.hare_types.specs.Layout.{HasExtent}
use Rattle.hare_layout.specs.declared.reduce.Reduced.{Reduced}
use Rattle.hare_layout.specs.Reduced.{IsHere, tree_of_reduced}
use Rattle.hare_layout.proofs.AdmitLemmas.{none-known}
use Rattle.hare_layout.proofs.admitted.extent_of.Goals as goal

pub returns-in-Known-clause-none : goal.returns-in-Known-clause-none
returns-in-Known-clause-none c =
    let P : Reduced → Type 0 = λ q. IfNone c.extent.result ((y : Extent) → ¬ HasExtent c.args.s.now (tree_of_reduced c.args.s.now q) y) in
    subst P (sym c.in-Known.is) (none-known c.args.s.now c.in-Known.id c.extent.result
    (subst (IsHere c.args.s.now) c.in-Known.is c.requires) c.extent.ensures.none)

pub returns-in-Fresh-clause-none : goal.returns-in-Fresh-clause-none
returns-in-Fresh-clause-none c =
    let P : Reduced → Type 0 = λ q. IfNone c.row_extent.result
    ((y : Extent) → ¬ HasExtent c.args.s.now (tree_of_reduced c.args.s.now q) y) in
    subst P (sym c.in-Fresh.is) c.row_extent.ensures.none
