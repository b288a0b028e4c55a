use Rattle.std.proofs.Common.{◌≡◌, Option, Some, None, refl, sym, ap, ◌∙◌, arith, subst, length}
use Rattle.std.specs.Prelude.{IfNone, IfSome}
use Rattle.std.proofs.lemmas.List.{length-map}
use Rattle.hare_types.specs.declared.extent.Extent.{Extent}
use Rattle.hare_types.specs.Kept.{IsToldOf, known, defined, extent_over}
use Rattle.hare_types.specs.Layout.{HasExtent}
use Rattle.hare_types.specs.Rows.{tree_of, trees, IsWithin}
use Rattle.hare_types.specs.Waiting.{extents}
use Rattle.hare_types.proofs.KeptLemmas.{told-row, none_follows}
use Rattle.hare_types.proofs.SettledLemmas.{extents-settled}
use Rattle.hare_types.proofs.store.TypeStore.row_extent.Goals as goal

pub returns-clause-some : goal.returns-clause-some
returns-clause-some c = by c.extent_over.result refl
  where
    by : (o : Option Extent) → c.extent_over.result ≡ o →
        IfSome o (λ x. IsToldOf c.args.self.now (tree_of (trees c.args.self.now.rows) c.args.r.now) x)
    by None e = tt
    by (Some x) e =
        let ks = c.self.inside.kept.items in
        rw (← c.self.view_is)
        (told-row _ c.self.invariant.kept.store (extents ks) c.self.invariant.kept.extents.bounded c.self.invariant.kept.extents.sound
        c.args.r.now x
        (ap (λ l. extent_over (defined c.self.inside.declared.entries) (known (extents l)) c.args.r.now) (sym c.as_slice.ensures.value) ∙
        sym c.extent_over.ensures.value ∙ e))

pub returns-clause-none : goal.returns-clause-none
returns-clause-none c = by c.extent_over.result refl
  where
    by : (o : Option Extent) → c.extent_over.result ≡ o →
        IfNone o ((y : Extent) → ¬ HasExtent c.args.self.now (tree_of (trees c.args.self.now.rows) c.args.r.now) y)
    by (Some x) e = tt
    by None e =
        let ks = c.self.inside.kept.items in
        let within = subst (λ s. IsWithin (length s.rows) c.args.r.now) (sym c.self.view_is) c.requires in
        rw (← c.self.view_is)
        (none_follows _ c.self.invariant.kept.store (known (extents ks))
        (extents-settled c.self.inside.rows.keys c.self.inside.declared.entries ks
        (omega (arith, c.self.invariant.kept.store.rows_few, c.self.invariant.kept.extents.as_many, length-map ks (λ k. k.extent)))
        c.self.invariant.kept.lists c.self.invariant.kept.settled)
        c.args.r.now within
        (ap (λ l. extent_over (defined c.self.inside.declared.entries) (known (extents l)) c.args.r.now) (sym c.as_slice.ensures.value) ∙
        sym c.extent_over.ensures.value ∙ e))
