use Rattle.std.proofs.Common.{◌≡◌, Option, Some, None, refl, sym, ap, ◌∙◌, arith}
use Rattle.std.specs.Prelude.{IfNone, IfSome}
use Rattle.std.proofs.lemmas.List.{length-map}
use Rattle.hare_types.specs.declared.extent.Extent.{Extent}
use Rattle.hare_types.specs.Kept.{LiesIn, IsBounded}
use Rattle.hare_types.specs.Waiting.{extent_at}
use Rattle.hare_types.proofs.KeptLemmas.{none_lies}
use Rattle.hare_types.proofs.IdLemmas.{extent_is}
use Rattle.hare_types.proofs.SettledLemmas.{extents-settled}
use Rattle.hare_types.proofs.store.TypeStore.extent.Goals as goal

-- what is found is what is kept
kept : (c : goal.After-extent_at) → extent_at c.self.inside.kept.items c.args.t ≡ c.extent_at.result
kept c = ap (λ l. extent_at l c.args.t) (sym c.as_slice.ensures.value) ∙ sym c.extent_at.ensures

none : (c : goal.After-extent_at) → c.extent_at.result ≡ None → (y : Extent) → ¬ LiesIn c.args.self.now c.args.t y
none c e =
    let ks = c.self.inside.kept.items in
    rw (← c.self.view_is)
    (none_lies _ c.self.invariant.kept.store (extent_at ks)
    (extents-settled c.self.inside.rows.keys c.self.inside.declared.entries ks
    (omega (arith, c.self.invariant.kept.store.rows_few, c.self.invariant.kept.extents.as_many, length-map ks (λ k. k.extent)))
    c.self.invariant.kept.lists c.self.invariant.kept.settled) c.args.t (kept c ∙ e))

pub returns-clause-none : goal.returns-clause-none
returns-clause-none c = by c.extent_at.result refl
  where
    by : (o : Option Extent) → c.extent_at.result ≡ o → IfNone o ((y : Extent) → ¬ LiesIn c.args.self.now c.args.t y)
    by (Some x) e = tt
    by None e = none c e

pub returns-clause-within : goal.returns-clause-within
returns-clause-within c = by c.extent_at.result refl
  where
    by : (o : Option Extent) → c.extent_at.result ≡ o → IfSome o (λ x. IsBounded x)
    by None e = tt
    by (Some x) e = c.self.invariant.kept.extents.bounded c.args.t x (kept c ∙ e)

pub returns-clause-value : goal.returns-clause-value
returns-clause-value c =
    rw (← c.self.view_is)
    (extent_is _ c.self.invariant.kept.store c.args.t c.extent_at.result
    (λ x e. c.self.invariant.kept.extents.sound c.args.t x (kept c ∙ e)) (λ e. rw (← c.self.view_is) at (none c e)))
