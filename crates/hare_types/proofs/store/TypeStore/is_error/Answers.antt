use Rattle.std.proofs.Common.{◌≡◌, Some, None, sym, ap, ◌∙◌}
use Rattle.hare_types.specs.Waiting.{root_at}
use Rattle.hare_types.proofs.ReadLemmas.{mark_read, no_mark_read}
use Rattle.hare_types.proofs.store.TypeStore.is_error.Goals as goal

some : (c : goal.In-Some) → root_at c.self.inside.kept.items c.args.t ≡ Some c.in-Some.root
some c = ap (λ l. root_at l c.args.t) (sym c.as_slice.ensures.value) ∙ sym c.root_at.ensures.value ∙ c.in-Some.is

none : (c : goal.In-None) → root_at c.self.inside.kept.items c.args.t ≡ None
none c = ap (λ l. root_at l c.args.t) (sym c.as_slice.ensures.value) ∙ sym c.root_at.ensures.value ∙ c.in-None.is

pub returns-in-Some : goal.returns-in-Some
returns-in-Some c = rw (← c.self.view_is) (mark_read _ _ c.self.invariant.kept c.args.t c.in-Some.root (some c))

pub returns-in-None : goal.returns-in-None
returns-in-None c = rw (← c.self.view_is) (no_mark_read _ _ c.self.invariant.kept c.args.t (none c))
