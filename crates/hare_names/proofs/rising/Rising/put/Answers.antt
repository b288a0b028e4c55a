use Rattle.std.proofs.Common.{is_some, refl, sym, ap, ◌∙◌, subst}
use Rattle.hare_names.specs.Keys.{rising_at, AreBefore}
use Rattle.hare_names.proofs.RisingLemmas.{pushed, kept, put-behind}
use Rattle.hare_names.proofs.rising.Rising.put.Goals as goal

-- a place behind all
pub returns-then-is_behind-clause-ok : goal.returns-then-is_behind-clause-ok
returns-then-is_behind-clause-ok c =
    pushed c.args.place c.args.meaning c.self.inside.ordered.items c.push.new.self.items
    record { place = c.args.place; meaning = c.args.meaning } c.self.inside.others c.self.inside.others c.args.self.now c.self.view_is
    (c.is_empty.ensures.0 c.if-is_empty.true) refl refl c.in_ok-push.ensures.items
    (subst (λ ms. AreBefore ms c.args.place) c.as_slice.ensures.value (c.is_behind.ensures c.if-is_behind.true))

-- a place that has a meaning keeps it
pub returns-then-is_some-clause-ok : goal.returns-then-is_some-clause-ok
returns-then-is_some-clause-ok c =
    sym c.self.view_is ∙ kept c.args.place c.args.meaning c.self.inside.ordered.items c.self.inside.others c.args.self.now c.self.view_is
    (sym (ap is_some (c.search.ensures ∙ ap (rising_at c.args.place) c.as_slice-2.ensures.value)) ∙ sym c.is_some.ensures ∙
    c.if-is_some.true)

pub returns-clause-ok : goal.returns-clause-ok
returns-clause-ok c =
    put-behind c.args.place c.args.meaning c.self.inside.ordered.items c.self.inside.others c.put.new.self c.args.self.now c.self.view_is
    (sym (ap is_some (c.search.ensures ∙ ap (rising_at c.args.place) c.as_slice-2.ensures.value)) ∙ sym c.is_some.ensures ∙
    c.if-is_some.false) c.in_ok-put.ensures.ok
