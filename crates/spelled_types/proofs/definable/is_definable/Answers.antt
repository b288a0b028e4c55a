use Rattle.std.proofs.Common.{Some, ap, sym, ◌∙◌, rules}
use Rattle.spelled_types.proofs.DefinableLemmas.{known-sized, known-finite, array-finite, never-finite}
use Rattle.spelled_types.proofs.definable.is_definable.Goals as goal

pub returns-then-is_some-2-clause-sized : goal.returns-then-is_some-2-clause-sized
returns-then-is_some-2-clause-sized c =
    λ _. known-sized c.args.store.now c.extent.ensures.sound c.args.t c.args.decl c.extent.result c.extent.ensures.some
    (sym c.is_some-in-Some-true.ensures ∙ c.if-is_some-2.true)
    (sym c.in-Some-true.ensures ∙ ap Some c.in-Some-true.field-0-test)

pub returns-then-is_some-2-clause-finite : goal.returns-then-is_some-2-clause-finite
returns-then-is_some-2-clause-finite c =
    λ _. known-finite c.args.store.now c.args.t c.args.decl c.extent.result c.extent.ensures.some
    (sym c.is_some-in-Some-true.ensures ∙ c.if-is_some-2.true) (search rules)

pub returns-else-is_some-2-clause-finite : goal.returns-else-is_some-2-clause-finite
returns-else-is_some-2-clause-finite c =
    λ yes.
    let h = c.is_of_undefined.ensures yes in
    array-finite c.args.store.now c.args.t c.args.decl h.0 h.1 h.2 h.3 h.4

pub returns-in-Some-false-clause-finite : goal.returns-in-Some-false-clause-finite
returns-in-Some-false-clause-finite c = λ yes. never-finite c.args.store.now c.args.t c.args.decl (c.is_never.ensures yes)
