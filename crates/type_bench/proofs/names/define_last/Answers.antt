use Rattle.std.proofs.Common.{true, ap, ◌∙◌}
use Rattle.hare_types.specs.Store.{with_declared}
use Rattle.type_bench.proofs.UndefinedLemmas.{undefined, undefined-declared, definition-same, word_finite}
use Rattle.type_bench.proofs.names.define_last.Goals as goal

pub define-requires-clause-fresh : goal.define-requires-clause-fresh
define-requires-clause-fresh c =
    definition-same c.intern.new.self (with_declared c.args.store.now c.args.decl true)
    (ap (λ s. s.declared) c.in_ok-int.ensures.rest ∙ ap (λ s. s.declared) c.in_ok-declare.ensures.ok) c.args.decl
    ∙ undefined-declared c.args.store.now c.args.decl true c.args.decl (undefined c.args.store.now c.args.decl c.requires)

pub define-requires-clause-finite : goal.define-requires-clause-finite
define-requires-clause-finite c = word_finite c.intern.new.self c.in_ok-int.int c.args.decl c.in_ok-int.ensures.stands
