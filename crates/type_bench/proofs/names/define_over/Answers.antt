use Rattle.std.proofs.Common.{◌≡◌, true, ap, ◌∙◌}
use Rattle.hare_types.specs.Store.{with_declared}
use Rattle.type_bench.proofs.UndefinedLemmas.{undefined, undefined-declared, sized-declared, definition-same, sized-same, array_finite}
use Rattle.type_bench.proofs.names.define_over.Goals as goal

pub define-requires-clause-fresh : goal.define-requires-clause-fresh
define-requires-clause-fresh c =
    let entered : c.array_of.new.store.declared ≡ (with_declared c.args.store.now c.args.decl true).declared =
    c.in_ok-t.ensures.rest ∙ ap (λ s. s.declared) c.in_ok-_name.ensures.rest ∙ ap (λ s. s.declared) c.in_ok-declare.ensures.ok in
    definition-same c.array_of.new.store (with_declared c.args.store.now c.args.decl true) entered c.args.decl
    ∙ undefined-declared c.args.store.now c.args.decl true c.args.decl (undefined c.args.store.now c.args.decl c.requires.fresh)

pub define-requires-clause-finite : goal.define-requires-clause-finite
define-requires-clause-finite c =
    let entered : c.array_of.new.store.declared ≡ (with_declared c.args.store.now c.args.decl true).declared =
    c.in_ok-t.ensures.rest ∙ ap (λ s. s.declared) c.in_ok-_name.ensures.rest ∙ ap (λ s. s.declared) c.in_ok-declare.ensures.ok in
    array_finite c.array_of.new.store c.in_ok-t.t c.args.items c.args.other c.args.decl c.in_ok-t.ensures.tree
    (definition-same c.array_of.new.store (with_declared c.args.store.now c.args.decl true) entered c.args.other
    ∙ undefined-declared c.args.store.now c.args.decl true c.args.other (undefined c.args.store.now c.args.other c.requires.unknown))
    c.requires.apart

pub returns : goal.returns
returns c =
    let entered : c.array_of.new.store.declared ≡ (with_declared c.args.store.now c.args.decl true).declared =
    c.in_ok-t.ensures.rest ∙ ap (λ s. s.declared) c.in_ok-_name.ensures.rest ∙ ap (λ s. s.declared) c.in_ok-declare.ensures.ok in
    λ d apart.
    c.define.ensures.sized d ∙ sized-same c.array_of.new.store (with_declared c.args.store.now c.args.decl true) entered d
    ∙ sized-declared c.args.store.now c.args.decl true d apart
