use Rattle.std.proofs.Common.{◌≡◌, true, refl, ap, ◌∙◌, arith}
use Rattle.hare_types.specs.Store.{with_declared}
use Rattle.type_bench.proofs.UndefinedLemmas.{sized-declared, sized-same}
use Rattle.type_bench.proofs.AliasLemmas.{undefined-behind}
use Rattle.type_bench.proofs.aliases.chain.Goals as goal

pub loop-n-init : goal.loop-n-init
loop-n-init c =
    let old = c.args.store.now in
    let new = c.declare.new.self in
    let entered : new.declared ≡ (with_declared old 0 true).declared = ap (λ s. s.declared) c.in_ok-declare.ensures.ok in (
      c.in_ok-declare.ensures.entered,
      undefined-behind old old new 0 refl entered (c.requires 0),
      λ d l. sized-same new (with_declared old 0 true) entered d ∙ sized-declared old 0 true d (λ e. omega (arith, l, e)) ∙ c.requires d,
    )
