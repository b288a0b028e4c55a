use Rattle.std.proofs.Common.{◌≡◌, true, refl, ap, sym, ◌∙◌}
use Rattle.hare_types.specs.Trees.{Named}
use Rattle.hare_types.specs.Store.{with_declared}
use Rattle.type_bench.proofs.UndefinedLemmas.{undefined-declared, sized-declared, definition-same, sized-same, one_finite}
use Rattle.type_bench.proofs.AliasLemmas.{sized_named, apart, undefined-behind}
use Rattle.type_bench.proofs.aliases.define_as.Goals as goal

pub define-requires : goal.define-requires
define-requires c =
    let old = c.args.store.now in
    let first = c.intern.new.self in
    let now = c.intern-2.new.self in
    let same : first.declared ≡ old.declared = ap (λ s. s.declared) c.in_ok-_name.ensures.rest in
    let entered : now.declared ≡ (with_declared first c.args.other true).declared =
    ap (λ s. s.declared) c.in_ok-meaning.ensures.rest ∙ ap (λ s. s.declared) c.in_ok-declare.ensures.ok in
    let known = c.in_ok-_name.ensures.grows.sized c.args.decl true c.requires.declared in
    let named = c.in_ok-declare.ensures.grows.sized c.args.decl true known in
    let declared = c.in_ok-meaning.ensures.grows.sized c.args.decl true named in
    let other_declared = c.in_ok-meaning.ensures.grows.sized c.args.other true c.in_ok-declare.ensures.entered in
    let fresh = undefined-declared first c.args.other true c.args.decl (definition-same first old same c.args.decl ∙ c.requires.fresh) in
    let unknown = undefined-behind old first now c.args.other same entered c.requires.unknown in
    record {
      declared = rw declared refl;
      fresh = definition-same now (with_declared first c.args.other true) entered c.args.decl ∙ fresh;
      sized = sized_named now c.in_ok-meaning.meaning c.args.other c.args.decl c.in_ok-meaning.ensures.stands other_declared declared;
      within = c.in_ok-meaning.ensures.within;
      finite =
          one_finite now c.in_ok-meaning.meaning c.args.other c.args.decl (Named c.args.other) c.in_ok-meaning.ensures.stands refl unknown
          (apart old c.args.decl c.args.other c.requires.declared c.requires.unknown);
    }

pub returns : goal.returns
returns c =
    let old = c.args.store.now in
    let first = c.intern.new.self in
    let now = c.intern-2.new.self in
    let same : first.declared ≡ old.declared = ap (λ s. s.declared) c.in_ok-_name.ensures.rest in
    let entered : now.declared ≡ (with_declared first c.args.other true).declared =
    ap (λ s. s.declared) c.in_ok-meaning.ensures.rest ∙ ap (λ s. s.declared) c.in_ok-declare.ensures.ok in
    record {
      declared =
          c.define.ensures.sized c.args.other
          ∙ c.in_ok-meaning.ensures.grows.sized c.args.other true c.in_ok-declare.ensures.entered;
      undefined =
          c.define.ensures.others c.args.other (λ e. apart old c.args.decl c.args.other c.requires.declared c.requires.unknown (sym e))
          ∙ undefined-behind old first now c.args.other same entered c.requires.unknown;
      others = λ d away.
          c.define.ensures.sized d ∙ sized-same now (with_declared first c.args.other true) entered d
          ∙ sized-declared first c.args.other true d away ∙ sized-same first old same d;
    }
