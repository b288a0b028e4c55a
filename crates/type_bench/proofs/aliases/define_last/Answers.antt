use Rattle.std.proofs.Common.{◌≡◌, refl, ap, ◌∙◌}
use Rattle.type_bench.proofs.UndefinedLemmas.{definition-same, sized-same, unheld_finite}
use Rattle.type_bench.proofs.AliasLemmas.{sized_as}
use Rattle.type_bench.proofs.aliases.define_last.Goals as goal

pub define-requires : goal.define-requires
define-requires c =
    let now = c.marked.new.store in
    let entered : now.declared ≡ c.args.store.now.declared =
    c.in_ok-meaning.ensures.rest ∙ c.in_ok-pair.ensures.rest ∙ ap (λ s. s.declared) c.in_ok-int.ensures.rest in
    let declared = sized-same now c.args.store.now entered c.args.decl ∙ c.requires.declared in
    record {
      declared = rw declared refl;
      fresh = definition-same now c.args.store.now entered c.args.decl ∙ c.requires.fresh;
      sized = sized_as now c.in_ok-meaning.meaning c.args.decl c.in_ok-meaning.ensures.sized declared;
      within = c.in_ok-meaning.ensures.within;
      finite = unheld_finite now c.in_ok-meaning.meaning c.args.decl c.in_ok-meaning.ensures.held;
    }
