use Rattle.std.proofs.Common.{ap, ◌∙◌, ℕ, List, fold, []}
use Rattle.hare_types.specs.Store.{Store}
use Rattle.std.proofs.lemmas.Result.{on_ok_weaker}
use Rattle.hare_tags.specs.Lists.{with_tag}
use Rattle.hare_tags.proofs.ListLemmas.{fold-once}
use Rattle.hare_tags.proofs.tags.list_tags.Goals as goal

pub returns-clause-ok : goal.returns-clause-ok
returns-clause-ok c =
    let s = c.args.s.now in
    let all : Store → List ℕ → Store = λ x ts. record x { listed = fold with_tag x.listed ts } in
    let only : List ℕ → Store = λ ts. record s { listed = ts } in
    on_ok_weaker c.mention_all.result
    (λ e. e ∙ ap (λ x. all x c.deref.result.now) c.unmention.ensures.emptied
    ∙ ap (λ ts. only (fold with_tag [] ts)) (c.deref.ensures.value ∙ c.in_ok-types.ensures)
    ∙ ap only (fold-once _))
    c.mention_all.ensures.ok
