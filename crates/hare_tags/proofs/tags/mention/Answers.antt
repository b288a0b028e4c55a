use Rattle.std.proofs.Common.{ap, ◌∙◌}
use Rattle.hare_tags.proofs.ListLemmas.{numbered-tag}
use Rattle.hare_tags.proofs.tags.mention.Goals as goal

pub returns-clause-ok : goal.returns-clause-ok
returns-clause-ok c =
    let n = c.in_ok-mention.ensures.numbered in
    let s = c.args.s.now in
    c.in_ok-mention.ensures.rest ∙ ap (λ ls. record s { listed = ls }) (numbered-tag _ _ _ _ n.2)
