use Rattle.std.proofs.Common.{ap, ◌∙◌, set}
use Rattle.std.proofs.lemmas.List.{get_or_default}
use Rattle.hare_types.specs.Waiting.{blank}
use Rattle.hare_types.proofs.waiting.set_ends.Goals as goal

pub returns : goal.returns
returns c =
    ap (λ k. set c.args.kept.now.items c.args.t (record k { first = c.args.first; last = c.args.last }))
    (c.index-old.ensures ∙ get_or_default c.args.kept.now.items c.args.t c.index-old.result.now blank c.requires)
