use Rattle.std.proofs.Common.{ap, is_some, ◌∙◌}
use Rattle.hare_rules.specs.Aggregates.{hinted_components}
use Rattle.rule_mem.proofs.BoolLemmas.{is_some-copied}
use Rattle.rule_mem.proofs.tuples.is_hinted.Goals as goal

pub returns : goal.returns
returns c f l =
    c.is_some.ensures ∙ is_some-copied c.hinted_components.result ∙ ap is_some (c.hinted_components.ensures.value f l)
    ∙ ap (λ n. is_some (hinted_components f c.args.t.now.case.now.hint n)) c.item_count.ensures
