use Rattle.hare_names.specs.Answers.{meaning_in}
use Rattle.hare_sources.proofs.OnceLemmas.{only-early}
use Rattle.hare_sources.proofs.named.read.Goals as goal

pub returns-clause-only_fault : goal.returns-clause-only_fault
returns-clause-only_fault c =
    only-early c.args.paths.now c.args.srcs.now (λ n. n.files) (λ n. meaning_in n.names) c.named_of.result c.named_of.ensures.ok
    c.named_of.ensures.err
