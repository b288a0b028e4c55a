use Rattle.flat_laws.proofs.CountLemmas.{code_counts}
use Rattle.flat_laws.proofs.laws.law_code_counts.Goals as goal

pub returns : goal.returns
returns c = code_counts
