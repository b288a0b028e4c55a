use Rattle.hare_layout.proofs.PartsLemmas.{small_types}
use Rattle.hare_layout.proofs.laws.law_small_types.Goals as goal

pub returns : goal.returns
returns c = small_types
