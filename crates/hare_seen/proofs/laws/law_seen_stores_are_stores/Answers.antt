use Rattle.hare_seen.proofs.SeenLemmas.{seen_stores}
use Rattle.hare_seen.proofs.laws.law_seen_stores_are_stores.Goals as goal

pub returns : goal.returns
returns c = seen_stores
