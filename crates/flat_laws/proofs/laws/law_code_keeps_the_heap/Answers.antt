use Rattle.flat_laws.proofs.HeapLemmas.{keeps_the_heap}
use Rattle.flat_laws.proofs.laws.law_code_keeps_the_heap.Goals as goal

pub returns : goal.returns
returns c = keeps_the_heap
