use Rattle.std.proofs.Common.{ℕ, List, [], sym, subst}
use Rattle.hx_base.specs.Runtime.{heap_start}
use Rattle.il_acts.specs.Blocks.{HeapHolds, IsHeapLaid}
use Rattle.il_acts.proofs.HeapLies.{laid_start, holds_start}
use Rattle.il_acts.proofs.heap.Heap.new.Goals as goal

pub returns-clause-holds : goal.returns-clause-holds
returns-clause-holds c =
    subst (λ (bs : List (ℕ × ℕ)). HeapHolds (record { next = heap_start; blocks = bs; live = 0 })
    (record { next = heap_start; blocks = [] }))
    (sym c.new.ensures.empty) holds_start

pub returns-clause-laid : goal.returns-clause-laid
returns-clause-laid c = λ rs low.
    subst (λ (bs : List (ℕ × ℕ)). IsHeapLaid rs (record { next = heap_start; blocks = bs; live = 0 })) (sym c.new.ensures.empty)
    (laid_start rs low)
