-- What a caller takes from the clauses of a call.
use Rattle.std.proofs.Common.{◌≡◌, ℕ, ◌<◌, ◌≤◌, List, Some, subst, ◌⊎◌, inl, inr}
use Rattle.std.specs.Prelude.{slice_index_or, Ok}
use Rattle.std.specs.List.{All, Contains}
use Rattle.std.proofs.lemmas.List.Elements.{All-contains}
use Rattle.hx_base.specs.Runtime.{World, heap_start}
use Rattle.hx_runtime.specs.declared.runtime.RuntimeFunction.{RuntimeFunction}
use Rattle.il_acts.specs.declared.acted.Acted.{Acted}
use Rattle.il_acts.specs.Acts.{Left, Does, Answers}
use Rattle.il_acts.specs.Blocks.{Blocks, LiesAside, IsHeapLaid, IsOldOrInHeap}

-- where the input tells that it has left what the world has, the answer is of that world
pub answer_of_told : (l : Left) (f : RuntimeFunction) (args : List ℕ) (w : World) (a : Acted) → l.before.left ≡ Some w.input →
    Answers l f args w (Ok a) → Does l f args w a
answer_of_told l f args w a told h =
    subst (λ (input : List ℕ). Does l f args (record w { input = input }) a) (h.told w.input told) h.does

-- what holds of each range, and of whatever lies in the heap, holds of each behind a call
pub all_behind : (P : ℕ × ℕ → Type 0) (old new : List (ℕ × ℕ)) → All P old → ((r : ℕ × ℕ) → heap_start ≤ r.0 → r.0 < r.1 → P r) →
    All (IsOldOrInHeap old) new → All P new
all_behind P old new h fresh each = λ k d l. pick (slice_index_or new k d) (each k d l)
  where
    pick : (r : ℕ × ℕ) → IsOldOrInHeap old r → P r
    pick r (inl there) = All-contains P old r h there
    pick r (inr (above, some)) = fresh r above some

-- blocks lie as they did where other ranges end at or below the start of the heap, and none is new in it
pub laid_behind : (old new : List (ℕ × ℕ)) (h : Blocks) → IsHeapLaid old h →
    All (λ r. Contains old r ⊎ (r.1 ≤ heap_start)) new → IsHeapLaid new h
laid_behind old new h laid each = record {
  above = laid.above;
  below = laid.below;
  live = laid.live;
  few = laid.few;
  blocks = laid.blocks;
  disjoint = laid.disjoint;
  ranges = λ k d l. pick (slice_index_or new k d) (each k d l);
}
  where
    pick : (r : ℕ × ℕ) → Contains old r ⊎ (r.1 ≤ heap_start) → LiesAside h.blocks r
    pick r (inl there) = All-contains (LiesAside h.blocks) old r laid.ranges there
    pick r (inr low) = inl low
