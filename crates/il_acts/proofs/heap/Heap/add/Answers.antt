use Rattle.std.proofs.Common.{◌≡◌, ℕ, ◌+◌, ◌≤◌, List, Some, sym, ap, ◌∙◌, subst}
use Rattle.std.specs.List.{All}
use Rattle.std.specs.Ordering.{nat_cmp}
use Rattle.std.specs.BTreeMap.{is_at}
use Rattle.std.specs.Map.{remove_entry}
use Rattle.hx_base.specs.Memory.{round_up}
use Rattle.hx_base.specs.Runtime.{heap_end, heap_size, live_bytes, new_block}
use Rattle.il_mem.specs.Kept.{Kept}
use Rattle.il_acts.specs.Acts.{IsKept}
use Rattle.il_acts.specs.Blocks.{Blocks, IsHeapLaid, IsOldOrInHeap}
use Rattle.il_acts.proofs.BlockLists.{puts_from, live_bytes-insert, insert_undone}
use Rattle.il_acts.proofs.HeapLies.{next_free, next_bare, laid_more, old_insert}
use Rattle.il_acts.proofs.Answering.{kept_more}
use Rattle.il_acts.proofs.Streaming.{on_ok, on_err}
use Rattle.il_acts.proofs.heap.Heap.add.Goals as goal

pub map-requires-clause-bare : goal.map-requires-clause-bare
map-requires-clause-bare c =
    let rs = c.args.memory.now.ranges in
    let h : Blocks = record { next = c.self.inside.next; blocks = c.self.inside.blocks.entries; live = c.self.inside.live } in
    let laid = subst (λ (b : Blocks). IsHeapLaid rs b) (sym c.self.view_is) c.requires.laid in
    next_bare rs h laid c.args.size

-- ---- memory is wanted

pub returns-then-is_err-clause-laid : goal.returns-then-is_err-clause-laid
returns-then-is_err-clause-laid c =
    let it = c.args.memory.now in
    let next = c.self.inside.next in
    let live = c.self.inside.live in
    let blocks = c.self.inside.blocks.entries in
    let h : Blocks = record { next = next; blocks = blocks; live = live } in
    let laid = subst (λ (b : Blocks). IsHeapLaid it.ranges b) (sym c.self.view_is) c.requires.laid in
    let back : c.remove.new.self.entries ≡ blocks =
    c.remove.ensures.entries ∙ ap (remove_entry (is_at (nat_cmp next))) c.in_ok-insert.ensures.entries
    ∙ insert_undone blocks next c.args.size (next_free it.ranges h laid) in
    let same = on_err c.map.result (sym c.is_err.ensures.value ∙ c.if-is_err.true) c.map.ensures.err in
    subst (λ (x : Kept). IsHeapLaid x.ranges (record { next = next; blocks = c.remove.new.self.entries; live = live })) (sym same)
    (subst (λ (bs : List (ℕ × ℕ)). IsHeapLaid it.ranges (record { next = next; blocks = bs; live = live })) (sym back) laid)

pub returns-then-is_err-clause-err : goal.returns-then-is_err-clause-err
returns-then-is_err-clause-err c =
    let it = c.args.memory.now in
    let next = c.self.inside.next in
    let live = c.self.inside.live in
    let blocks = c.self.inside.blocks.entries in
    let h : Blocks = record { next = next; blocks = blocks; live = live } in
    let laid = subst (λ (b : Blocks). IsHeapLaid it.ranges b) (sym c.self.view_is) c.requires.laid in
    let back : c.remove.new.self.entries ≡ blocks =
    c.remove.ensures.entries ∙ ap (remove_entry (is_at (nat_cmp next))) c.in_ok-insert.ensures.entries
    ∙ insert_undone blocks next c.args.size (next_free it.ranges h laid) in
    let whole : Blocks → Type 0 = λ b. b ≡ c.args.self.now in (
      on_err c.map.result (sym c.is_err.ensures.value ∙ c.if-is_err.true) c.map.ensures.err,
      subst (λ (bs : List (ℕ × ℕ)). whole (record { next = next; blocks = bs; live = live })) (sym back) c.self.view_is,
    )

-- ---- the block is made

pub returns-clause-done : goal.returns-clause-done
returns-clause-done c = λ count w kept.
    let it = c.args.memory.now in
    let new = c.map.new.self in
    let next = c.self.inside.next in
    let live = c.self.inside.live in
    let blocks = c.self.inside.blocks.entries in
    let more = c.insert.new.self.entries in
    let size = c.args.size in
    let h : Blocks = record { next = next; blocks = blocks; live = live } in
    let laid = subst (λ (b : Blocks). IsHeapLaid it.ranges b) (sym c.self.view_is) c.requires.laid in
    let ok = sym c.is_err.ensures.value ∙ c.if-is_err.false in
    let value = on_ok c.map.result ok c.map.ensures.value in
    let puts = puts_from blocks more next (Some size) c.in_ok-insert.ensures.updates.0 in
    let here = subst (λ (b : Blocks). IsKept it b count w) (sym c.self.view_is) kept in
    subst (λ (r : ℕ). IsKept new (record { next = next + r; blocks = more; live = live + r }) count (new_block w size))
    (sym c.requires.rounded)
    (kept_more it new h size more count w here (next_free it.ranges h laid) puts (ap (λ (x : Kept). x.held) value)
    (λ m x. on_ok c.map.result ok (c.map.ensures.done m x)))

pub returns-clause-laid : goal.returns-clause-laid
returns-clause-laid c =
    let it = c.args.memory.now in
    let new = c.map.new.self in
    let next = c.self.inside.next in
    let live = c.self.inside.live in
    let blocks = c.self.inside.blocks.entries in
    let more = c.insert.new.self.entries in
    let size = c.args.size in
    let h : Blocks = record { next = next; blocks = blocks; live = live } in
    let laid = subst (λ (b : Blocks). IsHeapLaid it.ranges b) (sym c.self.view_is) c.requires.laid in
    let ok = sym c.is_err.ensures.value ∙ c.if-is_err.false in
    let ranges = ap (λ (x : Kept). x.ranges) (on_ok c.map.result ok c.map.ensures.value) in
    let puts = puts_from blocks more next (Some size) c.in_ok-insert.ensures.updates.0 in
    let total : live_bytes more ≡ live_bytes blocks + round_up size 16 =
    ap live_bytes c.in_ok-insert.ensures.entries ∙ live_bytes-insert blocks next size (next_free it.ranges h laid) in
    let fits = subst (λ (b : Blocks). b.next + size ≤ heap_end) (sym c.self.view_is) c.requires.low in
    let few = subst (λ (r : ℕ). live + r ≤ heap_size) c.requires.rounded
    (subst (λ (b : Blocks). b.live + c.args.rounded ≤ heap_size) (sym c.self.view_is) c.requires.few) in
    subst (λ (r : ℕ). IsHeapLaid new.ranges (record { next = next + r; blocks = more; live = live + r })) (sym c.requires.rounded)
    (subst (λ (rs : List (ℕ × ℕ)). IsHeapLaid rs (record { next = next + round_up size 16; blocks = more; live = live + round_up size 16 }))
    (sym ranges) (laid_more it.ranges h laid size more c.requires.some puts fits few total))

pub returns-clause-ranges : goal.returns-clause-ranges
returns-clause-ranges c =
    let it = c.args.memory.now in
    let next = c.self.inside.next in
    let laid = subst (λ (b : Blocks). IsHeapLaid it.ranges b) (sym c.self.view_is) c.requires.laid in
    let ok = sym c.is_err.ensures.value ∙ c.if-is_err.false in
    let ranges = ap (λ (x : Kept). x.ranges) (on_ok c.map.result ok c.map.ensures.value) in
    subst (λ (rs : List (ℕ × ℕ)). All (IsOldOrInHeap it.ranges) rs) (sym ranges)
    (old_insert it.ranges next c.args.size laid.above c.requires.some)
