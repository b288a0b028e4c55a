use Rattle.std.proofs.Common.{◌≡◌, ℕ, ◌+◌, ◌-◌, ◌≤◌, ◌&&◌, List, [], ◌∷◌, Some, None, refl, sym, ap, ◌∙◌, subst, arith}
use Rattle.std.specs.Prelude.{not, filter, Ok}
use Rattle.std.specs.List.{All}
use Rattle.hx_base.specs.Memory.{round_up, in_range, unmap_range}
use Rattle.hx_base.specs.Runtime.{live_bytes, block_size}
use Rattle.hx_base.proofs.Memory.Blocks.{live_bytes-without}
use Rattle.hx_runtime.specs.declared.runtime.RuntimeFunction.TheVariants as function
use Rattle.il_mem.specs.Kept.{Kept, is_held, lies_in, IsBare}
use Rattle.il_acts.specs.declared.acted.Acted.TheVariants as acted
use Rattle.il_acts.specs.declared.acted.RuntimeFault.TheVariants as fault
use Rattle.il_acts.specs.Acts.{AnswersAlone}
use Rattle.il_acts.specs.Blocks.{Blocks, IsHeapLaid, IsOldOrInHeap}
use Rattle.il_acts.proofs.BlockLists.{puts_from, lookup_is, live_bytes-remove}
use Rattle.il_acts.proofs.HeapLies.{block_low, block_whole, freed_bare, laid_less, old_filter}
use Rattle.il_acts.proofs.Answering.{free_bad, free_done}
use Rattle.il_acts.proofs.heap.Heap.free.Goals as goal

-- ---- no block begins there

pub returns-in_default-clause-done : goal.returns-in_default-clause-done
returns-in_default-clause-done c =
    let it = c.args.memory.now in
    let at = c.args.at in
    let next = c.self.inside.next in
    let live = c.self.inside.live in
    let blocks = c.self.inside.blocks.entries in
    let h : Blocks = record { next = next; blocks = blocks; live = live } in
    let none : block_size blocks at ≡ None = sym (lookup_is blocks at) ∙ sym c.in_default.ensures.value in
    let bad = free_bad it h at none in
    subst (λ (bs : List (ℕ × ℕ)). AnswersAlone it it c.args.self.now (record { next = next; blocks = bs; live = live })
    function.Free (at ∷ []) (Ok (acted.Faults fault.BadFree))) (sym c.in_default.ensures.unchanged)
    (subst (λ (b : Blocks). AnswersAlone it it b h function.Free (at ∷ []) (Ok (acted.Faults fault.BadFree))) c.self.view_is bad)

-- ---- one does

pub unmap-requires : goal.unmap-requires
unmap-requires c =
    let rs = c.args.memory.now.ranges in
    let blocks = c.self.inside.blocks.entries in
    let h : Blocks = record { next = c.self.inside.next; blocks = blocks; live = c.self.inside.live } in
    let laid = subst (λ (b : Blocks). IsHeapLaid rs b) (sym c.self.view_is) c.requires.laid in
    let is : block_size blocks c.args.at ≡ Some c.in-Some.n = sym (lookup_is blocks c.args.at) ∙ sym c.in-Some.ensures.value in
    block_whole rs h laid c.args.at c.in-Some.n is

pub clear-requires-clause-ends : goal.clear-requires-clause-ends
clear-requires-clause-ends c =
    let rs = c.args.memory.now.ranges in
    let blocks = c.self.inside.blocks.entries in
    let h : Blocks = record { next = c.self.inside.next; blocks = blocks; live = c.self.inside.live } in
    let laid = subst (λ (b : Blocks). IsHeapLaid rs b) (sym c.self.view_is) c.requires.laid in
    let is : block_size blocks c.args.at ≡ Some c.in-Some.n = sym (lookup_is blocks c.args.at) ∙ sym c.in-Some.ensures.value in
    block_low rs h laid c.args.at c.in-Some.n is

pub clear-requires-clause-bare : goal.clear-requires-clause-bare
clear-requires-clause-bare c =
    let rs = c.args.memory.now.ranges in
    let blocks = c.self.inside.blocks.entries in
    let h : Blocks = record { next = c.self.inside.next; blocks = blocks; live = c.self.inside.live } in
    let laid = subst (λ (b : Blocks). IsHeapLaid rs b) (sym c.self.view_is) c.requires.laid in
    let is : block_size blocks c.args.at ≡ Some c.in-Some.n = sym (lookup_is blocks c.args.at) ∙ sym c.in-Some.ensures.value in
    subst (λ (x : Kept). IsBare x.ranges c.args.at c.in-Some.n) (sym c.unmap.ensures.value) (freed_bare rs h laid c.args.at c.in-Some.n is)

pub round_up-requires-clause-fits : goal.round_up-requires-clause-fits
round_up-requires-clause-fits c =
    let rs = c.args.memory.now.ranges in
    let blocks = c.self.inside.blocks.entries in
    let laid = subst (λ (b : Blocks). IsHeapLaid rs b) (sym c.self.view_is) c.requires.laid in
    let is : block_size blocks c.args.at ≡ Some c.in-Some.n = sym (lookup_is blocks c.args.at) ∙ sym c.in-Some.ensures.value in
    let b = laid.blocks c.args.at c.in-Some.n is in
    omega (arith, b.below, laid.below)

pub overflow_sub-self : goal.overflow_sub-self
overflow_sub-self c =
    let rs = c.args.memory.now.ranges in
    let blocks = c.self.inside.blocks.entries in
    let n = c.in-Some.n in
    let laid = subst (λ (b : Blocks). IsHeapLaid rs b) (sym c.self.view_is) c.requires.laid in
    let is : block_size blocks c.args.at ≡ Some n = sym (lookup_is blocks c.args.at) ∙ sym c.in-Some.ensures.value in
    let total = live_bytes-without blocks c.args.at n is in
    at_most (round_up n 16) c.round_up.result (live_bytes blocks) c.self.inside.live _ c.round_up.ensures laid.live total
  where
    at_most : (r r' t live rest : ℕ) → r' ≡ r → live ≡ t → rest + r ≡ t → r' ≤ live
    at_most r r' t live rest e f h = omega arith

pub returns-clause-done : goal.returns-clause-done
returns-clause-done c =
    let it = c.args.memory.now in
    let new = c.clear.new.self in
    let at = c.args.at in
    let n = c.in-Some.n in
    let next = c.self.inside.next in
    let live = c.self.inside.live in
    let blocks = c.self.inside.blocks.entries in
    let left = c.remove.new.self.entries in
    let h : Blocks = record { next = next; blocks = blocks; live = live } in
    let is : block_size blocks at ≡ Some n = sym (lookup_is blocks at) ∙ sym c.in-Some.ensures.value in
    let puts = puts_from blocks left at None c.in-Some.ensures.updates.0 in
    let gives = λ (p : ℕ). c.clear.ensures.pages p ∙ ap (λ (x : Kept). is_held x.held p && not (lies_in at n p)) c.unmap.ensures.value in
    let done = free_done it new h at n left is puts (λ m x. c.clear.ensures.done (unmap_range m at n) (c.unmap.ensures.done m x)) gives in
    subst (λ (r : ℕ). AnswersAlone it new c.args.self.now (record { next = next; blocks = left; live = live - r }) function.Free (at ∷ [])
    (Ok (acted.Gives 0 0))) (sym c.round_up.ensures)
    (subst (λ (b : Blocks). AnswersAlone it new b (record { next = next; blocks = left; live = live - round_up n 16 })
    function.Free (at ∷ []) (Ok (acted.Gives 0 0))) c.self.view_is done)

pub returns-clause-laid : goal.returns-clause-laid
returns-clause-laid c =
    let it = c.args.memory.now in
    let at = c.args.at in
    let n = c.in-Some.n in
    let next = c.self.inside.next in
    let live = c.self.inside.live in
    let blocks = c.self.inside.blocks.entries in
    let left = c.remove.new.self.entries in
    let h : Blocks = record { next = next; blocks = blocks; live = live } in
    let laid = subst (λ (b : Blocks). IsHeapLaid it.ranges b) (sym c.self.view_is) c.requires.laid in
    let is : block_size blocks at ≡ Some n = sym (lookup_is blocks at) ∙ sym c.in-Some.ensures.value in
    let puts = puts_from blocks left at None c.in-Some.ensures.updates.0 in
    let total : live_bytes left + round_up n 16 ≡ live_bytes blocks =
    ap (λ (bs : List (ℕ × ℕ)). live_bytes bs + round_up n 16) c.in-Some.ensures.entries ∙ live_bytes-remove blocks at n is in
    let ranges = c.clear.ensures.ranges ∙ ap (λ (x : Kept). x.ranges) c.unmap.ensures.value in
    subst (λ (rs : List (ℕ × ℕ)). IsHeapLaid rs (record { next = next; blocks = left; live = live - c.round_up.result })) (sym ranges)
    (subst (λ (r : ℕ). IsHeapLaid (filter (λ x. not (in_range at n x.0)) it.ranges)
    (record { next = next; blocks = left; live = live - r }))
    (sym c.round_up.ensures) (laid_less it.ranges h laid at n is left puts total))

pub returns-clause-ranges : goal.returns-clause-ranges
returns-clause-ranges c =
    let it = c.args.memory.now in
    let ranges = c.clear.ensures.ranges ∙ ap (λ (x : Kept). x.ranges) c.unmap.ensures.value in
    subst (λ (rs : List (ℕ × ℕ)). All (IsOldOrInHeap it.ranges) rs) (sym ranges)
    (old_filter (λ r. not (in_range c.args.at c.in-Some.n r.0)) it.ranges)

pub round_up-requires-clause-power : goal.round_up-requires-clause-power
round_up-requires-clause-power c = (4, refl)
