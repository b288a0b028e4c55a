use Rattle.std.proofs.Common.{◌≡◌, ℕ, ◌+◌, ◌<◌, ◌≤◌, max, [], ◌∷◌, refl, sym, ap, ◌∙◌, subst, arith}
use Rattle.std.specs.Prelude.{Ok}
use Rattle.hx_base.specs.Memory.{round_up}
use Rattle.hx_base.specs.Runtime.{heap_end, heap_size, new_block}
use Rattle.hx_runtime.specs.declared.runtime.RuntimeFunction.TheVariants as function
use Rattle.il_acts.specs.declared.acted.Acted.TheVariants as acted
use Rattle.il_acts.specs.Acts.{IsKept, AnswersAlone}
use Rattle.il_acts.specs.Blocks.{Blocks}
use Rattle.il_acts.proofs.Answering.{malloc_great, malloc_none, malloc_full, malloc_new}
use Rattle.il_acts.proofs.heap.Heap.malloc.Goals as goal

-- sums of equal numbers
more_by : (k a b x y : ℕ) → a ≡ b → x ≡ y → k < a + x → k < b + y
more_by k a b x y e f h = omega arith

most_by : (k a b x y : ℕ) → a ≡ b → x ≡ y → a + x ≤ k → b + y ≤ k
most_by k a b x y e f h = omega arith

pub returns-then-size-gt-HEAP_SIZE-clause-done : goal.returns-then-size-gt-HEAP_SIZE-clause-done
returns-then-size-gt-HEAP_SIZE-clause-done c =
    malloc_great c.args.memory.now c.args.self.now c.args.n (omega (arith, c.max-size.ensures, c.if-size-gt-HEAP_SIZE.true))

pub returns-then-self-rounded-gt-HEAP_SIZE-clause-done : goal.returns-then-self-rounded-gt-HEAP_SIZE-clause-done
returns-then-self-rounded-gt-HEAP_SIZE-clause-done c =
    let size : c.max-size.result ≡ max 1 c.args.n = omega (arith, c.max-size.ensures) in
    let rounded : c.round_up-rounded.result ≡ round_up (max 1 c.args.n) 16 =
    c.round_up-rounded.ensures ∙ ap (λ (x : ℕ). round_up x 16) size in
    let live : c.self.inside.live ≡ c.args.self.now.live = ap (λ (b : Blocks). b.live) c.self.view_is in
    malloc_none c.args.memory.now c.args.self.now c.args.n (more_by heap_size _ _ _ _ live rounded c.if-self-rounded-gt-HEAP_SIZE.true)

pub returns-then-self-size-gt-HEAP_END-clause-done : goal.returns-then-self-size-gt-HEAP_END-clause-done
returns-then-self-size-gt-HEAP_END-clause-done c =
    let size : c.max-size.result ≡ max 1 c.args.n = omega (arith, c.max-size.ensures) in
    let rounded : c.round_up-rounded.result ≡ round_up (max 1 c.args.n) 16 =
    c.round_up-rounded.ensures ∙ ap (λ (x : ℕ). round_up x 16) size in
    let live : c.self.inside.live ≡ c.args.self.now.live = ap (λ (b : Blocks). b.live) c.self.view_is in
    let next : c.self.inside.next ≡ c.args.self.now.next = ap (λ (b : Blocks). b.next) c.self.view_is in
    malloc_full c.args.memory.now c.args.self.now c.args.n (most_by heap_size _ _ _ _ live rounded c.if-self-rounded-gt-HEAP_SIZE.false)
    (more_by heap_end _ _ _ _ next size c.if-self-size-gt-HEAP_END.true)

pub returns-clause-done : goal.returns-clause-done
returns-clause-done c =
    let it = c.args.memory.now in
    let new = c.add.new.memory in
    let size : c.max-size.result ≡ max 1 c.args.n = omega (arith, c.max-size.ensures) in
    let rounded : c.round_up-rounded.result ≡ round_up (max 1 c.args.n) 16 =
    c.round_up-rounded.ensures ∙ ap (λ (x : ℕ). round_up x 16) size in
    let live : c.self.inside.live ≡ c.args.self.now.live = ap (λ (b : Blocks). b.live) c.self.view_is in
    let next : c.self.inside.next ≡ c.args.self.now.next = ap (λ (b : Blocks). b.next) c.self.view_is in
    subst (λ (p : ℕ). AnswersAlone it new c.args.self.now c.add.new.self function.Malloc (c.args.n ∷ []) (Ok (acted.Gives p 0))) (sym next)
    (malloc_new it c.args.self.now c.args.n new c.add.new.self
    (most_by heap_size _ _ _ _ live rounded c.if-self-rounded-gt-HEAP_SIZE.false)
    (most_by heap_end _ _ _ _ next size c.if-self-size-gt-HEAP_END.false)
    (λ k w kept. subst (λ (x : ℕ). IsKept new c.add.new.self k (new_block w x)) size (c.in_ok-add.ensures.done k w kept)))

pub round_up-rounded-requires-clause-power : goal.round_up-rounded-requires-clause-power
round_up-rounded-requires-clause-power c = (4, refl)
