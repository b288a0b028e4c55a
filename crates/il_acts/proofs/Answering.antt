-- What the calls that have to do with memory and the heap alone come to.
use Rattle.std.proofs.Common.{append-nil, ◌≡◌, ℕ, ◌+◌, ◌-◌, ◌*◌, ◌%◌, ◌<◌, ◌≤◌, max, Bool, true, false, List, [], ◌∷◌, Option, Some, None, refl, sym, ap, ◌∙◌, subst, arith}
use Rattle.std.specs.Prelude.{Result, Ok, Err, alloc_error, nat_lt, if◌then◌else◌}
use Rattle.std.specs.declared.alloc.AllocError.{AllocError}
use Rattle.std.proofs.KnownBytes.{Appends-nil, Consumes-nil}
use Rattle.std.proofs.lemmas.Bool.Decides.{nat_tests}
use Rattle.hx_base.specs.Memory.{Memory, round_up, all_mapped, bytes_at, write, map_range, unmap_range, clear_range, move, same}
use Rattle.hx_base.specs.Runtime as runtime
use Rattle.hx_base.specs.Runtime.{World, Act, heap_end, heap_size, live_bytes, block_size, without_block, new_block, malloc, freed, free, moved, compared, arg, arguments_start, record_size}
use Rattle.hx_runtime.specs.declared.runtime.RuntimeFunction.{RuntimeFunction}
use Rattle.hx_runtime.specs.declared.runtime.RuntimeFunction.TheVariants as function
use Rattle.il_mem.specs.declared.stop.MemStop.{MemStop}
use Rattle.il_mem.specs.declared.stop.MemStop.TheVariants as stop
use Rattle.il_mem.specs.declared.stop.Wild.{Wild}
use Rattle.il_mem.specs.Kept.{Kept, is_held}
use Rattle.il_mem.specs.Holds.{Holds, Changes, AllHeld, AddsPages, GivesUp, read_or_wild}
use Rattle.il_mem.proofs.TouchedLemmas.{lacks_one, fresh}
use Rattle.il_acts.specs.declared.acted.Acted.{Acted}
use Rattle.il_acts.specs.declared.acted.Acted.TheVariants as acted
use Rattle.il_acts.specs.declared.acted.RuntimeFault.TheVariants as fault
use Rattle.il_acts.specs.Blocks.{Blocks, HeapHolds}
use Rattle.il_acts.specs.Outside.{Streams}
use Rattle.il_acts.specs.Acts.{IsKept, Left, Leaves, GivesValue, EndsBy, Does, AnswersAlone, AnswersCounting, WritesFreshPage}
use Rattle.il_acts.proofs.BlockLists.{Puts}
use Rattle.il_acts.proofs.HeapLies.{holds_more, holds_less}
use Rattle.il_acts.proofs.Touched.{touched_move, touched_clear}
use Rattle.il_acts.proofs.Passing.{finds_any}

-- ---- a world with another input

abbrev pub with_input : World → List ℕ → World
with_input w input = record w { input = input }

-- of the input nothing is kept
pub kept_input : (it : Kept) (h : Blocks) (k : ℕ) (w : World) (input : List ℕ) → IsKept it h k w → IsKept it h k (with_input w input)
kept_input it h k w input x = record { memory = x.memory; pages = x.pages; heap = x.heap; arguments = x.arguments }

-- ---- calls that do not call the outside

abbrev pub alone : Kept → Blocks → ℕ → Streams → Left
alone it h k s = record { memory = it; heap = h; arguments = k; before = s; now = s }

pub leaves_alone : (it : Kept) (h : Blocks) (k : ℕ) (s : Streams) (from to : World) → IsKept it h k to → to.input ≡ from.input →
    to.output ≡ from.output → Leaves (alone it h k s) from to
leaves_alone it h k s from to kept same equal = record {
  kept = kept;
  read = record { bytes = []; taken = same; lost = Consumes-nil s.left };
  written = record { bytes = []; added = append-nil from.output ∙ sym equal; put = Appends-nil s.written };
}

-- what cannot come
pub alone_never : (it it' : Kept) (h h' : Blocks) (f : RuntimeFunction) (args : List ℕ) (a : Acted) → ((m : Memory) → Holds it m → ⊥) →
    AnswersAlone it it' h h' f args (Ok a)
alone_never it it' h h' f args a never s k w kept = absurd (never w.memory kept.memory)

-- a call that succeeds does so from each world
pub alone_ok : (it it' : Kept) (h h' : Blocks) (f : RuntimeFunction) (args : List ℕ) (a : Acted) →
    ((k : ℕ) (w : World) (s : Streams) → IsKept it h k w → Does (alone it' h' k s) f args w a) → AnswersAlone it it' h h' f args (Ok a)
alone_ok it it' h h' f args a does s k w kept =
    finds_any s.left (λ input. Does (alone it' h' k s) f args (with_input w input) a)
    (λ input. does k (with_input w input) s (kept_input it h k w input kept))

-- one that ends the program changes nothing
pub ends_alone : (it : Kept) (h : Blocks) (k : ℕ) (s : Streams) (w : World) (does end : Act) → IsKept it h k w → does ≡ end →
    EndsBy (alone it h k s) does end w
ends_alone it h k s w does end kept e = record { is = e; leaves = leaves_alone it h k s w w kept refl refl }

-- one that gives a value in the same world
pub gives_alone : (it : Kept) (h : Blocks) (k : ℕ) (s : Streams) (w : World) (does : Act) (value moved : ℕ) → IsKept it h k w →
    does ≡ runtime.Gives value moved w → GivesValue (alone it h k s) does value moved w
gives_alone it h k s w does value moved kept e = record { to = w; is = e; leaves = leaves_alone it h k s w w kept refl refl }

-- ---- blocks

round_up_more : (n : ℕ) → n ≤ round_up n 16
round_up_more n = omega arith

module _ (it : Kept) (h : Blocks) (n : ℕ) where
  -- too many bytes would be live
  pub malloc_none : heap_size < h.live + round_up (max 1 n) 16 → AnswersAlone it it h h function.Malloc (n ∷ []) (Ok (acted.Gives 0 0))
  malloc_none many = alone_ok it it h h function.Malloc (n ∷ []) (acted.Gives 0 0)
      (λ k w s kept. gives_alone it h k s w (malloc w n) 0 0 kept (is w kept.heap))
    where
      is : (w : World) → HeapHolds h w.heap → malloc w n ≡ runtime.Gives 0 0 w
      is w holds = pick (nat_lt heap_size (live_bytes w.heap.blocks + round_up (max 1 n) 16)) refl
        where
          pick : (t : Bool) → nat_lt heap_size (live_bytes w.heap.blocks + round_up (max 1 n) 16) ≡ t → malloc w n ≡ runtime.Gives 0 0 w
          pick true e = rw e refl
          pick false e =
              let live = holds.live in
              let most : live_bytes w.heap.blocks + round_up (max 1 n) 16 ≤ heap_size = grind (arith, nat_tests) in
              absurd (omega (arith, live, most, many))

  -- a block of so many bytes is too great by itself
  pub malloc_great : heap_size < max 1 n → AnswersAlone it it h h function.Malloc (n ∷ []) (Ok (acted.Gives 0 0))
  malloc_great great = malloc_none (let more = round_up_more (max 1 n) in omega (arith, great, more))

  -- the block would end too high
  pub malloc_full : h.live + round_up (max 1 n) 16 ≤ heap_size → heap_end < h.next + max 1 n →
      AnswersAlone it it h h function.Malloc (n ∷ []) (Ok acted.Full)
  malloc_full few high = alone_ok it it h h function.Malloc (n ∷ []) acted.Full
      (λ k w s kept. ends_alone it h k s w (malloc w n) runtime.Full kept (is w kept.heap))
    where
      is : (w : World) → HeapHolds h w.heap → malloc w n ≡ runtime.Full
      is w holds =
          pick (nat_lt heap_size (live_bytes w.heap.blocks + round_up (max 1 n) 16)) (nat_lt heap_end (w.heap.next + max 1 n)) refl refl
        where
          pick : (t u : Bool) → nat_lt heap_size (live_bytes w.heap.blocks + round_up (max 1 n) 16) ≡ t →
              nat_lt heap_end (w.heap.next + max 1 n) ≡ u → malloc w n ≡ runtime.Full
          pick true u e f =
              let live = holds.live in
              let many : heap_size < live_bytes w.heap.blocks + round_up (max 1 n) 16 = grind (arith, nat_tests) in
              absurd (omega (arith, live, many, few))
          pick false true e f = rw (e, f) refl
          pick false false e f =
              let next = holds.next in
              let low : w.heap.next + max 1 n ≤ heap_end = grind (arith, nat_tests) in
              absurd (omega (arith, next, low, high))

  -- a new block
  pub malloc_new : (it' : Kept) (h' : Blocks) → h.live + round_up (max 1 n) 16 ≤ heap_size → h.next + max 1 n ≤ heap_end →
      ((k : ℕ) (w : World) → IsKept it h k w → IsKept it' h' k (new_block w (max 1 n))) →
      AnswersAlone it it' h h' function.Malloc (n ∷ []) (Ok (acted.Gives h.next 0))
  malloc_new it' h' few low made = alone_ok it it' h h' function.Malloc (n ∷ []) (acted.Gives h.next 0)
      (λ k w s kept. record {
        to = new_block w (max 1 n);
        is = is w kept.heap;
        leaves = leaves_alone it' h' k s w (new_block w (max 1 n)) (made k w kept) refl refl;
      })
    where
      is : (w : World) → HeapHolds h w.heap → malloc w n ≡ runtime.Gives h.next 0 (new_block w (max 1 n))
      is w holds =
          pick (nat_lt heap_size (live_bytes w.heap.blocks + round_up (max 1 n) 16)) (nat_lt heap_end (w.heap.next + max 1 n)) refl refl
          ∙ ap (λ (p : ℕ). runtime.Gives p 0 (new_block w (max 1 n))) (sym holds.next)
        where
          pick : (t u : Bool) → nat_lt heap_size (live_bytes w.heap.blocks + round_up (max 1 n) 16) ≡ t →
              nat_lt heap_end (w.heap.next + max 1 n) ≡ u → malloc w n ≡ runtime.Gives w.heap.next 0 (new_block w (max 1 n))
          pick true u e f =
              let live = holds.live in
              let many : heap_size < live_bytes w.heap.blocks + round_up (max 1 n) 16 = grind (arith, nat_tests) in
              absurd (omega (arith, live, many, few))
          pick false true e f =
              let next = holds.next in
              let high : heap_end < w.heap.next + max 1 n = grind (arith, nat_tests) in
              absurd (omega (arith, next, low, high))
          pick false false e f = rw (e, f) refl

  -- memory is wanted
  pub malloc_wants : (e : AllocError) → AnswersAlone it it h h function.Malloc (n ∷ []) (Err e)
  malloc_wants e s k w kept = record { kept = kept; wants = tt }

-- what is kept behind a new block
pub kept_more : (it it' : Kept) (h : Blocks) (n : ℕ) (bs : List (ℕ × ℕ)) (k : ℕ) (w : World) → IsKept it h k w →
    block_size h.blocks h.next ≡ None → Puts h.blocks bs h.next (Some n) → it'.held ≡ it.held →
    ((m : Memory) → Holds it m → Holds it' (map_range m h.next n)) →
    IsKept it' (record { next = h.next + round_up n 16; blocks = bs; live = h.live + round_up n 16 }) k (new_block w n)
kept_more it it' h n bs k w kept unused puts held maps = record {
  memory = subst (λ (p : ℕ). Holds it' (map_range w.memory p n)) kept.heap.next (maps w.memory kept.memory);
  pages = λ p t. held_page p (kept.pages p t);
  heap = holds_more h w.heap n bs kept.heap unused puts;
  arguments = kept.arguments;
}
  where
    held_page : (p : ℕ) → is_held it.held p ≡ true → is_held it'.held p ≡ true
    held_page p e = rw held e

-- ---- a block that is freed

pub free_bad : (it : Kept) (h : Blocks) (p : ℕ) → block_size h.blocks p ≡ None →
    AnswersAlone it it h h function.Free (p ∷ []) (Ok (acted.Faults fault.BadFree))
free_bad it h p none = alone_ok it it h h function.Free (p ∷ []) (acted.Faults fault.BadFree)
    (λ k w s kept. ends_alone it h k s w (free w p) (runtime.Faults runtime.BadFree) kept
    (ap (freed w p) (sym (kept.heap.blocks p) ∙ none)))

pub free_done : (it it' : Kept) (h : Blocks) (p n : ℕ) (bs : List (ℕ × ℕ)) → block_size h.blocks p ≡ Some n → Puts h.blocks bs p None →
    ((m : Memory) → Holds it m → Holds it' (clear_range (unmap_range m p n) p n)) → GivesUp it it' p n →
    AnswersAlone it it' h (record { next = h.next; blocks = bs; live = h.live - round_up n 16 }) function.Free (p ∷ [])
    (Ok (acted.Gives 0 0))
free_done it it' h p n bs is puts clears gives =
    let h' : Blocks = record { next = h.next; blocks = bs; live = h.live - round_up n 16 } in
    alone_ok it it' h h' function.Free (p ∷ []) (acted.Gives 0 0) (λ k w s kept. record {
      to = behind w;
      is = ap (freed w p) (sym (kept.heap.blocks p) ∙ is);
      leaves = leaves_alone it' h' k s w (behind w) (record {
        memory = clears w.memory kept.memory;
        pages = touched_clear it it' (unmap_range w.memory p n) p n kept.pages gives;
        heap = holds_less h w.heap p n bs kept.heap is puts;
        arguments = kept.arguments;
      }) refl refl;
    })
  where
    behind : World → World
    behind w = record w {
      memory = clear_range (unmap_range w.memory p n) p n;
      heap = record { next = w.heap.next; blocks = without_block w.heap.blocks p };
    }

-- ---- copies

-- the answer for what memory answers
abbrev pub moved_answer : ℕ → Result (Unit {0}) MemStop → Result Acted AllocError
moved_answer n (Ok done) = Ok (acted.Gives 0 n)
moved_answer n (Err stop.Wild) = Ok (acted.Faults fault.Wild)
moved_answer n (Err stop.Memory) = Err alloc_error

-- a copy is Wild, or of bytes that are all mapped
pub data Copies (m : Memory) (to from n : ℕ) : Type 0 where
  wild : move m to from n ≡ None → Copies m to from n
  copies : all_mapped m to n ≡ true → all_mapped m from n ≡ true →
      move m to from n ≡ Some (write m to (bytes_at m from n)) → Copies m to from n

pub copies_of : (m : Memory) (to from n : ℕ) → Copies m to from n
copies_of m to from n = pick (all_mapped m to n) (all_mapped m from n) refl refl
  where
    pick : (b c : Bool) → all_mapped m to n ≡ b → all_mapped m from n ≡ c → Copies m to from n
    pick true true e f = copies e f (rw (e, f) refl)
    pick true false e f = wild (rw (e, f) refl)
    pick false c e f = wild (rw e refl)

module _ (it it' : Kept) (h : Blocks) (to from n : ℕ) where
  pub move_done : ((m : Memory) → Holds it m → Changes it' (move m to from n) (Ok tt)) → AddsPages it it' to n →
      AnswersAlone it it' h h function.Move (to ∷ from ∷ n ∷ []) (Ok (acted.Gives 0 n))
  move_done does adds = alone_ok it it' h h function.Move (to ∷ from ∷ n ∷ []) (acted.Gives 0 n)
      (λ k w s kept. pick k w s kept (copies_of w.memory to from n) (does w.memory kept.memory))
    where
      pick : (k : ℕ) (w : World) (s : Streams) → IsKept it h k w → Copies w.memory to from n →
          Changes it' (move w.memory to from n) (Ok tt) →
          GivesValue (alone it' h k s) (moved w n (move w.memory to from n)) 0 n w
      pick k w s kept (wild e) c = absurd (subst (λ (o : Option Memory). Changes it' o (Ok tt)) e c)
      pick k w s kept (copies a b e) c =
          let there : World = record w { memory = write w.memory to (bytes_at w.memory from n) } in
          record {
            to = there;
            is = ap (moved w n) e;
            leaves = leaves_alone it' h k s w there (record {
              memory = subst (λ (o : Option Memory). Changes it' o (Ok tt)) e c;
              pages = touched_move it it' w.memory to from n kept.pages adds;
              heap = kept.heap;
              arguments = kept.arguments;
            }) refl refl;
          }

  -- a copy that stops leaves memory
  stays : it' ≡ it → (k : ℕ) (w : World) → IsKept it h k w → IsKept it' h k w
  stays e k w kept = subst (λ (x : Kept). IsKept x h k w) (sym e) kept

  pub move_wild : ((m : Memory) → Holds it m → Changes it' (move m to from n) (Err stop.Wild)) → it' ≡ it →
      AnswersAlone it it' h h function.Move (to ∷ from ∷ n ∷ []) (Ok (acted.Faults fault.Wild))
  move_wild does same = alone_ok it it' h h function.Move (to ∷ from ∷ n ∷ []) (acted.Faults fault.Wild)
      (λ k w s kept. pick k w s (stays same k w kept) (copies_of w.memory to from n) (does w.memory kept.memory))
    where
      pick : (k : ℕ) (w : World) (s : Streams) → IsKept it' h k w → Copies w.memory to from n →
          Changes it' (move w.memory to from n) (Err stop.Wild) →
          EndsBy (alone it' h k s) (moved w n (move w.memory to from n)) (runtime.Faults runtime.Wild) w
      pick k w s kept (wild e) c =
          ends_alone it' h k s w (moved w n (move w.memory to from n)) (runtime.Faults runtime.Wild) kept (ap (moved w n) e)
      pick k w s kept (copies a b e) c = absurd (subst (λ (o : Option Memory). Changes it' o (Err stop.Wild)) e c)

  pub move_wants : (e : AllocError) → ((m : Memory) → Holds it m → Changes it' (move m to from n) (Err stop.Memory)) → it' ≡ it →
      ¬ (AllHeld it to n) → AnswersAlone it it' h h function.Move (to ∷ from ∷ n ∷ []) (Err e)
  move_wants e does same lacks s k w kept =
      record { kept = stays same k w kept; wants = pick (copies_of w.memory to from n) (does w.memory kept.memory) }
    where
      pick : Copies w.memory to from n → Changes it' (move w.memory to from n) (Err stop.Memory) →
          WritesFreshPage (moved w n (move w.memory to from n)) w.memory to n
      pick (wild f) c = absurd (subst (λ (o : Option Memory). Changes it' o (Err stop.Memory)) f c)
      pick (copies a b f) c =
          let one = lacks_one it to n lacks in
          record { goes = rw f tt; page = one.page; met = one.met; fresh = fresh it to n w.memory kept.pages one }

-- ---- comparisons

module _ (it : Kept) (h : Blocks) (a b n : ℕ) where
  pub same_done : (equal : Bool) → ((m : Memory) → Holds it m → Ok equal ≡ read_or_wild (same m a b n)) →
      AnswersAlone it it h h function.Same (a ∷ b ∷ n ∷ []) (Ok (acted.Gives (if equal then 1 else 0) n))
  same_done equal does = alone_ok it it h h function.Same (a ∷ b ∷ n ∷ []) (acted.Gives (if equal then 1 else 0) n)
      (λ k w s kept. gives_alone it h k s w (compared w n (same w.memory a b n)) (if equal then 1 else 0) n kept
      (pick w (same w.memory a b n) (does w.memory kept.memory)))
    where
      pick : (w : World) (o : Option Bool) → Ok equal ≡ read_or_wild o → compared w n o ≡ runtime.Gives (if equal then 1 else 0) n w
      pick w None e = cc
      pick w (Some x) e = let same : equal ≡ x = cc in rw same refl

  pub same_wild : (x : Wild) → ((m : Memory) → Holds it m → Err x ≡ read_or_wild (same m a b n)) →
      AnswersAlone it it h h function.Same (a ∷ b ∷ n ∷ []) (Ok (acted.Faults fault.Wild))
  same_wild x does = alone_ok it it h h function.Same (a ∷ b ∷ n ∷ []) (acted.Faults fault.Wild)
      (λ k w s kept. ends_alone it h k s w (compared w n (same w.memory a b n)) (runtime.Faults runtime.Wild) kept
      (pick w (same w.memory a b n) (does w.memory kept.memory)))
    where
      pick : (w : World) (o : Option Bool) → Err x ≡ read_or_wild o → compared w n o ≡ runtime.Faults runtime.Wild
      pick w None e = refl
      pick w (Some y) e = cc

-- ---- the text of an abort

module _ (it : Kept) (h : Blocks) (at n : ℕ) where
  pub abort_done : (text : List ℕ) → ((m : Memory) → Holds it m → (all_mapped m at n ≡ true) × (text ≡ bytes_at m at n)) →
      AnswersAlone it it h h function.Abort (at ∷ n ∷ []) (Ok (acted.Aborts text))
  abort_done text does = alone_ok it it h h function.Abort (at ∷ n ∷ []) (acted.Aborts text)
      (λ k w s kept. ends_alone it h k s w (runtime.abort w at n) (runtime.Aborts text) kept
      (let d = does w.memory kept.memory in rw (d.0, d.1) refl))

  pub abort_wild : ((m : Memory) → Holds it m → all_mapped m at n ≡ false) →
      AnswersAlone it it h h function.Abort (at ∷ n ∷ []) (Ok (acted.Faults fault.Wild))
  abort_wild does = alone_ok it it h h function.Abort (at ∷ n ∷ []) (acted.Faults fault.Wild)
      (λ k w s kept. ends_alone it h k s w (runtime.abort w at n) (runtime.Faults runtime.Wild) kept
      (let d = does w.memory kept.memory in rw d refl))

  pub abort_wants : (e : AllocError) → AnswersAlone it it h h function.Abort (at ∷ n ∷ []) (Err e)
  abort_wants e s k w kept = record { kept = kept; wants = tt }

-- ---- ends and arguments

pub exit_done : (k n : ℕ) → AnswersCounting k function.Exit (n ∷ []) (acted.Exits (n % 256))
exit_done k n it h s w kept =
    finds_any s.left (λ input. Does (alone it h k s) function.Exit (n ∷ []) (with_input w input) (acted.Exits (n % 256)))
    (λ input. ends_alone it h k s (with_input w input) (runtime.Exits (n % 256)) (runtime.Exits (n % 256))
    (kept_input it h k w input kept) refl)

pub nargs_done : (k v : ℕ) → v ≡ k → AnswersCounting k function.Nargs [] (acted.Gives v 0)
nargs_done k v e it h s w kept =
    finds_any s.left (λ input. Does (alone it h k s) function.Nargs [] (with_input w input) (acted.Gives v 0))
    (λ input. gives_alone it h k s (with_input w input) (runtime.Gives w.arguments 0 (with_input w input)) v 0
    (kept_input it h k w input kept)
    (ap (λ (x : ℕ). runtime.Gives x 0 (with_input w input)) (sym (e ∙ kept.arguments))))

pub arg_done : (k i : ℕ) → i < k → AnswersCounting k function.Arg (i ∷ []) (acted.Gives (arguments_start + record_size * i) 0)
arg_done k i less it h s w kept =
    finds_any s.left
    (λ input. Does (alone it h k s) function.Arg (i ∷ []) (with_input w input) (acted.Gives (arguments_start + record_size * i) 0))
    (λ input. gives_alone it h k s (with_input w input) (arg (with_input w input) i) (arguments_start + record_size * i) 0
    (kept_input it h k w input kept) (is input))
  where
    is : (input : List ℕ) → arg (with_input w input) i ≡ runtime.Gives (arguments_start + record_size * i) 0 (with_input w input)
    is input = pick (nat_lt i w.arguments) refl
      where
        pick : (t : Bool) → nat_lt i w.arguments ≡ t →
            arg (with_input w input) i ≡ runtime.Gives (arguments_start + record_size * i) 0 (with_input w input)
        pick true e = rw e refl
        pick false e =
            let count = kept.arguments in
            let least : w.arguments ≤ i = grind (arith, nat_tests) in
            absurd (omega (arith, count, least, less))

pub arg_bad : (k i : ℕ) → k ≤ i → AnswersCounting k function.Arg (i ∷ []) (acted.Faults fault.BadArg)
arg_bad k i least it h s w kept =
    finds_any s.left (λ input. Does (alone it h k s) function.Arg (i ∷ []) (with_input w input) (acted.Faults fault.BadArg))
    (λ input. ends_alone it h k s (with_input w input) (arg (with_input w input) i) (runtime.Faults runtime.BadArg)
    (kept_input it h k w input kept) (is input))
  where
    is : (input : List ℕ) → arg (with_input w input) i ≡ runtime.Faults runtime.BadArg
    is input = pick (nat_lt i w.arguments) refl
      where
        pick : (t : Bool) → nat_lt i w.arguments ≡ t → arg (with_input w input) i ≡ runtime.Faults runtime.BadArg
        pick false e = rw e refl
        pick true e =
            let count = kept.arguments in
            let less : i < w.arguments = grind (arith, nat_tests) in
            absurd (omega (arith, count, least, less))
