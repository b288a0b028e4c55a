-- One induction over code and turns, for whatever holds from each state to each later one.
use Rattle.std.proofs.Common.{◌≡◌, ℕ, zero, suc, ◌/◌, ◌≤◌, Bool, true, false, List, length, Option, Some, None, [], ◌∷◌, refl, sym, subst, arith}
use Rattle.std.specs.Prelude.{◌&&◌, ◌==◌, map, if◌then◌else◌}
use Rattle.hx_base.specs.declared.Class.{Class}
use Rattle.hx_base.specs.declared.Class.TheVariants.{W, L}
use Rattle.hx_base.specs.Runtime as runtime
use Rattle.hx_base.specs.Memory.{le_bytes, bytes_at, all_mapped, write, unmap_range, clear_range, load}
use Rattle.hx_base.specs.Runtime.{World, Act, Gives, Exits, Aborts, Faults, Full, put, read, malloc, freed, move_bytes, same_bytes, abort, arg, new_block, block_size, without_block, live_bytes, heap_size, heap_end}
use Rattle.hx_runtime.specs.Functions.{runtime_params, runtime_result, act, runtime_function}
use Rattle.hx_runtime.specs.declared.runtime.RuntimeFunction.{RuntimeFunction}
use Rattle.hx_runtime.specs.declared.runtime.RuntimeFunction.TheVariants.{Puts, Write, Read, Malloc, Free, Move as MoveBytes, Same, Abort as AbortCall, Exit as ExitCall, Nargs, Arg}
use Rattle.flat_code.specs.declared.op.LoadKind.{LoadKind}
use Rattle.flat_code.specs.declared.program.FlatFn.{FlatFn}
use Rattle.flat_code.specs.declared.program.FlatProgram.{FlatProgram}
use Rattle.flat_code.specs.declared.value.Value.{Value}
use Rattle.flat_code.specs.Code.{Code, Codes, none, more, Seq, Set, Load, Store, Move, If, Loop, Leave, Call, Ret}
use Rattle.flat_code.specs.Shape.{code_of}
use Rattle.flat_code.specs.Operations.{gives}
use Rattle.flat_code.specs.State.{State, cut, value_of, set_temp, give, with_memory, stepped, Flow, Next, Left, Returned, Exit, Abort, Fault, HeapFull, Spent, Result, then_go, caught, then_turn, spends}
use Rattle.flat_code.specs.Evaluation.{Less, computed, loaded, extension, load_bytes, stored, moved, overlap, cut_each, acted, runtime_called, function_named, entered, left, back, called, returns, flat, flat_begun, flat_below, flats_in}
use Rattle.flat_laws.specs.Runs.{GoesOn, OfAllCode}

-- ---- what a function of the runtime does to a world

-- bytes are written, none perhaps, and input and output change
abbrev pub wrote : World → ℕ → List ℕ → List ℕ → List ℕ → World
wrote w at bs input output = record w { memory = write w.memory at bs; input = input; output = output }

-- a live block is given back
abbrev pub unmade : World → ℕ → ℕ → World
unmade w p n = record w {
  memory = clear_range (unmap_range w.memory p n) p n;
  heap = record { next = w.heap.next; blocks = without_block w.heap.blocks p };
}

-- a later world is one of these
pub data Acts (w w' : World) : Type 0 where
  writes : (at : ℕ) (bs input output : List ℕ) → w' ≡ wrote w at bs input output → Acts w w'
  makes : (size : ℕ) → 1 ≤ size → w' ≡ new_block w size → Acts w w'
  unmakes : (p n : ℕ) → block_size w.heap.blocks p ≡ Some n → w' ≡ unmade w p n → Acts w w'

-- an act leaves such a world, or none
abbrev pub ActsBy : World → Act → Type 0
ActsBy w (Gives v bytes w') = Acts w w'
ActsBy w (Exits status) = Unit {0}
ActsBy w (Aborts text) = Unit {0}
ActsBy w (Faults f) = Unit {0}
ActsBy w Full = Unit {0}

same_world : (w : World) → Acts w w
same_world w = writes 0 [] w.input w.output refl

by_put : (b : Bool) (w : World) (n : ℕ) (out : List ℕ) → ActsBy w (if b then Gives 0 n (record w { output = out }) else Faults runtime.Wild)
by_put true w n out = writes 0 [] w.input out refl
by_put false w n out = tt

by_read : (b : Bool) (w : World) (p n : ℕ) (bs input : List ℕ) →
    ActsBy w (if b then Gives n n (record w { memory = write w.memory p bs; input = input }) else Faults runtime.Wild)
by_read true w p n bs input = writes p bs input w.output refl
by_read false w p n bs input = tt

by_malloc : (b c : Bool) (w : World) (size : ℕ) → 1 ≤ size →
    ActsBy w (if b then Gives 0 0 w else if c then Full else Gives w.heap.next 0 (new_block w size))
by_malloc true c w size l = same_world w
by_malloc false true w size l = tt
by_malloc false false w size l = makes size l refl

by_free : (w : World) (p : ℕ) (o : Option ℕ) → block_size w.heap.blocks p ≡ o → ActsBy w (freed w p o)
by_free w p None e = tt
by_free w p (Some n) e = unmakes p n e refl

by_move : (b : Bool) (w : World) (to n : ℕ) (bs : List ℕ) → ActsBy w (runtime.moved w n (if b then Some (write w.memory to bs) else None))
by_move true w to n bs = writes to bs w.input w.output refl
by_move false w to n bs = tt

by_same : (b c : Bool) (w : World) (n : ℕ) → ActsBy w (runtime.compared w n (if b then Some c else None))
by_same true c w n = same_world w
by_same false c w n = tt

by_abort : (b : Bool) (w : World) (text : List ℕ) → ActsBy w (if b then Aborts text else Faults runtime.Wild)
by_abort true w text = tt
by_abort false w text = tt

by_arg : (b : Bool) (w : World) (v : ℕ) → ActsBy w (if b then Gives v 0 w else Faults runtime.BadArg)
by_arg true w v = same_world w
by_arg false w v = tt

pub acts_by : (f : RuntimeFunction) (vs : List ℕ) (w : World) → ActsBy w (act f vs w)
acts_by Puts vs w = by_put _ w _ _
acts_by Write vs w = by_put _ w _ _
acts_by Read vs w = by_read _ w _ _ _ _
acts_by Malloc vs w = by_malloc _ _ w _ (omega arith)
acts_by Free vs w = by_free w _ _ refl
acts_by MoveBytes vs w = by_move _ w _ _ _
acts_by Same vs w = by_same _ _ w _
acts_by AbortCall vs w = by_abort _ w _
acts_by ExitCall vs w = tt
acts_by Nargs vs w = same_world w
acts_by Arg vs w = by_arg _ w _

-- ---- what holds from each state to each later one

-- `K` is kept where code goes on, leaves or returns, `E` also where it ends the program
pub record Steady (K E : State → State → Type 0) : Type 0 where
  pub same : (s : State) → K s s
  pub chain : (s t u : State) → K s t → K t u → K s u
  pub weaker : (s t : State) → K s t → E s t
  pub ends : (s t u : State) → K s t → E t u → E s u
  pub counted : (s : State) (n : ℕ) → K s (stepped n s)
  pub set : (s : State) (ts : List (ℕ × ℕ)) → K s (record s { temps = ts })
  pub wrote : (s : State) (at : ℕ) (bs input output : List ℕ) → K s (record s { world = wrote s.world at bs input output })
  pub made : (s : State) (size : ℕ) → 1 ≤ size → K s (record s { world = new_block s.world size })
  pub unmade : (s : State) (p n : ℕ) → block_size s.world.heap.blocks p ≡ Some n → K s (record s { world = unmade s.world p n })
  pub returned : (s t : State) (f : FlatFn) (vs : List ℕ) → K (entered s f vs) t → K s (left s t)
  pub ended : (s t : State) (f : FlatFn) (vs : List ℕ) → E (entered s f vs) t → E s t

-- the one of the two that holds by how code ends
abbrev pub Behind : (K E : State → State → Type 0) → State → Flow → State → Type 0
Behind K E s Next t = K s t
Behind K E s (Left k) t = K s t
Behind K E s (Returned v) t = K s t
Behind K E s (Exit status) t = E s t
Behind K E s (Abort text) t = E s t
Behind K E s (Fault f) t = E s t
Behind K E s HeapFull t = E s t
Behind K E s Spent t = E s t

module _ (K E : State → State → Type 0) (laws : Steady K E) where
  abbrev pub Holds : State → Result → Type 0
  Holds s r = Behind K E s r.0 r.1

  -- ---- ends put together

  -- first something that is kept
  after : (s t : State) → K s t → (r : Result) → Holds t r → Holds s r
  after s t k (Next, u) h = laws.chain s t u k h
  after s t k (Left i, u) h = laws.chain s t u k h
  after s t k (Returned v, u) h = laws.chain s t u k h
  after s t k (Exit i, u) h = laws.ends s t u k h
  after s t k (Abort b, u) h = laws.ends s t u k h
  after s t k (Fault f, u) h = laws.ends s t u k h
  after s t k (HeapFull, u) h = laws.ends s t u k h
  after s t k (Spent, u) h = laws.ends s t u k h

  going : (s : State) (r : Result) (go : State → Result) → Holds s r → ((t : State) → Holds t (go t)) → Holds s (then_go r go)
  going s (Next, t) go h on = after s t h (go t) (on t)
  going s (Left i, t) go h on = h
  going s (Returned v, t) go h on = h
  going s (Exit i, t) go h on = h
  going s (Abort b, t) go h on = h
  going s (Fault f, t) go h on = h
  going s (HeapFull, t) go h on = h
  going s (Spent, t) go h on = h

  catching : (s : State) (r : Result) → Holds s r → Holds s (caught r)
  catching s (Next, t) h = h
  catching s (Left zero, t) h = h
  catching s (Left (suc i), t) h = h
  catching s (Returned v, t) h = h
  catching s (Exit i, t) h = h
  catching s (Abort b, t) h = h
  catching s (Fault f, t) h = h
  catching s (HeapFull, t) h = h
  catching s (Spent, t) h = h

  turning : (s : State) (r : Result) (go : State → Result) → Holds s r → ((t : State) → Holds t (go t)) → Holds s (then_turn r go)
  turning s (Next, t) go h on = after s t h (go t) (on t)
  turning s (Left zero, t) go h on = h
  turning s (Left (suc i), t) go h on = h
  turning s (Returned v, t) go h on = h
  turning s (Exit i, t) go h on = h
  turning s (Abort b, t) go h on = h
  turning s (Fault f, t) go h on = h
  turning s (HeapFull, t) go h on = h
  turning s (Spent, t) go h on = h

  ending : (s : State) → E s s
  ending s = laws.weaker s s (laws.same s)

  spending : (n : ℕ) (s : State) (r : Result) → Holds s r → Holds s (spends n (Spent, s) r)
  spending zero s r h = ending s
  spending (suc n) s r h = h

  branching : (b : Bool) (s : State) (x y : Result) → Holds s x → Holds s y → Holds s (if b then x else y)
  branching true s x y h g = h
  branching false s x y h g = g

  -- ---- statements that are no code's

  setting : (s : State) (t : ℕ) (class : Class) (v : ℕ) → K s (set_temp s t class v)
  setting s t class v = laws.set s ((t, cut class v) ∷ s.temps)

  giving : (s : State) (t : Option ℕ) (class : Option Class) (v : ℕ) → K s (give s t class v)
  giving s None class v = laws.same s
  giving s (Some t) None v = laws.same s
  giving s (Some t) (Some class) v = setting s t class v

  computing : (s : State) (t : ℕ) (class : Class) (o : Option ℕ) → Holds s (computed s t class o)
  computing s t class None = ending s
  computing s t class (Some v) = setting s t class v

  loading : (s : State) (t : ℕ) (how : LoadKind) (o : Option ℕ) → Holds s (loaded s t how o)
  loading s t how None = ending s
  loading s t how (Some v) = computing s t L (gives L (extension how) v 0)

  writing : (s : State) (at : ℕ) (bs : List ℕ) → K s (with_memory s (write s.world.memory at bs))
  writing s at bs = laws.wrote s at bs s.world.input s.world.output

  storing : (b : Bool) (s : State) (at : ℕ) (bs : List ℕ) → Holds s (stored s (if b then Some (write s.world.memory at bs) else None))
  storing true s at bs = writing s at bs
  storing false s at bs = ending s

  moving : (b c : Bool) (s : State) (n at : ℕ) (bs : List ℕ) → Holds s (moved s n c (if b then Some (write s.world.memory at bs) else None))
  moving true true s n at bs = ending s
  moving true false s n at bs =
      let t : State = with_memory s (write s.world.memory at bs) in
      laws.chain s t _ (writing s at bs) (laws.counted t (n / 64))
  moving false c s n at bs = ending s

  returning : (p : FlatProgram) (s : State) (v : Option Value) → Holds s (returns p s v)
  returning p s None = laws.same s
  returning p s (Some v) = laws.same s

  -- ---- calls

  worlds : (s : State) (w : World) → Acts s.world w → K s (record s { world = w })
  worlds s w (writes at bs input output e) = subst (λ (x : World). K s (record s { world = x })) (sym e) (laws.wrote s at bs input output)
  worlds s w (makes size l e) = subst (λ (x : World). K s (record s { world = x })) (sym e) (laws.made s size l)
  worlds s w (unmakes q n l e) = subst (λ (x : World). K s (record s { world = x })) (sym e) (laws.unmade s q n l)

  acting : (s : State) (t : Option ℕ) (class : Option Class) (a : Act) → ActsBy s.world a → Holds s (acted s t class a)
  acting s t class (Gives v bytes w) h =
      let one : State = record s { world = w } in
      let two : State = stepped (bytes / 64) one in
      laws.chain s one _ (worlds s w h) (laws.chain one two _ (laws.counted one (bytes / 64)) (giving two t class v))
  acting s t class (Exits status) h = ending s
  acting s t class (Aborts text) h = ending s
  acting s t class (Faults f) h = ending s
  acting s t class Full h = ending s

  runtime_calling : (s : State) (t : Option ℕ) (f : Option RuntimeFunction) (vs : List ℕ) → Holds s (runtime_called s t f vs)
  runtime_calling s t None vs = ending s
  runtime_calling s t (Some f) vs =
      acting s t (runtime_result f) (act f (cut_each (runtime_params f) vs) s.world) (acts_by f (cut_each (runtime_params f) vs) s.world)

  coming_back : (s : State) (t : Option ℕ) (class : Option Class) (f : FlatFn) (vs : List ℕ) (r : Result) → Holds (entered s f vs) r →
      Holds s (back s t class r)
  coming_back s t class f vs (Next, u) h = laws.chain s (left s u) _ (laws.returned s u f vs h) (giving (left s u) t class 0)
  coming_back s t class f vs (Left k, u) h = laws.chain s (left s u) _ (laws.returned s u f vs h) (giving (left s u) t class 0)
  coming_back s t class f vs (Returned v, u) h = laws.chain s (left s u) _ (laws.returned s u f vs h) (giving (left s u) t class v)
  coming_back s t class f vs (Exit k, u) h = laws.ended s u f vs h
  coming_back s t class f vs (Abort b, u) h = laws.ended s u f vs h
  coming_back s t class f vs (Fault e, u) h = laws.ended s u f vs h
  coming_back s t class f vs (HeapFull, u) h = laws.ended s u f vs h
  coming_back s t class f vs (Spent, u) h = laws.ended s u f vs h

  module _ (p : FlatProgram) where
    module _ (n : ℕ) (less : Less) (below : (c : Code) (s : State) → Holds s (less c s)) where
      calling : (s : State) (t : Option ℕ) (name : List ℕ) (f : Option FlatFn) (vs : List ℕ) → Holds s (called n less s t name f vs)
      calling s t name None vs = runtime_calling s t (runtime_function name) vs
      calling s t name (Some f) vs =
          spending n s _ (coming_back s t f.result f vs (less (code_of f.body) (entered s f vs)) (below (code_of f.body) (entered s f vs)))

      counting : (s : State) (k : ℕ) (r : Result) → Holds (stepped k s) r → Holds s r
      counting s k r h = after s (stepped k s) (laws.counted s k) r h

      mutual
        begins : (c : Code) (s : State) → Holds s (flat_begun p n less c s)
        begins (Seq cs) s = catching s (flats_in p n less cs s) (goes_through cs s)
        begins (Set t class op a b) s = computing s t class (gives class op (value_of p s a) (value_of p s b))
        begins (Load t how at) s = loading s t how (load s.world.memory (value_of p s at) (load_bytes how))
        begins (Store width value at) s =
            storing (all_mapped s.world.memory (value_of p s at) width) s (value_of p s at) (le_bytes width (value_of p s value))
        begins (Move to from bytes) s =
            let a : ℕ = value_of p s to in
            let b : ℕ = value_of p s from in
            moving (all_mapped s.world.memory a bytes && all_mapped s.world.memory b bytes) (overlap a b bytes) s bytes a
            (bytes_at s.world.memory b bytes)
        begins (If cond a b) s =
            let t : State = stepped 1 s in
            branching (cut W (value_of p s cond) == 0) s (flat_begun p n less b t) (flat_begun p n less a t)
            (counting s 1 _ (begins b t)) (counting s 1 _ (begins a t))
        begins (Loop c) s = spending n s _ (turning s (less c s) (less (Loop c)) (below c s) (below (Loop c)))
        begins (Leave k) s = laws.same s
        begins (Call t name args) s =
            let u : State = stepped (length args) s in
            counting s (length args) _ (calling u t name (function_named p.functions name) (map (value_of p s) args))
        begins (Ret value) s = returning p s value

        goes_through : (cs : Codes) (s : State) → Holds s (flats_in p n less cs s)
        goes_through none s = laws.same s
        goes_through (more c cs) s =
            let t : State = stepped 1 s in
            going s (flat_begun p n less c t) (flats_in p n less cs) (counting s 1 _ (begins c t)) (goes_through cs)

    bodies : (n : ℕ) (c : Code) (s : State) → Holds s (flat_below p n c s)
    bodies zero c s = ending s
    bodies (suc n) c s = after s (stepped 1 s) (laws.counted s 1) _ (begins n (flat_below p n) (bodies n) c (stepped 1 s))

  pub steady : OfAllCode Holds
  steady = record {
    statement = λ p n c s. bodies p (suc n) c s;
    begun = λ p n c s. begins p n (flat_below p n) (bodies p n) c s;
    statements = λ p n cs s. goes_through p n (flat_below p n) (bodies p n) cs s;
    body = bodies;
  }

-- what follows of each state and result holds of all code, too
pub of_all_code : (Holds Follows : State → Result → Type 0) → ((s : State) (r : Result) → Holds s r → Follows s r) → OfAllCode Holds →
    OfAllCode Follows
of_all_code Holds Follows on h = record {
  statement = λ p n c s. on s (flat p n c s) (h.statement p n c s);
  begun = λ p n c s. on s (flat_begun p n (flat_below p n) c s) (h.begun p n c s);
  statements = λ p n cs s. on s (flats_in p n (flat_below p n) cs s) (h.statements p n cs s);
  body = λ p n c s. on s (flat_below p n c s) (h.body p n c s);
}

-- what is weaker holds however code ends
pub ends_so : (K E : State → State → Type 0) → Steady K E → (s : State) (r : Result) → Behind K E s r.0 r.1 → E s r.1
ends_so K E laws s (Next, t) h = laws.weaker s t h
ends_so K E laws s (Left k, t) h = laws.weaker s t h
ends_so K E laws s (Returned v, t) h = laws.weaker s t h
ends_so K E laws s (Exit k, t) h = h
ends_so K E laws s (Abort b, t) h = h
ends_so K E laws s (Fault f, t) h = h
ends_so K E laws s (HeapFull, t) h = h
ends_so K E laws s (Spent, t) h = h

-- what is kept is kept where code goes on
pub goes_on_so : (K E : State → State → Type 0) (s : State) (r : Result) → Behind K E s r.0 r.1 → GoesOn r.0 → K s r.1
goes_on_so K E s (Next, t) h on = h
goes_on_so K E s (Left k, t) h on = h
goes_on_so K E s (Returned v, t) h on = h
goes_on_so K E s (Exit k, t) h on = absurd on
goes_on_so K E s (Abort b, t) h on = absurd on
goes_on_so K E s (Fault f, t) h on = absurd on
goes_on_so K E s (HeapFull, t) h on = absurd on
goes_on_so K E s (Spent, t) h on = absurd on
