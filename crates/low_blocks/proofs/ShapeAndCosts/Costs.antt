-- A run of a lowered program costs the stack what its `main` does, and no more.
use Rattle.std.proofs.Common.{◌≡◌, ℕ, zero, suc, ◌+◌, max, Bool, true, false, List, [], map, length, Option, Some, None, refl, ◌∙◌, arith}
use Rattle.std.specs.Prelude.{◌==◌, if◌then◌else◌}
use Rattle.std.proofs.lemmas.List.Sums.{sum_by-cons}
use Rattle.hx_base.specs.declared.Class.{Class}
use Rattle.hx_base.specs.declared.Class.TheVariants.{W}
use Rattle.hx_base.specs.Runtime.{Act, Gives, Exits, Aborts, Faults, Full}
use Rattle.flat_code.specs.declared.program.FlatProgram.{FlatProgram}
use Rattle.flat_code.specs.declared.value.Value.{Value}
use Rattle.flat_code.specs.declared.value.Value.TheVariants.{Temp, Number, Symbol, Frame}
use Rattle.flat_code.specs.Code.{Code, Codes, none, more, Seq, Set, Load, Store, Move, If, Loop, Leave, Call, Ret, codes_of}
use Rattle.flat_code.specs.Costs.{addressed, addressed_in, addressed_in_all, call_cost}
use Rattle.flat_code.specs.Evaluation.{Less, computed, acted, runtime_called, function_named, flat_begun, flats_in, flat_below, flat, cut_each, entered}
use Rattle.flat_code.specs.Run.{run, ended, start_world, before_calls}
use Rattle.hx_runtime.specs.Functions.{runtime_params, runtime_result, act, runtime_function}
use Rattle.hx_runtime.specs.declared.runtime.RuntimeFunction.{RuntimeFunction}
use Rattle.flat_code.specs.State.{State, cut, value_of, give, stepped, Next, Left, Returned, Exit, Abort, Fault, HeapFull, Spent, Result, then_go, caught, then_turn, spends}
use Rattle.hare_blocks.specs.Trees.{Program}
use Rattle.low_blocks.specs.Programs.{body_of, start, body_code, lowered_main, lowered}
use Rattle.low_blocks.proofs.ShapeAndCosts.Fits.{IsOperand, IsFitCall, IsFit, AreFit, statements_fit}
use Rattle.low_blocks.proofs.ShapeAndCosts.Fits as fit

-- ---- ends put together

-- the calls cost at most this much so far
abbrev Keeps : ℕ → Result → Type 0
Keeps k r = r.1.most ≡ k

then_keeps : (k : ℕ) (r : Result) (go : State → Result) → Keeps k r → ((s : State) → s.most ≡ k → Keeps k (go s)) → Keeps k (then_go r go)
then_keeps k (Next, s) go h on = on s h
then_keeps k (Left j, s) go h on = h
then_keeps k (Returned v, s) go h on = h
then_keeps k (Exit e, s) go h on = h
then_keeps k (Abort b, s) go h on = h
then_keeps k (Fault f, s) go h on = h
then_keeps k (HeapFull, s) go h on = h
then_keeps k (Spent, s) go h on = h

caught_keeps : (k : ℕ) (r : Result) → Keeps k r → Keeps k (caught r)
caught_keeps k (Next, s) h = h
caught_keeps k (Left zero, s) h = h
caught_keeps k (Left (suc j), s) h = h
caught_keeps k (Returned v, s) h = h
caught_keeps k (Exit e, s) h = h
caught_keeps k (Abort b, s) h = h
caught_keeps k (Fault f, s) h = h
caught_keeps k (HeapFull, s) h = h
caught_keeps k (Spent, s) h = h

turn_keeps : (k : ℕ) (r : Result) (go : State → Result) → Keeps k r → ((s : State) → s.most ≡ k → Keeps k (go s)) → Keeps k (then_turn r go)
turn_keeps k (Next, s) go h on = on s h
turn_keeps k (Left zero, s) go h on = h
turn_keeps k (Left (suc j), s) go h on = h
turn_keeps k (Returned v, s) go h on = h
turn_keeps k (Exit e, s) go h on = h
turn_keeps k (Abort b, s) go h on = h
turn_keeps k (Fault f, s) go h on = h
turn_keeps k (HeapFull, s) go h on = h
turn_keeps k (Spent, s) go h on = h

ended_keeps : (k : ℕ) (r : Result) → Keeps k r → Keeps k (ended r)
ended_keeps k (Next, s) h = h
ended_keeps k (Left j, s) h = h
ended_keeps k (Returned v, s) h = h
ended_keeps k (Exit e, s) h = h
ended_keeps k (Abort b, s) h = h
ended_keeps k (Fault f, s) h = h
ended_keeps k (HeapFull, s) h = h
ended_keeps k (Spent, s) h = h

spends_keeps : (k n : ℕ) (spent r : Result) → Keeps k spent → Keeps k r → Keeps k (spends n spent r)
spends_keeps k zero spent r h on = h
spends_keeps k (suc n) spent r h on = on

-- ---- statements that call no function of the program

computed_keeps : (s : State) (t : ℕ) (class : Class) (v : Option ℕ) → Keeps s.most (computed s t class v)
computed_keeps s t class None = refl
computed_keeps s t class (Some v) = refl

give_keeps : (s : State) (t : Option ℕ) (class : Option Class) (v : ℕ) → (give s t class v).most ≡ s.most
give_keeps s None class v = refl
give_keeps s (Some t) None v = refl
give_keeps s (Some t) (Some class) v = refl

acted_keeps : (s : State) (t : Option ℕ) (class : Option Class) (a : Act) → Keeps s.most (acted s t class a)
acted_keeps s t class (Gives v bytes w) = give_keeps _ t class v
acted_keeps s t class (Exits status) = refl
acted_keeps s t class (Aborts text) = refl
acted_keeps s t class (Faults f) = refl
acted_keeps s t class Full = refl

runtime_keeps : (s : State) (t : Option ℕ) (f : Option RuntimeFunction) (vs : List ℕ) → Keeps s.most (runtime_called s t f vs)
runtime_keeps s t None vs = refl
runtime_keeps s t (Some f) vs = acted_keeps s t (runtime_result f) (act f (cut_each (runtime_params f) vs) s.world)

module _ (p : FlatProgram)
    (none_named : (temp : Option ℕ) (name : List ℕ) (args : List Value) → IsFitCall temp name args →
    function_named p.functions name ≡ None) where
  abbrev LessKeeps : Less → Type 0
  LessKeeps less = (c : Code) (s : State) (k : ℕ) → IsFit c → s.most ≡ k → Keeps k (less c s)

  mutual
    begun_keeps : (n : ℕ) (less : Less) → LessKeeps less → (c : Code) (s : State) (k : ℕ) → IsFit c → s.most ≡ k →
        Keeps k (flat_begun p n less c s)
    begun_keeps n less below (Seq cs) s k h e = caught_keeps k _ (each_keeps n less below cs s k h e)
    begun_keeps n less below (Set t class o a b) s k h e = computed_keeps s t class _ ∙ e
    begun_keeps n less below (Load t how at) s k h e = absurd h
    begun_keeps n less below (Store width value at) s k h e = absurd h
    begun_keeps n less below (Move to from bytes) s k h e = absurd h
    begun_keeps n less below (If v a b) s k h e =
        pick (cut W (value_of p s v) == 0) (begun_keeps n less below a (stepped 1 s) k h.1 e)
        (begun_keeps n less below b (stepped 1 s) k h.2 e)
      where
        pick : (t : Bool) → Keeps k (flat_begun p n less a (stepped 1 s)) → Keeps k (flat_begun p n less b (stepped 1 s)) →
            Keeps k (if t then flat_begun p n less b (stepped 1 s) else flat_begun p n less a (stepped 1 s))
        pick true x y = y
        pick false x y = x
    begun_keeps n less below (Loop c) s k h e =
        spends_keeps k n (Spent, s) _ e (turn_keeps k (less c s) (less (Loop c)) (below c s k h e) (λ s' e'. below (Loop c) s' k h e'))
    begun_keeps n less below (Leave j) s k h e = e
    begun_keeps n less below (Call t name args) s k h e =
        rw (none_named t name args h) (runtime_keeps (stepped (length args) s) t (runtime_function name) (map (value_of p s) args) ∙ e)
    begun_keeps n less below (Ret value) s k h e = absurd h

    each_keeps : (n : ℕ) (less : Less) → LessKeeps less → (cs : Codes) (s : State) (k : ℕ) → AreFit cs → s.most ≡ k →
        Keeps k (flats_in p n less cs s)
    each_keeps n less below none s k h e = e
    each_keeps n less below (more c cs) s k h e =
        then_keeps k _ (flats_in p n less cs) (begun_keeps n less below c (stepped 1 s) k h.0 e)
        (λ s' e'. each_keeps n less below cs s' k h.1 e')

  below_keeps : (n : ℕ) → LessKeeps (flat_below p n)
  below_keeps zero c s k h e = e
  below_keeps (suc n) c s k h e = begun_keeps n (flat_below p n) (below_keeps n) c (stepped 1 s) k h e

  flat_keeps : (n : ℕ) (c : Code) (s : State) → IsFit c → Keeps s.most (flat p n c s)
  flat_keeps n c s h = begun_keeps n (flat_below p n) (below_keeps n) c (stepped 1 s) s.most h refl

-- ---- whole programs

runtime_alone : (p : Program) (temp : Option ℕ) (name : List ℕ) (args : List Value) → IsFitCall temp name args →
    function_named (lowered p).functions name ≡ None
runtime_alone p temp name args (fit.counts t) = refl
runtime_alone p temp name args (fit.leaves v h) = refl
runtime_alone p temp name args (fit.puts_out i n) = refl

-- the cost of a run is that of a call of `main`
pub run_cost : (p : Program) (args : List (List ℕ)) (input : List ℕ) (fill n : ℕ) →
    (run (lowered p) args input fill n).1.most ≡ call_cost (lowered_main (body_code p))
run_cost p args input fill n =
    let cost = call_cost (lowered_main (body_code p)) in
    let begun = entered (before_calls (start_world (lowered p) args input fill)) (lowered_main (body_code p)) [] in
    let first : max 0 (0 + cost) ≡ cost = omega arith in
    ended_keeps _ _ (flat_keeps (lowered p) (runtime_alone p) n (Seq (codes_of (body_code p).code)) begun
    (statements_fit start (body_of p))) ∙ first

-- ---- addresses

operand_alone : (v : Value) → IsOperand v → addressed v ≡ 0
operand_alone (Temp t) h = refl
operand_alone (Number n) h = refl
operand_alone (Symbol i offset) h = absurd h
operand_alone (Frame offset) h = absurd h

call_alone : (temp : Option ℕ) (name : List ℕ) (args : List Value) → IsFitCall temp name args → addressed_in (Call temp name args) ≡ 0
call_alone temp name args (fit.counts t) = refl
call_alone temp name args (fit.leaves v h) = let e = operand_alone v h in sum_by-cons addressed v [] ∙ omega (arith, e)
call_alone temp name args (fit.puts_out i n) = refl

mutual
  -- no operand of such code is an address that has to be computed
  pub none_addressed : (c : Code) → IsFit c → addressed_in c ≡ 0
  none_addressed (Seq cs) h = all_none_addressed cs h
  none_addressed (Set t class o a b) h = omega (arith, operand_alone a h.0, operand_alone b h.1)
  none_addressed (Load t how at) h = absurd h
  none_addressed (Store width value at) h = absurd h
  none_addressed (Move to from bytes) h = absurd h
  none_addressed (If v a b) h = omega (arith, operand_alone v h.0, none_addressed a h.1, none_addressed b h.2)
  none_addressed (Loop c) h = none_addressed c h
  none_addressed (Leave k) h = refl
  none_addressed (Call temp name args) h = call_alone temp name args h
  none_addressed (Ret value) h = absurd h

  all_none_addressed : (cs : Codes) → AreFit cs → addressed_in_all cs ≡ 0
  all_none_addressed none h = refl
  all_none_addressed (more c cs) h = omega (arith, none_addressed c h.0, all_none_addressed cs h.1)
