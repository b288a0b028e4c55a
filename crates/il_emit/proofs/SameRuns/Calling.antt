-- A call of a function of the program: how the machine enters it and takes its frame, and how it returns from it.
use Rattle.std.proofs.Common.{◌≡◌, ℕ, zero, suc, ◌+◌, ◌-◌, ◌*◌, ◌^◌, ◌<◌, ◌≤◌, ◌⊎◌, Bool, true, false, List, [], ◌∷◌, ◌++◌, map, length, Option, None, Some, refl, sym, ap, ◌∙◌, subst, arith, append_assoc, inl, inr}
use Rattle.std.specs.Prelude.{max, nat_lt}
use Rattle.std.proofs.lemmas.Bool.Decides.{nat_tests}
use Rattle.hx_base.specs.declared.Class.{Class}
use Rattle.hx_base.specs.declared.Class.TheVariants.{W, L}
use Rattle.hx_base.specs.Memory.{map_range, unmap_range, round_up}
use Rattle.hx_base.specs.Runtime.{World}
use Rattle.flat_code.specs.declared.program.FlatFn.{FlatFn}
use Rattle.flat_code.specs.declared.program.FlatProgram.{FlatProgram}
use Rattle.flat_code.specs.declared.value.Value.{Value}
use Rattle.flat_code.specs.Costs as flat_cost
use Rattle.flat_code.specs.Evaluation as flat
use Rattle.flat_code.specs.Evaluation.{cut_each, in_temps, framed, entered, left, back}
use Rattle.flat_code.specs.Shape.{code_of}
use Rattle.flat_code.specs.State as state
use Rattle.flat_code.specs.State.{State, Result, Next, Left, Returned, HeapFull, Spent, value_of, give, stepped}
use Rattle.flat_code.specs.WellFormed.{is_right, are_args, takes_result}
use Rattle.flat_laws.proofs.CountLemmas.{code_counts}
use Rattle.il_code.specs.declared.types.Block.{Block}
use Rattle.il_code.specs.declared.types.IlArg.{IlArg}
use Rattle.il_code.specs.declared.types.IlParam.{IlParam}
use Rattle.il_code.specs.declared.types.Inst.TheVariants as inst
use Rattle.il_code.specs.declared.types.Jump.TheVariants as jump
use Rattle.il_code.specs.declared.types.Module.{Module}
use Rattle.il_code.specs.Machine.{Temps, temp_value, cut, stack_size}
use Rattle.il_code.specs.Machine as machine
use Rattle.il_code.specs.MachineLaws.{jumps_and_calls}
use Rattle.il_code.specs.Run.{Run, after_step}
use Rattle.il_code.specs.State as il
use Rattle.il_code.specs.State.{Code, Waiting, Called, start_of}
use Rattle.il_code.specs.Step as step
use Rattle.il_code.specs.Step.{taken, took, bound, returned, arg_values}
use Rattle.il_tight.proofs.SameRuns.Light as light
use Rattle.il_tight.proofs.SameRuns.Light.{price, call_step, further, after_steps}
use Rattle.il_emit.specs.declared.goal.Goal.TheVariants.{Next}
use Rattle.il_emit.specs.Names.{temp_name, frame_name, label_name}
use Rattle.il_emit.specs.Lines.{Line, Do, End, arg_lines, args_of, all_addressed, result_param, call_lines, code_lines, frame_lines, end_value, function_lines}
use Rattle.il_emit.specs.Emitted.{params_of, blocks_of}
use Rattle.il_emit.proofs.SameShape.CallCosts.{frame_cost, full_costs}
use Rattle.il_emit.proofs.LineRuns.Forms.{args_are, target_small}
use Rattle.il_emit.proofs.NamesAndNumbers.NamedFunctions.{emitted}
use Rattle.il_emit.proofs.LineRuns.Operands.{same_set, Setting, behind_args, arg_steps, args_used, args_jumps, args_hold, args_ready}
use Rattle.il_emit.proofs.Lines.Places.{line_blocks, place_of, function_blocks}
use Rattle.il_emit.proofs.LineRuns.Running.{Activation, counted, Mark, steps_more, Same, HasFrame, Holds, state_at, before, Comes, Stops}
use Rattle.il_emit.proofs.LineRuns.Running.{GoesOn, Does, Meets}

-- ---- frames

-- an address, or a cost, above what a frame takes
abbrev pub risen : ℕ → ℕ → ℕ
risen at zero = at
risen at (suc n) = at + taken (suc n)

pub risen_is : (at n : ℕ) → risen at n ≡ at + frame_cost n
risen_is at zero = omega arith
risen_is at (suc n) = refl

-- a call that has taken a frame of so many bytes
abbrev pub with_frame : Activation → ℕ → Activation
with_frame call n = record call { frame = n; base = call.pointer; pointer = risen call.pointer n; cost = risen call.cost n }

abbrev pub framed_mark : Activation → ℕ → Mark → Mark
framed_mark call zero c = c
framed_mark call (suc n) c = record c { used = c.used + 1 + 0; temps = (frame_name, cut L call.pointer) ∷ c.temps }

abbrev pub frame_steps : ℕ → ℕ
frame_steps zero = 0
frame_steps (suc n) = 1

-- the world with the frame mapped
abbrev pub framed_world : World → ℕ → ℕ → World
framed_world w at n = record w { memory = framed w.memory at n }

-- the frame is taken, or the stack is full
pub record Takes (m : Module) (call : Activation) (n : ℕ) (ls : List Line) (w : World) (c : Mark) : Type 0 where
  pub by : after_steps m (frame_steps n) (before m call (frame_lines n ++ ls) w c) ≡ before m (with_frame call n) ls
      (framed_world w call.pointer n) (framed_mark call n c)

pub record IsFull (m : Module) (call : Activation) (n : ℕ) (ls : List Line) (w : World) (c : Mark) : Type 0 where
  pub ended : (after_steps m 1 (before m call (frame_lines n ++ ls) w c)).ended ≡ Some machine.StackFull
  pub cost : stack_size < risen call.cost n

one_at_least : (n : ℕ) → max 1 (suc n) ≡ suc n
one_at_least n = omega arith

pub frame_runs : (m : Module) (call : Activation) (n : ℕ) (ls : List Line) (w : World) (c : Mark) → Takes m call n ls w c ⊎ IsFull m call n
    ls w c
frame_runs m call zero ls w c = inl (record { by = refl })
frame_runs m call (suc n) ls w c = pick (nat_lt stack_size (call.cost + taken (suc n))) refl
  where
    pick : (b : Bool) → nat_lt stack_size (call.cost + taken (suc n)) ≡ b → Takes m call (suc n) ls w c ⊎ IsFull m call (suc n) ls w c
    pick true e = inr (record {
      ended = ap (λ (b : Bool). (after_step (before m call (frame_lines (suc n) ++ ls) w c)
          (took (state_at m call ls w c) frame_name L (suc n) b)).ended) e;
      cost = grind (arith, nat_tests);
    })
    pick false e = inl (record {
      by = ap (λ (b : Bool). after_step (before m call (frame_lines (suc n) ++ ls) w c)
          (took (state_at m call ls w c) frame_name L (suc n) b)) e
          ∙ ap (λ (k : ℕ). before m (with_frame call (suc n)) ls (record w { memory = map_range w.memory call.pointer k })
          (framed_mark call (suc n) c)) (one_at_least n);
    })

pub frame_used : (call : Activation) (n : ℕ) (c : Mark) → (framed_mark call n c).used ≤ c.used + 1
frame_used call zero c = omega arith
frame_used call (suc n) c = omega arith

frame_counted : (call : Activation) (n : ℕ) (c : Mark) → counted (framed_mark call n c) ≡ counted c
frame_counted call zero c = refl
frame_counted call (suc n) c = refl

pub frame_same : (call : Activation) (n : ℕ) (c : Mark) (ts : List (ℕ × ℕ)) → Same ts c.temps → Same ts (framed_mark call n c).temps
frame_same call zero c ts h = h
frame_same call (suc n) c ts h = record { at = λ fill t l. h.at fill t l }

pub frame_has : (call : Activation) (n : ℕ) (c : Mark) → HasFrame (with_frame call n) (framed_mark call n c).temps
frame_has call zero c = record { at = λ l fill. absurd (omega arith) }
frame_has call (suc n) c = record { at = λ l fill. refl }

pub frame_top : (at n : ℕ) → at + round_up n 16 ≡ risen at n
frame_top at zero = omega arith
frame_top at (suc n) = ap (λ (k : ℕ). at + round_up k 16) (sym (one_at_least n))

-- ---- parameters

cut_twice : (c : Class) (v : ℕ) → cut c (cut c v) ≡ cut c v
cut_twice W v = omega arith
cut_twice L v = omega arith

-- arguments stand in the first temporaries in both
pub bound_same : (at : ℕ) (cs : List Class) (vs : List ℕ) → at + length cs ≤ 2 ^ 64 →
    Same (in_temps at (cut_each cs vs)) (bound (params_of at cs) (cut_each cs vs))
bound_same at [] vs h = record { at = λ fill t l. refl }
bound_same at (c ∷ cs) [] h = record { at = λ fill t l. refl }
bound_same at (c ∷ cs) (v ∷ vs) h =
    let rest = bound_same (suc at) cs vs (omega arith) in
    subst (λ (x : ℕ). Same ((at, cut c v) ∷ in_temps (suc at) (cut_each cs vs))
    ((temp_name at, x) ∷ bound (params_of (suc at) cs) (cut_each cs vs))) (sym (cut_twice c v))
    (same_set (in_temps (suc at) (cut_each cs vs)) (bound (params_of (suc at) cs) (cut_each cs vs)) at (cut c v) (omega arith) rest)

-- ---- costs

given_most : (s s' : State) (t : Option ℕ) (class : Option Class) (v : ℕ) → s'.most ≤ (give (left s s') t class v).most
given_most s s' None class v = omega arith
given_most s s' (Some t) None v = omega arith
given_most s s' (Some t) (Some class) v = omega arith

-- what a call costs at once is not forgotten
pub back_most : (s : State) (t : Option ℕ) (class : Option Class) (r : Result) → r.1.most ≤ (back s t class r).1.most
back_most s t class (Next, s') = given_most s s' t class 0
back_most s t class (Left k, s') = given_most s s' t class 0
back_most s t class (Returned v, s') = given_most s s' t class v
back_most s t class (state.Exit k, s') = omega arith
back_most s t class (state.Abort b, s') = omega arith
back_most s t class (state.Fault f, s') = omega arith
back_most s t class (HeapFull, s') = omega arith
back_most s t class (Spent, s') = omega arith

-- ---- a call

module _ (m : Module) (call : Activation) (p : FlatProgram) (g : FlatFn) (rest : List Line) where
  abbrev pub code_is : Code
  code_is = record { name = g.name; class = g.result; params = params_of 0 g.params; blocks = blocks_of p g }

  abbrev pub inner_cost : ℕ
  inner_cost = price (params_of 0 g.params) (blocks_of p g)

  abbrev pub last : List Line
  last = End (jump.Ret (end_value g.result)) ∷ []

  abbrev pub body : List Line
  body = code_lines p (code_of g.body) Next 1 0 []

  -- the caller, as it waits for a result
  abbrev pub waits : Option IlParam → Mark → Waiting
  waits result c = record {
    frame = record {
      function = call.name;
      blocks = line_blocks call.lines;
      place = place_of c.from c.label rest;
      temps = c.temps;
      pointer = call.pointer;
      cost = call.cost;
    };
    result = result;
  }

  -- the call that is made, before it takes its frame
  abbrev pub entering : Option IlParam → Mark → Activation
  entering result c = record {
    name = g.name;
    lines = function_lines p g;
    frame = 0;
    base = 0;
    pointer = call.pointer;
    cost = call.cost + inner_cost;
    waiting = waits result c ∷ call.waiting;
  }

  -- and once it has
  abbrev pub callee : Option IlParam → Mark → Activation
  callee result c = with_frame (entering result c) g.frame

  abbrev pub entered_mark : Mark → List ℕ → Mark
  entered_mark c vs = record {
    used = c.used + 1 + 0;
    from = [];
    label = label_name 0;
    temps = bound (params_of 0 g.params) vs;
    done = Called g.name ∷ c.done;
  }

  abbrev pub begun_mark : Option IlParam → Mark → List ℕ → Mark
  begun_mark result c vs = framed_mark (entering result c) g.frame (entered_mark c vs)

  -- ---- entering

  enters : (here : List Line) (w : World) (c : Mark) (result : Option IlParam) (vs : List ℕ) →
      nat_lt stack_size (call.cost + inner_cost) ≡ false →
      after_step (before m call here w c) (light.enter (state_at m call rest w c) result code_is vs) ≡
      before m (entering result c) (frame_lines g.frame ++ (body ++ last)) w (entered_mark c vs)
  enters here w c result vs e =
      ap (λ (b : Bool). after_step (before m call here w c)
      (step.entered (state_at m call rest w c) result code_is vs (call.cost + inner_cost) b)) e
      ∙ ap (λ (bs : List Block). record {
        used = c.used + 1 + 0;
        ended = None;
        state = record {
          active = record {
            function = g.name;
            blocks = bs;
            place = start_of [] bs;
            temps = bound (params_of 0 g.params) vs;
            pointer = call.pointer;
            cost = call.cost + inner_cost;
          };
          waiting = waits result c ∷ call.waiting;
          world = w;
          done = Called g.name ∷ c.done;
        };
      }) (function_blocks p g)
      ∙ ap (λ (ls : List Line). before m (entering result c) ls w (entered_mark c vs)) (append_assoc (frame_lines g.frame) body last)

  full_at_once : (here : List Line) (w : World) (c : Mark) (result : Option IlParam) (vs : List ℕ) →
      nat_lt stack_size (call.cost + inner_cost) ≡ true →
      (after_step (before m call here w c) (light.enter (state_at m call rest w c) result code_is vs)).ended ≡ Some machine.StackFull
  full_at_once here w c result vs e =
      ap (λ (b : Bool). (after_step (before m call here w c)
      (step.entered (state_at m call rest w c) result code_is vs (call.cost + inner_cost) b)).ended) e

  -- ---- what the body begins with

  framed_is : (w : World) (at at' n : ℕ) → at ≡ at' → framed_world w at n ≡ record w { memory = framed w.memory at' n }
  framed_is w at at' n e = ap (λ (k : ℕ). framed_world w k n) e

  begun_holds : (s : State) (c : Mark) (result : Option IlParam) (vs : List ℕ) → is_right p g 0 (code_of g.body) ≡ true →
      length g.params ≤ g.temps → g.temps < 2 ^ 64 → Holds call s c →
      Holds (callee result c) (stepped 1 (entered s g vs)) (begun_mark result c (cut_each g.params vs))
  begun_holds s c result vs right params few h =
      let costs = full_costs p g right params in
      let above = h.cost in
      record {
        same = frame_same (entering result c) g.frame (entered_mark c (cut_each g.params vs)) (in_temps 0 (cut_each g.params vs))
            (bound_same 0 g.params vs (omega arith));
        frame = frame_has (entering result c) g.frame (entered_mark c (cut_each g.params vs));
        base = h.top;
        top = ap (λ (k : ℕ). k + round_up g.frame 16) h.top ∙ frame_top call.pointer g.frame;
        cost = omega (arith, risen_is (call.cost + inner_cost) g.frame);
      }

  -- ---- returning

  abbrev returned_mark : Option IlParam → ℕ → Mark → Mark → Mark
  returned_mark None v c to = record c { used = to.used + 1 + 0; done = to.done }
  returned_mark (Some q) v c to = record c { used = to.used + 1 + 0; temps = (q.name, cut q.class v) ∷ c.temps; done = to.done }

  abbrev unframed : World → ℕ → ℕ → World
  unframed w at top = record w { memory = unmap_range w.memory at (top - at) }

  returns_so : (result : Option IlParam) (c to : Mark) (ls : List Line) (w : World) (v : ℕ) →
      after_step (before m (callee result c) ls w to) (returned (state_at m (callee result c) ls w to) v (waits result c ∷ call.waiting)) ≡
      before m call rest (unframed w call.pointer (callee result c).pointer) (returned_mark result v c to)
  returns_so None c to ls w v = refl
  returns_so (Some q) c to ls w v = refl

  unframed_is : (s s' : State) (result : Option IlParam) (c : Mark) → s.top ≡ call.pointer → s'.top ≡ (callee result c).pointer →
      unframed s'.world call.pointer (callee result c).pointer ≡ (left s s').world
  unframed_is s s' result c e e' =
      ap (λ (k : ℕ). unframed s'.world k (callee result c).pointer) (sym e)
      ∙ ap (λ (k : ℕ). unframed s'.world s.top k) (sym e')

  module _ (f : FlatFn) (set : Setting p f m call) (s : State) (c : Mark) (h : Holds call s c) (temp : Option ℕ)
      (takes : takes_result p f temp g.result ≡ true) (r : Run) (k : ℕ) (low high low1 high1 n q q1 : ℕ) (out : ℕ → List Line)
      (pays : high1 + 1 + low ≤ high + low1) (jumps : q ≤ q1) (turns : q + suc n ≤ q1 + n) where
    abbrev to_temp : Option IlParam
    to_temp = result_param temp g.result

    module _ (begins : Run) (by : after_steps m k r ≡ begins) where
      on : (j : ℕ) → after_steps m (k + j) r ≡ after_steps m j begins
      on j = steps_more m k j r ∙ ap (after_steps m j) by

      -- the caller goes on behind the call
      given_back : (t : Option ℕ) (class : Option Class) (s' : State) (v : ℕ) (to : Mark) → takes_result p f t class ≡ true →
          Holds call (give (left s s') t class v) (returned_mark (result_param t class) v c to)
      given_back None class s' v to e = record { same = h.same; frame = h.frame; base = h.base; top = h.top; cost = h.cost }
      given_back (Some t) None s' v to e = cc
      given_back (Some t) (Some class) s' v to e = record {
        same = same_set s.temps c.temps t (cut class v) (target_small p f m call set t class e) h.same;
        frame = record { at = λ l fill. h.frame.at l fill };
        base = h.base;
        top = h.top;
        cost = h.cost;
      }

      given_world : (t : Option ℕ) (class : Option Class) (s' : State) (v : ℕ) → (give (left s s') t class v).world ≡ (left s s').world
      given_world None class s' v = refl
      given_world (Some t) None s' v = refl
      given_world (Some t) (Some class) s' v = refl

      given_steps : (t : Option ℕ) (class : Option Class) (s' : State) (v : ℕ) → (give (left s s') t class v).steps ≡ s'.steps
      given_steps None class s' v = refl
      given_steps (Some t) None s' v = refl
      given_steps (Some t) (Some class) s' v = refl

      mark_used : (result : Option IlParam) (v : ℕ) (to : Mark) → (returned_mark result v c to).used ≡ to.used + 1 + 0
      mark_used None v to = refl
      mark_used (Some x) v to = refl

      mark_counted : (result : Option IlParam) (v : ℕ) (to : Mark) → counted (returned_mark result v c to) ≡ counted to
      mark_counted None v to = refl
      mark_counted (Some x) v to = refl

      -- behind a return
      back_comes : (s' : State) (v : ℕ) (to : Mark) (ls : List Line) (count : ℕ) → Holds (callee to_temp c) s' to
          → after_steps m count begins ≡ before m (callee to_temp c) ls s'.world to
          → light.step m (state_at m (callee to_temp c) ls s'.world to) ≡ returned (state_at m (callee to_temp c) ls s'.world to) v
          (waits to_temp c ∷ call.waiting)
          → q1 ≤ counted to → to.used + low1 ≤ high1 + 4 * s'.steps
          → Comes m call q low high r (give (left s s') temp g.result v) rest
      back_comes s' v to ls count held there is more units = record {
        to = returned_mark to_temp v c to;
        count = k + (count + 1);
        by =
            on (count + 1) ∙ steps_more m count 1 begins ∙ ap (after_steps m 1) there
            ∙ ap (after_step (before m (callee to_temp c) ls s'.world to)) is
            ∙ returns_so to_temp c to ls s'.world v
            ∙ ap (λ (w : World). before m call rest w (returned_mark to_temp v c to))
            (unframed_is s s' to_temp c h.top held.top ∙ sym (given_world temp g.result s' v));
        holds = given_back temp g.result s' v to takes;
        jumps = omega (arith, mark_counted to_temp v to);
        units = omega (arith, mark_used to_temp v to, given_steps temp g.result s' v);
      }

      -- a body that ends without a Ret returns 0
      ends_step : (class : Option Class) (result : Option IlParam) (w : World) (to : Mark) →
          light.step m (state_at m (callee result c) (End (jump.Ret (end_value class)) ∷ []) w to) ≡
          returned (state_at m (callee result c) (End (jump.Ret (end_value class)) ∷ []) w to) 0 (waits result c ∷ call.waiting)
      ends_step None result w to = refl
      ends_step (Some class) result w to = refl

      comes_back : (s' : State) → Comes m (callee to_temp c) q1 low1 high1 begins s' last →
          Comes m call q low high r (give (left s s') temp g.result 0) rest
      comes_back s' x = back_comes s' 0 x.to last x.count x.holds x.by (ends_step g.result to_temp s'.world x.to) x.jumps x.units

      stops_back : (s' : State) (e : machine.End) → Stops m (callee to_temp c) low1 high1 begins s' e → Stops m call low high r s' e
      stops_back s' e x =
          let z = on x.count in
          let u = x.units in
          record {
            count = k + x.count;
            ended = ap (λ (y : Run). y.ended) z ∙ x.ended;
            world = ap (λ (y : Run). y.state.world) z ∙ x.world;
            units = omega (arith, ap (λ (y : Run). y.used) z, u);
          }

      goes_back : (s' : State) → GoesOn m (callee to_temp c) n q1 low1 high1 begins s' → GoesOn m call (suc n) q low high r s'
      goes_back s' x =
          let z = on x.count in
          let u = x.units in
          let j = x.jumps in
          record {
            count = k + x.count;
            ended = ap (λ (y : Run). y.ended) z ∙ x.ended;
            world = ap (λ (y : Run). y.state.world) z ∙ x.world;
            jumps = omega (arith, ap jumps_and_calls z, j);
            units = omega (arith, ap (λ (y : Run). y.used) z, u);
          }

      does_back : (res : Result) → Does m (callee to_temp c) n q1 low1 high1 (λ j. last) last begins res →
          Does m call (suc n) q low high out rest r (back s temp g.result res)
      does_back (Next, s') x = comes_back s' x
      does_back (Left j, s') x = comes_back s' x
      does_back (Returned v, s') x = back_comes s' v x.to x.lines x.count x.holds x.by x.returns x.jumps (omega (arith, x.units))
      does_back (state.Exit j, s') x = stops_back s' _ x
      does_back (state.Abort b, s') x = stops_back s' _ x
      does_back (state.Fault j, s') x = stops_back s' _ x
      does_back (HeapFull, s') x = stops_back s' _ x
      does_back (Spent, s') x = goes_back s' x

      pub meets_back : (res : Result) → Meets m (callee to_temp c) n q1 low1 high1 (λ j. last) last begins res →
          Meets m call (suc n) q low high out rest r (back s temp g.result res)
      meets_back res x = elim x [
        | inl y ↦ inl (does_back res y)
        | inr y ↦ inr (record {
          count = k + y.count;
          ended = ap (λ (z : Run). z.ended) (on y.count) ∙ y.ended;
          most = omega (arith, y.most, back_most s temp g.result res);
        })
      ]

-- ---- all of it

module _ (p : FlatProgram) (f : FlatFn) (m : Module) (call : Activation) (set : Setting p f m call) (g : FlatFn)
    (right : is_right p g 0 (code_of g.body) ≡ true) (few_params : length g.params ≤ g.temps) (few : g.temps < 2 ^ 64) where
  -- the step of a call of a function of the module
  call_goes : (result : Option IlParam) (name : List ℕ) (args : List IlArg) (rest : List Line) (w : World) (c : Mark) (vs : List ℕ) →
      il.function_named m.items name ≡ Some (code_is m call p g rest)
      → arg_values m (state_at m call rest w c) args ≡ vs
      → further m (before m call (Do (inst.Call result name args) ∷ rest) w c) ≡
      after_step (before m call (Do (inst.Call result name args) ∷ rest) w c)
      (light.enter (state_at m call rest w c) result (code_is m call p g rest) vs)
  call_goes result name args rest w c vs e v =
      let r = before m call (Do (inst.Call result name args) ∷ rest) w c in
      ap (λ (x : Option Code). after_step r (call_step (state_at m call rest w c) result name x
      (arg_values m (state_at m call rest w c) args))) e
      ∙ ap (λ (xs : List ℕ). after_step r (light.enter (state_at m call rest w c) result (code_is m call p g rest) xs)) v

  -- what is claimed of the body, which has a turn less
  abbrev pub BodyMeets : (n : ℕ) (rest : List Line) (result : Option IlParam) → Type 0
  BodyMeets n rest result =
      (c c' : Mark) (s : State) → Holds (callee m call p g rest result c) s c' →
      Meets m (callee m call p g rest result c) n (counted c') (4 * s.steps) (c'.used + 3) (λ j. last m call p g rest)
      (last m call p g rest)
      (before m (callee m call p g rest result c) (body m call p g rest ++ last m call p g rest) s.world c')
      (flat.flat_begun p n (flat.flat_below p n) (code_of g.body) s)

  module _ (n : ℕ) (out : ℕ → List Line) (temp : Option ℕ) (name : List ℕ) (args : List Value) (k : ℕ) (rest : List Line)
      (s : State) (c : Mark) (named : flat.function_named p.functions name ≡ Some g) (ra : are_args p f g.params args ≡ true)
      (takes : takes_result p f temp g.result ≡ true) (few_k : k + all_addressed args < 2 ^ 64) (h : Holds call s c)
      (claim : BodyMeets n rest (result_param temp g.result)) where
    abbrev inner : ℕ
    inner = inner_cost m call p g rest

    abbrev vs : List ℕ
    vs = map (value_of p s) args

    abbrev cut_vs : List ℕ
    cut_vs = cut_each g.params vs

    -- once the arguments are evaluated
    abbrev s1 : State
    s1 = stepped (length args) s

    abbrev ca : Mark
    ca = behind_args p f m call set args k c

    -- as the body begins
    abbrev s2 : State
    s2 = stepped 1 (entered s1 g vs)

    abbrev result : Option IlParam
    result = result_param temp g.result

    abbrev res : Result
    res = flat.flat_below p (suc n) (code_of g.body) (entered s1 g vs)

    abbrev line : List Line
    line = Do (inst.Call result name (args_of p.globals g.params args k)) ∷ []

    abbrev begins : Run
    begins = before m call (call_lines p.globals g.params g.result temp name args k ++ rest) s.world c

    held : Holds call s1 ca
    held =
        let x = args_hold p f m call set args k c s h in
        record { same = x.same; frame = x.frame; base = x.base; top = x.top; cost = x.cost }

    comes : after_steps m (all_addressed args) begins ≡ before m call (line ++ rest) s.world ca
    comes =
        ap (λ (x : List Line). after_steps m (all_addressed args) (before m call x s.world c))
        (append_assoc (arg_lines p.globals args k) line rest)
        ∙ arg_steps p f m call set g.params args k (line ++ rest) s c ra h

    goes : further m (before m call (line ++ rest) s.world ca) ≡ after_step (before m call (line ++ rest) s.world ca)
        (light.enter (state_at m call rest s.world ca) result (code_is m call p g rest) cut_vs)
    goes = call_goes result name (args_of p.globals g.params args k) rest s.world ca cut_vs (set.functions name ∙ ap (emitted p) named)
        (args_are p f m call set rest s.world ca (args_of p.globals g.params args k)
        ∙ args_ready p f m call set s g.params args k c ra few_k h)

    calls : after_steps m (all_addressed args + 1) begins ≡ after_step (before m call (line ++ rest) s.world ca)
        (light.enter (state_at m call rest s.world ca) result (code_is m call p g rest) cut_vs)
    calls = steps_more m (all_addressed args) 1 begins ∙ ap (after_steps m 1) comes ∙ goes

    -- where the stack is full, the call costs too much in flat code
    over : (x : ℕ) → stack_size < x → x ≤ call.cost + inner + frame_cost g.frame → stack_size < (back s1 temp g.result res).1.most
    over x l u =
        let counts = (code_counts.body p (suc n) (code_of g.body) (entered s1 g vs)).most in
        let kept = back_most s1 temp g.result res in
        let costs = full_costs p g right few_params in
        let above = h.cost in
        let most : max s.most (s.cost + flat_cost.call_cost g) ≤ res.1.most = counts in
        omega (arith, most, kept, costs, above)

    abbrev begun : Mark
    begun = begun_mark m call p g rest result ca cut_vs

    begun_used : begun.used ≤ ca.used + 2
    begun_used = let u = frame_used (entering m call p g rest result ca) g.frame (entered_mark m call p g rest ca cut_vs) in omega arith

    begun_counted : counted begun ≡ suc (counted c)
    begun_counted =
        frame_counted (entering m call p g rest result ca) g.frame (entered_mark m call p g rest ca cut_vs)
        ∙ ap suc (args_jumps p f m call set args k c)

    runs : after_steps m (all_addressed args + 1) begins ≡ before m (entering m call p g rest result ca)
        (frame_lines g.frame ++ (body m call p g rest ++ last m call p g rest)) s.world (entered_mark m call p g rest ca cut_vs)
        → Meets m call (suc n) (counted c) (4 * s.steps) (c.used + 3) out rest begins (back s1 temp g.result res)
    runs by = elim (frame_runs m (entering m call p g rest result ca) g.frame (body m call p g rest ++ last m call p g rest) s.world
        (entered_mark m call p g rest ca cut_vs)) [
          | inl x ↦
              let there = steps_more m (all_addressed args + 1) (frame_steps g.frame) begins ∙ ap (after_steps m (frame_steps g.frame)) by
              ∙ x.by
              ∙ ap (λ (at : ℕ). before m (callee m call p g rest result ca) (body m call p g rest ++ last m call p g rest)
              (framed_world s.world at g.frame) begun) (sym h.top) in
              let used = args_used p f m call set args k c in
              let jumps = begun_counted in
              let begun_at = begun_used in
              meets_back m call p g rest f set s1 ca held temp takes begins (all_addressed args + 1 + frame_steps g.frame) (4 * s.steps)
              (c.used + 3) (4 * s2.steps) (begun.used + 3) n (counted c) (counted begun) out (omega arith) (omega arith)
              (omega arith) _ there
              res (claim ca begun s2 (begun_holds m call p g rest s1 ca result vs right few_params few held))
          | inr x ↦ inr (record {
            count = all_addressed args + 1 + 1;
            ended = ap (λ (z : Run). z.ended) (steps_more m (all_addressed args + 1) 1 begins ∙ ap (after_steps m 1) by) ∙ x.ended;
            most = over (risen (call.cost + inner) g.frame) x.cost (omega (arith, risen_is (call.cost + inner) g.frame));
          })
        ]

    pick : (b : Bool) → nat_lt stack_size (call.cost + inner) ≡ b →
        Meets m call (suc n) (counted c) (4 * s.steps) (c.used + 3) out rest begins (back s1 temp g.result res)
    pick true e = inr (record {
      count = all_addressed args + 1;
      ended = ap (λ (z : Run). z.ended) calls ∙ full_at_once m call p g rest (line ++ rest) s.world ca result cut_vs e;
      most = over (call.cost + inner) (grind (arith, nat_tests)) (omega arith);
    })
    pick false e = runs (calls ∙ enters m call p g rest (line ++ rest) s.world ca result cut_vs e)

    pub program_meets : Meets m call (suc n) (counted c) (4 * s.steps) (c.used + 3) out rest begins (back s1 temp g.result res)
    program_meets = pick (nat_lt stack_size (call.cost + inner)) refl
