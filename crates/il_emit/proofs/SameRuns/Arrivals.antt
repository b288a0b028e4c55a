-- A run of the module on the light machine comes to where the run of the program comes, or the stack is full because calls cost too much.
use Rattle.std.proofs.Common.{◌≡◌, ℕ, ◌+◌, ◌*◌, ◌%◌, ◌<◌, ◌≤◌, Bool, true, false, List, [], ◌∷◌, ◌++◌, length, Option, None, Some, refl, sym, ap, ◌∙◌, subst, arith, append_assoc, ◌⊎◌, inl, inr}
use Rattle.std.specs.Prelude.{codes, max, nat_lt, if◌then◌else◌}
use Rattle.std.specs.List.{AllByRecursion}
use Rattle.std.proofs.lemmas.Bool.{or_cases}
use Rattle.std.proofs.lemmas.Bool.Decides.{nat_tests}
use Rattle.hx_base.specs.declared.Class.{Class}
use Rattle.hx_base.specs.Memory.{Memory}
use Rattle.hx_base.specs.Runtime.{World, heap_start, stack_start}
use Rattle.flat_code.specs.declared.program.FlatFn.{FlatFn}
use Rattle.flat_code.specs.declared.program.FlatProgram.{FlatProgram}
use Rattle.flat_code.specs.Costs as flat_cost
use Rattle.flat_code.specs.Evaluation as flat
use Rattle.flat_code.specs.Evaluation.{flat_begun, flat_below, framed, in_temps, cut_each, entered}
use Rattle.flat_code.specs.Run as flat_run
use Rattle.flat_code.specs.Run.{run, run_from, before_calls}
use Rattle.flat_code.specs.Shape.{code_of}
use Rattle.flat_code.specs.State as state
use Rattle.flat_code.specs.State.{State, Result, Next, Left, Returned, HeapFull, Spent, stepped}
use Rattle.flat_code.specs.Temps.{params_set, code_sets, is_set}
use Rattle.flat_code.specs.WellFormed.{IsWellFormed}
use Rattle.il_code.specs.declared.types.Block.{Block}
use Rattle.il_code.specs.declared.types.IlParam.{IlParam}
use Rattle.il_code.specs.declared.types.Jump.TheVariants as jump
use Rattle.il_code.specs.declared.types.Module.{Module}
use Rattle.il_code.specs.Machine.{StackFull, Temps, stack_size}
use Rattle.il_code.specs.Machine as machine
use Rattle.il_code.specs.MachineLaws.{jumps_and_calls}
use Rattle.il_code.specs.Run.{Run, after_step, start_world}
use Rattle.il_code.specs.State as il
use Rattle.il_code.specs.Step.{bound}
use Rattle.il_tight.proofs.SameRuns.Light.{price, after_steps, start, started}
use Rattle.il_emit.specs.declared.goal.Goal.TheVariants.{Next}
use Rattle.il_emit.specs.Names.{label_name}
use Rattle.il_emit.specs.Lines.{Line, End, code_lines, frame_lines, end_value, function_lines}
use Rattle.il_emit.specs.Emitted.{params_of, blocks_of, module_of}
use Rattle.il_emit.specs.Numbered.{HasFewNames}
use Rattle.il_emit.specs.Reaches.{SameWorld, end_for}
use Rattle.flat_laws.proofs.CountLemmas.{code_counts}
use Rattle.il_emit.proofs.SameShape.CallCosts.{frame_cost, full_costs}
use Rattle.il_emit.proofs.SameRuns.Calling.{risen, risen_is, with_frame, framed_mark, framed_world, frame_steps, frame_runs, frame_used}
use Rattle.il_emit.proofs.SameRuns.Calling.{frame_same, frame_has, frame_top}
use Rattle.il_emit.proofs.SameRuns.GlobalAddresses.{address_is, address_small, start_same}
use Rattle.il_emit.proofs.NamesAndNumbers.Numbering.{code_below, params_below}
use Rattle.il_emit.proofs.LineRuns.Operands.{Setting}
use Rattle.il_emit.proofs.Lines.Places.{function_blocks}
use Rattle.il_emit.proofs.LineRuns.Running.{Activation, Returns, Mark, counted, steps_more, before, Same, Holds, Comes, Stops, Does, Meets}
use Rattle.il_emit.proofs.SameRuns.Turns.{IsReady, body_exits, body_inside, meets}
use Rattle.il_emit.proofs.NamesAndNumbers.NamedFunctions.{emitted, items_named, found_right, found_few, main_there, Parts, parts}

-- ---- what is shown of the light machine

module _ (m : Module) (args : List (List ℕ)) (input : List ℕ) (fill n : ℕ) where
  abbrev far : ℕ → Run
  far count = after_steps m count (start m args input fill)

  pub record LightArrives (r : Result) : Type 0 where
    pub count : ℕ
    pub ended : (far count).ended ≡ end_for r.0
    pub world : SameWorld r.1.world (far count).state.world
    pub jumps : r.0 ≡ Spent → n ≤ jumps_and_calls (far count)
    pub units : (far count).used ≤ 4 * r.1.steps + 1

  pub record LightOverflows (r : Result) : Type 0 where
    pub count : ℕ
    pub ended : (far count).ended ≡ Some StackFull
    pub cost : stack_size < r.1.most

abbrev pub LightMeets : FlatProgram → Module → List (List ℕ) → List ℕ → (fill n : ℕ) → Type 0
LightMeets p m args input fill n =
    LightArrives m args input fill n (run p args input fill n) ⊎ LightOverflows m args input fill n (run p args input fill n)

abbrev pub LightReaches : FlatProgram → Module → Type 0
LightReaches p m = (args : List (List ℕ)) (input : List ℕ) (fill n : ℕ) → LightMeets p m args input fill n

module _ (p : FlatProgram) (w : IsWellFormed p) (few : AllByRecursion HasFewNames p.functions) where
  ready : (name : List ℕ) (f : FlatFn) → flat.function_named p.functions name ≡ Some f → IsReady p (module_of p) f
  ready name f e = record { few = names; few_params = q.few_params; code = q.code; setting = setting }
    where
      names : HasFewNames f
      names = found_few name p.functions f few e

      q : Parts p f
      q = parts p f (found_right p name f w e)

      set_below : (t : ℕ) (class : Class) → is_set p f t class ≡ true → t < f.temps
      set_below t class e' =
          let z = q.few_params in
          elim (or_cases (params_set t class 0 f.params) (code_sets p t class (code_of f.body)) e') [
            | inl h ↦ let k = params_below p f t class 0 f.params h in omega (arith, k)
            | inr h ↦ code_below p f t class (code_of f.body) 0 q.code h
          ]

      setting : (call : Activation) → call.frame ≡ f.frame → Setting p f (module_of p) call
      setting call frame = record {
        frame = frame;
        few_temps = names.temps;
        set_below = set_below;
        address = address_is p w;
        address_fits = address_small p w;
        functions = items_named p w;
      }

  -- ---- the whole run

  module _ (f : FlatFn) (named : flat.function_named p.functions (codes "main") ≡ Some f) (args : List (List ℕ)) (input : List ℕ)
      (fill n : ℕ) where
    abbrev world : World
    world = start_world (module_of p) args input fill

    abbrev all : List Line
    all = function_lines p f

    abbrev rest : List Line
    rest = End (jump.Ret (end_value f.result)) ∷ []

    abbrev body_lines : List Line
    body_lines = code_lines p (code_of f.body) Next 1 0 []

    abbrev cost : ℕ
    cost = price (params_of 0 f.params) (blocks_of p f)

    -- the call of `main` before it takes its frame, and once it has
    abbrev first_call : Activation
    first_call = record { name = f.name; lines = all; frame = 0; base = 0; pointer = stack_start; cost = cost; waiting = [] }

    abbrev call : Activation
    call = with_frame first_call f.frame

    abbrev first : Mark
    first = record { used = 0; from = []; label = label_name 0; temps = []; done = [] }

    abbrev begun : Mark
    begun = framed_mark first_call f.frame first

    -- where the machine starts
    abbrev starts_at : Run
    starts_at = before (module_of p) first_call (frame_lines f.frame ++ (body_lines ++ rest)) world first

    abbrev begun_with : Option machine.End → Run
    begun_with e = record { used = 0; ended = e; state = starts_at.state }

    facts : IsReady p (module_of p) f
    facts = ready (codes "main") f named

    nothing_bound : (ps : List IlParam) → bound ps [] ≡ []
    nothing_bound [] = refl
    nothing_bound (q ∷ ps) = refl

    nothing_cut : (cs : List Class) → in_temps 0 (cut_each cs []) ≡ []
    nothing_cut [] = refl
    nothing_cut (c ∷ cs) = refl

    -- the start of the machine
    starts : start (module_of p) args input fill ≡ begun_with (if nat_lt stack_size cost then Some StackFull else None)
    starts =
        ap (started world) (items_named p w (codes "main") ∙ ap (emitted p) named)
        ∙ ap (λ (ts : Temps). record {
          used = 0;
          ended = if nat_lt stack_size cost then Some StackFull else None;
          state = record {
            active = record {
              function = f.name;
              blocks = blocks_of p f;
              place = il.start_of [] (blocks_of p f);
              temps = ts;
              pointer = stack_start;
              cost = cost;
            };
            waiting = [];
            world = world;
            done = [];
          };
        }) (nothing_bound (params_of 0 f.params))
        ∙ ap (λ (bs : List Block). record {
          used = 0;
          ended = if nat_lt stack_size cost then Some StackFull else None;
          state = record {
            active = record { function = f.name; blocks = bs; place = il.start_of [] bs; temps = []; pointer = stack_start; cost = cost };
            waiting = [];
            world = world;
            done = [];
          };
        }) (function_blocks p f)
        ∙ ap (λ (ls : List Line). record {
          used = 0;
          ended = if nat_lt stack_size cost then Some StackFull else None;
          state = (before (module_of p) first_call ls world first).state;
        }) (append_assoc (frame_lines f.frame) body_lines rest)

    -- the start of flat code
    abbrev flat_first : State
    flat_first = entered (before_calls (flat_run.start_world p args input fill)) f []

    abbrev flat_body : Result
    flat_body = flat_begun p n (flat_below p n) (code_of f.body) (stepped 1 flat_first)

    flat_runs : run p args input fill n ≡ flat_run.ended flat_body
    flat_runs = ap (run_from p n (before_calls (flat_run.start_world p args input fill))) named

    same_world : flat_first.world ≡ framed_world world stack_start f.frame
    same_world =
        ap (λ (memory : Memory). record {
          memory = framed memory stack_start f.frame;
          heap = record { next = heap_start; blocks = [] };
          input = input;
          output = [];
          arguments = length args;
        }) (sym (start_same p w fill args))

    holds : Holds call (stepped 1 flat_first) begun
    holds =
        let costs = full_costs p f facts.code facts.few_params in
        record {
          same = frame_same first_call f.frame first (in_temps 0 (cut_each f.params []))
              (subst (λ (ts : List (ℕ × ℕ)). Same ts []) (sym (nothing_cut f.params)) (record { at = λ fill' t l. refl }));
          frame = frame_has first_call f.frame first;
          base = refl;
          top = frame_top stack_start f.frame;
          cost = omega (arith, risen_is cost f.frame);
        }

    -- where the body begins
    abbrev begins : Run
    begins = before (module_of p) call (body_lines ++ rest) flat_first.world begun

    body_meets : Meets (module_of p) call n (counted begun) (4 * (0 + 1)) (begun.used + 3) (λ k. rest) rest begins flat_body
    body_meets =
        let names = facts.few in
        let labels = names.labels in
        let addresses = names.addresses in
        meets p (module_of p) ready f facts call.base call.pointer call.cost [] n (code_of f.body) Next 0 1 0 [] (λ k. rest) rest rest
        (stepped 1 flat_first) begun facts.code (body_exits p f rest) refl (record { labels = omega arith; addresses = omega arith })
        (body_inside p f)
        holds

    -- ---- how it ends

    -- what the machine comes to from where the body begins
    record Ends (r : Result) : Type 0 where
      count : ℕ
      ended : (after_steps (module_of p) count begins).ended ≡ end_for r.0
      world_is : (after_steps (module_of p) count begins).state.world ≡ r.1.world
      jumps : r.0 ≡ Spent → n ≤ jumps_and_calls (after_steps (module_of p) count begins)
      units : (after_steps (module_of p) count begins).used ≤ 4 * r.1.steps + 1

    begun_used : begun.used ≤ 1
    begun_used = let u = frame_used first_call f.frame first in omega arith

    -- the last return
    last_return : (class : Option Class) (x : World) (c : Mark) →
        after_steps (module_of p) 1 (before (module_of p) call (End (jump.Ret (end_value class)) ∷ []) x c)
        ≡ record {
          used = c.used + 1;
          ended = Some (machine.Exit 0);
          state =
              (before (module_of p) call (End (jump.Ret (end_value class)) ∷ []) x c).state;
        }
    last_return None x c = refl
    last_return (Some class) x c = refl

    comes_ends : (s : State) → Comes (module_of p) call (counted begun) (4 * (0 + 1)) (begun.used + 3) begins s rest →
        Ends (state.Exit 0, s)
    comes_ends s h =
        let u = h.units in
        let b = begun_used in
        let e = steps_more (module_of p) h.count 1 begins ∙ ap (after_steps (module_of p) 1) h.by ∙ last_return f.result s.world h.to in
        record {
          count = h.count + 1;
          ended = ap (λ (r : Run). r.ended) e;
          world_is = ap (λ (r : Run). r.state.world) e;
          jumps = λ k. cc;
          units = omega (arith, ap (λ (r : Run). r.used) e, u);
        }

    returns_ends : (v : ℕ) (s : State) → Returns (module_of p) call (counted begun) (4 * (0 + 1)) (begun.used + 3) begins s v →
        Ends (state.Exit (v % 256), s)
    returns_ends v s h =
        let u = h.units in
        let b = begun_used in
        let e = steps_more (module_of p) h.count 1 begins ∙ ap (after_steps (module_of p) 1) h.by ∙ ap
        (after_step (before (module_of p) call h.lines s.world h.to)) h.returns in
        record {
          count = h.count + 1;
          ended = ap (λ (r : Run). r.ended) e;
          world_is = ap (λ (r : Run). r.state.world) e;
          jumps = λ k. cc;
          units = omega (arith, ap (λ (r : Run). r.used) e, u);
        }

    stops_ends : (flow : state.Flow) (s : State) (e : machine.End) → end_for flow ≡ Some e → (flow ≡ Spent → ⊥) →
        Stops (module_of p) call (4 * (0 + 1)) (begun.used + 3) begins s e → Ends (flow, s)
    stops_ends flow s e k other h =
        let u = h.units in
        let b = begun_used in
        record {
          count = h.count;
          ended = h.ended ∙ sym k;
          world_is = h.world;
          jumps = λ z. absurd (other z);
          units = omega arith;
        }

    ends : (r : Result) → Does (module_of p) call n (counted begun) (4 * (0 + 1)) (begun.used + 3) (λ k. rest) rest begins r →
        Ends (flat_run.ended r)
    ends (Next, s) h = comes_ends s h
    ends (Left k, s) h = comes_ends s h
    ends (Returned v, s) h = returns_ends v s h
    ends (state.Exit k, s) h = stops_ends (state.Exit k) s _ refl (λ z. cc) h
    ends (state.Abort t, s) h = stops_ends (state.Abort t) s _ refl (λ z. cc) h
    ends (state.Fault x, s) h = stops_ends (state.Fault x) s _ refl (λ z. cc) h
    ends (HeapFull, s) h = stops_ends HeapFull s _ refl (λ z. cc) h
    ends (Spent, s) h =
        let u = h.units in
        let j = h.jumps in
        let b = begun_used in
        record { count = h.count; ended = h.ended; world_is = h.world; jumps = λ z. omega arith; units = omega arith }

    ended_most : (r : Result) → (flat_run.ended r).1.most ≡ r.1.most
    ended_most (Next, s) = refl
    ended_most (Left k, s) = refl
    ended_most (Returned v, s) = refl
    ended_most (state.Exit k, s) = refl
    ended_most (state.Abort t, s) = refl
    ended_most (state.Fault x, s) = refl
    ended_most (HeapFull, s) = refl
    ended_most (Spent, s) = refl

    -- ---- from the start

    equal_worlds : (x y : World) → x ≡ y → SameWorld y x
    equal_worlds x y e = subst (λ (z : World). SameWorld z x) e
        (record { memory = record { bytes = λ a. refl; mapped = λ a. refl }; heap = refl; input = refl; output = refl; arguments = refl })

    arrives : (r : Result) (k : ℕ) → start (module_of p) args input fill ≡ starts_at →
        after_steps (module_of p) k starts_at ≡ begins → Ends r
        → LightArrives (module_of p) args input fill n r
    arrives r k e by h =
        let is : after_steps (module_of p) (k + h.count) (start (module_of p) args input fill) ≡ after_steps (module_of p) h.count begins =
        ap (after_steps (module_of p) (k + h.count)) e
        ∙ steps_more (module_of p) k h.count starts_at ∙ ap (after_steps (module_of p) h.count) by in
        record {
          count = k + h.count;
          ended = ap (λ (z : Run). z.ended) is ∙ h.ended;
          world = equal_worlds _ _ (ap (λ (z : Run). z.state.world) is ∙ h.world_is);
          jumps = λ z. omega (arith, ap jumps_and_calls is, h.jumps z);
          units = omega (arith, ap (λ (z : Run). z.used) is, h.units);
        }

    overflows : (from : Run) (k : ℕ) → start (module_of p) args input fill ≡ from →
        (after_steps (module_of p) k from).ended ≡ Some StackFull → stack_size < flat_body.1.most →
        LightOverflows (module_of p) args input fill n (flat_run.ended flat_body)
    overflows from k e full most = record {
      count = k;
      ended = ap (λ (z : Run). (after_steps (module_of p) k z).ended) e ∙ full;
      cost = omega (arith, most, ended_most flat_body);
    }

    -- where the stack is full, the call of `main` costs too much in flat code
    over : (x : ℕ) → stack_size < x → x ≤ cost + frame_cost f.frame → stack_size < flat_body.1.most
    over x l u =
        let costs = full_costs p f facts.code facts.few_params in
        let most : max 0 (0 + flat_cost.call_cost f) ≤ flat_body.1.most =
        (code_counts.begun p n (code_of f.body) (stepped 1 flat_first)).most in
        omega (arith, most, costs)

    abbrev Arrival : Type 0
    Arrival = LightArrives (module_of p) args input fill n (flat_run.ended flat_body) ⊎
        LightOverflows (module_of p) args input fill n (flat_run.ended flat_body)

    runs : start (module_of p) args input fill ≡ starts_at → Arrival
    runs e = elim (frame_runs (module_of p) first_call f.frame (body_lines ++ rest) world first) [
      | inl x ↦
          let by = x.by ∙ ap (λ (z : World). before (module_of p) call (body_lines ++ rest) z begun) (sym same_world) in
          elim body_meets [
            | inl y ↦ inl (arrives (flat_run.ended flat_body) (frame_steps f.frame) e by (ends flat_body y))
            | inr y ↦ inr (overflows starts_at (frame_steps f.frame + y.count) e
                (ap (λ (z : Run). z.ended) (steps_more (module_of p) (frame_steps f.frame) y.count starts_at
                ∙ ap (after_steps (module_of p) y.count) by) ∙ y.ended) y.most)
          ]
      | inr x ↦ inr (overflows starts_at 1 e x.ended (over (risen cost f.frame) x.cost (omega (arith, risen_is cost f.frame))))
    ]

    comes : Arrival
    comes = pick (nat_lt stack_size cost) refl
      where
        pick : (b : Bool) → nat_lt stack_size cost ≡ b → Arrival
        pick true e = inr (overflows (begun_with (Some StackFull)) 0
            (starts ∙ ap (λ (b : Bool). begun_with (if b then Some StackFull else None)) e) refl
            (over cost (grind (arith, nat_tests)) (omega arith)))
        pick false e = runs (starts ∙ ap (λ (b : Bool). begun_with (if b then Some StackFull else None)) e)

    main_reaches : LightMeets p (module_of p) args input fill n
    main_reaches = subst (λ (r : Result). LightArrives (module_of p) args input fill n r ⊎ LightOverflows (module_of p) args input fill n r)
        (sym flat_runs) comes

  pub reaches : LightReaches p (module_of p)
  reaches args input fill n = pick (flat.function_named p.functions (codes "main")) refl
    where
      pick : (o : Option FlatFn) → flat.function_named p.functions (codes "main") ≡ o → LightMeets p (module_of p) args input fill n
      pick None e = absurd (main_there p.functions w.main e)
      pick (Some f) e = main_reaches f e args input fill n
