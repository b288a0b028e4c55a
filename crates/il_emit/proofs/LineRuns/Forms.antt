-- What the machine does at each form of code without loops: an operation, a load, a store, a copy, a call of the runtime, a branch and a
-- return.
use Rattle.std.proofs.Common.{◌≡◌, ℕ, ◌+◌, ◌*◌, ◌/◌, ◌^◌, ◌<◌, ◌≤◌, Bool, true, false, List, [], ◌∷◌, ◌++◌, map, length, Option, None, Some, refl, sym, ap, ◌∙◌, subst, arith, append_assoc, inl}
use Rattle.std.specs.Prelude.{nat_lt, ◌==◌, if◌then◌else◌}
use Rattle.std.proofs.lemmas.Bool.{and_parts}
use Rattle.std.proofs.lemmas.Bool.Decides.{nat_tests}
use Rattle.hx_base.specs.declared.Class.{Class}
use Rattle.hx_base.specs.declared.Class.TheVariants.{W, L}
use Rattle.hx_base.specs.Memory.{Memory, load, store, move}
use Rattle.hx_base.specs.Runtime.{World, Act, Gives, Exits, Aborts, Faults, Full, RuntimeFault}
use Rattle.hx_base.specs.Runtime as runtime
use Rattle.hx_runtime.specs.Ranges.{overlap}
use Rattle.flat_code.specs.declared.op.LoadKind.{LoadKind}
use Rattle.flat_code.specs.declared.op.Op.{Op}
use Rattle.flat_code.specs.declared.program.FlatFn.{FlatFn}
use Rattle.flat_code.specs.declared.program.FlatProgram.{FlatProgram}
use Rattle.flat_code.specs.declared.value.Value.{Value}
use Rattle.flat_code.specs.declared.value.Value.TheVariants as value
use Rattle.flat_code.specs.Costs.{addressed}
use Rattle.flat_code.specs.Operations.{gives}
use Rattle.flat_code.specs.Evaluation as flat
use Rattle.flat_code.specs.Evaluation.{cut_each}
use Rattle.flat_code.specs.Kinds.{op_kind, takes_two, first_class, second_class}
use Rattle.hx_runtime.specs.Functions.{runtime_params, runtime_result, act, runtime_function}
use Rattle.hx_runtime.specs.declared.runtime.RuntimeFunction.{RuntimeFunction}
use Rattle.flat_code.specs.State as state
use Rattle.flat_code.specs.State.{State, Result, Spent, value_of, set_temp, give, with_memory, stepped}
use Rattle.flat_code.specs.Temps.{call_class, has_one_class}
use Rattle.flat_code.specs.WellFormed.{is_operand, is_second, are_args, is_target, is_width, stored_class, takes_result, is_runtime_call, is_return}
use Rattle.il_code.specs.declared.types.IlArg.{IlArg}
use Rattle.il_code.specs.declared.types.IlValue.{IlValue}
use Rattle.il_code.specs.declared.types.IlParam.{IlParam}
use Rattle.il_code.specs.declared.types.MachineFault.{MachineFault}
use Rattle.il_code.specs.declared.types.Inst.{Inst}
use Rattle.il_code.specs.declared.types.Inst.TheVariants as inst
use Rattle.il_code.specs.declared.types.Jump.TheVariants as jump
use Rattle.il_code.specs.declared.types.Module.{Module}
use Rattle.il_code.specs.Addresses.{width_bytes}
use Rattle.il_code.specs.Machine.{Temps, cut}
use Rattle.il_code.specs.Machine as machine
use Rattle.il_code.specs.Operations.{Outcome, op_value}
use Rattle.il_code.specs.Step as step
use Rattle.il_code.specs.Step.{Step, Kind, Computes, kind_of, second_value, set_step, arg_values, runtime_step, runtime_call, returned}
use Rattle.il_code.specs.State as il_state
use Rattle.il_code.specs.Run.{Run, after_step}
use Rattle.il_tight.proofs.SameRuns.Light.{call_step, further, after_steps}
use Rattle.il_emit.specs.Lines.{Line, Do, End, own_label, operand, second, address_lines, arg_lines, args_of, all_addressed, result_param, call_params, load_lines, store_lines, move_lines, call_lines, return_lines}
use Rattle.il_emit.specs.declared.goal.Goal.{Goal}
use Rattle.il_emit.specs.Names.{temp_name, label_name}
use Rattle.il_emit.specs.Ops.{il_op, load_op, given, second_number}
use Rattle.il_emit.specs.Reaches.{fault_for}
use Rattle.il_emit.proofs.LineRuns.Operands.{addressed_one, same_set, Setting, behind_address, address_steps, address_used, address_jumps}
use Rattle.il_emit.proofs.LineRuns.Operands.{address_holds, address_keeps, operand_ready, stays_ready, behind_args, arg_steps, args_used}
use Rattle.il_emit.proofs.LineRuns.Operands.{args_jumps, args_hold, args_ready}
use Rattle.il_emit.proofs.ValidModule.Operations.{width_is}
use Rattle.il_emit.proofs.LineRuns.Outcomes.{Fine, has_value, has_no_divisor, op_fine, operations_agree, op_computes, load_kind}
use Rattle.il_emit.proofs.LineRuns.Outcomes.{extension_fine, extension_agrees, overlap_same}
use Rattle.il_emit.proofs.Lines.Places.{Finds}
use Rattle.il_emit.proofs.LineRuns.Meeting.{later}
use Rattle.il_emit.proofs.LineRuns.Running.{Activation, counted, Mark, worth, steps_more, state_at, before, value_is, Holds, Comes, Stops}
use Rattle.il_emit.proofs.LineRuns.Running.{Does, Meets, jumped_to, jump_step}

module _ (p : FlatProgram) (f : FlatFn) (m : Module) (call : Activation) (set : Setting p f m call) where
  abbrev run_at : List Line → World → Mark → Run
  run_at ls w c = before m call ls w c

  abbrev at : List Line → World → Mark → il_state.State
  at ls w c = state_at m call ls w c

  -- ---- operations

  second_is : (two : Bool) (v : IlValue) (rest : List Line) (w : World) (c : Mark) →
      second_value m (at rest w c) (second two v) ≡ second_number two (worth m w c.temps v)
  second_is true v rest w c = ap Some (value_is m call rest w c v)
  second_is false v rest w c = refl

  -- the step of an operation
  set_goes : (t : ℕ) (class : Class) (o : Op) (two : Bool) (a b : IlValue) (rest : List Line) (w : World) (c : Mark)
      → further m (run_at (Do (inst.Set (temp_name t) class (il_op o) a (second two b)) ∷ rest) w c)
      ≡ after_step (run_at (Do (inst.Set (temp_name t) class (il_op o) a (second two b)) ∷ rest) w c)
      (step.computed (at rest w c) (temp_name t) class
      (op_value class (il_op o) (worth m w c.temps a) (second_number two (worth m w c.temps b))))
  set_goes t class o two a b rest w c =
      let r = run_at (Do (inst.Set (temp_name t) class (il_op o) a (second two b)) ∷ rest) w c in
      ap (λ (k : Kind). after_step r (set_step (at rest w c) (temp_name t) class (il_op o) k (step.value_of m (at rest w c) a)
      (second_value m (at rest w c) (second two b)))) (op_computes o)
      ∙ ap (λ (x : ℕ). after_step r (step.computed (at rest w c) (temp_name t) class
      (op_value class (il_op o) x (second_value m (at rest w c) (second two b))))) (value_is m call rest w c a)
      ∙ ap (λ (y : Option ℕ). after_step r
      (step.computed (at rest w c) (temp_name t) class (op_value class (il_op o) (worth m w c.temps a) y))) (second_is two b rest w c)

  -- a temporary more
  set_holds : (s : State) (c : Mark) (t : ℕ) (class : Class) (v used : ℕ) → t < 2 ^ 64 → Holds call s c →
      Holds call (set_temp s t class v) (record c { used = used; temps = (temp_name t, cut class v) ∷ c.temps })
  set_holds s c t class v used lt h = record {
    same = same_set s.temps c.temps t (cut class v) lt h.same;
    frame = record { at = λ l fill. h.frame.at l fill };
    base = h.base;
    top = h.top;
    cost = h.cost;
  }

  -- what comes of it
  outcome_meets : (n low high : ℕ) (out : ℕ → List Line) (t : ℕ) (class : Class) (here rest : List Line) (s : State) (c : Mark)
      (v : Outcome)
      → t < 2 ^ 64 → Holds call s c → c.used + 1 + low ≤ high + 4 * s.steps → Fine v
      → further m (run_at here s.world c) ≡ after_step (run_at here s.world c) (step.computed (at rest s.world c) (temp_name t) class v)
      → Meets m call n (counted c) low high out rest (run_at here s.world c) (flat.computed s t class (given v))
  outcome_meets n low high out t class here rest s c _ lt h u (has_value v) e = inl (record {
    to = record c { used = c.used + 1 + 0; temps = (temp_name t, cut class v) ∷ c.temps };
    count = 1;
    by = e;
    holds = set_holds s c t class v (c.used + 1 + 0) lt h;
    jumps = omega arith;
    units = omega arith;
  })
  outcome_meets n low high out t class here rest s c _ lt h u has_no_divisor e = inl (record {
    count = 1;
    ended = ap (λ (r : Run). r.ended) e;
    world = ap (λ (r : Run). r.state.world) e;
    units = omega (arith, ap (λ (r : Run). r.used) e, u);
  })

  pub target_small : (t : ℕ) (class : Class) → is_target p f t class ≡ true → t < 2 ^ 64
  target_small t class h =
      let q = (and_parts (nat_lt t f.temps) (has_one_class p f t class) h).0 in
      let lt : t < f.temps = grind (arith, nat_tests) in
      let few = set.few_temps in
      omega arith

  -- an operand by its class, or what stands where there is none: its lines run, and its value is known if it is read
  record Runs (s : State) (two : Bool) (v : Value) (k : ℕ) (c : Mark) : Type 0 where
    steps : (ls : List Line) → after_steps m (addressed v) (run_at (address_lines p.globals v k ++ ls) s.world c) ≡ run_at ls s.world
        (behind_address p f m call set v k c)
    value : second_number two (worth m s.world (behind_address p f m call set v k c).temps (operand p.globals v k)) ≡ second_number two
        (value_of p s v)

  second_runs : (s : State) (class : Class) (two : Bool) (v : Value) (k : ℕ) (c : Mark) →
      is_second p f class two v ≡ true → Holds call s c → Runs s two v k c
  second_runs s class true v k c r h = record {
    steps = λ ls. address_steps p f m call set class v k ls s.world c r h.frame;
    value = ap Some (operand_ready p f m call set s class v k c r h).value;
  }
  second_runs s class false (value.Number n) k c r h = record { steps = λ ls. refl; value = refl }
  second_runs s class false (value.Temp t) k c r h = cc
  second_runs s class false (value.Symbol i offset) k c r h = cc
  second_runs s class false (value.Frame offset) k c r h = cc

  pub set_meets : (n : ℕ) (out : ℕ → List Line) (t : ℕ) (class : Class) (o : Op) (a b : Value) (k : ℕ) (rest : List Line) (s : State)
      (c : Mark)
      → is_target p f t class ≡ true → is_operand p f (first_class (op_kind o) class) a ≡ true →
      is_second p f (second_class (op_kind o) class) (takes_two (op_kind o)) b ≡ true
      → k + (addressed a + addressed b) < 2 ^ 64 → Holds call s c
      → Meets m call n (counted c) (4 * s.steps) (c.used + 3) out rest
      (run_at ((address_lines p.globals a k ++
      (address_lines p.globals b (k + addressed a) ++
      (Do (inst.Set (temp_name t) class (il_op o) (operand p.globals a k)
      (second (takes_two (op_kind o)) (operand p.globals b (k + addressed a)))) ∷ []))) ++ rest) s.world c)
      (flat.computed s t class (gives class o (value_of p s a) (value_of p s b)))
  set_meets n out t class o a b k rest s c ht ha hb few h =
      let kb = k + addressed a in
      let ca = behind_address p f m call set a k c in
      let cb = behind_address p f m call set b kb ca in
      let last : List Line = Do (inst.Set (temp_name t) class (il_op o) (operand p.globals a k)
      (second (takes_two (op_kind o)) (operand p.globals b kb))) ∷ [] in
      let held_a = address_holds p f m call set a k c s h in
      let held_b = address_holds p f m call set b kb ca s held_a in
      let second_b = second_runs s (second_class (op_kind o) class) (takes_two (op_kind o)) b kb ca hb held_a in
      let ready_a = stays_ready p f m call set s (first_class (op_kind o) class) a k kb ca cb ha held_b (omega arith)
      (address_keeps p f m call set b kb ca (omega arith))
      (operand_ready p f m call set s (first_class (op_kind o) class) a k c ha h) in
      let by : after_steps m (addressed a + addressed b)
      (run_at ((address_lines p.globals a k ++ (address_lines p.globals b kb ++ last)) ++ rest) s.world c) ≡ run_at (last ++ rest)
      s.world cb =
      ap (λ (x : List Line). after_steps m (addressed a + addressed b) (run_at x s.world c))
      (append_assoc (address_lines p.globals a k) (address_lines p.globals b kb ++ last) rest)
      ∙ steps_more m (addressed a) (addressed b) _
      ∙ ap (after_steps m (addressed b))
      (address_steps p f m call set (first_class (op_kind o) class) a k
      ((address_lines p.globals b kb ++ last) ++ rest) s.world c ha h.frame)
      ∙ ap (λ (x : List Line). after_steps m (addressed b) (run_at x s.world ca)) (append_assoc (address_lines p.globals b kb) last rest)
      ∙ second_b.steps (last ++ rest) in
      let goes =
      set_goes t class o (takes_two (op_kind o)) (operand p.globals a k) (operand p.globals b kb) rest s.world cb
      ∙ ap (λ (x : ℕ). after_step (run_at (last ++ rest) s.world cb)
      (step.computed (at rest s.world cb) (temp_name t) class
      (op_value class (il_op o) x (second_number (takes_two (op_kind o)) (worth m s.world cb.temps (operand p.globals b kb))))))
      ready_a.value
      ∙ ap (λ (y : Option ℕ). after_step (run_at (last ++ rest) s.world cb)
      (step.computed (at rest s.world cb) (temp_name t) class (op_value class (il_op o) (value_of p s a) y))) second_b.value in
      let used_a = address_used p f m call set a k c in
      let used_b = address_used p f m call set b kb ca in
      let one_a = addressed_one a in
      let one_b = addressed_one b in
      let j : counted cb ≡ counted c = address_jumps p f m call set b kb ca ∙ address_jumps p f m call set a k c in
      let lines : List Line = (address_lines p.globals a k ++ (address_lines p.globals b kb ++ last)) ++ rest in
      subst (λ (v : Option ℕ). Meets m call n (counted c) (4 * s.steps) (c.used + 3) out rest (run_at lines s.world c)
      (flat.computed s t class v))
      (sym (operations_agree class o (value_of p s a) (value_of p s b)))
      (later m call (addressed a + addressed b) _ (run_at (last ++ rest) s.world cb) by (4 * s.steps) (4 * s.steps) (c.used + 3)
      (c.used + 3) (omega arith) n n (counted c) (counted cb) out rest _ (omega arith) (omega arith)
      (outcome_meets n (4 * s.steps) (c.used + 3) out t class (last ++ rest) rest s cb _ (target_small t class ht)
      held_b (omega arith) (op_fine o class (value_of p s a) (value_of p s b)) goes))

  -- ---- two operands

  -- two operands have their values, and the second is known to be ready behind the lines of both
  record Both (s : State) (a b : Value) (k : ℕ) (c : Mark) (last rest : List Line) : Type 0 where
    to : Mark
    by : after_steps m (addressed a + addressed b)
        (run_at ((address_lines p.globals a k ++ (address_lines p.globals b (k + addressed a) ++ last)) ++ rest) s.world c)
        ≡ run_at (last ++ rest) s.world to
    first : worth m s.world to.temps (operand p.globals a k) ≡ value_of p s a
    second : worth m s.world to.temps (operand p.globals b (k + addressed a)) ≡ value_of p s b
    holds : Holds call s to
    used : to.used ≤ c.used + 2
    jumps : counted to ≡ counted c

  both_run : (s : State) (class_a class_b : Class) (a b : Value) (k : ℕ) (c : Mark) (last rest : List Line) →
      is_operand p f class_a a ≡ true → is_operand p f class_b b ≡ true → k + (addressed a + addressed b) < 2 ^ 64 → Holds call s c →
      Both s a b k c last rest
  both_run s class_a class_b a b k c last rest ha hb few h =
      let kb = k + addressed a in
      let ca = behind_address p f m call set a k c in
      let cb = behind_address p f m call set b kb ca in
      let held_a = address_holds p f m call set a k c s h in
      let held_b = address_holds p f m call set b kb ca s held_a in
      let ready_a = stays_ready p f m call set s class_a a k kb ca cb ha held_b (omega arith)
      (address_keeps p f m call set b kb ca (omega arith)) (operand_ready p f m call set s class_a a k c ha h) in
      let ready_b = operand_ready p f m call set s class_b b kb ca hb held_a in
      let used_a = address_used p f m call set a k c in
      let used_b = address_used p f m call set b kb ca in
      let one_a = addressed_one a in
      let one_b = addressed_one b in
      record {
        to = cb;
        by =
            ap (λ (x : List Line). after_steps m (addressed a + addressed b) (run_at x s.world c))
            (append_assoc (address_lines p.globals a k) (address_lines p.globals b kb ++ last) rest)
            ∙ steps_more m (addressed a) (addressed b) _
            ∙ ap (after_steps m (addressed b))
            (address_steps p f m call set class_a a k ((address_lines p.globals b kb ++ last) ++ rest) s.world c ha h.frame)
            ∙ ap (λ (x : List Line). after_steps m (addressed b) (run_at x s.world ca))
            (append_assoc (address_lines p.globals b kb) last rest)
            ∙ address_steps p f m call set class_b b kb (last ++ rest) s.world ca hb held_a.frame;
        first = ready_a.value;
        second = ready_b.value;
        holds = held_b;
        used = omega arith;
        jumps = address_jumps p f m call set b kb ca ∙ address_jumps p f m call set a k c;
      }

  -- a step that ends the run
  ends_so : (low high : ℕ) (here : List Line) (s : State) (c : Mark) (e : machine.End) → c.used + 1 + low ≤ high + 4 * s.steps →
      further m (run_at here s.world c) ≡ after_step (run_at here s.world c) (step.Ends e) →
      Stops m call low high (run_at here s.world c) s e
  ends_so low high here s c e u is = record {
    count = 1;
    ended = ap (λ (x : Run). x.ended) is;
    world = ap (λ (x : Run). x.state.world) is;
    units = omega (arith, ap (λ (x : Run). x.used) is, u);
  }

  -- ---- loads

  load_goes : (t : ℕ) (how : LoadKind) (a : IlValue) (rest : List Line) (w : World) (c : Mark)
      → further m (run_at (Do (inst.Set (temp_name t) L (load_op how) a None) ∷ rest) w c)
      ≡ after_step (run_at (Do (inst.Set (temp_name t) L (load_op how) a None) ∷ rest) w c)
      (step.loaded (at rest w c) (temp_name t) L (il_op (flat.extension how)) (load w.memory (worth m w c.temps a) (flat.load_bytes how)))
  load_goes t how a rest w c =
      let r = run_at (Do (inst.Set (temp_name t) L (load_op how) a None) ∷ rest) w c in
      ap (λ (k : Kind). after_step r (set_step (at rest w c) (temp_name t) L (load_op how) k (step.value_of m (at rest w c) a) None))
      (load_kind how)
      ∙ ap (λ (x : ℕ). after_step r (step.loaded (at rest w c) (temp_name t) L (il_op (flat.extension how))
      (load w.memory x (flat.load_bytes how)))) (value_is m call rest w c a)

  loaded_meets : (n low high : ℕ) (out : ℕ → List Line) (t : ℕ) (how : LoadKind) (here rest : List Line) (s : State) (c : Mark)
      (o : Option ℕ) → t < 2 ^ 64 → Holds call s c → c.used + 1 + low ≤ high + 4 * s.steps
      → further m (run_at here s.world c) ≡ after_step (run_at here s.world c)
      (step.loaded (at rest s.world c) (temp_name t) L (il_op (flat.extension how)) o)
      → Meets m call n (counted c) low high out rest (run_at here s.world c) (flat.loaded s t how o)
  loaded_meets n low high out t how here rest s c None lt h u e = inl (ends_so low high here s c _ u e)
  loaded_meets n low high out t how here rest s c (Some v) lt h u e =
      subst (λ (x : Option ℕ). Meets m call n (counted c) low high out rest (run_at here s.world c) (flat.computed s t L x))
      (sym (extension_agrees how v))
      (outcome_meets n low high out t L here rest s c _ lt h u (extension_fine how v) e)

  pub load_meets : (n : ℕ) (out : ℕ → List Line) (t : ℕ) (how : LoadKind) (v : Value) (k : ℕ) (rest : List Line) (s : State) (c : Mark)
      → is_target p f t L ≡ true → is_operand p f L v ≡ true → Holds call s c
      → Meets m call n (counted c) (4 * s.steps) (c.used + 3) out rest (run_at (load_lines p.globals t how v k ++ rest) s.world c)
      (flat.loaded s t how (load s.world.memory (value_of p s v) (flat.load_bytes how)))
  load_meets n out t how v k rest s c ht hv h =
      let ca = behind_address p f m call set v k c in
      let last : List Line = Do (inst.Set (temp_name t) L (load_op how) (operand p.globals v k) None) ∷ [] in
      let by : after_steps m (addressed v) (run_at ((address_lines p.globals v k ++ last) ++ rest) s.world c) ≡ run_at
      (last ++ rest) s.world
      ca =
      ap (λ (x : List Line). after_steps m (addressed v) (run_at x s.world c)) (append_assoc (address_lines p.globals v k) last rest)
      ∙ address_steps p f m call set L v k (last ++ rest) s.world c hv h.frame in
      let ready = operand_ready p f m call set s L v k c hv h in
      let goes =
      load_goes t how (operand p.globals v k) rest s.world ca
      ∙ ap (λ (x : ℕ). after_step (run_at (last ++ rest) s.world ca)
      (step.loaded (at rest s.world ca) (temp_name t) L (il_op (flat.extension how)) (load s.world.memory x (flat.load_bytes how))))
      ready.value in
      let used = address_used p f m call set v k c in
      let one = addressed_one v in
      let j = address_jumps p f m call set v k c in
      later m call (addressed v) _ (run_at (last ++ rest) s.world ca) by (4 * s.steps) (4 * s.steps) (c.used + 3) (c.used + 3)
      (omega arith) n
      n (counted c) (counted ca) out rest _ (omega arith) (omega arith)
      (loaded_meets n (4 * s.steps) (c.used + 3) out t how (last ++ rest) rest s ca
      (load s.world.memory (value_of p s v) (flat.load_bytes how)) (target_small t L ht) (address_holds p f m call set v k c s h)
      (omega arith) goes)

  -- ---- stores and moves

  stored_meets : (n low high : ℕ) (out : ℕ → List Line) (here rest : List Line) (s : State) (c : Mark) (o : Option Memory)
      → Holds call s c → c.used + 1 + low ≤ high + 4 * s.steps
      → further m (run_at here s.world c) ≡ after_step (run_at here s.world c) (step.stored (at rest s.world c) o)
      → Meets m call n (counted c) low high out rest (run_at here s.world c) (flat.stored s o)
  stored_meets n low high out here rest s c None h u e = inl (ends_so low high here s c _ u e)
  stored_meets n low high out here rest s c (Some memory) h u e = inl (record {
    to = record c { used = c.used + 1 + 0 };
    count = 1;
    by = e;
    holds = record { same = h.same; frame = h.frame; base = h.base; top = h.top; cost = h.cost };
    jumps = omega arith;
    units = omega arith;
  })

  pub store_meets : (n : ℕ) (out : ℕ → List Line) (width : ℕ) (v a : Value) (k : ℕ) (rest : List Line) (s : State) (c : Mark)
      → is_width width ≡ true → is_operand p f (stored_class width) v ≡ true → is_operand p f L a ≡ true
      → k + (addressed v + addressed a) < 2 ^ 64 → Holds call s c
      → Meets m call n (counted c) (4 * s.steps) (c.used + 3) out rest (run_at (store_lines p.globals width v a k ++ rest) s.world c)
      (flat.stored s (store s.world.memory (value_of p s a) width (value_of p s v)))
  store_meets n out width v a k rest s c hw hv ha few h =
      let i : Inst = inst.Store width (operand p.globals v k) (operand p.globals a (k + addressed v)) in
      let last : List Line = Do i ∷ [] in
      let x = both_run s (stored_class width) L v a k c last rest hv ha few h in
      let used = x.used in
      let jumps = x.jumps in
      let r = run_at (last ++ rest) s.world x.to in
      let goes : further m r ≡ after_step r
      (step.stored (at rest s.world x.to) (store s.world.memory (value_of p s a) width (value_of p s v))) =
      ap (λ (y : ℕ). after_step r (step.stored (at rest s.world x.to) (store s.world.memory y (width_bytes width)
      (step.value_of m (at rest s.world x.to) (operand p.globals v k)))))
      (value_is m call rest s.world x.to (operand p.globals a (k + addressed v)) ∙ x.second)
      ∙ ap (λ (y : ℕ). after_step r (step.stored (at rest s.world x.to) (store s.world.memory (value_of p s a) (width_bytes width) y)))
      (value_is m call rest s.world x.to (operand p.globals v k) ∙ x.first)
      ∙ ap (λ (y : ℕ). after_step r (step.stored (at rest s.world x.to) (store s.world.memory (value_of p s a) y (value_of p s v))))
      (width_is width hw) in
      later m call (addressed v + addressed a) _ r x.by (4 * s.steps) (4 * s.steps) (c.used + 3) (c.used + 3) (omega arith) n n (counted c)
      (counted x.to) out rest _ (omega arith) (omega arith)
      (stored_meets n (4 * s.steps) (c.used + 3) out (last ++ rest) rest s x.to _ x.holds (omega arith) goes)

  moved_meets : (n low high : ℕ) (out : ℕ → List Line) (here rest : List Line) (s : State) (c : Mark) (bytes : ℕ) (overlaps : Bool)
      (o : Option Memory) → Holds call s c → c.used + 1 + low ≤ high + 4 * s.steps
      → further m (run_at here s.world c) ≡ after_step (run_at here s.world c) (step.blitted (at rest s.world c) bytes overlaps o)
      → Meets m call n (counted c) low high out rest (run_at here s.world c) (flat.moved s bytes overlaps o)
  moved_meets n low high out here rest s c bytes overlaps None h u e = inl (ends_so low high here s c _ u e)
  moved_meets n low high out here rest s c bytes true (Some memory) h u e = inl (ends_so low high here s c _ u e)
  moved_meets n low high out here rest s c bytes false (Some memory) h u e = inl (record {
    to = record c { used = c.used + 1 + bytes / 64 };
    count = 1;
    by = e;
    holds = record { same = h.same; frame = h.frame; base = h.base; top = h.top; cost = h.cost };
    jumps = omega arith;
    units = omega arith;
  })

  pub move_meets : (n : ℕ) (out : ℕ → List Line) (a b : Value) (bytes k : ℕ) (rest : List Line) (s : State) (c : Mark)
      → is_operand p f L a ≡ true → is_operand p f L b ≡ true → k + (addressed a + addressed b) < 2 ^ 64 → Holds call s c
      → Meets m call n (counted c) (4 * s.steps) (c.used + 3) out rest (run_at (move_lines p.globals a b bytes k ++ rest) s.world c)
      (flat.moved s bytes (overlap (value_of p s a) (value_of p s b) bytes)
      (move s.world.memory (value_of p s a) (value_of p s b) bytes))
  move_meets n out a b bytes k rest s c ha hb few h =
      let from = operand p.globals b (k + addressed a) in
      let to = operand p.globals a k in
      let last : List Line = Do (inst.Blit from to bytes) ∷ [] in
      let x = both_run s L L a b k c last rest ha hb few h in
      let used = x.used in
      let jumps = x.jumps in
      let r = run_at (last ++ rest) s.world x.to in
      let goes : further m r ≡ after_step r
      (step.blitted (at rest s.world x.to) bytes (overlap (value_of p s a) (value_of p s b) bytes)
      (move s.world.memory (value_of p s a) (value_of p s b) bytes)) =
      ap (λ (y : ℕ). after_step r (step.blitted (at rest s.world x.to) bytes
      (overlap y (step.value_of m (at rest s.world x.to) to) bytes)
      (move s.world.memory (step.value_of m (at rest s.world x.to) to) y bytes)))
      (value_is m call rest s.world x.to from ∙ x.second)
      ∙ ap (λ (y : ℕ). after_step r (step.blitted (at rest s.world x.to) bytes
      (overlap (value_of p s b) y bytes) (move s.world.memory y (value_of p s b) bytes)))
      (value_is m call rest s.world x.to to ∙ x.first)
      ∙ ap (λ (z : Bool). after_step r (step.blitted (at rest s.world x.to) bytes z
      (move s.world.memory (value_of p s a) (value_of p s b) bytes))) (overlap_same (value_of p s b) (value_of p s a) bytes) in
      later m call (addressed a + addressed b) _ r x.by (4 * s.steps) (4 * s.steps) (c.used + 3) (c.used + 3) (omega arith) n n (counted c)
      (counted x.to) out rest _ (omega arith) (omega arith)
      (moved_meets n (4 * s.steps) (c.used + 3) out (last ++ rest) rest s x.to bytes _ _ x.holds (omega arith) goes)

  -- ---- calls of the runtime

  pub args_are : (rest : List Line) (w : World) (c : Mark) (args : List IlArg) →
      arg_values m (at rest w c) args ≡ map (λ (a : IlArg). cut a.class (worth m w c.temps a.value)) args
  args_are rest w c [] = refl
  args_are rest w c (a ∷ args) =
      ap (λ (x : ℕ). cut a.class x ∷ arg_values m (at rest w c) args) (value_is m call rest w c a.value)
      ∙ ap (λ (xs : List ℕ). cut a.class (worth m w c.temps a.value) ∷ xs) (args_are rest w c args)

  fault_same : (x : RuntimeFault) → step.fault_of x ≡ fault_for (flat.fault_of x)
  fault_same runtime.Wild = refl
  fault_same runtime.BadFree = refl
  fault_same runtime.BadArg = refl

  -- behind a call that gives a value
  given_comes : (low high : ℕ) (temp : Option ℕ) (class : Option Class) (here rest : List Line) (s : State) (c : Mark) (v moved : ℕ)
      (w : World)
      → takes_result p f temp class ≡ true → Holds call s c → c.used + 1 + low ≤ high + 4 * s.steps
      → further m (run_at here s.world c) ≡ after_step (run_at here s.world c)
      (runtime_step (at rest s.world c) (result_param temp class) (Gives v moved w))
      → Comes m call (counted c) low high (run_at here s.world c) (give (stepped (moved / 64) (record s { world = w })) temp class v) rest
  given_comes low high None class here rest s c v moved w r h u e = record {
    to = record c { used = c.used + 1 + moved / 64 };
    count = 1;
    by = e;
    holds = record { same = h.same; frame = h.frame; base = h.base; top = h.top; cost = h.cost };
    jumps = omega arith;
    units = omega arith;
  }
  given_comes low high (Some t) None here rest s c v moved w r h u e = cc
  given_comes low high (Some t) (Some class) here rest s c v moved w r h u e = record {
    to = record c { used = c.used + 1 + moved / 64; temps = (temp_name t, cut class v) ∷ c.temps };
    count = 1;
    by = e;
    holds = record {
      same = same_set s.temps c.temps t (cut class v) (target_small t class r) h.same;
      frame = record { at = λ l fill. h.frame.at l fill };
      base = h.base;
      top = h.top;
      cost = h.cost;
    };
    jumps = omega arith;
    units = omega arith;
  }

  act_meets : (n low high : ℕ) (out : ℕ → List Line) (temp : Option ℕ) (class : Option Class) (here rest : List Line) (s : State) (c : Mark)
      (a : Act)
      → takes_result p f temp class ≡ true → Holds call s c → c.used + 1 + low ≤ high + 4 * s.steps
      → further m (run_at here s.world c) ≡ after_step (run_at here s.world c)
      (runtime_step (at rest s.world c) (result_param temp class) a)
      → Does m call n (counted c) low high out rest (run_at here s.world c) (flat.acted s temp class a)
  act_meets n low high out temp class here rest s c (Gives v moved w) r h u e =
      given_comes low high temp class here rest s c v moved w r h u e
  act_meets n low high out temp class here rest s c (Exits k) r h u e = ends_so low high here s c _ u e
  act_meets n low high out temp class here rest s c (Aborts t) r h u e = ends_so low high here s c _ u e
  act_meets n low high out temp class here rest s c (Faults x) r h u e =
      ends_so low high here s c _ u
      (e ∙ ap (λ (z : MachineFault). after_step (run_at here s.world c) (step.Ends (machine.Fault z))) (fault_same x))
  act_meets n low high out temp class here rest s c Full r h u e = ends_so low high here s c _ u e

  -- the step of a call
  call_goes : (result : Option IlParam) (name : List ℕ) (g : RuntimeFunction) (args : List IlArg) (rest : List Line) (w : World) (c : Mark)
      (vs : List ℕ) → il_state.function_named m.items name ≡ None → runtime_function name ≡ Some g
      → map (λ (a : IlArg). cut a.class (worth m w c.temps a.value)) args ≡ vs
      → further m (run_at (Do (inst.Call result name args) ∷ rest) w c) ≡ after_step (run_at (Do (inst.Call result name args) ∷ rest) w c)
      (runtime_step (at rest w c) result (act g vs w))
  call_goes result name g args rest w c vs none e v =
      let r = run_at (Do (inst.Call result name args) ∷ rest) w c in
      ap (λ (x : Option il_state.Code). after_step r (call_step (at rest w c) result name x (arg_values m (at rest w c) args)))
      none
      ∙ ap (λ (x : Option RuntimeFunction). after_step r (runtime_call (at rest w c) result x (arg_values m (at rest w c) args))) e
      ∙ ap (λ (xs : List ℕ). after_step r (runtime_step (at rest w c) result (act g xs w))) (args_are rest w c args ∙ v)

  pub runtime_meets : (n : ℕ) (out : ℕ → List Line) (temp : Option ℕ) (name : List ℕ) (args : List Value) (k : ℕ) (rest : List Line)
      (s : State)
      (c : Mark) (o : Option RuntimeFunction)
      → il_state.function_named m.items name ≡ None → runtime_function name ≡ o → is_runtime_call p f temp args o ≡ true
      → k + all_addressed args < 2 ^ 64 → Holds call s c
      → Meets m call n (counted c) (4 * s.steps) (c.used + 3) out rest
      (run_at (call_lines p.globals (call_params o) (call_class o) temp name args k ++ rest) s.world c)
      (flat.runtime_called (stepped (length args) s) temp o (map (value_of p s) args))
  runtime_meets n out temp name args k rest s c None none e r few h = cc
  runtime_meets n out temp name args k rest s c (Some g) none e r few h =
      let q = and_parts (are_args p f (runtime_params g) args) (takes_result p f temp (runtime_result g)) r in
      let ca = behind_args p f m call set args k c in
      let last : List Line =
      Do (inst.Call (result_param temp (runtime_result g)) name (args_of p.globals (runtime_params g) args k)) ∷ [] in
      let by : after_steps m (all_addressed args) (run_at ((arg_lines p.globals args k ++ last) ++ rest) s.world c) ≡ run_at (last ++ rest)
      s.world ca =
      ap (λ (x : List Line). after_steps m (all_addressed args) (run_at x s.world c)) (append_assoc (arg_lines p.globals args k) last rest)
      ∙ arg_steps p f m call set (runtime_params g) args k (last ++ rest) s c q.0 h in
      let ready = args_ready p f m call set s (runtime_params g) args k c q.0 few h in
      let goes = call_goes (result_param temp (runtime_result g)) name g
      (args_of p.globals (runtime_params g) args k) rest s.world ca _ none e
      ready in
      let used = args_used p f m call set args k c in
      let j = args_jumps p f m call set args k c in
      let held = args_hold p f m call set args k c s h in
      later m call (all_addressed args) _ (run_at (last ++ rest) s.world ca) by (4 * s.steps) (4 * s.steps) (c.used + 3) (c.used + 3)
      (omega arith) n n (counted c) (counted ca) out rest _ (omega arith) (omega arith)
      (inl (act_meets n (4 * s.steps) (c.used + 3) out temp (runtime_result g) (last ++ rest) rest (stepped (length args) s) ca
      (act g (cut_each (runtime_params g) (map (value_of p s) args)) s.world) q.1
      (record { same = held.same; frame = held.frame; base = held.base; top = held.top; cost = held.cost }) (omega arith) goes))

  -- ---- branches

  -- a branch comes to the side that its condition says
  pub branch_comes : (v : Value) (k x y : ℕ) (ls one other : List Line) (s : State) (c : Mark) (b : Bool) →
      is_operand p f W v ≡ true → Holds call s c
      → Finds call.lines x one → Finds call.lines y other → (state.cut W (value_of p s v) == 0) ≡ b
      → after_steps m (addressed v + 1)
      (run_at (address_lines p.globals v k ++ (End (jump.Jnz (operand p.globals v k) (label_name x) (label_name y)) ∷ ls)) s.world c)
      ≡ run_at (if b then other else one) s.world (jumped_to m call (if b then y else x) (behind_address p f m call set v k c))
  branch_comes v k x y ls one other s c b r h hx hy e =
      let ca = behind_address p f m call set v k c in
      let here : List Line = End (jump.Jnz (operand p.globals v k) (label_name x) (label_name y)) ∷ ls in
      let ready = operand_ready p f m call set s W v k c r h in
      let test : (cut W (step.value_of m (at here s.world ca) (operand p.globals v k)) == 0) ≡ b =
      ap (λ (z : ℕ). cut W z == 0) (value_is m call here s.world ca (operand p.globals v k) ∙ ready.value) ∙ e in
      steps_more m (addressed v) 1 _
      ∙ ap (after_steps m 1) (address_steps p f m call set W v k here s.world c r h.frame)
      ∙ ap (λ (z : Bool). after_step (run_at here s.world ca)
      (step.Goes 0 (step.jumped (at here s.world ca) (if z then label_name y else label_name x)))) test
      ∙ side b
    where
      side : (z : Bool) → after_step (run_at (End (jump.Jnz (operand p.globals v k) (label_name x) (label_name y)) ∷ ls) s.world
          (behind_address p f m call set v k c))
          (step.Goes 0 (step.jumped (at (End (jump.Jnz (operand p.globals v k) (label_name x) (label_name y)) ∷ ls) s.world
          (behind_address p f m call set v k c)) (if z then label_name y else label_name x)))
          ≡ run_at (if z then other else one) s.world (jumped_to m call (if z then y else x) (behind_address p f m call set v k c))
      side true = jump_step m call y other ls s.world (behind_address p f m call set v k c) hy
      side false = jump_step m call x one ls s.world (behind_address p f m call set v k c) hx

  -- ---- returns

  pub return_meets : (n : ℕ) (g : Goal) (x : ℕ) (out : ℕ → List Line) (class : Option Class) (value : Option Value) (k : ℕ)
      (rest after : List Line) (s : State)
      (c : Mark) → is_return p f class value ≡ true → Holds call s c
      → Meets m call n (counted c) (4 * s.steps) (c.used + 3) out after (run_at (return_lines p.globals value g x k ++ rest) s.world c)
      (flat.returns p s value)
  return_meets n g x out class None k rest after s c r h =
      inl (record {
        to = c;
        lines = return_lines p.globals None g x k ++ rest;
        count = 0;
        by = refl;
        returns = refl;
        holds = h;
        jumps = omega arith;
        units = omega arith;
      })
  return_meets n g x out None (Some v) k rest after s c r h = cc
  return_meets n g x out (Some class) (Some v) k rest after s c r h =
      let ca = behind_address p f m call set v k c in
      let last : List Line = End (jump.Ret (Some (operand p.globals v k))) ∷ own_label g x in
      let ready = operand_ready p f m call set s class v k c r h in
      let used = address_used p f m call set v k c in
      let one = addressed_one v in
      let j = address_jumps p f m call set v k c in
      inl (record {
        to = ca;
        lines = last ++ rest;
        count = addressed v;
        by = ap (λ (z : List Line). after_steps m (addressed v) (run_at z s.world c)) (append_assoc (address_lines p.globals v k) last rest)
            ∙ address_steps p f m call set class v k (last ++ rest) s.world c r h.frame;
        returns = ap (λ (z : ℕ). returned (at (last ++ rest) s.world ca) z call.waiting)
            (value_is m call (last ++ rest) s.world ca (operand p.globals v k) ∙ ready.value);
        holds = address_holds p f m call set v k c s h;
        jumps = omega arith;
        units = omega arith;
      })
