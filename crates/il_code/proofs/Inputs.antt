-- A run takes its input from the front, and depends on nothing else of it as long as there is enough.
use Rattle.std.proofs.Common.{◌≡◌, ℕ, zero, suc, ◌+◌, ◌-◌, ◌/◌, ◌<◌, ◌≤◌, Bool, true, false, List, [], ◌∷◌, ◌++◌, length, take, drop, Option, Some, None, refl, sym, ap, ◌∙◌, subst, arith, append_assoc}
use Rattle.std.specs.Prelude.{Result, Ok, Err, nat_lt, max, ◌==◌, if◌then◌else◌}
use Rattle.std.proofs.lemmas.List.{append-nil, take-append-drop, length-take-le, drop_all}
use Rattle.std.proofs.Math.Seq.{take-append_seam, drop-append_seam}
use Rattle.hx_base.specs.declared.Class.{Class}
use Rattle.hx_base.specs.declared.Class.TheVariants.{W}
use Rattle.hx_base.specs.Memory.{Memory, all_mapped, round_up, bytes_at, store, move, same}
use Rattle.hx_base.specs.Runtime.{World, Act, Gives, Exits, Aborts, Faults, Full, Wild, BadArg, read, malloc, new_block, block_size, freed, moved, compared, heap_size, heap_end, live_bytes}
use Rattle.hx_runtime.specs.Functions.{act, runtime_function}
use Rattle.hx_runtime.specs.declared.runtime.RuntimeFunction.{RuntimeFunction}
use Rattle.hx_runtime.specs.declared.runtime.RuntimeFunction.TheVariants.{Puts, Write, Read, Malloc, Free, Move, Same, Abort, Exit, Nargs, Arg}
use Rattle.il_code.specs.declared.op.IlOp.{IlOp}
use Rattle.il_code.specs.declared.types.MachineFault.{MachineFault}
use Rattle.il_code.specs.declared.types.Module.{Module}
use Rattle.il_code.specs.declared.types.Phi.{Phi}
use Rattle.il_code.specs.declared.types.PhiArg.{PhiArg}
use Rattle.il_code.specs.declared.types.IlParam.{IlParam}
use Rattle.il_code.specs.declared.types.IlArg.{IlArg}
use Rattle.il_code.specs.declared.types.IlValue.{IlValue}
use Rattle.il_code.specs.declared.types.IlValue.TheVariants.{Number, Temp, Symbol}
use Rattle.il_code.specs.declared.types.Inst.{Inst}
use Rattle.il_code.specs.declared.types.Inst.TheVariants.{Set, Store, Blit, Call}
use Rattle.il_code.specs.declared.types.Jump.{Jump}
use Rattle.il_code.specs.declared.types.Jump.TheVariants.{Fall, Jmp, Jnz, Ret, Hlt}
use Rattle.il_code.specs.Addresses.{width_bytes}
use Rattle.il_code.specs.Operations.{op_value}
use Rattle.il_code.specs.Machine.{End, Temps, cut}
use Rattle.il_code.specs.State.{place_at, Code, function_named, Waiting, State, give_result, at_place, with_temps}
use Rattle.il_code.specs.Step.{Step, Goes, Ends, Kind, Takes, Loads, Computes, kind_of, value_of, second_value, arg_values, phi_value, after_phis, computed, loaded, took, set_step, stored, overlap, blitted, runtime_step, entered, runtime_call, call_step, behind_inst, inst_step, returned, jumped, jump_step, step_at, step}
use Rattle.il_code.specs.Run.{Run, after_step, unless_ended, further, after_steps, within}
use Rattle.il_code.specs.Inputs.{other_input, asked_by, asked_of, asked_call, asked_inst, asked_at, asked}
use Rattle.il_code.specs.MachineLaws.{IsGoing, input_of, with_input, MeetsEnd, InputIsTaken}
use Rattle.il_code.proofs.Budgets.{over, going, ended_or_open, less, most, order_of, after_step-used, after_steps-used, further-stays, within-stops, within-goes, within-stays}

-- ---- with another input

-- what a program acts on, with another input
abbrev world_with : World → List ℕ → World
world_with w x = record w { input = x }

abbrev act_with : List ℕ → Act → Act
act_with x (Gives v moved w) = Gives v moved (world_with w x)
act_with x (Exits k) = Exits k
act_with x (Aborts text) = Aborts text
act_with x (Faults f) = Faults f
act_with x Full = Full

abbrev step_with : List ℕ → Step → Step
step_with x (Goes more s) = Goes more (other_input s x)
step_with x (Ends e) = Ends e

-- ---- the runtime

either : (x : List ℕ) (b : Bool) (p q : Act) → (if b then act_with x p else act_with x q) ≡ act_with x (if b then p else q)
either x true p q = refl
either x false p q = refl

freed_with : (x : List ℕ) (w : World) (p : ℕ) (n : Option ℕ) → freed (world_with w x) p n ≡ act_with x (freed w p n)
freed_with x w p None = refl
freed_with x w p (Some n) = refl

moved_with : (x : List ℕ) (w : World) (n : ℕ) (m : Option Memory) → moved (world_with w x) n m ≡ act_with x (moved w n m)
moved_with x w n None = refl
moved_with x w n (Some m) = refl

compared_with : (x : List ℕ) (w : World) (n : ℕ) (b : Option Bool) → compared (world_with w x) n b ≡ act_with x (compared w n b)
compared_with x w n None = refl
compared_with x w n (Some b) = refl

malloc_with : (x : List ℕ) (w : World) (n : ℕ) → malloc (world_with w x) n ≡ act_with x (malloc w n)
malloc_with x w n =
    ap (λ (a : Act). if nat_lt heap_size (live_bytes w.heap.blocks + round_up (max 1 n) 16) then Gives 0 0 (world_with w x) else a)
    (either x (nat_lt heap_end (w.heap.next + max 1 n)) Full (Gives w.heap.next 0 (new_block w (max 1 n))))
    ∙ either x (nat_lt heap_size (live_bytes w.heap.blocks + round_up (max 1 n) 16)) (Gives 0 0 w)
    (if nat_lt heap_end (w.heap.next + max 1 n) then Full else Gives w.heap.next 0 (new_block w (max 1 n)))

-- as many bytes as are asked for, and then others
module _ (input other : List ℕ) (n : ℕ) (enough : n ≤ length input) where
  front : List ℕ
  front = take n input

  long : length (take n input) ≡ n
  long = length-take-le n input enough

  take_front : take n (take n input ++ other) ≡ take n input
  take_front = ap (λ (k : ℕ). take k (take n input ++ other)) (sym long) ∙ take-append_seam (take n input) other

  drop_front : drop n (take n input ++ other) ≡ other
  drop_front = ap (λ (k : ℕ). drop k (take n input ++ other)) (sym long) ∙ drop-append_seam (take n input) other

read_with : (other : List ℕ) (w : World) (p n : ℕ) → (if all_mapped w.memory p n then n else 0) ≤ length w.input
    → read (world_with w (take (if all_mapped w.memory p n then n else 0) w.input ++ other)) p n ≡ act_with other (read w p n)
read_with other w p n = pick (all_mapped w.memory p n) refl
  where
    pick : (b : Bool) → all_mapped w.memory p n ≡ b → (if all_mapped w.memory p n then n else 0) ≤ length w.input
        → read (world_with w (take (if all_mapped w.memory p n then n else 0) w.input ++ other)) p n ≡ act_with other (read w p n)
    pick true e h =
        let enough : n ≤ length w.input = rw e at h in
        rw (e, take_front w.input other n enough, drop_front w.input other n enough) refl
    pick false e h = rw e refl

-- a function of the runtime does the same with any other input that begins with what it asks for
act_does : (other : List ℕ) (f : RuntimeFunction) (args : List ℕ) (w : World) → asked_by w f args ≤ length w.input
    → act f args (world_with w (take (asked_by w f args) w.input ++ other)) ≡ act_with other (act f args w)
act_does other Puts args w h = either other (all_mapped w.memory _ _) (Gives 0 _ (record w { output = w.output ++ bytes_at w.memory _ _ }))
    (Faults Wild)
act_does other Write args w h = either other (all_mapped w.memory _ _) (Gives 0 _ (record w { output = w.output ++ bytes_at w.memory _ _ }))
    (Faults Wild)
act_does other Read args w h = read_with other w _ _ h
act_does other Malloc args w h = malloc_with other w _
act_does other Free args w h = freed_with other w _ (block_size w.heap.blocks _)
act_does other Move args w h = moved_with other w _ (move w.memory _ _ _)
act_does other Same args w h = compared_with other w _ (same w.memory _ _ _)
act_does other Abort args w h = either other (all_mapped w.memory _ _) (Aborts _) (Faults Wild)
act_does other Exit args w h = refl
act_does other Nargs args w h = refl
act_does other Arg args w h = either other (nat_lt _ w.arguments) (Gives _ 0 w) (Faults BadArg)

-- the input that an act leaves is behind what it asked for, and where it does not go on it asked for none
abbrev Leaves : ℕ → List ℕ → Act → Type 0
Leaves n input (Gives v moved w) = w.input ≡ drop n input
Leaves n input (Exits k) = n ≡ 0
Leaves n input (Aborts text) = n ≡ 0
Leaves n input (Faults f) = n ≡ 0
Leaves n input Full = n ≡ 0

either_leaves : (n : ℕ) (input : List ℕ) (b : Bool) (p q : Act) → Leaves n input p → Leaves n input q → Leaves n input (if b then p else q)
either_leaves n input true p q h k = h
either_leaves n input false p q h k = k

freed_leaves : (w : World) (p : ℕ) (n : Option ℕ) → Leaves 0 w.input (freed w p n)
freed_leaves w p None = refl
freed_leaves w p (Some n) = refl

moved_leaves : (w : World) (n : ℕ) (m : Option Memory) → Leaves 0 w.input (moved w n m)
moved_leaves w n None = refl
moved_leaves w n (Some m) = refl

compared_leaves : (w : World) (n : ℕ) (b : Option Bool) → Leaves 0 w.input (compared w n b)
compared_leaves w n None = refl
compared_leaves w n (Some b) = refl

read_leaves : (w : World) (p n : ℕ) → Leaves (if all_mapped w.memory p n then n else 0) w.input (read w p n)
read_leaves w p n = pick (all_mapped w.memory p n) refl
  where
    pick : (b : Bool) → all_mapped w.memory p n ≡ b → Leaves (if all_mapped w.memory p n then n else 0) w.input (read w p n)
    pick true e = rw e refl
    pick false e = rw e refl

act_leaves : (f : RuntimeFunction) (args : List ℕ) (w : World) → Leaves (asked_by w f args) w.input (act f args w)
act_leaves Puts args w = either_leaves 0 w.input (all_mapped w.memory _ _)
    (Gives 0 _ (record w { output = w.output ++ bytes_at w.memory _ _ })) (Faults Wild) refl refl
act_leaves Write args w = either_leaves 0 w.input (all_mapped w.memory _ _)
    (Gives 0 _ (record w { output = w.output ++ bytes_at w.memory _ _ })) (Faults Wild) refl refl
act_leaves Read args w = read_leaves w _ _
act_leaves Malloc args w =
    either_leaves 0 w.input (nat_lt heap_size (live_bytes w.heap.blocks + round_up (max 1 _) 16)) (Gives 0 0 w)
    (if nat_lt heap_end (w.heap.next + max 1 _) then Full else Gives w.heap.next 0 (new_block w (max 1 _))) refl
    (either_leaves 0 w.input (nat_lt heap_end (w.heap.next + max 1 _)) Full (Gives w.heap.next 0 (new_block w (max 1 _))) refl refl)
act_leaves Free args w = freed_leaves w _ (block_size w.heap.blocks _)
act_leaves Move args w = moved_leaves w _ (move w.memory _ _ _)
act_leaves Same args w = compared_leaves w _ (same w.memory _ _ _)
act_leaves Abort args w = either_leaves 0 w.input (all_mapped w.memory _ _) (Aborts _) (Faults Wild) refl refl
act_leaves Exit args w = refl
act_leaves Nargs args w = refl
act_leaves Arg args w = either_leaves 0 w.input (nat_lt _ w.arguments) (Gives _ 0 w) (Faults BadArg) refl refl

-- ---- steps that ask for nothing

module _ (m : Module) (x : List ℕ) where
  value_with : (s : State) (v : IlValue) → value_of m (other_input s x) v ≡ value_of m s v
  value_with s (Number n) = refl
  value_with s (Temp t) = refl
  value_with s (Symbol name) = refl

  second_with : (s : State) (v : Option IlValue) → second_value m (other_input s x) v ≡ second_value m s v
  second_with s None = refl
  second_with s (Some v) = ap Some (value_with s v)

  args_with : (s : State) (args : List IlArg) → arg_values m (other_input s x) args ≡ arg_values m s args
  args_with s [] = refl
  args_with s (a ∷ args) = rw (value_with s a.value, args_with s args) refl

  phi_with : (s : State) (from : List ℕ) (args : List PhiArg) → phi_value m (other_input s x) from args ≡ phi_value m s from args
  phi_with s from [] = refl
  phi_with s from (a ∷ args) = rw (value_with s a.value, phi_with s from args) refl

  phis_with : (s : State) (phis : List Phi) (temps : Temps) → after_phis m (other_input s x) phis temps ≡ after_phis m s phis temps
  phis_with s [] temps = refl
  phis_with s (p ∷ phis) temps = rw (phi_with s s.active.place.from p.args) (phis_with s phis _)

  computed_with : (s : State) (temp : List ℕ) (class : Class) (v : Option (Result ℕ MachineFault)) →
      computed (other_input s x) temp class v ≡ step_with x (computed s temp class v)
  computed_with s temp class None = refl
  computed_with s temp class (Some (Ok v)) = refl
  computed_with s temp class (Some (Err f)) = refl

  loaded_with : (s : State) (temp : List ℕ) (class : Class) (extends : IlOp) (v : Option ℕ) →
      loaded (other_input s x) temp class extends v ≡ step_with x (loaded s temp class extends v)
  loaded_with s temp class extends None = refl
  loaded_with s temp class extends (Some v) = computed_with s temp class (op_value class extends v None)

  took_with : (s : State) (temp : List ℕ) (class : Class) (n : ℕ) (full : Bool) →
      took (other_input s x) temp class n full ≡ step_with x (took s temp class n full)
  took_with s temp class n true = refl
  took_with s temp class n false = refl

  set_with : (s : State) (temp : List ℕ) (class : Class) (op : IlOp) (k : Kind) (a : ℕ) (b : Option ℕ) →
      set_step (other_input s x) temp class op k a b ≡ step_with x (set_step s temp class op k a b)
  set_with s temp class op Takes a b = took_with s temp class a _
  set_with s temp class op (Loads width extends) a b = loaded_with s temp class extends _
  set_with s temp class op Computes a b = computed_with s temp class _

  stored_with : (s : State) (memory : Option Memory) → stored (other_input s x) memory ≡ step_with x (stored s memory)
  stored_with s None = refl
  stored_with s (Some memory) = refl

  blitted_with : (s : State) (n : ℕ) (overlaps : Bool) (memory : Option Memory) →
      blitted (other_input s x) n overlaps memory ≡ step_with x (blitted s n overlaps memory)
  blitted_with s n overlaps None = refl
  blitted_with s n true (Some memory) = refl
  blitted_with s n false (Some memory) = refl

  give_with : (s : State) (result : Option IlParam) (v : ℕ) →
      give_result (other_input s x) result v ≡ other_input (give_result s result v) x
  give_with s None v = refl
  give_with s (Some p) v = refl

  runtime_with : (s : State) (y : List ℕ) (result : Option IlParam) (a : Act) →
      runtime_step (other_input s y) result (act_with x a) ≡ step_with x (runtime_step s result a)
  runtime_with s y result (Gives v moved w) = ap (Goes (moved / 64)) (give_with (record s { world = w }) result v)
  runtime_with s y result (Exits k) = refl
  runtime_with s y result (Aborts text) = refl
  runtime_with s y result (Faults f) = refl
  runtime_with s y result Full = refl

  entered_with : (s : State) (result : Option IlParam) (f : Code) (values : List ℕ) (cost : ℕ) (full : Bool) →
      entered (other_input s x) result f values cost full ≡ step_with x (entered s result f values cost full)
  entered_with s result f values cost true = refl
  entered_with s result f values cost false = refl

  returned_with : (s : State) (v : ℕ) (waiting : List Waiting) → returned (other_input s x) v waiting ≡ step_with x (returned s v waiting)
  returned_with s v [] = refl
  returned_with s v (w ∷ waiting) = ap (Goes 0) (give_with _ w.result v)

  jump_with : (s : State) (j : Jump) → jump_step m (other_input s x) j ≡ step_with x (jump_step m s j)
  jump_with s Fall = refl
  jump_with s (Jmp label) = refl
  jump_with s (Jnz v one other) = ap (λ (c : ℕ). Goes 0 (jumped (other_input s x) (if cut W c == 0 then other else one))) (value_with s v)
  jump_with s (Ret None) = returned_with s 0 s.waiting
  jump_with s (Ret (Some v)) = ap (λ (c : ℕ). returned (other_input s x) c s.waiting) (value_with s v) ∙ returned_with s (value_of m s v)
      s.waiting
  jump_with s Hlt = refl

-- ---- any step

module _ (m : Module) (other : List ℕ) where
  runtime_does : (s : State) (result : Option IlParam) (f : Option RuntimeFunction) (values : List ℕ) →
      asked_of s.world f values ≤ length s.world.input
      → runtime_call (other_input s (take (asked_of s.world f values) s.world.input ++ other)) result f values ≡
      step_with other (runtime_call s result f values)
  runtime_does s result None values h = refl
  runtime_does s result (Some f) values h =
      let y = take (asked_by s.world f values) s.world.input ++ other in
      ap (runtime_step (other_input s y) result) (act_does other f values s.world h) ∙ runtime_with m other s y result
      (act f values s.world)

  call_does : (s : State) (result : Option IlParam) (target : List ℕ) (f : Option Code) (values : List ℕ) →
      asked_call s.world target f values ≤ length s.world.input
      → call_step (other_input s (take (asked_call s.world target f values) s.world.input ++ other)) result target f values ≡
      step_with other (call_step s result target f values)
  call_does s result target None values h = runtime_does s result (runtime_function target) values h
  call_does s result target (Some f) values h = entered_with m other s result f values _ _

  inst_does : (s : State) (i : Inst) → asked_inst m s i ≤ length s.world.input →
      inst_step m (other_input s (take (asked_inst m s i) s.world.input ++ other)) i ≡ step_with other (inst_step m s i)
  inst_does s (Set temp class op a b) h =
      ap (λ (v : ℕ). set_step (other_input s other) temp class op (kind_of op) v (second_value m (other_input s other) b))
      (value_with m other s a)
      ∙ ap (set_step (other_input s other) temp class op (kind_of op) (value_of m s a)) (second_with m other s b)
      ∙ set_with m other s temp class op (kind_of op) (value_of m s a) (second_value m s b)
  inst_does s (Store width value at) h =
      ap (λ (a : ℕ). stored (other_input s other) (store s.world.memory a (width_bytes width) (value_of m (other_input s other) value)))
      (value_with m other s at)
      ∙ ap (λ (v : ℕ). stored (other_input s other) (store s.world.memory (value_of m s at) (width_bytes width) v))
      (value_with m other s value)
      ∙ stored_with m other s (store s.world.memory (value_of m s at) (width_bytes width) (value_of m s value))
  inst_does s (Blit from to n) h =
      ap (λ (a : ℕ). let b = value_of m (other_input s other) to in blitted (other_input s other) n (overlap a b n)
      (move s.world.memory b a n)) (value_with m other s from)
      ∙ ap (λ (b : ℕ). let a = value_of m s from in blitted (other_input s other) n (overlap a b n) (move s.world.memory b a n))
      (value_with m other s to)
      ∙ blitted_with m other s n _ _
  inst_does s (Call result target args) h =
      let y = take (asked_inst m s (Call result target args)) s.world.input ++ other in
      ap (call_step (other_input s y) result target (function_named m.items target)) (args_with m y s args)
      ∙ call_does s result target (function_named m.items target) (arg_values m s args) h

  step_at_does : (s : State) (phis : List Phi) (insts : List Inst) (j : Jump) → asked_at m s phis insts ≤ length s.world.input
      → step_at m (other_input s (take (asked_at m s phis insts) s.world.input ++ other)) phis insts j ≡
      step_with other (step_at m s phis insts j)
  step_at_does s (p ∷ phis) insts j h =
      ap (λ (ts : Temps). let here = s.active.place in Goes (length phis)
      (at_place (with_temps (other_input s other) ts) (place_at here.from here.label [] here.insts here.jump here.behind)))
      (phis_with m other s (p ∷ phis) s.active.temps)
  step_at_does s [] [] j h = jump_with m other s j
  step_at_does s [] (i ∷ insts) j h = inst_does (behind_inst s insts) i h

  -- a step does the same with any other input that begins with what it asks for
  step_does : (s : State) → asked m s ≤ length s.world.input →
      step m (other_input s (take (asked m s) s.world.input ++ other)) ≡ step_with other (step m s)
  step_does s h = step_at_does s s.active.place.phis s.active.place.insts s.active.place.jump h

-- ---- where there is not enough

-- a step that asks for more than there is leaves nothing, and one that ends the run asks for nothing
abbrev Asks : ℕ → List ℕ → Step → Type 0
Asks n input (Goes more s) = length input < n → s.world.input ≡ []
Asks n input (Ends e) = n ≡ 0

asks_none : (input : List ℕ) (t : Step) → Asks 0 input t
asks_none input (Goes more s) = λ h. absurd (omega arith)
asks_none input (Ends e) = refl

give_same : (s : State) (result : Option IlParam) (v : ℕ) → (give_result s result v).world.input ≡ s.world.input
give_same s None v = refl
give_same s (Some p) v = refl

act_asks : (s : State) (n : ℕ) (input : List ℕ) (result : Option IlParam) (a : Act) → Leaves n input a →
    Asks n input (runtime_step s result a)
act_asks s n input result (Gives v moved w) h = λ l. give_same (record s { world = w }) result v ∙ h ∙ drop_all n input (omega arith)
act_asks s n input result (Exits k) h = h
act_asks s n input result (Aborts text) h = h
act_asks s n input result (Faults f) h = h
act_asks s n input result Full h = h

runtime_asks : (s : State) (result : Option IlParam) (f : Option RuntimeFunction) (values : List ℕ) →
    Asks (asked_of s.world f values) s.world.input (runtime_call s result f values)
runtime_asks s result None values = refl
runtime_asks s result (Some f) values = act_asks s (asked_by s.world f values) s.world.input result (act f values s.world)
    (act_leaves f values s.world)

call_asks : (s : State) (result : Option IlParam) (target : List ℕ) (f : Option Code) (values : List ℕ) →
    Asks (asked_call s.world target f values) s.world.input (call_step s result target f values)
call_asks s result target None values = runtime_asks s result (runtime_function target) values
call_asks s result target (Some f) values = asks_none s.world.input _

inst_asks : (m : Module) (s : State) (i : Inst) → Asks (asked_inst m s i) s.world.input (inst_step m s i)
inst_asks m s (Set temp class op a b) = asks_none s.world.input _
inst_asks m s (Store width value at) = asks_none s.world.input _
inst_asks m s (Blit from to n) = asks_none s.world.input _
inst_asks m s (Call result target args) = call_asks s result target (function_named m.items target) (arg_values m s args)

step_at_asks : (m : Module) (s : State) (phis : List Phi) (insts : List Inst) (j : Jump) →
    Asks (asked_at m s phis insts) s.world.input (step_at m s phis insts j)
step_at_asks m s (p ∷ phis) insts j = asks_none s.world.input (step_at m s (p ∷ phis) insts j)
step_at_asks m s [] [] j = asks_none s.world.input _
step_at_asks m s [] (i ∷ insts) j = inst_asks m (behind_inst s insts) i

step_asks : (m : Module) (s : State) → Asks (asked m s) s.world.input (step m s)
step_asks m s = step_at_asks m s s.active.place.phis s.active.place.insts s.active.place.jump

-- ---- runs

nothing_behind : (xs ys : List ℕ) → xs ++ ys ≡ [] → ys ≡ []
nothing_behind [] ys h = h
nothing_behind (x ∷ xs) ys h = cc

module _ (m : Module) where
  -- a run that has ended stays after any number of steps
  stays_ended : (k : ℕ) (r : Run) (e : End) → r.ended ≡ Some e → (after_steps m k r).ended ≡ Some e
  stays_ended zero r e h = h
  stays_ended (suc k) r e h = subst (λ (q : Run). (after_steps m k q).ended ≡ Some e) (sym (further-stays m r e h)) (stays_ended k r e h)

  -- a run that has ended, or whose budget is used, asks for nothing
  over_asks_none : (n : ℕ) (r : Run) (e : End) → r.ended ≡ Some e → MeetsEnd m n r → ⊥
  over_asks_none n r e h met = let a = stays_ended met.count r e h in let b = met.going.going in cc

  used_asks_none : (n : ℕ) (r : Run) → n ≤ r.used → MeetsEnd m n r → ⊥
  used_asks_none n r h met = let a = met.going.left in let b = after_steps-used m met.count r in absurd (omega arith)

  -- what so many steps within a budget take
  record TakesIn (f n : ℕ) (r : Run) : Type 0 where
    taken : List ℕ
    rest : taken ++ input_of (within m f n r) ≡ input_of r
    all : MeetsEnd m n r → input_of (within m f n r) ≡ []
    same : ¬ MeetsEnd m n r → (other : List ℕ) → within m f n (with_input r (taken ++ other)) ≡ with_input (within m f n r) other

  -- where no step is begun nothing is taken
  takes_none : (f n : ℕ) (r : Run) → within m f n r ≡ r → ((other : List ℕ) → within m f n (with_input r other) ≡ with_input r other) →
      (MeetsEnd m n r → ⊥) → TakesIn f n r
  takes_none f n r e e' none = record {
    taken = [];
    rest = ap input_of e;
    all = λ met. absurd (none met);
    same = λ never other. e' other ∙
        ap (λ (q : Run). with_input q other) (sym e);
  }

  -- a run that goes on, by its first step
  goes_on : (f n : ℕ) (r : Run) → r.ended ≡ None → r.used < n → within m (suc f) n r ≡ within m f n (after_step r (step m r.state))
  goes_on f n r unended left = within-goes m f n r left ∙ ap (λ (o : Option End). within m f n (unless_ended m r o)) unended

  met_later : (n : ℕ) (r : Run) → MeetsEnd m n (further m r) → MeetsEnd m n r
  met_later n r met = record { count = suc met.count; going = met.going; asks = met.asks }

  met_sooner : (n : ℕ) (r : Run) → asked m r.state ≤ length (input_of r) → (k : ℕ) → IsGoing n (after_steps m k r) →
      length (input_of (after_steps m k r)) < asked m (after_steps m k r).state → MeetsEnd m n (further m r)
  met_sooner n r enough zero begun asks = absurd (omega arith)
  met_sooner n r enough (suc k) begun asks = record { count = k; going = begun; asks = asks }

  abbrev left_by : Step → List ℕ
  left_by (Goes more s) = s.world.input
  left_by (Ends e) = []

  step_takes : (f n : ℕ) (r : Run) → r.ended ≡ None → r.used < n → TakesIn f n (after_step r (step m r.state)) → TakesIn (suc f) n r
  step_takes f n r unended left on = pick (step m r.state) refl on
    where
      pick : (t : Step) → step m r.state ≡ t → TakesIn f n (after_step r t) → TakesIn (suc f) n r
      pick (Ends e) h ih =
          let k : asked m r.state ≡ 0 = subst (Asks (asked m r.state) (input_of r)) h (step_asks m r.state) in
          let q : Run = after_step r (Ends e) in
          let further_q : further m r ≡ q = ap (unless_ended m r) unended ∙ ap (after_step r) h in
          let whole : within m (suc f) n r ≡ q =
          goes_on f n r unended left ∙ ap (λ (t : Step). within m f n (after_step r t)) h ∙ within-stays m f n q
          (further-stays m q e refl) in
          record {
            taken = [];
            rest = ap input_of whole;
            all = λ met. absurd (over_asks_none n q e refl
                (subst (MeetsEnd m n) further_q (met_sooner n r (omega arith) met.count met.going met.asks)));
            same = λ never other.
                goes_on f n (with_input r other) unended left
                ∙ ap (λ (t : Step). within m f n (after_step (with_input r other) t)) (
                ap (λ (j : ℕ). step m (other_input r.state (take j (input_of r) ++ other))) (sym k) ∙ step_does m other r.state
                (omega arith) ∙ ap (step_with other) h)
                ∙ within-stays m f n (with_input q other) (further-stays m (with_input q other) e refl)
                ∙ ap (λ (z : Run). with_input z other) (sym whole);
          }
      pick (Goes more s) h ih =
          let q : Run = after_step r (Goes more s) in
          let further_q : further m r ≡ q = ap (unless_ended m r) unended ∙ ap (after_step r) h in
          let whole : within m (suc f) n r ≡ within m f n q =
          goes_on f n r unended left ∙ ap (λ (t : Step). within m f n (after_step r t)) h in
          elim (order_of m (length (input_of r)) (asked m r.state)) [
            | less l ↦
                let empty : s.world.input ≡ [] = subst (Asks (asked m r.state) (input_of r)) h (step_asks m r.state) l in
                let nothing : input_of (within m (suc f) n r) ≡ [] = ap input_of whole ∙ nothing_behind ih.taken _ (ih.rest ∙ empty) in
                record {
                  taken = input_of r;
                  rest = ap (λ (ys : List ℕ). input_of r ++ ys) nothing ∙ append-nil (input_of r);
                  all = λ met. nothing;
                  same = λ never other. absurd (never (record { count = 0; going = record { going = unended; left = left }; asks = l }));
                }
            | most enough ↦
                let front = take (asked m r.state) (input_of r) in
                let behind = drop (asked m r.state) (input_of r) in
                let again : step m r.state ≡ step_with behind (step m r.state) =
                ap (λ (y : List ℕ). step m (other_input r.state y)) (sym (take-append-drop (asked m r.state) (input_of r))) ∙ step_does
                m behind r.state enough in
                let left_is : s.world.input ≡ behind = ap left_by (sym h ∙ again ∙ ap (step_with behind) h) in
                record {
                  taken = front ++ ih.taken;
                  rest = ap (λ (ys : List ℕ). (front ++ ih.taken) ++ ys) (ap input_of whole) ∙ append_assoc front ih.taken _ ∙ ap
                      (λ (ys : List ℕ). front ++ ys) (ih.rest ∙ left_is) ∙ take-append-drop (asked m r.state) (input_of r);
                  all = λ met. ap input_of whole ∙ ih.all
                      (subst (MeetsEnd m n) further_q (met_sooner n r enough met.count met.going met.asks));
                  same = λ never other.
                      let y = front ++ (ih.taken ++ other) in
                      ap (λ (z : List ℕ). within m (suc f) n (with_input r z)) (append_assoc front ih.taken other)
                      ∙ goes_on f n (with_input r y) unended left
                      ∙ ap (λ (t : Step). within m f n (after_step (with_input r y) t))
                      (step_does m (ih.taken ++ other) r.state enough ∙ ap (step_with (ih.taken ++ other)) h)
                      ∙ ih.same (λ met. never (met_later n r (subst (MeetsEnd m n) (sym further_q) met))) other
                      ∙ ap (λ (z : Run). with_input z other) (sym whole);
                }
          ]

  within_takes : (f n : ℕ) (r : Run) → n ≤ r.used + f → TakesIn f n r
  within_takes zero n r h = takes_none 0 n r refl (λ other. refl) (used_asks_none n r (omega arith))
  within_takes (suc f) n r h = elim (order_of m r.used n) [
    | most l ↦ takes_none (suc f) n r (within-stops m (suc f) n r l) (λ other. within-stops m (suc f) n (with_input r other) l)
        (used_asks_none n r l)
    | less l ↦ elim (ended_or_open m r) [
      | over e o ↦ takes_none (suc f) n r (within-stays m (suc f) n r (further-stays m r e o))
          (λ other. within-stays m (suc f) n (with_input r other) (further-stays m (with_input r other) e o)) (over_asks_none n r e o)
      | going o ↦ let u = after_step-used r (step m r.state) in step_takes f n r o l
          (within_takes f n (after_step r (step m r.state)) (omega arith))
    ]
  ]

-- the law
pub input_is_taken : InputIsTaken
input_is_taken m r n =
    let t = within_takes m (n - r.used) n r (omega arith) in record { taken = t.taken; rest = t.rest; all = t.all; same = t.same }
