-- Runs of the light machine from places before lines: what each line does.
use Rattle.std.proofs.Common.{◌≡◌, ℕ, zero, suc, ◌+◌, ◌*◌, ◌^◌, ◌<◌, ◌≤◌, ◌⊎◌, List, ◌∷◌, length, None, Some, refl, ap, arith}
use Rattle.hx_base.specs.declared.Class.TheVariants.{L}
use Rattle.hx_base.specs.Runtime.{World}
use Rattle.flat_code.specs.State as flat
use Rattle.flat_code.specs.State.{Result, Next, Left, Returned, HeapFull, Spent}
use Rattle.il_code.specs.declared.types.Block.{Block}
use Rattle.il_code.specs.declared.types.IlValue.{IlValue}
use Rattle.il_code.specs.declared.types.IlValue.TheVariants as il
use Rattle.il_code.specs.declared.types.Jump.TheVariants as jump
use Rattle.il_code.specs.declared.types.Module.{Module}
use Rattle.il_code.specs.Addresses.{address}
use Rattle.il_code.specs.Machine.{Temps, temp_value, cut, stack_size}
use Rattle.il_code.specs.Machine as machine
use Rattle.il_code.specs.MachineLaws.{jumps_and_calls}
use Rattle.il_code.specs.State.{State, Waiting, Done, Jumped, start_of}
use Rattle.il_code.specs.Step.{value_of, returned}
use Rattle.il_code.specs.Run.{Run}
use Rattle.il_tight.proofs.SameRuns.Light.{step, further, after_steps}
use Rattle.il_emit.specs.Names.{temp_name, frame_name, label_name}
use Rattle.il_emit.specs.Lines.{Line, End}
use Rattle.il_emit.specs.Reaches.{fault_for}
use Rattle.il_emit.proofs.Lines.Places.{line_blocks, place_of, Finds}

-- What stays as a call runs, once it has taken its frame: the name of its function and the lines of it, the bytes of the frame and its
-- address, the stack pointer, what the stack has cost with it, and the calls that wait for it.
pub record Activation : Type 0 where
  pub name : List ℕ
  pub lines : List Line
  pub frame : ℕ
  pub base : ℕ
  pub pointer : ℕ
  pub cost : ℕ
  pub waiting : List Waiting

-- what changes as it runs, besides the world
pub record Mark : Type 0 where
  pub used : ℕ
  pub from : List ℕ
  pub label : List ℕ
  pub temps : Temps
  pub done : List Done

-- how many jumps and calls were done
abbrev pub counted : Mark → ℕ
counted c = length c.done

-- the value of an operand
abbrev pub worth : Module → World → Temps → IlValue → ℕ
worth m w ts (il.Number n) = n
worth m w ts (il.Temp t) = temp_value w.memory.fill ts t
worth m w ts (il.Symbol s) = address m s

pub steps_more : (m : Module) (a b : ℕ) (r : Run) → after_steps m (a + b) r ≡ after_steps m b (after_steps m a r)
steps_more m zero b r = let e : 0 + b ≡ b = omega arith in rw e refl
steps_more m (suc a) b r = let e : suc a + b ≡ suc (a + b) = omega arith in rw e (steps_more m a b (further m r))

-- the temporaries of flat code hold the same
pub record Same (ts : List (ℕ × ℕ)) (temps : Temps) : Type 0 where
  pub at : (fill t : ℕ) → t < 2 ^ 64 → temp_value fill temps (temp_name t) ≡ flat.temp_value fill ts t

-- the address of the frame is in its temporary, where there is a frame
pub record HasFrame (call : Activation) (temps : Temps) : Type 0 where
  pub at : 0 < call.frame → (fill : ℕ) → temp_value fill temps frame_name ≡ cut L call.base

-- What a call holds of a state of flat code: its temporaries, its frame, where the next frame begins, and no more than the cost of all
-- calls. Memory is one and the same in both.
pub record Holds (call : Activation) (s : flat.State) (c : Mark) : Type 0 where
  pub same : Same s.temps c.temps
  pub frame : HasFrame call c.temps
  pub base : s.frame ≡ call.base
  pub top : s.top ≡ call.pointer
  pub cost : call.cost ≤ s.cost

-- where each exit leads that a Seq or Loop adds
abbrev pub out_of : List Line → (ℕ → List Line) → ℕ → List Line
out_of rest out zero = rest
out_of rest out (suc k) = out k

module _ (m : Module) (call : Activation) where
  abbrev pub state_at : List Line → World → Mark → State
  state_at ls w c = record {
    active = record {
      function = call.name;
      blocks = line_blocks call.lines;
      place = place_of c.from c.label ls;
      temps = c.temps;
      pointer =
          call.pointer;
      cost = call.cost;
    };
    waiting = call.waiting;
    world = w;
    done = c.done;
  }

  -- the run that stands before these lines
  abbrev pub before : List Line → World → Mark → Run
  before ls w c = record { used = c.used; ended = None; state = state_at ls w c }

  pub value_is : (ls : List Line) (w : World) (c : Mark) (v : IlValue) → value_of m (state_at ls w c) v ≡ worth m w c.temps v
  value_is ls w c (il.Number n) = refl
  value_is ls w c (il.Temp t) = refl
  value_is ls w c (il.Symbol s) = refl

  -- ---- jumps

  -- behind a jump to a label
  abbrev pub jumped_to : ℕ → Mark → Mark
  jumped_to n c = record c { used = c.used + 1 + 0; from = c.label; label = label_name n; done = Jumped call.name (label_name n) ∷ c.done }

  pub jump_step : (n : ℕ) (ls rest : List Line) (w : World) (c : Mark) → Finds call.lines n ls →
      further m (before (End (jump.Jmp (label_name n)) ∷ rest) w c) ≡ before ls w (jumped_to n c)
  jump_step n ls rest w c h =
      ap (λ (bs : List Block). record {
        used = c.used + 1 + 0;
        ended = None;
        state = record {
          active = record {
            function = call.name;
            blocks = line_blocks call.lines;
            place = start_of c.label bs;
            temps = c.temps;
            pointer =
                call.pointer;
            cost = call.cost;
          };
          waiting = call.waiting;
          world = w;
          done = Jumped call.name (label_name n) ∷ c.done;
        };
      }) h.blocks

  -- a label is passed at no cost
  abbrev pub passed : ℕ → Mark → Mark
  passed n c = record c { from = c.label; label = label_name n }

  -- ---- what a run comes to

  -- it comes before lines, in the world of a state of flat code, with no fewer jumps. Four units are paid for each flat step: `low` for
  -- those before, and `high` units may be used besides.
  pub record Comes (q low high : ℕ) (r : Run) (s : flat.State) (ls : List Line) : Type 0 where
    pub to : Mark
    pub count : ℕ
    pub by : after_steps m count r ≡ before ls s.world to
    pub holds : Holds call s to
    pub jumps : q ≤ counted to
    pub units : to.used + low ≤ high + 4 * s.steps

  -- it ends
  pub record Stops (low high : ℕ) (r : Run) (s : flat.State) (e : machine.End) : Type 0 where
    pub count : ℕ
    pub ended : (after_steps m count r).ended ≡ Some e
    pub world : (after_steps m count r).state.world ≡ s.world
    pub units : (after_steps m count r).used + low ≤ high + 4 * s.steps

  -- it goes on, after `n` jumps more
  pub record GoesOn (n q low high : ℕ) (r : Run) (s : flat.State) : Type 0 where
    pub count : ℕ
    pub ended : (after_steps m count r).ended ≡ None
    pub world : (after_steps m count r).state.world ≡ s.world
    pub jumps : q + n ≤ jumps_and_calls (after_steps m count r)
    pub units : (after_steps m count r).used + low ≤ high + 4 * s.steps

  -- it comes to a return with a value
  pub record Returns (q low high : ℕ) (r : Run) (s : flat.State) (v : ℕ) : Type 0 where
    pub to : Mark
    pub lines : List Line
    pub count : ℕ
    pub by : after_steps m count r ≡ before lines s.world to
    pub returns : step m (state_at lines s.world to) ≡ returned (state_at lines s.world to) v call.waiting
    pub holds : Holds call s to
    pub jumps : q ≤ counted to
    pub units : to.used + 1 + low ≤ high + 4 * s.steps

  -- the stack is full, and calls that were active at once cost more than it holds
  pub record Fills (r : Run) (s : flat.State) : Type 0 where
    pub count : ℕ
    pub ended : (after_steps m count r).ended ≡ Some machine.StackFull
    pub most : stack_size < s.most

  -- what it comes to, by how code ends that begins there, where `rest` are the lines behind it and `out` those behind each exit
  abbrev pub Does : (n q low high : ℕ) (out : ℕ → List Line) (rest : List Line) → Run → Result → Type 0
  Does n q low high out rest r (Next, s) = Comes q low high r s rest
  Does n q low high out rest r (Left k, s) = Comes q low high r s (out k)
  Does n q low high out rest r (Returned v, s) = Returns q low high r s v
  Does n q low high out rest r (flat.Exit k, s) = Stops low high r s (machine.Exit k)
  Does n q low high out rest r (flat.Abort t, s) = Stops low high r s (machine.Abort t)
  Does n q low high out rest r (flat.Fault f, s) = Stops low high r s (machine.Fault (fault_for f))
  Does n q low high out rest r (HeapFull, s) = Stops low high r s machine.StackFull
  Does n q low high out rest r (Spent, s) = GoesOn n q low high r s

  -- it comes there, or the stack is full before
  abbrev pub Meets : (n q low high : ℕ) (out : ℕ → List Line) (rest : List Line) → Run → Result → Type 0
  Meets n q low high out rest r res = Does n q low high out rest r res ⊎ Fills r res.1
