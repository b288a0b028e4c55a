-- A module on the light machine and the same one with tight functions on the machine do the same, step by step.
use Rattle.std.proofs.Common.{◌≡◌, ℕ, ◌+◌, ◌-◌, Bool, true, false, not, ◌&&◌, List, [], ◌∷◌, ◌++◌, map, Option, None, Some, refl, sym, ap, ◌∙◌, subst}
use Rattle.std.specs.Prelude.{bytes_eq, max, nat_lt, Ok, Err, ◌==◌, if◌then◌else◌}
use Rattle.std.specs.List.{AllByRecursion}
use Rattle.std.proofs.lemmas.Bool.{and_parts}
use Rattle.hx_base.specs.declared.Class.{Class}
use Rattle.hx_base.specs.declared.Class.TheVariants.{W}
use Rattle.hx_base.specs.Memory.{Memory, load, map_range, move, store, unmap_range}
use Rattle.hx_base.specs.Runtime.{World, Act, Gives, Exits, Aborts, Faults, Full}
use Rattle.hx_runtime.specs.Functions.{act, runtime_function}
use Rattle.hx_runtime.specs.declared.runtime.RuntimeFunction.{RuntimeFunction}
use Rattle.hx_table.proofs.TableLemmas.{same_name}
use Rattle.il_code.specs.declared.op.IlOp.{IlOp}
use Rattle.il_code.specs.declared.types.Block.{Block}
use Rattle.il_code.specs.declared.types.IlArg.{IlArg}
use Rattle.il_code.specs.declared.types.IlParam.{IlParam}
use Rattle.il_code.specs.declared.types.IlValue.{IlValue}
use Rattle.il_code.specs.declared.types.IlValue.TheVariants.{Number, Temp, Symbol}
use Rattle.il_code.specs.declared.types.Inst.{Inst}
use Rattle.il_code.specs.declared.types.Inst.TheVariants.{Set, Store, Blit, Call}
use Rattle.il_code.specs.declared.types.Jump.{Jump}
use Rattle.il_code.specs.declared.types.Jump.TheVariants.{Fall, Jmp, Jnz, Ret, Hlt}
use Rattle.il_code.specs.declared.types.Module.{Module}
use Rattle.il_code.specs.declared.types.Phi.{Phi}
use Rattle.il_code.specs.Addresses.{address, width_bytes}
use Rattle.il_code.specs.Machine.{End, Temps, call_cost, cut, stack_size}
use Rattle.il_code.specs.Operations.{Outcome, op_value}
use Rattle.il_code.specs.Rules.{targets_pass}
use Rattle.il_code.specs.Shaped.{falls}
use Rattle.il_code.specs.State.{Place, place_at, start_of, blocks_from, Code, function_named, Frame, Waiting, Done, Jumped, Called, State}
use Rattle.il_code.specs.Step.{Step, Goes, Ends, Kind, Takes, Loads, Computes, kind_of, value_of, second_value, arg_values, computed, loaded, took, taken, set_step, stored, blitted, overlap, runtime_step, runtime_call, call_step, enter, entered, bound, inst_step, returned, step}
use Rattle.il_tight.specs.Tight.{is_closed, dropped, keeps_settings, all_lacking, read_by, set_by, stops, last_block, unset}
use Rattle.il_tight.proofs.KeptBlocks.Behind.{Sealed, Apart, IsZeros, from_apart}
use Rattle.il_tight.proofs.KeptBlocks.Kept.{into_insts, into_jump, whole, kept}
use Rattle.il_tight.proofs.SameRuns.Light as light
use Rattle.il_tight.proofs.SameRuns.Light.{price}
use Rattle.il_tight.proofs.KeptBlocks.Staying.{first_stays}

-- no block has a phi
abbrev pub Plain : List Block → Type 0
Plain [] = Unit {0}
Plain (b ∷ bs) = (b.phis ≡ []) × Plain bs

pub plain_kept : (stays : List ℕ → Bool) (bs : List Block) → Plain bs → Plain (kept stays bs)
plain_kept stays [] p = tt
plain_kept stays (b ∷ bs) p = pick (stays b.label) (plain_kept stays bs p.1)
  where
    pick : (z : Bool) → Plain (kept stays bs) → Plain (if z then whole stays b bs ∷ kept stays bs else kept stays bs)
    pick true on = (p.0, on)
    pick false on = on

pub plain_append : (xs ys : List Block) → Plain xs → Plain ys → Plain (xs ++ ys)
plain_append [] ys p q = q
plain_append (x ∷ xs) ys p q = (p.0, plain_append xs ys p.1 q)

pub unset_plain : (params : List IlParam) (stays : List ℕ → Bool) (bs : List Block) → Plain (unset params stays bs)
unset_plain params stays bs = pick (stops false bs && not (keeps_settings stays false bs))
  where
    one : (ds : List Block) (is : List Inst) → Plain (last_block ds is)
    one [] is = tt
    one (d ∷ ds) [] = tt
    one (d ∷ ds) (i ∷ is) = (refl, tt)

    pick : (z : Bool) → Plain (if z
        then last_block (dropped stays false bs) (all_lacking (read_by stays bs) (set_by params stays bs) (dropped stays false bs))
        else [])
    pick true = one (dropped stays false bs) _
    pick false = tt

-- what holds of a place among the blocks of a function: the jumps behind it name labels that stay, and control does not fall into the
-- tail that the tight function has behind these blocks
pub record Lies (stays : List ℕ → Bool) (tail : List Block) (jump : Jump) (behind : List Block) : Type 0 where
  pub passes : targets_pass stays jump ≡ true
  pub closed : is_closed stays (falls jump) behind ≡ true
  pub plain : Plain behind
  pub sealed : Sealed tail (not (falls jump)) behind

-- ---- calls in both

-- an active call: its function's blocks, the labels that stay, the last blocks of the tight function, and the place in them with the tail
-- behind it
pub record Twin : Type 0 where
  pub function : List ℕ
  pub blocks : List Block
  pub stays : List ℕ → Bool
  pub last : List Block
  pub insts : List Inst
  pub jump : Jump
  pub behind : List Block
  pub tail : List Block
  pub from : List ℕ
  pub label : List ℕ
  pub from_tight : List ℕ
  pub label_tight : List ℕ
  pub temps : Temps
  pub pointer : ℕ
  pub cost : ℕ

abbrev pub loose_frame : Twin → Frame
loose_frame t = record {
  function = t.function;
  blocks = t.blocks;
  place = place_at t.from t.label [] t.insts t.jump t.behind;
  temps = t.temps;
  pointer = t.pointer;
  cost = t.cost;
}

abbrev pub tight_frame : Twin → Frame
tight_frame t = record {
  function = t.function;
  blocks = kept t.stays t.blocks ++ t.last;
  place =
      place_at t.from_tight t.label_tight [] (t.insts ++ into_insts t.stays (falls t.jump) t.behind) (into_jump t.stays t.jump t.behind)
      (kept t.stays t.behind ++ t.tail);
  temps = t.temps;
  pointer = t.pointer;
  cost = t.cost;
}

-- what holds of the blocks of a function
pub record IsSound (stays : List ℕ → Bool) (last blocks : List Block) : Type 0 where
  pub closed : is_closed stays false blocks ≡ true
  pub plain : Plain blocks
  pub apart : Apart stays last
  pub sealed : Sealed last false blocks

pub record IsGood (stays : List ℕ → Bool) (last tail blocks : List Block) (jump : Jump) (behind : List Block) : Type 0 where
  pub sound : IsSound stays last blocks
  pub lies : Lies stays tail jump behind

abbrev pub GoodTwin : Twin → Type 0
GoodTwin t = IsGood t.stays t.last t.tail t.blocks t.jump t.behind

abbrev pub AllGood : List (Twin × Option IlParam) → Type 0
AllGood [] = Unit {0}
AllGood (w ∷ ws) = GoodTwin w.0 × AllGood ws

pub record Pair : Type 0 where
  pub active : Twin
  pub waiting : List (Twin × Option IlParam)
  pub world : World
  pub done : List Done

abbrev pub loose_waiting : Twin × Option IlParam → Waiting
loose_waiting w = record { frame = loose_frame w.0; result = w.1 }

abbrev pub tight_waiting : Twin × Option IlParam → Waiting
tight_waiting w = record { frame = tight_frame w.0; result = w.1 }

abbrev pub loose_state : Pair → State
loose_state s =
    record { active = loose_frame s.active; waiting = map loose_waiting s.waiting; world = s.world; done = s.done }

abbrev pub tight_state : Pair → State
tight_state s =
    record { active = tight_frame s.active; waiting = map tight_waiting s.waiting; world = s.world; done = s.done }

pub record GoodPair (s : Pair) : Type 0 where
  pub active : GoodTwin s.active
  pub waiting : AllGood s.waiting

pub data SameStep : Step → Step → Type 0 where
  goes : (more : ℕ) (s : Pair) → GoodPair s → SameStep (Goes more (loose_state s)) (Goes more (tight_state s))
  ends : (e : End) → SameStep (Ends e) (Ends e)

-- ---- where a jump comes to

pub record Landing (stays : List ℕ → Bool) (l l' : List ℕ) (loose tight : List Block) : Type 0 where
  pub insts : List Inst
  pub jump : Jump
  pub behind : List Block
  pub tail : List Block
  pub label : List ℕ
  pub lies : Lies stays tail jump behind
  pub loose_is : start_of l loose ≡ place_at l label [] insts jump behind
  pub tight_is : start_of l' tight ≡ place_at l' label [] (insts ++ into_insts stays (falls jump) behind) (into_jump stays jump behind)
      (kept stays behind ++ tail)

module _ (stays : List ℕ → Bool) (l l' : List ℕ) where
  pub nowhere_lands : Landing stays l l' [] []
  nowhere_lands = record {
    insts = [];
    jump = Hlt;
    behind = [];
    tail = [];
    label = [];
    lies = record { passes = refl; closed = refl; plain = tt; sealed = refl };
    loose_is = refl;
    tight_is = refl;
  }

  -- at the start of a block that stays
  pub block_lands : (tail : List Block) (b : Block) (bs : List Block) → b.phis ≡ [] → Lies stays tail b.jump bs →
      Landing stays l l' (b ∷ bs) (whole stays b bs ∷ (kept stays bs ++ tail))
  block_lands tail b bs e lies = record {
    insts = b.insts;
    jump = b.jump;
    behind = bs;
    tail = tail;
    label = b.label;
    lies = lies;
    loose_is = ap (λ (ps : List Phi). place_at l b.label ps b.insts b.jump bs) e;
    tight_is =
        ap (λ (ps : List Phi). place_at l' b.label ps (b.insts ++ into_insts stays (falls b.jump) bs) (into_jump stays b.jump bs)
        (kept stays bs ++ tail)) e;
  }

  -- what is closed at a block that stays
  pub closed_here : (into : Bool) (b : Block) (bs : List Block) → stays b.label ≡ true → is_closed stays into (b ∷ bs) ≡ true →
      (targets_pass stays b.jump && is_closed stays (falls b.jump) bs) ≡ true
  closed_here true b bs e h = h
  closed_here false b bs e h = rw e at h

  module _ (last : List Block) (apart : Apart stays last) where
    pub jump_lands : (x : List ℕ) → stays x ≡ true → (into stopped : Bool) (bs : List Block) → is_closed stays into bs ≡ true →
        Plain bs → Sealed last stopped bs → Landing stays l l' (blocks_from x bs) (blocks_from x (kept stays bs ++ last))
    jump_lands x s into stopped [] h p z =
        subst (λ (ys : List Block). Landing stays l l' [] ys) (sym (from_apart stays x s last apart)) nowhere_lands
    jump_lands x s into stopped (b ∷ bs) h p z =
        pick (bytes_eq b.label x) refl (λ i c. jump_lands x s i (not (falls b.jump)) bs c p.1 z)
      where
        Rest : Type 0
        Rest =
            (i : Bool) → is_closed stays i bs ≡ true → Landing stays l l' (blocks_from x bs) (blocks_from x (kept stays bs ++ last))

        Goal : Type 0
        Goal = Landing stays l l' (blocks_from x (b ∷ bs)) (blocks_from x (kept stays (b ∷ bs) ++ last))

        here : stays b.label ≡ true → bytes_eq b.label x ≡ true → Goal
        here t e =
            let k = and_parts (targets_pass stays b.jump) _ (closed_here into b bs t h) in
            rw (t, e) (block_lands last b bs p.0 (record { passes = k.0; closed = k.1; plain = p.1; sealed = z }))

        skip : (i : Bool) → is_closed stays i (b ∷ bs) ≡ true → stays b.label ≡ false → bytes_eq b.label x ≡ false → Rest → Goal
        skip true c t e on =
            let k = and_parts (targets_pass stays b.jump) _ c in
            rw (t, e) (on (falls b.jump) k.1)
        skip false c t e on =
            let c' = rw t at c in
            rw (t, e) (on false c')

        past : (y : Bool) → stays b.label ≡ y → bytes_eq b.label x ≡ false → Rest → Goal
        past true t e on =
            let k = and_parts (targets_pass stays b.jump) _ (closed_here into b bs t h) in
            rw (t, e) (on (falls b.jump) k.1)
        past false t e on = skip into h t e on

        pick : (y : Bool) → bytes_eq b.label x ≡ y → Rest → Goal
        pick true e on = here (ap stays (same_name b.label x e) ∙ s) e
        pick false e on = past (stays b.label) refl e on

-- ---- one step

-- a function of a module, and of the one whose functions are tight
pub record IsWhole (stays : List ℕ → Bool) (last : List Block) (params : List IlParam) (blocks : List Block) : Type 0 where
  pub opens : (l l' : List ℕ) → Landing stays l l' blocks (kept stays blocks ++ last)
  pub first : first_stays stays blocks ≡ true
  pub sound : IsSound stays last blocks
  pub zeros : AllByRecursion IsZeros last
  pub cost : call_cost params (kept stays blocks ++ last) ≡ price params blocks

pub data SameCode : Option Code → Option Code → Type 0 where
  no_code : SameCode None None
  one_code : (f : Code) (stays : List ℕ → Bool) (last : List Block) → IsWhole stays last f.params f.blocks →
      SameCode (Some f) (Some (record f { blocks = kept stays f.blocks ++ last }))

abbrev pub with_temp : Pair → List ℕ → ℕ → Pair
with_temp s temp v = let t = s.active in record s { active = record t { temps = (temp, v) ∷ t.temps } }

abbrev pub with_world : Pair → World → Pair
with_world s w = record s { world = w }

abbrev pub with_bytes : Pair → Memory → Pair
with_bytes s memory = let w = s.world in record s { world = record w { memory = memory } }

computed_same : (s : Pair) (temp : List ℕ) (class : Class) (o : Outcome) → GoodPair s →
    SameStep (computed (loose_state s) temp class o) (computed (tight_state s) temp class o)
computed_same s temp class None g = ends _
computed_same s temp class (Some (Ok v)) g =
    goes 0 (with_temp s temp (cut class v)) (record { active = g.active; waiting = g.waiting })
computed_same s temp class (Some (Err f)) g = ends _

loaded_same : (s : Pair) (temp : List ℕ) (class : Class) (o : IlOp) (v : Option ℕ) → GoodPair s →
    SameStep (loaded (loose_state s) temp class o v) (loaded (tight_state s) temp class o v)
loaded_same s temp class o None g = ends _
loaded_same s temp class o (Some v) g = computed_same s temp class (op_value class o v None) g

abbrev pub risen : Pair → List ℕ → Class → ℕ → Pair
risen s temp class n =
    let t = s.active in
    let w = s.world in
    record s {
      active = record t {
        temps = (temp, cut class t.pointer) ∷ t.temps;
        pointer = t.pointer + taken n;
        cost = t.cost + taken n;
      };
      world = record w { memory = map_range w.memory t.pointer (max 1 n) };
    }

took_same : (s : Pair) (temp : List ℕ) (class : Class) (n : ℕ) (full : Bool) → GoodPair s →
    SameStep (took (loose_state s) temp class n full) (took (tight_state s) temp class n full)
took_same s temp class n true g = ends _
took_same s temp class n false g = goes 0 (risen s temp class n) (record { active = g.active; waiting = g.waiting })

set_same : (s : Pair) (temp : List ℕ) (class : Class) (o : IlOp) (k : Kind) (a : ℕ) (b : Option ℕ) → GoodPair s →
    SameStep (set_step (loose_state s) temp class o k a b) (set_step (tight_state s) temp class o k a b)
set_same s temp class o Takes a b g = took_same s temp class a (nat_lt stack_size (s.active.cost + taken a)) g
set_same s temp class o (Loads width extends) a b g = loaded_same s temp class extends (load s.world.memory a width) g
set_same s temp class o Computes a b g = computed_same s temp class (op_value class o a b) g

stored_same : (s : Pair) (o : Option Memory) → GoodPair s → SameStep (stored (loose_state s) o) (stored (tight_state s) o)
stored_same s None g = ends _
stored_same s (Some memory) g = goes 0 (with_bytes s memory) (record { active = g.active; waiting = g.waiting })

blitted_same : (s : Pair) (n : ℕ) (z : Bool) (o : Option Memory) → GoodPair s →
    SameStep (blitted (loose_state s) n z o) (blitted (tight_state s) n z o)
blitted_same s n z None g = ends _
blitted_same s n true (Some memory) g = ends _
blitted_same s n false (Some memory) g = goes _ (with_bytes s memory) (record { active = g.active; waiting = g.waiting })

-- the result of a call
abbrev pub with_result : Pair → Option IlParam → ℕ → Pair
with_result s None v = s
with_result s (Some p) v = with_temp s p.name (cut p.class v)

runtime_same : (s : Pair) (result : Option IlParam) (a : Act) → GoodPair s →
    SameStep (runtime_step (loose_state s) result a) (runtime_step (tight_state s) result a)
runtime_same s None (Gives v moved w) g = goes _ (with_world s w) (record { active = g.active; waiting = g.waiting })
runtime_same s (Some p) (Gives v moved w) g =
    goes _ (with_result (with_world s w) (Some p) v) (record { active = g.active; waiting = g.waiting })
runtime_same s result (Exits status) g = ends _
runtime_same s result (Aborts text) g = ends _
runtime_same s result (Faults f) g = ends _
runtime_same s result Full g = ends _

runtime_call_same : (s : Pair) (result : Option IlParam) (f : Option RuntimeFunction) (vs : List ℕ) → GoodPair s →
    SameStep (runtime_call (loose_state s) result f vs) (runtime_call (tight_state s) result f vs)
runtime_call_same s result None vs g = ends _
runtime_call_same s result (Some f) vs g = runtime_same s result (act f vs s.world) g

-- a call that begins
abbrev pub called_twin : (f : Code) (stays : List ℕ → Bool) (last : List Block) →
    Landing stays [] [] f.blocks (kept stays f.blocks ++ last) → List ℕ → (pointer cost : ℕ) → Twin
called_twin f stays last at vs pointer cost = record {
  function = f.name;
  blocks = f.blocks;
  stays = stays;
  last = last;
  insts = at.insts;
  jump = at.jump;
  behind = at.behind;
  tail = at.tail;
  from = [];
  label = at.label;
  from_tight = [];
  label_tight = at.label;
  temps = bound f.params vs;
  pointer = pointer;
  cost = cost;
}

-- the states behind a call that begins, at these places
abbrev pub begun : (s : State) → Option IlParam → Code → List ℕ → (cost : ℕ) → Place → State
begun s result f vs cost place = record s {
  active = record {
    function = f.name;
    blocks = f.blocks;
    place = place;
    temps = bound f.params vs;
    pointer = s.active.pointer;
    cost = cost;
  };
  waiting = record { frame = s.active; result = result } ∷ s.waiting;
  done = Called f.name ∷ s.done;
}

module _ (s : Pair) (result : Option IlParam) (f : Code) (stays : List ℕ → Bool) (last : List Block)
    (w : IsWhole stays last f.params f.blocks) (vs : List ℕ) (g : GoodPair s) where
  abbrev tight_ones : List Block
  tight_ones = kept stays f.blocks ++ last

  abbrev tight_code : Code
  tight_code = record f { blocks = tight_ones }

  abbrev at : Landing stays [] [] f.blocks tight_ones
  at = w.opens [] []

  abbrev behind_call : ℕ → Pair
  behind_call cost = record {
    active = called_twin f stays last at vs s.active.pointer cost;
    waiting = (s.active, result) ∷ s.waiting;
    world = s.world;
    done = Called f.name ∷ s.done;
  }

  entered_same : (cost : ℕ) (full : Bool) →
      SameStep (entered (loose_state s) result f vs cost full) (entered (tight_state s) result tight_code vs cost full)
  entered_same cost true = ends _
  entered_same cost false =
      subst (λ (x : Place). SameStep (Goes 0 (begun (loose_state s) result f vs cost x))
      (Goes 0 (begun (tight_state s) result tight_code vs cost (start_of [] tight_ones)))) (sym at.loose_is)
      (subst (λ (x : Place). SameStep
      (Goes 0 (begun (loose_state s) result f vs cost (place_at [] at.label [] at.insts at.jump at.behind)))
      (Goes 0 (begun (tight_state s) result tight_code vs cost x))) (sym at.tight_is)
      (goes 0 (behind_call cost) (record { active = record { sound = w.sound; lies = at.lies }; waiting = (g.active, g.waiting) })))

  enter_same : SameStep (light.enter (loose_state s) result f vs) (enter (tight_state s) result tight_code vs)
  enter_same =
      let cost = s.active.cost + price f.params f.blocks in
      subst (λ (n : ℕ). SameStep (light.enter (loose_state s) result f vs)
      (entered (tight_state s) result tight_code vs (s.active.cost + n) (nat_lt stack_size (s.active.cost + n)))) (sym w.cost)
      (entered_same cost (nat_lt stack_size cost))

call_same : (s : Pair) (result : Option IlParam) (target : List ℕ) (o o' : Option Code) (vs : List ℕ) → SameCode o o' → GoodPair s →
    SameStep (light.call_step (loose_state s) result target o vs) (call_step (tight_state s) result target o' vs)
call_same s result target _ _ vs no_code g = runtime_call_same s result (runtime_function target) vs g
call_same s result target _ _ vs (one_code f stays last w) g = enter_same s result f stays last w vs g

-- a return
returned_same : (s : Pair) (v : ℕ) (ws : List (Twin × Option IlParam)) → AllGood ws →
    SameStep (returned (loose_state s) v (map loose_waiting ws)) (returned (tight_state s) v (map tight_waiting ws))
returned_same s v [] g = ends _
returned_same s v ((t, None) ∷ ws) g =
    goes 0 (with_bytes (record s { active = t; waiting = ws })
    (unmap_range s.world.memory t.pointer (s.active.pointer - t.pointer))) (record { active = g.0; waiting = g.1 })
returned_same s v ((t, Some p) ∷ ws) g =
    goes 0 (with_temp (with_bytes (record s { active = t; waiting = ws })
    (unmap_range s.world.memory t.pointer (s.active.pointer - t.pointer))) p.name (cut p.class v))
    (record { active = g.0; waiting = g.1 })

-- behind a jump
abbrev pub arrived : State → List ℕ → Place → State
arrived s x place = let f = s.active in record s { active = record f { place = place }; done = Jumped f.function x ∷ s.done }

abbrev pub landed_twin : (t : Twin) (l l' : List ℕ) {xs ys : List Block} → Landing t.stays l l' xs ys → Twin
landed_twin t l l' at = record t {
  insts = at.insts;
  jump = at.jump;
  behind = at.behind;
  tail = at.tail;
  from = l;
  label = at.label;
  from_tight = l';
  label_tight = at.label;
}

landed_same : (s : Pair) (x l l' : List ℕ) (xs ys : List Block) → GoodPair s → Landing s.active.stays l l' xs ys →
    SameStep (Goes 0 (arrived (loose_state s) x (start_of l xs))) (Goes 0 (arrived (tight_state s) x (start_of l' ys)))
landed_same s x l l' xs ys g at =
    subst (λ (p : Place). SameStep (Goes 0 (arrived (loose_state s) x p)) (Goes 0 (arrived (tight_state s) x (start_of l' ys))))
    (sym at.loose_is)
    (subst (λ (p : Place). SameStep (Goes 0 (arrived (loose_state s) x (place_at l at.label [] at.insts at.jump at.behind)))
    (Goes 0 (arrived (tight_state s) x p))) (sym at.tight_is)
    (goes 0 (record s { active = landed_twin s.active l l' at; done = Jumped s.active.function x ∷ s.done })
    (record { active = record { sound = g.active.sound; lies = at.lies }; waiting = g.waiting })))

module _ (m m' : Module) (addresses : (name : List ℕ) → address m' name ≡ address m name)
    (functions : (name : List ℕ) → SameCode (function_named m.items name) (function_named m'.items name)) where
  value_same : (s : Pair) (v : IlValue) → value_of m' (tight_state s) v ≡ value_of m (loose_state s) v
  value_same s (Number n) = refl
  value_same s (Temp t) = refl
  value_same s (Symbol name) = addresses name

  second_same : (s : Pair) (v : Option IlValue) → second_value m' (tight_state s) v ≡ second_value m (loose_state s) v
  second_same s None = refl
  second_same s (Some v) = ap Some (value_same s v)

  args_same : (s : Pair) (args : List IlArg) → arg_values m' (tight_state s) args ≡ arg_values m (loose_state s) args
  args_same s [] = refl
  args_same s (a ∷ args) =
      let one = value_same s a.value in
      let others = args_same s args in
      rw (one, others) refl

  inst_same : (s : Pair) (i : Inst) → GoodPair s → SameStep (light.inst_step m (loose_state s) i) (inst_step m' (tight_state s) i)
  inst_same s (Set temp class o a b) g =
      rw (value_same s a, second_same s b)
      (set_same s temp class o (kind_of o) (value_of m (loose_state s) a) (second_value m (loose_state s) b) g)
  inst_same s (Store width value at) g =
      rw (value_same s value, value_same s at)
      (stored_same s (store s.world.memory (value_of m (loose_state s) at) (width_bytes width) (value_of m (loose_state s) value)) g)
  inst_same s (Blit from to n) g =
      rw (value_same s from, value_same s to)
      (blitted_same s n (overlap (value_of m (loose_state s) from) (value_of m (loose_state s) to) n)
      (move s.world.memory (value_of m (loose_state s) to) (value_of m (loose_state s) from) n) g)
  inst_same s (Call result target args) g =
      rw (args_same s args) (call_same s result target (function_named m.items target) (function_named m'.items target)
      (arg_values m (loose_state s) args) (functions target) g)

  -- the calls that a step begins in
  abbrev pub Stepped : Pair → Type 0
  Stepped s = SameStep (light.step m (loose_state s)) (step m' (tight_state s))

  jump_to : (s : Pair) (x : List ℕ) → GoodPair s → s.active.stays x ≡ true → (l l' : List ℕ) →
      SameStep (Goes 0 (arrived (loose_state s) x (start_of l (blocks_from x s.active.blocks))))
      (Goes 0 (arrived (tight_state s) x (start_of l' (blocks_from x (kept s.active.stays s.active.blocks ++ s.active.last)))))
  jump_to s x g e l l' =
      let z = g.active.sound in
      landed_same s x l l' _ _ g
      (jump_lands s.active.stays l l' s.active.last z.apart x e false false s.active.blocks z.closed z.plain z.sealed)

  chosen_stays : (stays : List ℕ → Bool) (a b : List ℕ) (z : Bool) → (stays a && stays b) ≡ true → stays (if z then b else a) ≡ true
  chosen_stays stays a b true h = (and_parts (stays a) (stays b) h).1
  chosen_stays stays a b false h = (and_parts (stays a) (stays b) h).0

  -- a pair with its active call at these
  abbrev pub at_spot : Pair → List Inst → Jump → List Block → (from label from_tight label_tight : List ℕ) → Pair
  at_spot s is j bs f l f' l' =
      let t = s.active in
      record s {
        active = record t {
          insts = is;
          jump = j;
          behind = bs;
          from = f;
          label = l;
          from_tight = f';
          label_tight = l';
        };
      }

  spot_good : (s : Pair) (is : List Inst) (j : Jump) (bs : List Block) (f l f' l' : List ℕ) → GoodPair s →
      Lies s.active.stays s.active.tail j bs → GoodPair (at_spot s is j bs f l f' l')
  spot_good s is j bs f l f' l' g h = record { active = record { sound = g.active.sound; lies = h }; waiting = g.waiting }

  -- control falls out of both functions, where nothing stands behind
  fallen_same : (s : Pair) (f l f' l' : List ℕ) (tail : List Block) → Sealed tail false [] →
      SameStep (light.step m (record (loose_state s) { active = record (loose_frame s.active) { place = place_at f l [] [] Fall [] } }))
      (step m' (record (tight_state s) { active = record (tight_frame s.active) { place = place_at f' l' [] [] Fall tail } }))
  fallen_same s f l f' l' [] h = ends _
  fallen_same s f l f' l' (b ∷ bs) h = cc

  stepped : (s : Pair) → GoodPair s → (bs : List Block) (is : List Inst) (j : Jump) (f l f' l' : List ℕ) →
      Lies s.active.stays s.active.tail j bs → Stepped (at_spot s is j bs f l f' l')
  stepped s g bs (i ∷ is) j f l f' l' h = inst_same (at_spot s is j bs f l f' l') i (spot_good s is j bs f l f' l' g h)
  stepped s g bs [] (Jmp x) f l f' l' h =
      jump_to (at_spot s [] (Jmp x) bs f l f' l') x (spot_good s [] (Jmp x) bs f l f' l' g h) h.passes l l'
  stepped s g bs [] (Jnz v a b) f l f' l' h =
      let here = at_spot s [] (Jnz v a b) bs f l f' l' in
      rw (value_same here v)
      (jump_to here (if cut W (value_of m (loose_state here) v) == 0 then b else a) (spot_good s [] (Jnz v a b) bs f l f' l' g h)
      (chosen_stays s.active.stays a b (cut W (value_of m (loose_state here) v) == 0) h.passes) l l')
  stepped s g bs [] (Ret None) f l f' l' h = returned_same (at_spot s [] (Ret None) bs f l f' l') 0 s.waiting g.waiting
  stepped s g bs [] (Ret (Some v)) f l f' l' h =
      let here = at_spot s [] (Ret (Some v)) bs f l f' l' in
      rw (value_same here v) (returned_same here (value_of m (loose_state here) v) s.waiting g.waiting)
  stepped s g bs [] Hlt f l f' l' h = ends _
  stepped s g [] [] Fall f l f' l' h = fallen_same s f l f' l' s.active.tail h.sealed
  stepped s g (b ∷ bs) [] Fall f l f' l' h =
      let c : (targets_pass s.active.stays b.jump && is_closed s.active.stays (falls b.jump) bs) ≡ true = h.closed in
      let k = and_parts (targets_pass s.active.stays b.jump) _ c in
      let there : Lies s.active.stays s.active.tail b.jump bs =
      record { passes = k.0; closed = k.1; plain = h.plain.1; sealed = h.sealed } in
      pick (s.active.stays b.label) refl (stepped s g bs b.insts b.jump l b.label l' b.label there)
      (stepped s g bs b.insts b.jump l b.label f' l' there)
    where
      loose_at : Place → State
      loose_at place =
          record {
            active = record (loose_frame s.active) { place = place };
            waiting = map loose_waiting s.waiting;
            world = s.world;
            done = s.done;
          }

      tight_at : Place → State
      tight_at place =
          record {
            active = record (tight_frame s.active) { place = place };
            waiting = map tight_waiting s.waiting;
            world = s.world;
            done = s.done;
          }

      -- the place in the tight function, by whether the block begins
      place : Bool → List Phi → Place
      place z ps =
          let is = b.insts ++ into_insts s.active.stays (falls b.jump) bs in
          let j = into_jump s.active.stays b.jump bs in
          let ks = kept s.active.stays bs in
          place_at f' l' [] (if z then [] else is) (if z then Fall else j)
          ((if z then record { label = b.label; phis = ps; insts = is; jump = j } ∷ ks else ks) ++ s.active.tail)

      Same : Bool → List Phi → Type 0
      Same z ps = SameStep (light.step m (loose_at (place_at l b.label ps b.insts b.jump bs))) (step m' (tight_at (place z ps)))

      pick : (z : Bool) → s.active.stays b.label ≡ z → Stepped (at_spot s b.insts b.jump bs l b.label l' b.label) →
          Stepped (at_spot s b.insts b.jump bs l b.label f' l') → Stepped (at_spot s [] Fall (b ∷ bs) f l f' l')
      pick true e on off = subst (λ (z : Bool). Same z b.phis) (sym e) (subst (Same true) (sym h.plain.0) on)
      pick false e on off = subst (λ (z : Bool). Same z b.phis) (sym e) (subst (Same false) (sym h.plain.0) off)

  pub step_same : (s : Pair) → GoodPair s → Stepped s
  step_same s g = stepped s g s.active.behind s.active.insts s.active.jump s.active.from s.active.label s.active.from_tight
      s.active.label_tight g.active.lies
