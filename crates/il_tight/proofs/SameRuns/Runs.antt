-- A run of a module on the light machine and one of the same module with tight functions come to the same.
use Rattle.std.proofs.Common.{◌≡◌, ℕ, zero, suc, ◌+◌, Bool, true, false, List, [], ◌∷◌, ◌++◌, map, length, Option, None, Some, refl, sym, ap, ◌∙◌, subst}
use Rattle.std.specs.Prelude.{nat_lt, bytes_eq, codes, flat_map, if◌then◌else◌}
use Rattle.std.proofs.lemmas.List.Concat.{flat_map-cons}
use Rattle.hx_base.specs.declared.Class.{Class}
use Rattle.hx_base.specs.Memory.{Memory, empty_memory, le_bytes, map_range, round_up, write}
use Rattle.hx_base.specs.Runtime.{World, functions_start, function_step, data_start, heap_start, stack_start, lookup, or_zero, with_arguments}
use Rattle.il_code.specs.declared.types.Block.{Block}
use Rattle.il_code.specs.declared.types.IlItem.{IlItem}
use Rattle.il_code.specs.declared.types.IlItem.TheVariants.{Data, Function}
use Rattle.il_code.specs.declared.types.IlParam.{IlParam}
use Rattle.il_code.specs.declared.types.MachineFault.TheVariants as fault
use Rattle.il_code.specs.declared.types.Module.{Module}
use Rattle.il_code.specs.declared.types.Part.{Part}
use Rattle.il_code.specs.declared.types.Part.TheVariants.{Values, Zero}
use Rattle.il_code.specs.declared.types.PartValue.{PartValue}
use Rattle.il_code.specs.declared.types.PartValue.TheVariants as value
use Rattle.il_code.specs.Addresses.{symbols_from, address, value_bytes, part_bytes, with_item, with_data, data_size, width_bytes}
use Rattle.il_code.specs.Items.{item_name, code_of}
use Rattle.il_code.specs.Machine.{End, Fault, StackFull, call_cost, stack_size}
use Rattle.il_code.specs.State.{Code, function_named, Place}
use Rattle.il_code.specs.Step.{Step, bound}
use Rattle.il_code.specs.Run.{Run, after_step, further, after_steps, start_world, called_first, started, start}
use Rattle.il_tight.specs.Tight.{staying, unset, tight, tight_item, tight_module}
use Rattle.il_tight.proofs.KeptBlocks.Kept.{kept, tight_is}
use Rattle.il_tight.proofs.SameRuns.Light as light
use Rattle.il_tight.proofs.SameRuns.Light.{price}
use Rattle.il_tight.proofs.SameRuns.Twins.{Plain, Pair, GoodPair, IsWhole, SameCode, no_code, one_code, SameStep, goes, ends, loose_state}
use Rattle.il_tight.proofs.SameRuns.Twins.{tight_state, called_twin, nowhere_lands, step_same}
use Rattle.il_tight.proofs.SameRuns.Wholes.{is_whole}

-- ---- two runs

pub data SameRun : Run → Run → Type 0 where
  alike : (used : ℕ) (ended : Option End) (s : Pair) → GoodPair s →
      SameRun (record { used = used; ended = ended; state = loose_state s }) (record { used = used; ended = ended; state = tight_state s })

module _ (m m' : Module) (addresses : (name : List ℕ) → address m' name ≡ address m name)
    (functions : (name : List ℕ) → SameCode (function_named m.items name) (function_named m'.items name)) where
  after_same : (used : ℕ) (s : Pair) → GoodPair s → (x y : Step) → SameStep x y →
      SameRun (after_step (record { used = used; ended = None; state = loose_state s }) x)
      (after_step (record { used = used; ended = None; state = tight_state s }) y)
  after_same used s g _ _ (goes more s' g') = alike _ None s' g'
  after_same used s g _ _ (ends e) = alike _ (Some e) s g

  further_same : (r r' : Run) → SameRun r r' → SameRun (light.further m r) (further m' r')
  further_same _ _ (alike used (Some e) s g) = alike used (Some e) s g
  further_same _ _ (alike used None s g) = after_same used s g _ _ (step_same m m' addresses functions s g)

  pub steps_same : (k : ℕ) (r r' : Run) → SameRun r r' → SameRun (light.after_steps m k r) (after_steps m' k r')
  steps_same zero r r' h = h
  steps_same (suc k) r r' h = steps_same k (light.further m r) (further m' r') (further_same r r' h)

  -- ---- the start

  first_same : (f : Code) (stays : List ℕ → Bool) (last : List Block) → IsWhole stays last f.params f.blocks → (w : World)
      (e : Option End) → SameRun (light.called_first f w e) (called_first (record f { blocks = kept stays f.blocks ++ last }) w e)
  first_same f stays last is w e =
      let at = is.opens [] [] in
      let s : Pair = record {
        active = called_twin f stays last at [] stack_start (price f.params f.blocks);
        waiting = [];
        world = w;
        done = [];
      } in
      let good : GoodPair s = record { active = record { sound = is.sound; lies = at.lies }; waiting = tt } in
      go at.loose_is at.tight_is is.cost (alike 0 e s good)
    where
      frame : List Block → Place → ℕ → Run
      frame bs place cost = record {
        used = 0;
        ended = e;
        state = record {
          active = record {
            function = f.name;
            blocks = bs;
            place = place;
            temps = bound f.params [];
            pointer = stack_start;
            cost = cost;
          };
          waiting = [];
          world = w;
          done = [];
        };
      }

      go : {p q p' q' : Place} {c c' : ℕ} → p ≡ p' → q ≡ q' → c' ≡ c →
          SameRun (frame f.blocks p' c) (frame (kept stays f.blocks ++ last) q' c) →
          SameRun (frame f.blocks p c) (frame (kept stays f.blocks ++ last) q c')
      go a b d h = rw (a, b, d) h

-- ---- what stands where

symbols_same : (f d : ℕ) (items : List IlItem) → symbols_from f d (map tight_item items) ≡ symbols_from f d items
symbols_same f d [] = refl
symbols_same f d (Function export class name params blocks ∷ items) =
    ap (λ (xs : List (List ℕ × ℕ)). (name, f) ∷ xs) (symbols_same (f + function_step) d items)
symbols_same f d (Data export name align parts ∷ items) =
    ap (λ (xs : List (List ℕ × ℕ)). (name, round_up d align) ∷ xs) (symbols_same f (round_up d align + data_size parts) items)

pub address_same : (m : Module) (name : List ℕ) → address (tight_module m) name ≡ address m name
address_same m name = ap (λ (xs : List (List ℕ × ℕ)). or_zero (lookup name xs)) (symbols_same functions_start data_start m.items)

module _ (m : Module) where
  value_bytes_same : (width : ℕ) (v : PartValue) → value_bytes (tight_module m) width v ≡ value_bytes m width v
  value_bytes_same width (value.Number n) = refl
  value_bytes_same width (value.Str s) = refl
  value_bytes_same width (value.Symbol s offset) =
      ap (λ (a : ℕ). le_bytes (width_bytes width) (a + offset)) (address_same m s)

  values_same : (width : ℕ) (vs : List PartValue) → flat_map (value_bytes (tight_module m) width) vs ≡ flat_map (value_bytes m width) vs
  values_same width [] = refl
  values_same width (v ∷ vs) =
      flat_map-cons (value_bytes (tight_module m) width) v vs
      ∙ ap (λ (xs : List ℕ). xs ++ flat_map (value_bytes (tight_module m) width) vs) (value_bytes_same width v)
      ∙ ap (λ (xs : List ℕ). value_bytes m width v ++ xs) (values_same width vs) ∙ sym (flat_map-cons (value_bytes m width) v vs)

  part_same : (p : Part) → part_bytes (tight_module m) p ≡ part_bytes m p
  part_same (Values width vs) = values_same width vs
  part_same (Zero n) = refl

  parts_same : (ps : List Part) → flat_map (part_bytes (tight_module m)) ps ≡ flat_map (part_bytes m) ps
  parts_same [] = refl
  parts_same (p ∷ ps) =
      flat_map-cons (part_bytes (tight_module m)) p ps
      ∙ ap (λ (xs : List ℕ). xs ++ flat_map (part_bytes (tight_module m)) ps) (part_same p)
      ∙ ap (λ (xs : List ℕ). part_bytes m p ++ xs) (parts_same ps) ∙ sym (flat_map-cons (part_bytes m) p ps)

  item_same : (memory : Memory) (at at' : ℕ) (ps : List Part) → at' ≡ at →
      with_item (tight_module m) memory at' ps ≡ with_item m memory at ps
  item_same memory at at' ps e =
      ap (λ (n : ℕ). with_item (tight_module m) memory n ps) e
      ∙ ap (λ (bytes : List ℕ). map_range (write memory at bytes) at (data_size ps)) (parts_same ps)

  data_same : (memory : Memory) (items : List IlItem) → with_data (tight_module m) memory (map tight_item items) ≡ with_data m memory items
  data_same memory [] = refl
  data_same memory (Function export class name params blocks ∷ items) = data_same memory items
  data_same memory (Data export name align parts ∷ items) =
      ap (λ (w : Memory). with_data (tight_module m) w (map tight_item items))
      (item_same memory (address m name) (address (tight_module m) name) parts (address_same m name))
      ∙ data_same (with_item m memory (address m name) parts) items

  world_same : (args : List (List ℕ)) (input : List ℕ) (fill : ℕ) →
      start_world (tight_module m) args input fill ≡ start_world m args input fill
  world_same args input fill =
      ap (λ (w : Memory). record {
        memory = with_arguments w args;
        heap = record { next = heap_start; blocks = [] };
        input = input;
        output = [];
        arguments = length args;
      }) (data_same (empty_memory fill) m.items)

-- ---- functions

-- no function has a phi
abbrev pub NoPhis : List IlItem → Type 0
NoPhis [] = Unit {0}
NoPhis (Data export name align parts ∷ items) = NoPhis items
NoPhis (Function export class name params blocks ∷ items) = Plain blocks × NoPhis items

name_same : (i : IlItem) → item_name (tight_item i) ≡ item_name i
name_same (Data export name align parts) = refl
name_same (Function export class name params blocks) = refl

found_same : (export : Bool) (class : Option Class) (name : List ℕ) (params : List IlParam) (blocks : List Block) → Plain blocks →
    SameCode (code_of (Some (Function export class name params blocks)))
    (code_of (Some (Function export class name params (tight params blocks))))
found_same export class name params blocks p =
    subst (λ (bs : List Block). SameCode (code_of (Some (Function export class name params blocks)))
    (code_of (Some (Function export class name params bs)))) (sym (tight_is params blocks))
    (one_code (record { name = name; class = class; params = params; blocks = blocks }) (staying blocks)
    (unset params (staying blocks) blocks) (is_whole params blocks p))

pub functions_same : (items : List IlItem) → NoPhis items → (name : List ℕ) →
    SameCode (function_named items name) (function_named (map tight_item items) name)
functions_same [] p name = no_code
functions_same (Data export s align parts ∷ items) p name = pick (bytes_eq s name) refl (functions_same items p name)
  where
    pick : (z : Bool) → bytes_eq s name ≡ z → SameCode (function_named items name) (function_named (map tight_item items) name) →
        SameCode (function_named (Data export s align parts ∷ items) name)
        (function_named (map tight_item (Data export s align parts ∷ items)) name)
    pick true e on = rw e no_code
    pick false e on = rw e on
functions_same (Function export class s params blocks ∷ items) p name = pick (bytes_eq s name) refl (functions_same items p.1 name)
  where
    pick : (z : Bool) → bytes_eq s name ≡ z → SameCode (function_named items name) (function_named (map tight_item items) name) →
        SameCode (function_named (Function export class s params blocks ∷ items) name)
        (function_named (map tight_item (Function export class s params blocks ∷ items)) name)
    pick true e on = rw e (found_same export class s params blocks p.0)
    pick false e on = rw e on

-- ---- the whole run

nothing_costs : call_cost [] [] ≡ price [] []
unfolding price
nothing_costs = refl

module _ (m : Module) (p : NoPhis m.items) where
  started_same : (w : World) (o o' : Option Code) → SameCode o o' → SameRun (light.started w o) (started w o')
  started_same w _ _ no_code =
      first_same m (tight_module m) (address_same m) (functions_same m.items p)
      (record { name = codes "main"; class = None; params = []; blocks = [] }) (λ l. true) [] (none_whole tt)
      w (Some (Fault fault.Hlt))
    where
      none_whole : Unit {0} → IsWhole (λ (l : List ℕ). true) [] [] []
      none_whole u = record {
        opens = λ l l'. nowhere_lands (λ (x : List ℕ). true) l l';
        first = refl;
        sound = record { closed = refl; plain = tt; apart = refl; sealed = refl };
        zeros = tt;
        cost = nothing_costs;
      }
  started_same w _ _ (one_code f stays last is) =
      subst (λ (n : ℕ). SameRun (light.started w (Some f)) (called_first (record f { blocks = kept stays f.blocks ++ last }) w
      (if nat_lt stack_size n then Some StackFull else None))) (sym is.cost)
      (first_same m (tight_module m) (address_same m) (functions_same m.items p) f stays last is w
      (if nat_lt stack_size (price f.params f.blocks) then Some StackFull else None))

  pub start_same : (args : List (List ℕ)) (input : List ℕ) (fill k : ℕ) →
      SameRun (light.after_steps m k (light.start m args input fill))
      (after_steps (tight_module m) k (start (tight_module m) args input fill))
  start_same args input fill k =
      steps_same m (tight_module m) (address_same m) (functions_same m.items p) k _ _
      (subst (λ (w : World). SameRun (light.start m args input fill) (started w (function_named (map tight_item m.items) (codes "main"))))
      (sym (world_same m args input fill))
      (started_same (start_world m args input fill) _ _ (functions_same m.items p (codes "main"))))

-- what is the same of two runs
pub record Alike (r r' : Run) : Type 0 where
  pub used : r'.used ≡ r.used
  pub ended : r'.ended ≡ r.ended
  pub world : r'.state.world ≡ r.state.world
  pub done : r'.state.done ≡ r.state.done

pub runs_alike : (r r' : Run) → SameRun r r' → Alike r r'
runs_alike _ _ (alike used ended s g) = record { used = refl; ended = refl; world = refl; done = refl }
