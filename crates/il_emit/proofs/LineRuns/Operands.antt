-- Operands have the values of flat code once the lines of their addresses have run.
use Rattle.std.proofs.Common.{◌≡◌, ℕ, ◌+◌, ◌%◌, ◌^◌, ◌<◌, ◌≤◌, Bool, true, false, ◌||◌, List, [], ◌∷◌, ◌++◌, map, length, refl, sym, ap, ◌∙◌, arith, append_assoc}
use Rattle.std.specs.Prelude.{bytes_eq, nat_eq, nat_lt, ◌==◌, if◌then◌else◌}
use Rattle.std.proofs.lemmas.Bool.{and_parts}
use Rattle.std.proofs.lemmas.Bool.Decides.{nat_tests}
use Rattle.hx_base.specs.declared.Class.{Class}
use Rattle.hx_base.specs.declared.Class.TheVariants.{W, L}
use Rattle.hx_base.specs.Runtime.{World}
use Rattle.flat_code.specs.declared.program.FlatFn.{FlatFn}
use Rattle.flat_code.specs.declared.program.FlatProgram.{FlatProgram}
use Rattle.flat_code.specs.declared.value.Value.{Value}
use Rattle.flat_code.specs.declared.value.Value.TheVariants.{Temp, Number, Symbol, Frame}
use Rattle.flat_code.specs.Addresses.{address_at}
use Rattle.flat_code.specs.Costs.{addressed}
use Rattle.flat_code.specs.Evaluation.{cut_each, function_named}
use Rattle.flat_code.specs.State as flat
use Rattle.flat_code.specs.Temps.{is_set}
use Rattle.flat_code.specs.WellFormed.{is_operand, are_args, is_long}
use Rattle.flat_code.proofs.NumberNames.{decimal_eq}
use Rattle.il_code.specs.declared.types.IlArg.{IlArg}
use Rattle.il_code.specs.declared.types.IlValue.TheVariants as il
use Rattle.il_code.specs.declared.types.Module.{Module}
use Rattle.il_code.specs.Addresses.{address}
use Rattle.il_code.specs.Machine.{Temps, temp_value, cut}
use Rattle.il_code.specs.State as state
use Rattle.il_code.specs.Run.{Run}
use Rattle.il_tight.proofs.SameRuns.Light.{after_steps}
use Rattle.il_emit.specs.Names.{temp_name, address_name}
use Rattle.il_emit.specs.Lines.{Line, Do, name_at, operand, address_inst, address_lines, arg_lines, args_of, all_addressed}
use Rattle.il_emit.proofs.NamesAndNumbers.NamedFunctions.{emitted}
use Rattle.il_emit.proofs.NamesAndNumbers.NumberedNames.{bytes_same, temp_eq}
use Rattle.il_emit.proofs.LineRuns.Running.{Activation, counted, Mark, worth, steps_more, before, Same, HasFrame, Holds}

-- an operand has at most one address
pub addressed_one : (v : Value) → addressed v ≤ 1
addressed_one (Temp t) = omega arith
addressed_one (Number n) = omega arith
addressed_one (Symbol i offset) = one_of (offset == 0)
  where
    one_of : (b : Bool) → (if b then 0 else 1) ≤ 1
    one_of true = omega arith
    one_of false = omega arith
addressed_one (Frame offset) = omega arith

-- ---- temporaries that are set

same_step : (fill v x : ℕ) (ts : List (ℕ × ℕ)) (temps : Temps) (b c : Bool) → b ≡ c →
    temp_value fill temps (temp_name x) ≡ flat.temp_value fill ts x → (if b then v else temp_value fill temps (temp_name x)) ≡
    (if c then v else flat.temp_value fill ts x)
same_step fill v x ts temps true true e h = refl
same_step fill v x ts temps false false e h = h
same_step fill v x ts temps true false e h = cc
same_step fill v x ts temps false true e h = cc

-- a temporary more
pub same_set : (ts : List (ℕ × ℕ)) (temps : Temps) (t v : ℕ) → t < 2 ^ 64 → Same ts temps → Same ((t, v) ∷ ts) ((temp_name t, v) ∷ temps)
same_set ts temps t v h s = record
    { at = λ fill x l. same_step fill v x ts temps (bytes_eq (temp_name t) (temp_name x)) (nat_eq t x) (temp_eq t x h l) (s.at fill x l) }

-- an address is no temporary of flat code
same_address : (ts : List (ℕ × ℕ)) (temps : Temps) (k v : ℕ) → Same ts temps → Same ts ((address_name k, v) ∷ temps)
same_address ts temps k v s = record { at = λ fill x l. s.at fill x l }

-- an address with another number is kept
other_address : (fill j k v : ℕ) (temps : Temps) → j < k → k < 2 ^ 64 → temp_value fill ((address_name k, v) ∷ temps) (address_name j) ≡
    temp_value fill temps (address_name j)
other_address fill j k v temps l h =
    let e : bytes_eq (address_name k) (address_name j) ≡ false = decimal_eq k j h (omega arith) ∙ apart in
    rw e refl
  where
    apart : nat_eq k j ≡ false
    apart = grind (arith, nat_tests)

own_address : (fill k v : ℕ) (temps : Temps) → temp_value fill ((address_name k, v) ∷ temps) (address_name k) ≡ v
own_address fill k v temps = rw (bytes_same (address_name k)) refl

-- ---- what the section rests on

-- a call of a function of a program, in the module that is made of it
pub record Setting (p : FlatProgram) (f : FlatFn) (m : Module) (call : Activation) : Type 0 where
  pub frame : call.frame ≡ f.frame
  pub few_temps : f.temps < 2 ^ 64
  pub set_below : (t : ℕ) (class : Class) → is_set p f t class ≡ true → t < f.temps
  pub address : (i : ℕ) → i < length p.globals → address m (name_at p.globals i) ≡ address_at p i
  pub address_fits : (i : ℕ) → i < length p.globals → address_at p i < 2 ^ 64
  pub functions : (name : List ℕ) → state.function_named m.items name ≡ emitted p (function_named p.functions name)

module _ (p : FlatProgram) (f : FlatFn) (m : Module) (call : Activation) (set : Setting p f m call) where
  abbrev run_at : List Line → World → Mark → Run
  run_at ls w c = before m call ls w c

  -- ---- the lines of an address

  -- behind one instruction that computes an address from another and an offset
  abbrev computed : ℕ → ℕ → ℕ → Mark → Mark
  computed from offset k c = record c { used = c.used + 1 + 0; temps = (address_name k, cut L (from + offset)) ∷ c.temps }

  abbrev with_address : Bool → ℕ → ℕ → ℕ → Mark → Mark
  with_address true i offset k c = c
  with_address false i offset k c = computed (address m (name_at p.globals i)) offset k c

  -- behind the lines of an operand's address
  abbrev pub behind_address : Value → ℕ → Mark → Mark
  behind_address (Temp t) k c = c
  behind_address (Number n) k c = c
  behind_address (Symbol i offset) k c = with_address (offset == 0) i offset k c
  behind_address (Frame offset) k c = computed (cut L call.base) offset k c

  symbol_steps : (b : Bool) (i offset k : ℕ) (ls : List Line) (w : World) (c : Mark)
      → after_steps m (if b then 0 else 1) (run_at ((if b then [] else (Do (address_inst p.globals i offset k) ∷ [])) ++ ls) w c) ≡ run_at
      ls w (with_address b i offset k c)
  symbol_steps true i offset k ls w c = refl
  symbol_steps false i offset k ls w c = refl

  -- where there is a place, there is a frame
  has_place : (class : Class) (offset : ℕ) → is_operand p f class (Frame offset) ≡ true → 0 < call.frame
  has_place class offset r =
      let q = (and_parts (is_long class) (nat_lt offset f.frame) r).1 in
      let lt : offset < f.frame = grind (arith, nat_tests) in
      let z = set.frame in
      omega arith

  pub address_steps : (class : Class) (v : Value) (k : ℕ) (ls : List Line) (w : World) (c : Mark) →
      is_operand p f class v ≡ true → HasFrame call c.temps
      → after_steps m (addressed v) (run_at (address_lines p.globals v k ++ ls) w c) ≡ run_at ls w (behind_address v k c)
  address_steps class (Temp t) k ls w c r h = refl
  address_steps class (Number n) k ls w c r h = refl
  address_steps class (Symbol i offset) k ls w c r h = symbol_steps (offset == 0) i offset k ls w c
  address_steps class (Frame offset) k ls w c r h =
      ap (λ (from : ℕ). run_at ls w (computed from offset k c)) (h.at (has_place class offset r) w.memory.fill)

  with_used : (b : Bool) (i offset k : ℕ) (c : Mark) → (with_address b i offset k c).used ≡ c.used + (if b then 0 else 1)
  with_used true i offset k c = omega arith
  with_used false i offset k c = omega arith

  pub address_used : (v : Value) (k : ℕ) (c : Mark) → (behind_address v k c).used ≤ c.used + addressed v
  address_used (Temp t) k c = omega arith
  address_used (Number n) k c = omega arith
  address_used (Symbol i offset) k c = omega (arith, with_used (offset == 0) i offset k c)
  address_used (Frame offset) k c = omega arith

  with_jumps : (b : Bool) (i offset k : ℕ) (c : Mark) → counted (with_address b i offset k c) ≡ counted c
  with_jumps true i offset k c = refl
  with_jumps false i offset k c = refl

  pub address_jumps : (v : Value) (k : ℕ) (c : Mark) → counted (behind_address v k c) ≡ counted c
  address_jumps (Temp t) k c = refl
  address_jumps (Number n) k c = refl
  address_jumps (Symbol i offset) k c = with_jumps (offset == 0) i offset k c
  address_jumps (Frame offset) k c = refl

  -- an address more is no temporary of flat code, and not that of the frame
  computed_holds : (from offset k : ℕ) (c : Mark) (s : flat.State) → Holds call s c → Holds call s (computed from offset k c)
  computed_holds from offset k c s h = record {
    same = same_address s.temps c.temps k (cut L (from + offset)) h.same;
    frame = record { at = λ l fill. h.frame.at l fill };
    base = h.base;
    top = h.top;
    cost = h.cost;
  }

  with_holds : (b : Bool) (i offset k : ℕ) (c : Mark) (s : flat.State) → Holds call s c → Holds call s (with_address b i offset k c)
  with_holds true i offset k c s h = h
  with_holds false i offset k c s h = computed_holds (address m (name_at p.globals i)) offset k c s h

  pub address_holds : (v : Value) (k : ℕ) (c : Mark) (s : flat.State) → Holds call s c → Holds call s (behind_address v k c)
  address_holds (Temp t) k c s h = h
  address_holds (Number n) k c s h = h
  address_holds (Symbol i offset) k c s h = with_holds (offset == 0) i offset k c s h
  address_holds (Frame offset) k c s h = computed_holds (cut L call.base) offset k c s h

  -- addresses with lower numbers are kept
  pub record Keeps (k : ℕ) (c c' : Mark) : Type 0 where
    pub kept : (fill j : ℕ) → j < k → temp_value fill c'.temps (address_name j) ≡ temp_value fill c.temps (address_name j)

  with_keeps : (b : Bool) (i offset k : ℕ) (c : Mark) → k < 2 ^ 64 → Keeps k c (with_address b i offset k c)
  with_keeps true i offset k c h = record { kept = λ fill j l. refl }
  with_keeps false i offset k c h = record { kept = λ fill j l. other_address fill j k _ c.temps l h }

  pub address_keeps : (v : Value) (k : ℕ) (c : Mark) → k < 2 ^ 64 → Keeps k c (behind_address v k c)
  address_keeps (Temp t) k c h = record { kept = λ fill j l. refl }
  address_keeps (Number n) k c h = record { kept = λ fill j l. refl }
  address_keeps (Symbol i offset) k c h = with_keeps (offset == 0) i offset k c h
  address_keeps (Frame offset) k c h = record { kept = λ fill j l. other_address fill j k _ c.temps l h }

  -- ---- the value of an operand

  -- an operand has its value, whose address has number `k` where it needs one
  pub record Ready (s : flat.State) (v : Value) (k : ℕ) (temps : Temps) : Type 0 where
    pub value : worth m s.world temps (operand p.globals v k) ≡ flat.value_of p s v

  temp_ready : (s : flat.State) (class : Class) (t k : ℕ) (temps : Temps) → is_operand p f class (Temp t) ≡ true →
      Same s.temps temps → Ready s (Temp t) k temps
  temp_ready s class t k temps r h = record { value = h.at s.world.memory.fill t small }
    where
      some_class : (c : Class) → is_operand p f c (Temp t) ≡ true → t < f.temps
      some_class L e = set.set_below t L (and_parts (is_set p f t L) _ e).0
      some_class W e = pick (is_set p f t W) refl e
        where
          pick : (b : Bool) → is_set p f t W ≡ b → (b || is_set p f t L) ≡ true → t < f.temps
          pick true q u = set.set_below t W q
          pick false q u = set.set_below t L u

      small : t < 2 ^ 64
      small = let a = some_class class r in let b = set.few_temps in omega arith

  symbol_ready : (b : Bool) (s : flat.State) (i offset k : ℕ) (c : Mark) → (offset == 0) ≡ b → i < length p.globals
      → worth m s.world (with_address b i offset k c).temps (if b then il.Symbol (name_at p.globals i) else il.Temp (address_name k)) ≡
      (address_at p i + offset) % 2 ^ 64
  symbol_ready true s i offset k c e h =
      let z : offset ≡ 0 = grind (arith, nat_tests) in
      let u = set.address_fits i h in
      set.address i h ∙ omega arith
  symbol_ready false s i offset k c e h =
      own_address s.world.memory.fill k _ c.temps ∙ ap (λ (x : ℕ). (x + offset) % 2 ^ 64) (set.address i h)

  place_ready : (base offset : ℕ) → (base % 2 ^ 64 + offset) % 2 ^ 64 ≡ (base + offset) % 2 ^ 64
  place_ready base offset = omega arith

  -- behind its lines it is ready
  pub operand_ready : (s : flat.State) (class : Class) (v : Value) (k : ℕ) (c : Mark) → is_operand p f class v ≡ true →
      Holds call s c → Ready s v k (behind_address v k c).temps
  operand_ready s class (Temp t) k c r h = temp_ready s class t k c.temps r h.same
  operand_ready s class (Number n) k c r h = record { value = refl }
  operand_ready s class (Symbol i offset) k c r h =
      let q = and_parts (is_long class) _ r in
      let b = (and_parts (nat_lt i (length p.globals)) _ q.1).0 in
      let lt : i < length p.globals = grind (arith, nat_tests) in
      record { value = symbol_ready (offset == 0) s i offset k c refl lt }
  operand_ready s class (Frame offset) k c r h = record {
    value = own_address s.world.memory.fill k _ c.temps ∙ place_ready call.base offset
        ∙ ap (λ (x : ℕ). (x + offset) % 2 ^ 64) (sym h.base);
  }

  symbol_stays : (b : Bool) (w : World) (i k k' : ℕ) (c c' : Mark) → k + (if b then 0 else 1) ≤ k' → Keeps k' c c'
      → worth m w c'.temps (if b then il.Symbol (name_at p.globals i) else il.Temp (address_name k)) ≡ worth m w c.temps
      (if b then il.Symbol (name_at p.globals i) else il.Temp (address_name k))
  symbol_stays true w i k k' c c' l h = refl
  symbol_stays false w i k k' c c' l h = h.kept w.memory.fill k (omega arith)

  -- it stays ready behind the lines of other operands
  pub stays_ready : (s : flat.State) (class : Class) (v : Value) (k k' : ℕ) (c c' : Mark) → is_operand p f class v ≡ true →
      Holds call s c' → k + addressed v ≤ k' → Keeps k' c c' → Ready s v k c.temps → Ready s v k c'.temps
  stays_ready s class (Temp t) k k' c c' r h l u g = temp_ready s class t k c'.temps r h.same
  stays_ready s class (Number n) k k' c c' r h l u g = record { value = refl }
  stays_ready s class (Symbol i offset) k k' c c' r h l u g =
      record { value = symbol_stays (offset == 0) s.world i k k' c c' l u ∙ g.value }
  stays_ready s class (Frame offset) k k' c c' r h l u g =
      record { value = u.kept s.world.memory.fill k (omega arith) ∙ g.value }

  -- ---- arguments

  -- behind the lines of all addresses
  abbrev pub behind_args : List Value → ℕ → Mark → Mark
  behind_args [] k c = c
  behind_args (v ∷ vs) k c = behind_args vs (k + addressed v) (behind_address v k c)

  pub arg_steps : (cs : List Class) (vs : List Value) (k : ℕ) (ls : List Line) (s : flat.State) (c : Mark) →
      are_args p f cs vs ≡ true → Holds call s c
      → after_steps m (all_addressed vs) (run_at (arg_lines p.globals vs k ++ ls) s.world c) ≡ run_at ls s.world (behind_args vs k c)
  arg_steps cs [] k ls s c r h = refl
  arg_steps [] (v ∷ vs) k ls s c r h = cc
  arg_steps (d ∷ cs) (v ∷ vs) k ls s c r h =
      let q = and_parts (is_operand p f d v) (are_args p f cs vs) r in
      let rest = arg_lines p.globals vs (k + addressed v) in
      ap (λ (x : List Line). after_steps m (addressed v + all_addressed vs) (run_at x s.world c))
      (append_assoc (address_lines p.globals v k) rest ls)
      ∙ steps_more m (addressed v) (all_addressed vs) _
      ∙ ap (after_steps m (all_addressed vs)) (address_steps d v k (rest ++ ls) s.world c q.0 h.frame)
      ∙ arg_steps cs vs (k + addressed v) ls s (behind_address v k c) q.1 (address_holds v k c s h)

  pub args_used : (vs : List Value) (k : ℕ) (c : Mark) → (behind_args vs k c).used ≤ c.used + length vs
  args_used [] k c = omega arith
  args_used (v ∷ vs) k c = omega (arith, address_used v k c, args_used vs (k + addressed v) (behind_address v k c), addressed_one v)

  pub args_jumps : (vs : List Value) (k : ℕ) (c : Mark) → counted (behind_args vs k c) ≡ counted c
  args_jumps [] k c = refl
  args_jumps (v ∷ vs) k c = args_jumps vs (k + addressed v) (behind_address v k c) ∙ address_jumps v k c

  pub args_hold : (vs : List Value) (k : ℕ) (c : Mark) (s : flat.State) → Holds call s c → Holds call s (behind_args vs k c)
  args_hold [] k c s h = h
  args_hold (v ∷ vs) k c s h = args_hold vs (k + addressed v) (behind_address v k c) s (address_holds v k c s h)

  args_keep : (vs : List Value) (k : ℕ) (c : Mark) → k + all_addressed vs < 2 ^ 64 → Keeps k c (behind_args vs k c)
  args_keep [] k c h = record { kept = λ fill j l. refl }
  args_keep (v ∷ vs) k c h =
      let a = address_keeps v k c (omega arith) in
      let b = args_keep vs (k + addressed v) (behind_address v k c) (omega arith) in
      record { kept = λ fill j l. b.kept fill j (omega arith) ∙ a.kept fill j l }

  -- the values of all arguments
  pub args_ready : (s : flat.State) (cs : List Class) (vs : List Value) (k : ℕ) (c : Mark) → are_args p f cs vs ≡ true →
      k + all_addressed vs < 2 ^ 64 → Holds call s c
      → map (λ (a : IlArg). cut a.class (worth m s.world (behind_args vs k c).temps a.value)) (args_of p.globals cs vs k) ≡ cut_each cs
      (map (flat.value_of p s) vs)
  args_ready s [] [] k c r l h = refl
  args_ready s [] (v ∷ vs) k c r l h = cc
  args_ready s (d ∷ cs) [] k c r l h = cc
  args_ready s (d ∷ cs) (v ∷ vs) k c r l h =
      let q = and_parts (is_operand p f d v) (are_args p f cs vs) r in
      let held = address_holds v k c s h in
      let keeps = args_keep vs (k + addressed v) (behind_address v k c) (omega arith) in
      let ready = stays_ready s d v k (k + addressed v) (behind_address v k c) (behind_args vs (k + addressed v) (behind_address v k c)) q.0
      (args_hold vs (k + addressed v) (behind_address v k c) s held) (omega arith) keeps (operand_ready s d v k c q.0 h) in
      let first : cut d (worth m s.world (behind_args vs (k + addressed v) (behind_address v k c)).temps (operand p.globals v k)) ≡ cut d
      (flat.value_of p s v) = ap (cut d) ready.value in
      let rest = args_ready s cs vs (k + addressed v) (behind_address v k c) q.1 (omega arith) held in
      ap (λ (x : ℕ). x ∷ map (λ (a : IlArg). cut a.class
      (worth m s.world (behind_args vs (k + addressed v) (behind_address v k c)).temps a.value))
      (args_of p.globals cs vs (k + addressed v))) first
      ∙ ap (λ (xs : List ℕ). cut d (flat.value_of p s v) ∷ xs) rest
