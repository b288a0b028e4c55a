-- With tight functions a module does what it did, and keeps the shape of its program.
use Rattle.std.proofs.Common.{◌≡◌, ℕ, ◌+◌, ◌≤◌, Bool, true, false, cond, not, ◌&&◌, inl, inr, List, [], ◌∷◌, ◌++◌, map, length, Option, None, Some, refl, sym, ap, ◌∙◌, subst, arith}
use Rattle.std.specs.Prelude.{bytes_eq, sum_by, if◌then◌else◌}
use Rattle.std.specs.List.{list_all, AllByRecursion}
use Rattle.std.proofs.lemmas.Bool.{and_parts}
use Rattle.std.proofs.lemmas.List.Folds.{list_any-append}
use Rattle.std.proofs.lemmas.List.Sums.{sum_by-append}
use Rattle.hx_base.specs.declared.Class.{Class}
use Rattle.hx_base.specs.Runtime.{World}
use Rattle.flat_code.specs.declared.program.Data.{Data}
use Rattle.flat_code.specs.declared.program.FlatFn.{FlatFn}
use Rattle.flat_code.specs.declared.program.FlatProgram.{FlatProgram}
use Rattle.flat_code.specs.Evaluation as flat
use Rattle.flat_code.specs.Run.{run}
use Rattle.flat_code.specs.State.{Result}
use Rattle.il_code.specs.declared.types.Block.{Block}
use Rattle.il_code.specs.declared.types.IlItem.{IlItem}
use Rattle.il_code.specs.declared.types.IlItem.TheVariants as item
use Rattle.il_code.specs.declared.types.Inst.{Inst}
use Rattle.il_code.specs.declared.types.Jump.{Jump}
use Rattle.il_code.specs.declared.types.Jump.TheVariants.{Fall, Jmp, Jnz, Ret, Hlt}
use Rattle.il_code.specs.declared.types.Module.{Module}
use Rattle.il_code.specs.Rules.{has_label, targets_pass}
use Rattle.il_code.specs.Shaped.{falls}
use Rattle.il_code.specs.State as il
use Rattle.il_code.specs.State.{Done}
use Rattle.il_code.specs.Run.{Run, after_steps, start, machine}
use Rattle.il_code.proofs.Budgets.{run_to-after_steps}
use Rattle.il_tight.specs.Tight.{is_closed, zero, tight_item, tight_module}
use Rattle.il_tight.specs.Tightness.{IsZero}
use Rattle.il_tight.proofs.KeptBlocks.Behind.{IsZeros, zero_holds}
use Rattle.il_tight.proofs.KeptBlocks.Kept.{into_insts, into_jump, whole, kept}
use Rattle.il_tight.proofs.SameRuns.Light as light
use Rattle.il_tight.proofs.TightBlocks.Passing.{all_reached, into_pass, kept_pass, label_kept}
use Rattle.il_tight.proofs.SameRuns.Runs.{NoPhis, functions_same, start_same, Alike, runs_alike}
use Rattle.il_tight.proofs.SameRuns.Twins.{SameCode, no_code, one_code, IsWhole}
use Rattle.il_tight.proofs.TightBlocks.Settings.{or_left}
use Rattle.il_tight.proofs.KeptBlocks.Staying.{first_stays}
use Rattle.il_tight.proofs.StillValid.Valid.{values_same}
use Rattle.il_emit.specs.Emitted.{data_item, function_item, module_of}
use Rattle.il_emit.specs.Reaches.{SameWorld, Arrives, Overflows, Reaches}
use Rattle.il_emit.specs.Shape.{backward_jumps, calls_of, is_call_of, is_alloc, has_fixed_size, allocs_are_placed, takes, IsShapedAs, AreAlike, outlined, HasShape}
use Rattle.il_emit.proofs.SameRuns.Arrivals.{LightArrives, LightOverflows, LightReaches}
use Rattle.il_emit.proofs.Lines.Counts.{both_true, all_append, all_more, sum_cons}
use Rattle.il_emit.proofs.SameShape.Shapes.{IsLoose, AreLoose, HasLooseShape, plain_sized}

-- the items of a module with tight functions
functions_tight : (p : FlatProgram) (fs : List FlatFn) →
    map (λ (f : FlatFn). tight_item (function_item p f)) fs ≡ map tight_item (map (function_item p) fs)
functions_tight p [] = refl
functions_tight p (f ∷ fs) = ap (λ (is : List IlItem). tight_item (function_item p f) ∷ is) (functions_tight p fs)

items_tight : (p : FlatProgram) (ds : List Data) (fs : List FlatFn) →
    map data_item ds ++ map (λ (f : FlatFn). tight_item (function_item p f)) fs ≡
    map tight_item (map data_item ds ++ map (function_item p) fs)
items_tight p [] fs = functions_tight p fs
items_tight p (d ∷ ds) fs = ap (λ (is : List IlItem). data_item d ∷ is) (items_tight p ds fs)

pub module_emits : (p q : FlatProgram) (a b c : List IlItem) (ds : List Data) (fs : List FlatFn) → a ≡ [] → b ≡ a ++ map data_item ds →
    c ≡ b ++ map (λ (f : FlatFn). tight_item (function_item q f)) fs → q ≡ p → ds ≡ p.globals → fs ≡ p.functions →
    record { items = c } ≡ tight_module (module_of p)
module_emits p q a b c ds fs none front behind same globals functions =
    let items : c ≡ map data_item p.globals ++ map (λ (f : FlatFn). tight_item (function_item p f)) p.functions =
    rw (front, none, same, globals, functions) at behind in
    ap (λ (is : List IlItem). record { items = is }) (items ∙ items_tight p p.globals p.functions)

-- ---- what it does

-- The machine comes with the budget that steps have used to where the light machine comes with as many steps.
module _ (p : FlatProgram) (m : Module) (plain : NoPhis m.items) (args : List (List ℕ)) (input : List ℕ) (fill n : ℕ) where
  abbrev far : ℕ → Run
  far count = after_steps (tight_module m) count (start (tight_module m) args input fill)

  abbrev light_far : ℕ → Run
  light_far count = light.after_steps m count (light.start m args input fill)

  -- the machine with that budget
  abbrev there : ℕ → Run
  there count = machine (tight_module m) args input fill (far count).used

  stands : (count : ℕ) → there count ≡ far count
  stands count = run_to-after_steps (tight_module m) count (start (tight_module m) args input fill)

  alike : (count : ℕ) → Alike (light_far count) (far count)
  alike count = runs_alike _ _ (start_same m plain args input fill count)

  tight_arrives : (r : Result) → LightArrives m args input fill n r → Arrives (tight_module m) args input fill n r
  tight_arrives r h =
      let z = stands h.count in
      let a = alike h.count in
      record {
        budget = (far h.count).used;
        ended = ap (λ (x : Run). x.ended) z ∙ a.ended ∙ h.ended;
        world = subst (λ (w : World). SameWorld r.1.world w) (sym (ap (λ (x : Run). x.state.world) z ∙ a.world)) h.world;
        jumps = λ e. subst (λ (d : List Done). n ≤ length d) (sym (ap (λ (x : Run). x.state.done) z ∙ a.done)) (h.jumps e);
        used = ap (λ (x : Run). x.used) z;
        units = omega (arith, a.used, h.units);
      }

  tight_overflows : (r : Result) → LightOverflows m args input fill n r → Overflows (tight_module m) args input fill n r
  tight_overflows r h =
      record {
        budget = (far h.count).used;
        ended = ap (λ (x : Run). x.ended) (stands h.count) ∙ (alike h.count).ended ∙ h.ended;
        cost = h.cost;
      }

pub tight_reaches : (p : FlatProgram) (m : Module) → NoPhis m.items → LightReaches p m → Reaches p (tight_module m)
tight_reaches p m plain h args input fill n = elim (h args input fill n) [
  | inl a ↦ inl (tight_arrives p m plain args input fill n (run p args input fill n) a)
  | inr o ↦ inr (tight_overflows p m plain args input fill n (run p args input fill n) o)
]

-- ---- its shape

-- 1 where a jump names a block that is not among these
abbrev back : List Block → Jump → ℕ
back behind j = if targets_pass (has_label behind) j then 0 else 1

-- a test of all instructions of some blocks
abbrev all_insts : (Inst → Bool) → List Block → Bool
all_insts q bs = list_all (λ (b : Block). list_all q b.insts) bs

abbrev no_alloc : Inst → Bool
no_alloc i = not (is_alloc i)

-- what each instruction of some blocks weighs, in all
abbrev total : (Inst → ℕ) → List Block → ℕ
total w bs = sum_by (λ (b : Block). sum_by w b.insts) bs

module _ (stays : List ℕ → Bool) where
  same_back : (bs : List Block) (j : Jump) → targets_pass stays j ≡ true → back (kept stays bs) j ≡ back bs j
  same_back bs Fall h = refl
  same_back bs (Jmp l) h = ap (λ (b : Bool). if b then 0 else 1) (label_kept stays l h bs)
  same_back bs (Jnz v x y) h =
      let k = and_parts (stays x) (stays y) h in
      let a = label_kept stays x k.0 bs in
      let b = label_kept stays y k.1 bs in
      rw (a, b) refl
  same_back bs (Ret v) h = refl
  same_back bs Hlt h = refl

  -- how often kept blocks jump back, with the jump that control falls to in front of them, or without
  record Back (bs : List Block) : Type 0 where
    joined : (j : Jump) → targets_pass stays j ≡ true → is_closed stays (falls j) bs ≡ true →
        back (kept stays bs) (into_jump stays j bs) + backward_jumps (kept stays bs) ≤ back bs j + backward_jumps bs
    alone : (into : Bool) → is_closed stays into bs ≡ true → backward_jumps (kept stays bs) ≤ backward_jumps bs

  -- a jump that does not fall
  jump_back : (bs : List Block) (j : Jump) → into_jump stays j bs ≡ j → targets_pass stays j ≡ true →
      backward_jumps (kept stays bs) ≤ backward_jumps bs →
      back (kept stays bs) (into_jump stays j bs) + backward_jumps (kept stays bs) ≤ back bs j + backward_jumps bs
  jump_back bs j e h on =
      let same : back (kept stays bs) (into_jump stays j bs) ≡ back bs j = ap (back (kept stays bs)) e ∙ same_back bs j h in
      omega (arith, same, on)

  none_back : Back []
  none_back = record { joined = joined; alone = λ into c. omega arith }
    where
      joined : (j : Jump) → targets_pass stays j ≡ true → is_closed stays (falls j) [] ≡ true →
          back [] (into_jump stays j []) + 0 ≤ back [] j + 0
      joined (Jmp l) h c = omega arith
      joined (Jnz v x y) h c = omega arith
      joined (Ret v) h c = omega arith
      joined Hlt h c = omega arith
      joined Fall h c = omega arith

  more_back : (b : Block) (bs : List Block) → Back bs → Back (b ∷ bs)
  more_back b bs on = record { joined = joined; alone = alone }
    where
      Here : Type 0
      Here = back (kept stays bs) (into_jump stays b.jump bs) + backward_jumps (kept stays bs) ≤ back bs b.jump + backward_jumps bs

      here : (targets_pass stays b.jump && is_closed stays (falls b.jump) bs) ≡ true → Here
      here c = let k = and_parts (targets_pass stays b.jump) _ c in on.joined b.jump k.0 k.1

      begins : stays b.label ≡ true → Here → backward_jumps (kept stays (b ∷ bs)) ≤ backward_jumps (b ∷ bs)
      begins e h = rw e h

      goes : stays b.label ≡ false → Here → backward_jumps (kept stays (b ∷ bs)) ≤ backward_jumps (b ∷ bs)
      goes e h = rw e (omega (arith, h))

      by_label : (z : Bool) → stays b.label ≡ z → (i : Bool) → is_closed stays i (b ∷ bs) ≡ true →
          backward_jumps (kept stays (b ∷ bs)) ≤ backward_jumps (b ∷ bs)
      by_label true e true c = begins e (here c)
      by_label true e false c = let c' = rw e at c in begins e (here c')
      by_label false e true c = goes e (here c)
      by_label false e false c =
          let c' = rw e at c in
          let h = on.alone false c' in
          rw e (omega (arith, h))

      alone : (into : Bool) → is_closed stays into (b ∷ bs) ≡ true → backward_jumps (kept stays (b ∷ bs)) ≤ backward_jumps (b ∷ bs)
      alone into c = by_label (stays b.label) refl into c

      fallen : (z : Bool) → stays b.label ≡ z → Here →
          back (kept stays (b ∷ bs)) (into_jump stays Fall (b ∷ bs)) + backward_jumps (kept stays (b ∷ bs)) ≤
          back (b ∷ bs) Fall + backward_jumps (b ∷ bs)
      fallen true e h = rw e (omega (arith, h))
      fallen false e h = rw e (omega (arith, h))

      joined : (j : Jump) → targets_pass stays j ≡ true → is_closed stays (falls j) (b ∷ bs) ≡ true →
          back (kept stays (b ∷ bs)) (into_jump stays j (b ∷ bs)) + backward_jumps (kept stays (b ∷ bs)) ≤
          back (b ∷ bs) j + backward_jumps (b ∷ bs)
      joined (Jmp l) h c = jump_back (b ∷ bs) (Jmp l) refl h (alone false c)
      joined (Jnz v x y) h c = jump_back (b ∷ bs) (Jnz v x y) refl h (alone false c)
      joined (Ret v) h c = jump_back (b ∷ bs) (Ret v) refl h (alone false c)
      joined Hlt h c = jump_back (b ∷ bs) Hlt refl h (alone false c)
      joined Fall h c = fallen (stays b.label) refl (here c)

  all_back : (bs : List Block) → Back bs
  all_back [] = none_back
  all_back (b ∷ bs) = more_back b bs (all_back bs)

  total_kept : (w : Inst → ℕ) (into : Bool) (bs : List Block) →
      sum_by w (into_insts stays into bs) + total w (kept stays bs) ≤ total w bs
  total_kept w false [] = omega arith
  total_kept w true [] = omega arith
  total_kept w into (b ∷ bs) = pick (stays b.label) refl into (total_kept w (falls b.jump) bs) (total_kept w false bs)
    where
      pick : (z : Bool) → stays b.label ≡ z → (i : Bool) →
          sum_by w (into_insts stays (falls b.jump) bs) + total w (kept stays bs) ≤ total w bs →
          sum_by w (into_insts stays false bs) + total w (kept stays bs) ≤ total w bs →
          sum_by w (into_insts stays i (b ∷ bs)) + total w (kept stays (b ∷ bs)) ≤ total w (b ∷ bs)
      pick true e true on off = rw e (omega (
        arith,
        on,
        sum_by-append w b.insts (into_insts stays (falls b.jump) bs),
        sum_cons (λ (x : Block). sum_by w x.insts) (whole stays b bs) (kept stays bs),
        sum_cons (λ (x : Block). sum_by w x.insts) b bs,
      ))
      pick true e false on off = rw e (omega (
        arith,
        on,
        sum_by-append w b.insts (into_insts stays (falls b.jump) bs),
        sum_cons (λ (x : Block). sum_by w x.insts) (whole stays b bs) (kept stays bs),
        sum_cons (λ (x : Block). sum_by w x.insts) b bs,
      ))
      pick false e true on off = rw e (omega (
        arith,
        on,
        sum_by-append w b.insts (into_insts stays (falls b.jump) bs),
        sum_cons (λ (x : Block). sum_by w x.insts) b bs,
      ))
      pick false e false on off = rw e (omega (arith, off, sum_cons (λ (x : Block). sum_by w x.insts) b bs))

  total_few : (w : Inst → ℕ) (bs : List Block) → total w (kept stays bs) ≤ total w bs
  total_few w bs = omega (arith, total_kept w false bs)

  passing : (q : Inst → Bool) (bs : List Block) → all_insts q bs ≡ true →
      list_all (λ (b : Block). true && (list_all q b.insts && true)) bs ≡ true
  passing q bs h = all_more _ _ (λ (b : Block) e. both_true _ true e refl) bs h

  insts_kept : (q : Inst → Bool) (bs : List Block) → all_insts q bs ≡ true → all_insts q (kept stays bs) ≡ true
  insts_kept q bs h =
      all_more _ _ (λ (b : Block) e. (and_parts (list_all q b.insts) true e).0) (kept stays bs)
      (kept_pass stays (λ (l : List ℕ). true) q (λ (j : Jump). true) refl bs (passing q bs h))

  placed_kept : (bs : List Block) → first_stays stays bs ≡ true → allocs_are_placed bs ≡ true →
      allocs_are_placed (kept stays bs) ≡ true
  placed_kept [] s h = refl
  placed_kept (b ∷ bs) s h =
      let k = and_parts (list_all has_fixed_size b.insts) (all_insts no_alloc bs) h in
      let into = into_pass stays (λ (l : List ℕ). true) no_alloc (λ (j : Jump). true) refl b.jump bs refl
      (all_reached stays (λ (x : Block). true && (list_all no_alloc x.insts && true)) (falls b.jump) bs (passing no_alloc bs k.1)) in
      rw s (both_true _ _
      (all_append has_fixed_size b.insts _ k.0 (all_more no_alloc has_fixed_size plain_sized (into_insts stays (falls b.jump) bs) into.0))
      (insts_kept no_alloc bs k.1))

-- ---- with settings behind

-- more blocks behind have no fewer labels
back_less : (bs last : List Block) (j : Jump) → back (bs ++ last) j ≤ back bs j
back_less bs last j = pick (targets_pass (has_label bs) j) refl
  where
    there : (l : List ℕ) → has_label bs l ≡ true → has_label (bs ++ last) l ≡ true
    there l h = list_any-append (λ (b : Block). bytes_eq b.label l) bs last ∙ or_left (has_label bs l) _ h

    passed : (j' : Jump) → targets_pass (has_label bs) j' ≡ true → targets_pass (has_label (bs ++ last)) j' ≡ true
    passed Fall h = refl
    passed (Jmp l) h = there l h
    passed (Jnz v x y) h = let k = and_parts (has_label bs x) (has_label bs y) h in both_true _ _ (there x k.0) (there y k.1)
    passed (Ret v) h = refl
    passed Hlt h = refl

    one_or_none : (z : Bool) → (if z then 0 else 1) ≤ 1
    one_or_none true = omega arith
    one_or_none false = omega arith

    pick : (z : Bool) → targets_pass (has_label bs) j ≡ z → back (bs ++ last) j ≤ back bs j
    pick true e = let k = passed j e in rw (e, k) (omega arith)
    pick false e = rw e (one_or_none (targets_pass (has_label (bs ++ last)) j))

back_last : (last : List Block) → AllByRecursion IsZeros last → backward_jumps last ≡ 0
back_last [] z = refl
back_last (b ∷ bs) z =
    let halts : back bs b.jump ≡ 0 = ap (back bs) z.0.0 in
    let others = back_last bs z.1 in
    omega (arith, halts, others)

back_more : (bs last : List Block) → AllByRecursion IsZeros last → backward_jumps (bs ++ last) ≤ backward_jumps bs
back_more [] last z = omega (arith, back_last last z)
back_more (b ∷ bs) last z = let one = back_less bs last b.jump in let others = back_more bs last z in omega (arith, one, others)

-- settings weigh nothing where one does
module _ (w : Inst → ℕ) (light' : (n : List ℕ) (k : Class) → w (zero n k) ≡ 0) where
  insts_weigh : (is : List Inst) → AllByRecursion IsZero is → sum_by w is ≡ 0
  insts_weigh [] z = refl
  insts_weigh (i ∷ is) z =
      let one : w i ≡ 0 = zero_holds (λ (x : Inst). w x ≡ 0) light' i z.0 in
      sum_cons w i is ∙ omega (arith, one, insts_weigh is z.1)

  total_last : (last : List Block) → AllByRecursion IsZeros last → total w last ≡ 0
  total_last [] z = refl
  total_last (b ∷ bs) z =
      sum_cons (λ (x : Block). sum_by w x.insts) b bs ∙ omega (arith, insts_weigh b.insts z.0.1, total_last bs z.1)

  total_more : (bs last : List Block) → AllByRecursion IsZeros last → total w (bs ++ last) ≡ total w bs
  total_more bs last z = sum_by-append (λ (b : Block). sum_by w b.insts) bs last ∙ omega (arith, total_last last z)

-- and pass what one passes
module _ (q : Inst → Bool) (on : (n : List ℕ) (k : Class) → q (zero n k) ≡ true) where
  insts_pass : (is : List Inst) → AllByRecursion IsZero is → list_all q is ≡ true
  insts_pass [] z = refl
  insts_pass (i ∷ is) z = both_true _ _ (zero_holds (λ (x : Inst). q x ≡ true) on i z.0) (insts_pass is z.1)

  last_pass : (last : List Block) → AllByRecursion IsZeros last → all_insts q last ≡ true
  last_pass [] z = refl
  last_pass (b ∷ bs) z = both_true _ _ (insts_pass b.insts z.0.1) (last_pass bs z.1)

not_alloc : (n : List ℕ) (k : Class) → not (is_alloc (zero n k)) ≡ true
not_alloc n k = refl

placed_more : (bs last : List Block) → AllByRecursion IsZeros last → allocs_are_placed bs ≡ true → allocs_are_placed (bs ++ last) ≡ true
placed_more [] [] z h = refl
placed_more [] (b ∷ bs) z h =
    both_true _ _ (insts_pass has_fixed_size (λ n k. refl) b.insts z.0.1) (last_pass no_alloc not_alloc bs z.1)
placed_more (b ∷ bs) last z h =
    let k = and_parts (list_all has_fixed_size b.insts) (all_insts no_alloc bs) h in
    both_true _ _ k.0 (all_append (λ (x : Block). list_all no_alloc x.insts) bs last k.1 (last_pass no_alloc not_alloc last z))

-- a function with its blocks kept, and settings behind them
shaped_kept : (f : FlatFn) (c : il.Code) (stays : List ℕ → Bool) (last : List Block) → IsWhole stays last c.params c.blocks →
    IsLoose f c → IsShapedAs f (record c { blocks = kept stays c.blocks ++ last })
shaped_kept f c stays last w s =
    let ks = kept stays c.blocks in
    let jumps : backward_jumps ks ≤ backward_jumps c.blocks = (all_back stays c.blocks).alone false w.sound.closed in
    let more_jumps : backward_jumps (ks ++ last) ≤ backward_jumps ks = back_more ks last w.zeros in
    let taken : total takes ks ≤ total takes c.blocks = total_few stays takes c.blocks in
    let more_taken : total takes (ks ++ last) ≡ total takes ks = total_more takes (λ n k. refl) ks last w.zeros in
    let sj = s.jumps in
    let sc = s.cost in
    record {
      jumps = omega (arith, jumps, more_jumps, sj);
      calls = λ name.
          let calls : calls_of name ks ≤ calls_of name c.blocks = total_few stays (λ (i : Inst). cond (is_call_of name i) 1 0) c.blocks in
          let more_calls : calls_of name (ks ++ last) ≡ calls_of name ks =
          total_more (λ (i : Inst). cond (is_call_of name i) 1 0) (λ n k. refl) ks last w.zeros in
          let sn = s.calls name in
          omega (arith, calls, more_calls, sn);
      allocs = placed_more ks last w.zeros (placed_kept stays c.blocks w.first s.allocs);
      unframed = λ e. all_append (λ (b : Block). list_all no_alloc b.insts) ks last (insts_kept stays no_alloc c.blocks (s.unframed e))
          (last_pass no_alloc not_alloc last w.zeros);
      cost = omega (arith, w.cost, taken, more_taken, sc);
    }

alike_kept : (o : Option FlatFn) (c c' : Option il.Code) → SameCode c c' → AreLoose o c → AreAlike o c'
alike_kept None _ _ no_code h = h
alike_kept (Some f) _ _ no_code h = h
alike_kept None _ _ (one_code c stays last w) h = h
alike_kept (Some f) _ _ (one_code c stays last w) h = shaped_kept f c stays last w h

outline_same : (i : IlItem) → outlined (tight_item i) ≡ outlined i
outline_same (item.Data export name align parts) = refl
outline_same (item.Function export class name params blocks) = refl

pub tight_shape : (p : FlatProgram) (m : Module) → NoPhis m.items → HasLooseShape p m → HasShape p (tight_module m)
tight_shape p m plain h = record {
  items = values_same outlined outline_same m.items ∙ h.items;
  functions = λ name. alike_kept (flat.function_named p.functions name) _ _ (functions_same m.items plain name) (h.functions name);
}
