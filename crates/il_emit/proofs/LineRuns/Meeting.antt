-- What runs come to, put together: steps before, a statement and those behind it, turns, and labels and jumps behind code.
use Rattle.std.proofs.Common.{◌≡◌, ℕ, zero, suc, ◌+◌, ◌*◌, ◌≤◌, List, ◌∷◌, refl, ap, ◌∙◌, arith, inl, inr}
use Rattle.flat_code.specs.State as flat
use Rattle.flat_code.specs.State.{Result, Next, Left, Returned, HeapFull, Spent}
use Rattle.il_code.specs.declared.types.Jump.TheVariants as jump
use Rattle.il_code.specs.declared.types.Module.{Module}
use Rattle.il_code.specs.Machine as machine
use Rattle.il_code.specs.MachineLaws.{jumps_and_calls}
use Rattle.il_code.specs.Run.{Run}
use Rattle.il_tight.proofs.SameRuns.Light.{after_steps}
use Rattle.il_emit.specs.Names.{label_name}
use Rattle.il_emit.specs.Lines.{Line, Label, End}
use Rattle.il_emit.proofs.Lines.Places.{Finds}
use Rattle.il_emit.proofs.LineRuns.Running.{Activation, Mark, counted, steps_more, Holds, out_of, before, jumped_to, jump_step, passed}
use Rattle.il_emit.proofs.LineRuns.Running.{Comes, Stops, GoesOn, Returns, Fills, Does, Meets}

module _ (m : Module) (call : Activation) where
  -- ---- steps before

  module _ (k : ℕ) (r r1 : Run) (by : after_steps m k r ≡ r1) (low low1 high high1 : ℕ) (pays : high1 + low ≤ high + low1) where
    on : (j : ℕ) → after_steps m (k + j) r ≡ after_steps m j r1
    on j = steps_more m k j r ∙ ap (after_steps m j) by

    comes_later : (q q1 : ℕ) (s : flat.State) (ls : List Line) → q ≤ q1 → Comes m call q1 low1 high1 r1 s ls →
        Comes m call q low high r s ls
    comes_later q q1 s ls le h =
        let j = h.jumps in
        let u = h.units in
        record { to = h.to; count = k + h.count; by = on h.count ∙ h.by; holds = h.holds; jumps = omega arith; units = omega arith }

    returns_later : (q q1 : ℕ) (s : flat.State) (v : ℕ) → q ≤ q1 → Returns m call q1 low1 high1 r1 s v → Returns m call q low high r s v
    returns_later q q1 s v le h =
        let j = h.jumps in
        let u = h.units in
        record {
          to = h.to;
          lines = h.lines;
          count = k + h.count;
          by = on h.count ∙ h.by;
          returns = h.returns;
          holds = h.holds;
          jumps =
              omega arith;
          units = omega arith;
        }

    stops_later : (s : flat.State) (e : machine.End) → Stops m call low1 high1 r1 s e → Stops m call low high r s e
    stops_later s e h =
        let z = on h.count in
        let used : (after_steps m (k + h.count) r).used ≡ (after_steps m h.count r1).used = ap (λ (x : Run). x.used) z in
        record {
          count = k + h.count;
          ended = ap (λ (x : Run). x.ended) z ∙ h.ended;
          world = ap (λ (x : Run). x.state.world) z ∙ h.world;
          units = omega (arith, used, h.units);
        }

    goes_later : (n n1 q q1 : ℕ) (s : flat.State) → q + n ≤ q1 + n1 → GoesOn m call n1 q1 low1 high1 r1 s → GoesOn m call n q low high r s
    goes_later n n1 q q1 s le h =
        let z = on h.count in
        let used : (after_steps m (k + h.count) r).used ≡ (after_steps m h.count r1).used = ap (λ (x : Run). x.used) z in
        let jumps : jumps_and_calls (after_steps m (k + h.count) r) ≡ jumps_and_calls (after_steps m h.count r1) = ap jumps_and_calls z in
        record {
          count = k + h.count;
          ended = ap (λ (x : Run). x.ended) z ∙ h.ended;
          world = ap (λ (x : Run). x.state.world) z ∙ h.world;
          jumps = omega (arith, jumps, h.jumps, le);
          units = omega (arith, used, h.units);
        }

    does_later : (n n1 q q1 : ℕ) (out : ℕ → List Line) (rest : List Line) (res : Result) → q ≤ q1 → q + n ≤ q1 + n1 →
        Does m call n1 q1 low1 high1 out rest r1 res → Does m call n q low high out rest r res
    does_later n n1 q q1 out rest (Next, s) l le h = comes_later q q1 s rest l h
    does_later n n1 q q1 out rest (Left k', s) l le h = comes_later q q1 s (out k') l h
    does_later n n1 q q1 out rest (Returned v, s) l le h = returns_later q q1 s v l h
    does_later n n1 q q1 out rest (flat.Exit k', s) l le h = stops_later s _ h
    does_later n n1 q q1 out rest (flat.Abort t, s) l le h = stops_later s _ h
    does_later n n1 q q1 out rest (flat.Fault f, s) l le h = stops_later s _ h
    does_later n n1 q q1 out rest (HeapFull, s) l le h = stops_later s _ h
    does_later n n1 q q1 out rest (Spent, s) l le h = goes_later n n1 q q1 s le h

    fills_later : (s : flat.State) → Fills m call r1 s → Fills m call r s
    fills_later s h =
        record { count = k + h.count; ended = ap (λ (x : Run). x.ended) (on h.count) ∙ h.ended; most = h.most }

    pub later : (n n1 q q1 : ℕ) (out : ℕ → List Line) (rest : List Line) (res : Result) → q ≤ q1 → q + n ≤ q1 + n1 →
        Meets m call n1 q1 low1 high1 out rest r1 res → Meets m call n q low high out rest r res
    later n n1 q q1 out rest res l le h = elim h [
      | inl x ↦ inl (does_later n n1 q q1 out rest res l le x)
      | inr x ↦ inr (fills_later res.1 x)
    ]

  -- more units may be used
  pub may_use : (n q low low1 high high1 : ℕ) (out : ℕ → List Line) (rest : List Line) (r : Run) (res : Result) →
      high1 + low ≤ high + low1 → Meets m call n q low1 high1 out rest r res → Meets m call n q low high out rest r res
  may_use n q low low1 high high1 out rest r res le h =
      later 0 r r refl low low1 high high1 le n n q q out rest res (omega arith) (omega arith) h

  -- ---- statements put together

  -- what is claimed of what comes next: `more` units may be used there besides
  abbrev pub NextMeets : (n more : ℕ) (out : ℕ → List Line) (rest here : List Line) → (flat.State → Result) → Type 0
  NextMeets n more out rest here go = (s : flat.State) (c : Mark) → Holds call s c →
      Meets m call n (counted c) (4 * s.steps) (c.used + more) out rest (before m call here s.world c) (go s)

  behind : (n q low high more : ℕ) (out : ℕ → List Line) (rest here : List Line) (r : Run) (s : flat.State) (go : flat.State → Result) →
      Comes m call q low high r s here → NextMeets n more out rest here go → Meets m call n q low (high + more) out rest r (go s)
  behind n q low high more out rest here r s go h g =
      let j = h.jumps in
      let u = h.units in
      later h.count r (before m call here s.world h.to) h.by low (4 * s.steps) (high + more) (h.to.used + more) (omega arith) n n q
      (counted h.to) out rest (go s) j (omega arith) (g s h.to h.holds)

  stops_more : (low high more : ℕ) (r : Run) (s : flat.State) (e : machine.End) → Stops m call low high r s e →
      Stops m call low (high + more) r s e
  stops_more low high more r s e h =
      let u = h.units in record { count = h.count; ended = h.ended; world = h.world; units = omega arith }

  returns_more : (q low high more : ℕ) (r : Run) (s : flat.State) (v : ℕ) → Returns m call q low high r s v →
      Returns m call q low (high + more) r s v
  returns_more q low high more r s v h = let u =
      h.units in record {
        to = h.to;
        lines = h.lines;
        count = h.count;
        by = h.by;
        returns = h.returns;
        holds = h.holds;
        jumps =
            h.jumps;
        units = omega arith;
      }

  comes_more : (q low high more : ℕ) (r : Run) (s : flat.State) (ls : List Line) → Comes m call q low high r s ls →
      Comes m call q low (high + more) r s ls
  comes_more q low high more r s ls h =
      let u = h.units in record { to = h.to; count = h.count; by = h.by; holds = h.holds; jumps = h.jumps; units = omega arith }

  goes_more : (n q low high more : ℕ) (r : Run) (s : flat.State) → GoesOn m call n q low high r s → GoesOn m call n q low (high + more) r s
  goes_more n q low high more r s h =
      let u = h.units in record { count = h.count; ended = h.ended; world = h.world; jumps = h.jumps; units = omega arith }

  module _ (n q low high more : ℕ) (out : ℕ → List Line) (rest here : List Line) (r : Run) (go : flat.State → Result)
      (grows : (s : flat.State) → s.most ≤ (go s).1.most) (g : NextMeets n more out rest here go) where
    fills_more : (s : flat.State) → Fills m call r s → Fills m call r (go s).1
    fills_more s h = record { count = h.count; ended = h.ended; most = omega (arith, h.most, grows s) }

    then_does : (res : Result) → Does m call n q low high out here r res →
        Meets m call n q low (high + more) out rest r (flat.then_go res go)
    then_does (Next, s) h = behind n q low high more out rest here r s go h g
    then_does (Left k, s) h = inl (comes_more q low high more r s (out k) h)
    then_does (Returned v, s) h = inl (returns_more q low high more r s v h)
    then_does (flat.Exit k, s) h = inl (stops_more low high more r s _ h)
    then_does (flat.Abort t, s) h = inl (stops_more low high more r s _ h)
    then_does (flat.Fault f, s) h = inl (stops_more low high more r s _ h)
    then_does (HeapFull, s) h = inl (stops_more low high more r s _ h)
    then_does (Spent, s) h = inl (goes_more n q low high more r s h)

    then_fills : (res : Result) → Fills m call r res.1 → Fills m call r (flat.then_go res go).1
    then_fills (Next, s) h = fills_more s h
    then_fills (Left k, s) h = h
    then_fills (Returned v, s) h = h
    then_fills (flat.Exit k, s) h = h
    then_fills (flat.Abort t, s) h = h
    then_fills (flat.Fault f, s) h = h
    then_fills (HeapFull, s) h = h
    then_fills (Spent, s) h = h

    -- a statement and all behind it
    pub then_meets : (res : Result) → Meets m call n q low high out here r res →
        Meets m call n q low (high + more) out rest r (flat.then_go res go)
    then_meets res h = elim h [ inl x ↦ then_does res x | inr x ↦ inr (then_fills res x) ]

    turn_does : (res : Result) → Does m call n q low high (out_of rest out) here r res →
        Meets m call n q low (high + more) out rest r (flat.then_turn res go)
    turn_does (Next, s) h = behind n q low high more out rest here r s go h g
    turn_does (Left zero, s) h = inl (comes_more q low high more r s rest h)
    turn_does (Left (suc k), s) h = inl (comes_more q low high more r s (out k) h)
    turn_does (Returned v, s) h = inl (returns_more q low high more r s v h)
    turn_does (flat.Exit k, s) h = inl (stops_more low high more r s _ h)
    turn_does (flat.Abort t, s) h = inl (stops_more low high more r s _ h)
    turn_does (flat.Fault f, s) h = inl (stops_more low high more r s _ h)
    turn_does (HeapFull, s) h = inl (stops_more low high more r s _ h)
    turn_does (Spent, s) h = inl (goes_more n q low high more r s h)

    turn_fills : (res : Result) → Fills m call r res.1 → Fills m call r (flat.then_turn res go).1
    turn_fills (Next, s) h = fills_more s h
    turn_fills (Left zero, s) h = h
    turn_fills (Left (suc k), s) h = h
    turn_fills (Returned v, s) h = h
    turn_fills (flat.Exit k, s) h = h
    turn_fills (flat.Abort t, s) h = h
    turn_fills (flat.Fault f, s) h = h
    turn_fills (HeapFull, s) h = h
    turn_fills (Spent, s) h = h

    -- the body of a Loop and the turns behind it
    pub turn_meets : (res : Result) → Meets m call n q low high (out_of rest out) here r res →
        Meets m call n q low (high + more) out rest r (flat.then_turn res go)
    turn_meets res h = elim h [ inl x ↦ turn_does res x | inr x ↦ inr (turn_fills res x) ]

  caught_does : (n q low high : ℕ) (out : ℕ → List Line) (rest : List Line) (r : Run) (res : Result) →
      Does m call n q low high (out_of rest out) rest r res → Does m call n q low high out rest r (flat.caught res)
  caught_does n q low high out rest r (Next, s) h = h
  caught_does n q low high out rest r (Left zero, s) h = h
  caught_does n q low high out rest r (Left (suc k), s) h = h
  caught_does n q low high out rest r (Returned v, s) h = h
  caught_does n q low high out rest r (flat.Exit k, s) h = h
  caught_does n q low high out rest r (flat.Abort t, s) h = h
  caught_does n q low high out rest r (flat.Fault f, s) h = h
  caught_does n q low high out rest r (HeapFull, s) h = h
  caught_does n q low high out rest r (Spent, s) h = h

  caught_fills : (r : Run) (res : Result) → Fills m call r res.1 → Fills m call r (flat.caught res).1
  caught_fills r (Next, s) h = h
  caught_fills r (Left zero, s) h = h
  caught_fills r (Left (suc k), s) h = h
  caught_fills r (Returned v, s) h = h
  caught_fills r (flat.Exit k, s) h = h
  caught_fills r (flat.Abort t, s) h = h
  caught_fills r (flat.Fault f, s) h = h
  caught_fills r (HeapFull, s) h = h
  caught_fills r (Spent, s) h = h

  -- a Seq
  pub caught_meets : (n q low high : ℕ) (out : ℕ → List Line) (rest : List Line) (r : Run) (res : Result) →
      Meets m call n q low high (out_of rest out) rest r res → Meets m call n q low high out rest r (flat.caught res)
  caught_meets n q low high out rest r res h = elim h [
    | inl x ↦ inl (caught_does n q low high out rest r res x)
    | inr x ↦ inr (caught_fills r res x)
  ]

  -- behind the code stands a label
  label_comes : (q low high x : ℕ) (rest : List Line) (r : Run) (s : flat.State) → Comes m call q low high r s (Label x ∷ rest) →
      Comes m call q low high r s rest
  label_comes q low high x rest r s h =
      record {
        to = passed m call x h.to;
        count = h.count;
        by = h.by;
        holds = record { same = h.holds.same; frame = h.holds.frame; base = h.holds.base; top = h.holds.top; cost = h.holds.cost };
        jumps =
            h.jumps;
        units = h.units;
      }

  label_does : (n q low high x : ℕ) (out : ℕ → List Line) (rest : List Line) (r : Run) (res : Result) →
      Does m call n q low high out (Label x ∷ rest) r res → Does m call n q low high out rest r res
  label_does n q low high x out rest r (Next, s) h = label_comes q low high x rest r s h
  label_does n q low high x out rest r (Left k, s) h = h
  label_does n q low high x out rest r (Returned v, s) h = h
  label_does n q low high x out rest r (flat.Exit k, s) h = h
  label_does n q low high x out rest r (flat.Abort t, s) h = h
  label_does n q low high x out rest r (flat.Fault f, s) h = h
  label_does n q low high x out rest r (HeapFull, s) h = h
  label_does n q low high x out rest r (Spent, s) h = h

  pub label_meets : (n q low high x : ℕ) (out : ℕ → List Line) (rest : List Line) (r : Run) (res : Result) →
      Meets m call n q low high out (Label x ∷ rest) r res → Meets m call n q low high out rest r res
  label_meets n q low high x out rest r res h = elim h [ inl y ↦ inl (label_does n q low high x out rest r res y) | inr y ↦ inr y ]

  -- behind the code stands a jump to a label
  jump_comes : (q low high x : ℕ) (ls rest : List Line) (r : Run) (s : flat.State) → Finds call.lines x rest →
      Comes m call q low high r s (End (jump.Jmp (label_name x)) ∷ ls) → Comes m call q low (high + 1) r s rest
  jump_comes q low high x ls rest r s f h =
      let j = h.jumps in
      let u = h.units in
      record {
        to = jumped_to m call x h.to;
        count = h.count + 1;
        by = steps_more m h.count 1 r ∙ ap (after_steps m 1) h.by ∙ jump_step m call x rest ls s.world h.to f;
        holds = record { same = h.holds.same; frame = h.holds.frame; base = h.holds.base; top = h.holds.top; cost = h.holds.cost };
        jumps = omega arith;
        units = omega arith;
      }

  jump_does : (n q low high x : ℕ) (out : ℕ → List Line) (ls rest : List Line) (r : Run) (res : Result) → Finds call.lines x rest →
      Does m call n q low high out (End (jump.Jmp (label_name x)) ∷ ls) r res → Does m call n q low (high + 1) out rest r res
  jump_does n q low high x out ls rest r (Next, s) f h = jump_comes q low high x ls rest r s f h
  jump_does n q low high x out ls rest r (Left k, s) f h = comes_more q low high 1 r s (out k) h
  jump_does n q low high x out ls rest r (Returned v, s) f h = returns_more q low high 1 r s v h
  jump_does n q low high x out ls rest r (flat.Exit k, s) f h = stops_more low high 1 r s _ h
  jump_does n q low high x out ls rest r (flat.Abort t, s) f h = stops_more low high 1 r s _ h
  jump_does n q low high x out ls rest r (flat.Fault e, s) f h = stops_more low high 1 r s _ h
  jump_does n q low high x out ls rest r (HeapFull, s) f h = stops_more low high 1 r s _ h
  jump_does n q low high x out ls rest r (Spent, s) f h = goes_more n q low high 1 r s h

  pub jump_meets : (n q low high x : ℕ) (out : ℕ → List Line) (ls rest : List Line) (r : Run) (res : Result) → Finds call.lines x rest →
      Meets m call n q low high out (End (jump.Jmp (label_name x)) ∷ ls) r res → Meets m call n q low (high + 1) out rest r res
  jump_meets n q low high x out ls rest r res f h = elim h [
    | inl y ↦ inl (jump_does n q low high x out ls rest r res f y)
    | inr y ↦ inr y
  ]
