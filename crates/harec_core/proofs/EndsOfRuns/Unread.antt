-- Runs from the start, and those of a module that reads nothing, which no input changes.
use Rattle.std.proofs.Common.{◌≡◌, ℕ, ◌+◌, ◌<◌, ◌≤◌, List, [], ◌∷◌, ◌++◌, length, Option, None, Some, length-append, refl, sym, ap, ◌∙◌, subst, arith}
use Rattle.std.specs.Prelude.{codes}
use Rattle.il_code.specs.declared.types.Module.{Module}
use Rattle.il_code.specs.MachineLaws.{IsGoing, input_of, output_of, with_input}
use Rattle.il_code.specs.Run.{Run, further, machine, resumed, run_to, start, started, start_world}
use Rattle.il_code.specs.State.{Code, function_named}
use Rattle.il_code.proofs.Budgets.{over, going, Ended, ended_or_open, further-used, further-stays, run_to-first, run_to-on, run_to-stays, run_to-stops, run_to-used}
use Rattle.il_step.specs.Runs.{after_inputs, AreBegun}
use Rattle.harec_core.specs.Jobs.{ReadsNothing}

-- bytes in front of others, which are all of them, are none
pub none_in_front : (bytes others : List ℕ) → bytes ++ others ≡ others → bytes ≡ []
none_in_front [] others e = refl
none_in_front (b ∷ bytes) others e = absurd (omega (arith, ap length e, length-append (b ∷ bytes) others))

module _ (m : Module) (args : List (List ℕ)) (fill : ℕ) where
  -- ---- the start

  pub start_input : (input : List ℕ) → input_of (start m args input fill) ≡ input
  start_input input = pick (function_named m.items (codes "main"))
    where
      pick : (f : Option Code) → input_of (started (start_world m args input fill) f) ≡ input
      pick None = refl
      pick (Some f) = refl

  pub start_output : (input : List ℕ) → output_of (start m args input fill) ≡ []
  start_output input = pick (function_named m.items (codes "main"))
    where
      pick : (f : Option Code) → output_of (started (start_world m args input fill) f) ≡ []
      pick None = refl
      pick (Some f) = refl

  pub start_used : (input : List ℕ) → (start m args input fill).used ≡ 0
  start_used input = pick (function_named m.items (codes "main"))
    where
      pick : (f : Option Code) → (started (start_world m args input fill) f).used ≡ 0
      pick None = refl
      pick (Some f) = refl

  -- the start on one input is that on another, but for the input
  pub start_other : (input other : List ℕ) → with_input (start m args input fill) other ≡ start m args other fill
  start_other input other = pick (function_named m.items (codes "main"))
    where
      pick :
          (f : Option Code)
          → with_input (started (start_world m args input fill) f) other ≡ started (start_world m args other fill) f
      pick None = refl
      pick (Some f) = refl

  -- a run that goes on from its start with some units is the run with so many
  pub resumed_start : (input : List ℕ) (n : ℕ) → resumed m n (start m args input fill) ≡ machine m args input fill n
  resumed_start input n =
      let s = start m args input fill in
      let none : s.used + n ≡ n = omega (arith, start_used input) in
      ap (λ (k : ℕ). run_to m k s) none

  -- ---- a module that reads nothing

  module _ (unread : ReadsNothing m) (n : ℕ) where
    -- the run is that of the module on some input, with a budget of at most `n`
    pub record Comes (r : Run) : Type 0 where
      pub budget : ℕ
      pub within : budget ≤ n
      pub input : List ℕ
      pub is : r ≡ machine m args input fill budget

    comes_first : (input : List ℕ) → Comes (start m args input fill)
    comes_first input = record {
      budget = 0;
      within = omega arith;
      input = input;
      is = sym (run_to-stops m 0 (start m args input fill) (omega arith));
    }

    -- a step of such a run leads to such a run
    comes_next :
        (input : List ℕ) (budget : ℕ) → (machine m args input fill budget).ended ≡ None
        → (machine m args input fill budget).used < n → Comes (further m (machine m args input fill budget))
    comes_next input budget unended left =
        let s = start m args input fill in
        let q = machine m args input fill budget in
        let first = run_to-first m (q.used + 1) q (omega arith) in
        let stops = run_to-stops m (q.used + 1) (further m q) (omega (arith, further-used m q unended)) in
        let on =
        ap (λ (x : Run). run_to m (q.used + 1) x) (sym (run_to-used m budget s)) ∙ run_to-on m q.used (q.used + 1) s (omega arith) in
        record { budget = q.used + 1; within = omega (arith, left); input = input; is = sym stops ∙ first ∙ on }

    -- so does one that may find any input
    comes_further : (r : Run) (other : List ℕ) → IsGoing n r → Comes r → Comes (further m (with_input r other))
    comes_further r other g c =
        let same : with_input r other ≡ machine m args other fill c.budget =
        ap (λ (x : Run). with_input x other) c.is ∙ sym (unread args c.input other fill c.budget) in
        let unended : (machine m args other fill c.budget).ended ≡ None = ap (λ (x : Run). x.ended) (sym same) ∙ g.going in
        let used : r.used ≡ (machine m args other fill c.budget).used = ap (λ (x : Run). x.used) same in
        subst (λ (x : Run). Comes (further m x)) (sym same) (comes_next other c.budget unended (omega (arith, used, g.left)))

    comes_behind : (inputs : List (List ℕ)) (r : Run) → AreBegun m n inputs r → Comes r → Comes (after_inputs m inputs r)
    comes_behind [] r h c = c
    comes_behind (input ∷ more) r h c = comes_behind more (further m (with_input r input)) h.1 (comes_further r input h.0 c)

    -- a run that has come so far that no step is begun is the whole run
    comes_whole : (r : Run) (c : Comes r) → (r.ended ≡ None → n ≤ r.used) → machine m args c.input fill n ≡ r
    comes_whole r c done = sym (run_to-on m c.budget n s c.within) ∙ ap (run_to m n) (sym c.is) ∙ pick (ended_or_open m r)
      where
        s : Run
        s = start m args c.input fill

        pick : Ended m r → run_to m n r ≡ r
        pick (over e h) = run_to-stays m n r (further-stays m r e h)
        pick (going h) = run_to-stops m n r (done h)

    -- Steps that may each find any input lead to the run on every input.
    pub led_to :
        (inputs : List (List ℕ)) (first bytes : List ℕ) → AreBegun m n inputs (start m args first fill)
        → ((after_inputs m inputs (start m args first fill)).ended ≡ None → n ≤ (after_inputs m inputs (start m args first fill)).used)
        → machine m args bytes fill n ≡ with_input (after_inputs m inputs (start m args first fill)) bytes
    led_to inputs first bytes begun done =
        let to = after_inputs m inputs (start m args first fill) in
        let c = comes_behind inputs (start m args first fill) begun (comes_first first) in
        unread args c.input bytes fill n ∙ ap (λ (x : Run). with_input x bytes) (comes_whole to c done)
