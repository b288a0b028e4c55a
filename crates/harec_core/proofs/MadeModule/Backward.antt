-- What the program does of which a module does what it does: each run of the module is one of the program.
use Rattle.std.proofs.Common.{◌≡◌, ℕ, ◌+◌, ◌-◌, ◌≤◌, List, Option, Some, None, length, length-append, refl, sym, ap, ◌∙◌, inl, inr, arith}
use Rattle.std.specs.Prelude.{◌⊎◌, codes}
use Rattle.flat_code.specs.declared.program.FlatProgram.{FlatProgram}
use Rattle.flat_code.specs.Run as flat
use Rattle.flat_code.specs.State.{Flow}
use Rattle.flat_code.specs.State as flow
use Rattle.hare_blocks.specs.Evaluation.{End, Exit, Spent, run}
use Rattle.hare_blocks.specs.Trees.{Program}
use Rattle.il_code.specs.declared.types.Module.{Module}
use Rattle.il_code.specs.Machine as machine
use Rattle.il_code.specs.MachineLaws.{IsFront, jumps_and_calls}
use Rattle.il_code.specs.State.{Code, function_named}
use Rattle.il_code.specs.Run.{Run, end_of, start, started, start_world, machine, machine_end, machine_output}
use Rattle.il_code.proofs.Budgets.{Order, less, most, order_of, ends_stay}
use Rattle.il_code.proofs.Steps.{output_grows, done_is_kept}
use Rattle.il_emit.specs.Reaches.{Reaches, Arrives, Overflows, end_for}
use Rattle.low_blocks.specs.Agreement.{DoesTheSame, flat_end}
use Rattle.low_blocks.specs.Shape.{CostsLittle}
use Rattle.harec_core.specs.Carries.{Backs, Back}
use Rattle.harec_core.specs.Class.{evaluation_of, outcome_of}
use Rattle.harec_core.proofs.MadeModule.Forward.{ended_in}

-- the end of a run that goes on
goes_on : (r : Run) → r.ended ≡ None → end_of r ≡ machine.Spent
goes_on r h = rw h refl

-- no end is none
none_some : (e : machine.End) → None ≡ Some e → ⊥
none_some e h = cc

-- nothing was done at the start
pub none_begun : (m : Module) (args : List (List ℕ)) (input : List ℕ) (fill : ℕ) → jumps_and_calls (start m args input fill) ≡ 0
none_begun m args input fill = pick (function_named m.items (codes "main"))
  where
    pick : (f : Option Code) → jumps_and_calls (started (start_world m args input fill) f) ≡ 0
    pick None = refl
    pick (Some f) = refl

-- ---- runs with less and more units

module _ (m : Module) (args : List (List ℕ)) (input : List ℕ) (fill : ℕ) where
  -- an end stays at every greater budget
  pub later_same : (n k : ℕ) (e : machine.End) → n ≤ k → (machine m args input fill n).ended ≡ Some e →
      machine m args input fill k ≡ machine m args input fill n
  later_same n k e l h =
      let more : n + (k - n) ≡ k = omega arith in
      rw (← more) (ends_stay m (start m args input fill) n (k - n) e h)

  -- the output grows
  later_output : (n k : ℕ) → n ≤ k → IsFront (machine_output m args input fill n) (machine_output m args input fill k)
  later_output n k l =
      let more : n + (k - n) ≡ k = omega arith in
      rw more at (output_grows m (start m args input fill) n (k - n))

  -- so do the jumps and calls
  later_counts : (n k : ℕ) → n ≤ k → jumps_and_calls (machine m args input fill n) ≤ jumps_and_calls (machine m args input fill k)
  later_counts n k l =
      let more : n + (k - n) ≡ k = omega arith in
      let kept = rw more at (done_is_kept.grows m (start m args input fill) n (k - n)) in
      omega (arith, length-append kept.0 (machine m args input fill n).state.done, ap length kept.1)

  -- a run has ended, or goes on
  data Stands (r : Run) : Type 0 where
    over : (e : machine.End) → r.ended ≡ Some e → Stands r
    open_run : r.ended ≡ None → Stands r

  stands : (r : Run) → Stands r
  stands r = pick r.ended refl
    where
      pick : (o : Option machine.End) → r.ended ≡ o → Stands r
      pick None e = open_run e
      pick (Some x) e = over x e

  -- a run with a budget, against one with another that has come to where the program ends, or has done as many jumps and calls
  module _ (budget reached : ℕ) (expected : List ℕ) (output : machine_output m args input fill reached ≡ expected) where
    -- the program has ended
    back_ended : (status : ℕ) → (machine m args input fill reached).ended ≡ Some (machine.Exit status) →
        Backs (machine_end m args input fill budget) (machine_output m args input fill budget) (outcome_of (Exit status)) expected
    back_ended status h = pick (order_of m budget reached)
      where
        pick : Order m budget reached → Backs (machine_end m args input fill budget) (machine_output m args input fill budget)
            (outcome_of (Exit status)) expected
        pick (most l) =
            let same = later_same reached budget (machine.Exit status) l h in
            inr (inr (
              ap end_of same ∙ ended_in (machine m args input fill reached) (machine.Exit status) h,
              ap
                  (λ (r : Run). r.state.world.output) same ∙ output,
            ))
        pick (less l) = before (stands (machine m args input fill budget))
          where
            before : Stands (machine m args input fill budget) →
                Backs (machine_end m args input fill budget) (machine_output m args input fill budget) (outcome_of (Exit status)) expected
            before (over e k) =
                let same = later_same budget reached e (omega arith) k in
                inr (inr (
                  sym (ap end_of same) ∙ ended_in (machine m args input fill reached) (machine.Exit status) h,
                  sym
                      (ap (λ (r : Run). r.state.world.output) same) ∙ output,
                ))
            before (open_run k) = inr (inl (
              goes_on (machine m args input fill budget) k,
              rw output at
                  (later_output budget reached (omega arith)),
            ))

    -- turns ran out, one more than the run with the budget has done jumps and calls
    back_going : (machine m args input fill reached).ended ≡ None →
        jumps_and_calls (machine m args input fill budget) + 1 ≤ jumps_and_calls (machine m args input fill reached) →
        Backs (machine_end m args input fill budget) (machine_output m args input fill budget) (outcome_of Spent) expected
    back_going h j = pick (order_of m budget reached)
      where
        pick : Order m budget reached → Backs (machine_end m args input fill budget) (machine_output m args input fill budget)
            (outcome_of Spent) expected
        pick (most l) = absurd (omega (arith, j, later_counts reached budget l))
        pick (less l) = before (stands (machine m args input fill budget))
          where
            before : Stands (machine m args input fill budget) →
                Backs (machine_end m args input fill budget) (machine_output m args input fill budget) (outcome_of Spent) expected
            before (over e k) = absurd (none_some e (sym h ∙ ap (λ (r : Run). r.ended) (later_same budget reached e (omega arith) k) ∙ k))
            before (open_run k) = inr (inl (
              goes_on (machine m args input fill budget) k,
              rw output at
                  (later_output budget reached (omega arith)),
            ))

-- what a run has come to, by how the program ends within as many turns
backs : (m : Module) (args : List (List ℕ)) (input : List ℕ) (fill budget reached n : ℕ) (end : End) (expected : List ℕ) (way : Flow) →
    way ≡ flat_end end → (machine m args input fill reached).ended ≡ end_for way → machine_output m args input fill reached ≡ expected →
    (way ≡ flow.Spent → n ≤ jumps_and_calls (machine m args input fill reached)) →
    n ≡ jumps_and_calls (machine m args input fill budget) + 1 →
    Backs (machine_end m args input fill budget) (machine_output m args input fill budget) (outcome_of end) expected
backs m args input fill budget reached n (Exit status) expected way f e o j more =
    back_ended m args input fill budget reached expected o status (e ∙ ap end_for f)
backs m args input fill budget reached n Spent expected way f e o j more =
    let some = j f in
    back_going m args input fill budget reached expected o (e ∙ ap end_for f) (omega (arith, some, more))

-- The module of flat code that does what the program does does nothing that the program does not do.
pub does_back : (p : Program) (f : FlatProgram) (m : Module) → CostsLittle f → DoesTheSame p f → Reaches f m → Back m (evaluation_of p)
does_back p f m costs does reaches args input fill budget few byte = record {
  few = omega (arith, done_is_kept.few m (start m args input fill) budget, none_begun m args input fill);
  backs = pick (reaches args input fill (jumps_and_calls (machine m args input fill budget) + 1));
}
  where
    pick : Arrives m args input fill (jumps_and_calls (machine m args input fill budget) + 1)
        (flat.run f args input fill (jumps_and_calls (machine m args input fill budget) + 1)) ⊎ Overflows m args input fill
        (jumps_and_calls (machine m args input fill budget) + 1)
        (flat.run f args input fill (jumps_and_calls (machine m args input fill budget) + 1))
        → Backs (machine_end m args input fill budget) (machine_output m args input fill budget)
        (outcome_of (run (length args) p (jumps_and_calls (machine m args input fill budget) + 1)).0)
        (run (length args) p (jumps_and_calls (machine m args input fill budget) + 1)).1
    pick (inl a) =
        let n = jumps_and_calls (machine m args input fill budget) + 1 in
        backs m args input fill budget a.budget n (run (length args) p n).0 (run (length args) p n).1 (flat.run f args input fill n).0
        (does.ends args input fill n) a.ended (sym a.world.output ∙ does.outputs args input fill n) a.jumps refl
    pick (inr o) = absurd (omega (arith, o.cost, costs.most args input fill (jumps_and_calls (machine m args input fill budget) + 1)))
