-- What is counted, and in which call code goes on.
use Rattle.std.proofs.Common.{◌≡◌, ℕ, zero, suc, ◌+◌, ◌≤◌, List, refl, ◌∙◌, arith}
use Rattle.std.specs.Prelude.{max}
use Rattle.hx_base.specs.Memory.{Memory}
use Rattle.flat_code.specs.declared.program.FlatFn.{FlatFn}
use Rattle.flat_code.specs.Costs.{call_cost}
use Rattle.flat_code.specs.State.{State}
use Rattle.flat_code.specs.Evaluation.{entered, left, framed}
use Rattle.flat_laws.specs.Runs.{OfAllCode}
use Rattle.flat_laws.specs.Counts.{IsCounted, Counts}
use Rattle.flat_laws.specs.Calls.{IsSameCall, KeepsItsCall}
use Rattle.flat_laws.proofs.Induction.{Steady, steady, of_all_code, ends_so, goes_on_so}

framed_fill : (m : Memory) (at n : ℕ) → (framed m at n).fill ≡ m.fill
framed_fill m at zero = refl
framed_fill m at (suc n) = refl

-- ---- counts

-- nothing that is counted changes
still : (s : State) → IsCounted s s
still s = record { fill = refl; steps = omega arith; most = omega arith; cost = λ l. l }

counts_then : (s t u : State) → IsCounted s t → IsCounted t u → IsCounted s u
counts_then s t u h g =
    record {
      fill = g.fill ∙ h.fill;
      steps = omega (arith, h.steps, g.steps);
      most = omega (arith, h.most, g.most);
      cost = λ l. g.cost (h.cost l);
    }

counts_steps : (s : State) (n : ℕ) → IsCounted s (record s { steps = s.steps + n })
counts_steps s n = record { fill = refl; steps = omega arith; most = omega arith; cost = λ l. l }

-- a call counts on from where its function ended
counts_call : (s t : State) (f : FlatFn) (vs : List ℕ) → IsCounted (entered s f vs) t → IsCounted s t
counts_call s t f vs h =
    let most : max s.most (s.cost + call_cost f) ≤ t.most = h.most in
    let begun : s.cost + call_cost f ≤ max s.most (s.cost + call_cost f) = omega arith in
    record {
      fill =
          h.fill ∙ framed_fill s.world.memory s.top f.frame;
      steps = h.steps;
      most = omega (arith, most);
      cost = λ l. h.cost begun;
    }

counts_back : (s t : State) (f : FlatFn) (vs : List ℕ) → IsCounted (entered s f vs) t → IsCounted s (left s t)
counts_back s t f vs h =
    let c : IsCounted s t = counts_call s t f vs h in
    record { fill = c.fill; steps = c.steps; most = c.most; cost = λ l. omega (arith, l, c.most) }

counts_laws : Steady IsCounted IsCounted
counts_laws = record {
  same = still;
  chain = counts_then;
  weaker = λ s t h. h;
  ends = counts_then;
  counted = counts_steps;
  set = λ s ts. record { fill = refl; steps = omega arith; most = omega arith; cost = λ l. l };
  wrote = λ s at bs input output. record { fill = refl; steps = omega arith; most = omega arith; cost = λ l. l };
  made = λ s size l. record { fill = refl; steps = omega arith; most = omega arith; cost = λ l. l };
  unmade = λ s p n e. record { fill = refl; steps = omega arith; most = omega arith; cost = λ l. l };
  returned = counts_back;
  ended = counts_call;
}

pub code_counts : OfAllCode Counts
code_counts = of_all_code _ Counts (ends_so IsCounted IsCounted counts_laws) (steady IsCounted IsCounted counts_laws)

-- ---- calls

-- however code ends, nothing is said
anyhow : State → State → Type 0
anyhow s t = Unit {0}

calls_laws : Steady IsSameCall anyhow
unfolding anyhow
calls_laws = record {
  same = λ s. record { frame = refl; top = refl; cost = refl };
  chain = λ s t u h g. record { frame = g.frame ∙ h.frame; top = g.top ∙ h.top; cost = g.cost ∙ h.cost };
  weaker = λ s t h. tt;
  ends = λ s t u h g. tt;
  counted = λ s n. record { frame = refl; top = refl; cost = refl };
  set = λ s ts. record { frame = refl; top = refl; cost = refl };
  wrote = λ s at bs input output. record { frame = refl; top = refl; cost = refl };
  made = λ s size l. record { frame = refl; top = refl; cost = refl };
  unmade = λ s p n e. record { frame = refl; top = refl; cost = refl };
  returned = λ s t f vs h. record { frame = refl; top = refl; cost = refl };
  ended = λ s t f vs h. tt;
}

pub keeps_its_call : OfAllCode KeepsItsCall
keeps_its_call = of_all_code _ KeepsItsCall (goes_on_so IsSameCall anyhow) (steady IsSameCall anyhow calls_laws)
