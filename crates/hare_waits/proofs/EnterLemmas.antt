-- What waits once the written types of one more declaration are entered.
use Rattle.std.proofs.Common.{◌≡◌, ◌⊎◌, inl, inr, ℕ, ◌+◌, List, ◌∷◌, Some, refl, ap, sym, ◌∙◌, subst, arith}
use Rattle.std.specs.Prelude.{slice_get, Contains}
use Rattle.hare_types.specs.Store.{Store}
use Rattle.hare_typed.specs.Typed.{TypedNode}
use Rattle.hare_seen.specs.Sizes.{nodes_of_types, AllFit, StandIn}
use Rattle.hare_waits.specs.declared.waiting.Waiting.{Waiting}
use Rattle.hare_waits.specs.Held.{WaitsFor}
use Rattle.hare_waits.specs.Nodes.{IsUnmeasured, kept_of, unmeasured}
use Rattle.hare_waits.specs.Lists.{IsAwaited, Awaits}
use Rattle.hare_waits.specs.Waits.{IsNode, IsWaiting, AreAwaited}
use Rattle.hare_waits.proofs.ElementLemmas.{Contains-head, Contains-rest, Contains-cons}
use Rattle.hare_waits.proofs.NodeLemmas.{KeptAmong, unmeasured-sound, unmeasured-whole}

module _ (s : Store) (m : ℕ) (ts : List TypedNode) (stands : StandIn s ts) (fits : AllFit s ts) (q new : List (ℕ × Waiting))
    (each : Awaits s q new (unmeasured s m 0 (nodes_of_types ts))) (js : List (ℕ × List TypedNode)) (a : AreAwaited s q js) where
  -- the types are those that were entered, or of an earlier declaration
  entered : (k : ℕ) (us : List TypedNode) → Contains ((m, ts) ∷ js) (k, us) → ((m ≡ k) × (ts ≡ us)) ⊎ Contains js (k, us)
  entered k us c = by (Contains-cons (m, ts) (k, us) js c)
    where
      by : (◌≡◌ {A = ℕ × List TypedNode} (m, ts) (k, us)) ⊎ Contains js (k, us) → ((m ≡ k) × (ts ≡ us)) ⊎ Contains js (k, us)
      by (inl e) = inl (ap (λ p. p.0) e, ap (λ p. p.1) e)
      by (inr r) = inr r

  stand : (k : ℕ) (us : List TypedNode) → Contains ((m, ts) ∷ js) (k, us) → StandIn s us
  stand k us c = by (entered k us c)
    where
      by : ((m ≡ k) × (ts ≡ us)) ⊎ Contains js (k, us) → StandIn s us
      by (inl e) = subst (StandIn s) e.1 stands
      by (inr r) = a.stand k us r

  fit : (k : ℕ) (us : List TypedNode) → Contains ((m, ts) ∷ js) (k, us) → AllFit s us
  fit k us c = by (entered k us c)
    where
      by : ((m ≡ k) × (ts ≡ us)) ⊎ Contains js (k, us) → AllFit s us
      by (inl e) = subst (AllFit s) e.1 fits
      by (inr r) = a.fit k us r

  awaited : (k o u : ℕ) (y : TypedNode) → IsNode ((m, ts) ∷ js) k o y → IsUnmeasured s y u → IsAwaited s new (kept_of k o y u)
  awaited k o u y n h = by (entered k n.types n.judged)
    where
      by : ((m ≡ k) × (ts ≡ n.types)) ⊎ Contains js (k, n.types) → IsAwaited s new (kept_of k o y u)
      by (inl e) =
          let stands_here : slice_get (nodes_of_types ts) o ≡ Some y = ap (λ us. slice_get (nodes_of_types us) o) e.1 ∙ n.stands in
          subst (λ d. IsAwaited s new (kept_of d o y u)) e.0
          (each.awaited (kept_of m o y u) (unmeasured-whole s m 0 o (nodes_of_types ts) o y u (omega arith) stands_here h) h.unknown)
      by (inr r) =
          let w = a.awaited k o u y record { types = n.types; judged = r; stands = n.stands } h in
          record { name = w.name; entered = each.kept (w.name, kept_of k o y u) w.entered; waits = w.waits }

  no_other : (n : ℕ) (w : Waiting) → Contains new (n, w) → IsWaiting s ((m, ts) ∷ js) n w
  no_other n w c = by (each.only n w c)
    where
      fresh : WaitsFor s w.ty n → KeptAmong s m 0 (nodes_of_types ts) w → IsWaiting s ((m, ts) ∷ js) n w
      fresh waits f =
          let place : f.0 ≡ 0 + f.0 = omega arith in
          let stands_here : slice_get (nodes_of_types ts) (0 + f.0) ≡ Some f.1 = ap (slice_get (nodes_of_types ts)) (sym place) ∙ f.3 in
          let type : w.ty ≡ f.2 = ap (λ v. v.ty) f.5 in
          subst (λ v. IsWaiting s ((m, ts) ∷ js) n v) (sym f.5) record {
            node = f.1;
            stands = record { types = ts; judged = Contains-head (m, ts) js; stands = stands_here };
            unmeasured = f.4;
            place = refl;
            waits = subst (λ t. WaitsFor s t n) type waits;
          }

      by : Contains q (n, w) ⊎ (Contains (unmeasured s m 0 (nodes_of_types ts)) w × WaitsFor s w.ty n) → IsWaiting s ((m, ts) ∷ js) n w
      by (inl r) =
          let h = a.no_other n w r in
          record {
            node = h.node;
            stands = record {
              types = h.stands.types;
              judged = Contains-rest (m, ts) (w.decl, h.stands.types) js h.stands.judged;
              stands =
                  h.stands.stands;
            };
            unmeasured = h.unmeasured;
            place = h.place;
            waits = h.waits;
          }
      by (inr r) = fresh r.1 (unmeasured-sound s m 0 (nodes_of_types ts) w r.0)

  pub entered-all : AreAwaited s new ((m, ts) ∷ js)
  entered-all = record { stand = stand; fit = fit; awaited = awaited; no_other = no_other }
