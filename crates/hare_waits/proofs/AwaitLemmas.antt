-- What waits as one node more is looked at.
use Rattle.std.proofs.Common.{◌≡◌, ◌⊎◌, inl, inr, ℕ, true, List, [], ◌∷◌, ◌++◌, Option, Some, None, ap, sym, ◌∙◌, subst}
use Rattle.std.specs.Prelude.{is_some, option_map, Contains}
use Rattle.std.proofs.lemmas.List.Elements.{Contains-append_left, Contains-push}
use Rattle.hare_types.specs.declared.extent.Extent.{Extent}
use Rattle.hare_types.specs.Store.{Store}
use Rattle.hare_types.specs.Kept.{told}
use Rattle.hare_types.specs.ByIds.{extent_at}
use Rattle.hare_waits.specs.declared.waiting.Waiting.{Waiting}
use Rattle.hare_waits.specs.Held.{WaitsFor}
use Rattle.hare_waits.specs.Lists.{Adds, IsAwaited, Awaits}
use Rattle.hare_waits.proofs.ElementLemmas.{Contains-none, Contains-last}

pub awaits-none : (s : Store) (q : List (ℕ × Waiting)) → Awaits s q q []
awaits-none s q = record { kept = λ x c. c; awaited = λ w c e. absurd (Contains-none w c); only = λ n w c. inl c }

module _ (s : Store) (old mid : List (ℕ × Waiting)) (ws : List Waiting) (w : Waiting) (h : Awaits s old mid ws) where
  -- its bytes are known
  pub awaits-known : (extent_at s w.ty ≡ None → ⊥) → Awaits s old mid (ws ++ w ∷ [])
  awaits-known known = record { kept = h.kept; awaited = λ v c e. by v e (Contains-last ws w v c); only = λ n v c. more n v (h.only n v c) }
    where
      by : (v : Waiting) → extent_at s v.ty ≡ None → Contains ws v ⊎ (w ≡ v) → IsAwaited s mid v
      by v e (inl a) = h.awaited v a e
      by v e (inr p) = absurd (known (ap (λ x. extent_at s x.ty) p ∙ e))

      more : (n : ℕ) (v : Waiting) → Contains old (n, v) ⊎ (Contains ws v × WaitsFor s v.ty n) →
          Contains old (n, v) ⊎ (Contains (ws ++ w ∷ []) v × WaitsFor s v.ty n)
      more n v (inl a) = inl a
      more n v (inr b) = inr (Contains-append_left ws (w ∷ []) v b.0, b.1)

  -- it waits for this name
  pub awaits-more : (name : ℕ) → WaitsFor s w.ty name → (new : List (ℕ × Waiting)) → Adds mid new (name, w) →
      Awaits s old new (ws ++ w ∷ [])
  awaits-more name waits new adds = record {
    kept = λ x c. adds.kept x (h.kept x c);
    awaited = λ v c e. by v e (Contains-last ws w v c);
    only = λ n v c. more n v (adds.only (n, v) c);
  }
    where
      here : IsAwaited s new w
      here = record { name = name; entered = adds.added; waits = waits }

      by : (v : Waiting) → extent_at s v.ty ≡ None → Contains ws v ⊎ (w ≡ v) → IsAwaited s new v
      by v e (inl a) = let k = h.awaited v a e in record { name = k.name; entered = adds.kept (k.name, v) k.entered; waits = k.waits }
      by v e (inr p) = subst (IsAwaited s new) p here

      before : (n : ℕ) (v : Waiting) → Contains old (n, v) ⊎ (Contains ws v × WaitsFor s v.ty n) →
          Contains old (n, v) ⊎ (Contains (ws ++ w ∷ []) v × WaitsFor s v.ty n)
      before n v (inl a) = inl a
      before n v (inr b) = inr (Contains-append_left ws (w ∷ []) v b.0, b.1)

      more : (n : ℕ) (v : Waiting) → Contains mid (n, v) ⊎ (◌≡◌ {A = ℕ × Waiting} (n, v) (name, w))
          → Contains old (n, v) ⊎ (Contains (ws ++ w ∷ []) v × WaitsFor s v.ty n)
      more n v (inl a) = before n v (h.only n v a)
      more n v (inr e) =
          let node : v ≡ w = ap (λ p. p.1) e in
          let under : n ≡ name = ap (λ p. p.0) e in
          inr (
            subst (Contains (ws ++ w ∷ [])) (sym node) (Contains-push ws w),
            subst (λ k. WaitsFor s v.ty k) (sym under)
                (subst (λ x. WaitsFor s x.ty name) (sym node) waits),
          )

-- what is told of an extent is there where the extent is
pub known_some : (o : Option Extent) → is_some (option_map told o) ≡ true → o ≡ None → ⊥
known_some None h e = absurd cc
known_some (Some x) h e = absurd cc
