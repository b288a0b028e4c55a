-- When no row is to be looked at any more, and why that comes.
use Rattle.std.proofs.Common.{◌≡◌, ℕ, suc, ◌+◌, ◌*◌, ◌<◌, ◌≤◌, true, false, List, ◌∷◌, length, Option, Some, None, IsSome, refl, ap, sym, ◌∙◌, subst, arith, ◌⊎◌, inl, inr}
use Rattle.std.specs.Prelude.{slice_get}
use Rattle.std.proofs.Math.Nat.{mul-le-mul_right, suc-mul}
use Rattle.hare_types.specs.declared.declared.Declared.{Declared}
use Rattle.hare_types.specs.declared.extent.Extent.{Extent}
use Rattle.hare_types.specs.declared.kept.Kept.{Kept}
use Rattle.hare_types.specs.declared.row.Row.{Row}
use Rattle.hare_types.specs.Numbering.{most}
use Rattle.hare_types.specs.Kept.{known, defined, extent_over, IsSettled, IsInert}
use Rattle.hare_types.specs.Packed.{base_in}
use Rattle.hare_types.specs.Waiting.{nowhere, extents, extent_at, root_at, Among, HasRoot, IsAtRest, HaveRoots, AreSettling, with_list, unknowns, IsLess, steps}
use Rattle.hare_types.proofs.KeptLemmas.{inert-none}
use Rattle.hare_types.proofs.ChainLemmas.{with_list-here, Chain-nowhere, Chain-somewhere, steps-Chain, length-list}
use Rattle.hare_types.proofs.NeedLemmas.{needs-none}

-- ---- no row is to be looked at

module _ (rows : List Row) (es : List (ℕ × Declared)) (ks : List Kept) (few : length ks ≤ most) (lists : ℕ → List ℕ)
    (h : AreSettling rows es ks nowhere lists) where
  pub all_rest : (i : ℕ) → IsAtRest rows es ks lists i
  all_rest i = by (h.rest i)
    where
      by : IsAtRest rows es ks lists i ⊎ Among (lists 0) i → IsAtRest rows es ks lists i
      by (inl a) = a
      by (inr a) = absurd (subst (λ xs. Among xs i) (Chain-nowhere ks few (lists 0) nowhere refl (h.waiting.links.chains 0)) a)

  -- no extent follows that is not kept
  pub extents-settled : (i : ℕ) → IsSettled rows es (extents ks) i
  extents-settled i r g u = by (all_rest i r g u).1
    where
      by : IsInert es r ⊎ ((p : ℕ) × Among (lists (suc p)) i × (extent_at ks p ≡ None)) →
          extent_over (defined es) (known (extents ks)) r ≡ None
      by (inl inert) = inert-none es (known (extents ks)) r inert
      by (inr w) = needs-none es (known (extents ks)) r w.0 (h.waiting.needs w.0 i w.1 r g) w.2

  -- and no root that tells more
  pub roots-settled : HaveRoots ks → (i : ℕ) (r : Row) → slice_get rows i ≡ Some r → HasRoot es ks i r
  roots-settled rooted i r g = by (extent_at ks i) refl
    where
      based : IsSome (base_in (root_at ks i)) → base_in (root_at ks i) ≡ None → ⊥
      based h n =
          let nothing : false ≡ true = subst IsSome n h in
          absurd cc

      by : (o : Option Extent) → extent_at ks i ≡ o → HasRoot es ks i r
      by None e = (all_rest i r g e).0
      by (Some x) e =
          let some = rooted i (subst IsSome (sym e) refl) in
          record { root = λ n. absurd (based some (ap base_in n)); base = λ n. absurd (based some n) }

-- ---- the rows that are to be looked at become fewer

-- the first of them, and the rest
pub first-taken : (rows : List Row) (es : List (ℕ × Declared)) (ks : List Kept) (pile : ℕ) (lists : ℕ → List ℕ) →
    AreSettling rows es ks pile lists → ¬ (pile ≡ nowhere) → (xs : List ℕ) × (lists 0 ≡ pile ∷ xs) × (pile < length ks)
first-taken rows es ks pile lists h other = let c = Chain-somewhere ks (lists 0) pile other (h.waiting.links.chains 0) in (c.0, c.1, c.2)

steps-list : (rows : List Row) (es : List (ℕ × Declared)) (ks : List Kept) (pile : ℕ) (lists : ℕ → List ℕ) (n : ℕ) → length ks ≡ n →
    n ≤ most → AreSettling rows es ks pile lists → steps ks n pile ≡ length (lists 0)
steps-list rows es ks pile lists n len few h =
    steps-Chain ks (omega (arith, len, few)) n (lists 0) pile (omega (arith, len, length-list ks pile lists h.waiting.links 0))
    (h.waiting.links.chains 0)

less-product : (a b n s t : ℕ) → a < b → s ≤ n → a * (n + 1) + s < b * (n + 1) + t
less-product a b n s t l m =
    let bound : suc a * (n + 1) ≤ b * (n + 1) = mul-le-mul_right (n + 1) (omega arith) in
    omega (arith, bound, suc-mul a (n + 1), m)

pub settle-smaller : (rows : List Row) (es : List (ℕ × Declared)) (old new : List Kept) (pile pile' : ℕ) (lists after : ℕ → List ℕ)
    (xs : List ℕ) (n : ℕ) → length old ≡ n → length new ≡ n → n ≤ most
    → AreSettling rows es old pile lists → lists 0 ≡ pile ∷ xs → AreSettling rows es new pile' after →
    IsLess old new (with_list lists 0 xs) after
    → unknowns new * (n + 1) + steps new n pile' < unknowns old * (n + 1) + steps old n pile
settle-smaller rows es old new pile pile' lists after xs n len len' few h e k (inl l) =
    let s = steps-list rows es new pile' after n len' few k in
    less-product (unknowns new) (unknowns old) n (steps new n pile') (steps old n pile) l
    (omega (arith, s, len', length-list new pile' after k.waiting.links 0))
settle-smaller rows es old new pile pile' lists after xs n len len' few h e k (inr l) =
    let s = steps-list rows es new pile' after n len' few k in
    let t = steps-list rows es old pile lists n len few h in
    let before : length (lists 0) ≡ suc (length xs) = ap length e in
    let now : length (after 0) ≡ length xs = ap length (l.1 ∙ with_list-here lists 0 xs) in
    let product : unknowns new * (n + 1) ≡ unknowns old * (n + 1) = ap (λ x. x * (n + 1)) l.0 in
    omega (arith, s, t, before, now, product)
