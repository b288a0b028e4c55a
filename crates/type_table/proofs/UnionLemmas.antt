-- The member that a value becomes is a type of the store.
use Rattle.std.proofs.Common.{◌≡◌, ℕ, Option, None, Some, ap, sym, subst, length}
use Rattle.std.specs.Prelude.{option_map}
use Rattle.hare_types.specs.declared.coercion.Ty.{Ty}
use Rattle.hare_types.specs.declared.coercion.Ty.TheVariants as ty
use Rattle.hare_types.specs.declared.coercion.Coercion.{Coercion}
use Rattle.hare_types.specs.Store.{Store}
use Rattle.hare_types.specs.Sound.{IsStore}
use Rattle.hare_types.specs.Assign.{IsIn, coercion, first_row, value_at, type_at}
use Rattle.hare_assign.specs.Chosen.{IsChosen}
use Rattle.hare_assign.proofs.ChosenLemmas.{members_below}
use Rattle.hare_assign.proofs.MemberLemmas.{below}

-- a coercion leads to the type for which it was asked
goes-to : (s : Store) (from : Ty) (m : ℕ) (c : Coercion) → coercion s from m ≡ Some c → c.to ≡ ty.Of m
goes-to s from m c e = by (first_row s (value_at s from) (type_at s m)) e
  where
    with-row : ℕ → Coercion
    with-row n = record { row = n; to = ty.Of m }

    by : (o : Option ℕ) → option_map (λ n. record { row = n; to = ty.Of m }) o ≡ Some c → c.to ≡ ty.Of m
    by None h = absurd cc
    by (Some n) h =
        let same : c ≡ with-row n = cc in
        ap (λ x. x.to) same

pub chosen-in : (s : Store) → IsStore s → (from : Ty) (to : ℕ) (c : Coercion) → IsChosen s from to c → IsIn s c.to
chosen-in s v from to c h =
    let all = members_below s v to h.members h.union in
    subst (λ x. IsIn s x) (sym (goes-to s from h.member c h.goes))
    (below (length s.rows) h.members h.among.0 h.member all h.among.1 (sym h.among.2))
