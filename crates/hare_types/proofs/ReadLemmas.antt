-- What is read of what is kept beside the rows of a store.
use Rattle.std.proofs.Common.{◌≡◌, ℕ, ◌≤◌, length, false, Option, Some, None, refl, ap, sym, ◌∙◌, arith}
use Rattle.std.proofs.lemmas.List.{length-map}
use Rattle.hare_types.specs.declared.kept.Kept.{Kept}
use Rattle.hare_types.specs.declared.root.Root.{Root}
use Rattle.std.specs.Prelude.{List}
use Rattle.std.specs.Option.{unwrap_or}
use Rattle.hare_types.specs.Numbering.{most}
use Rattle.hare_types.specs.Store.{Store}
use Rattle.hare_types.specs.Bases.{IsBaseOf}
use Rattle.hare_types.specs.ByIds.{base_at, is_error_at}
use Rattle.hare_types.specs.Packed.{base_in}
use Rattle.hare_types.specs.Roots.{IsRootOf}
use Rattle.hare_types.specs.Waiting.{root_at, AreKept}
use Rattle.hare_types.proofs.IdLemmas.{base_tells}
use Rattle.hare_types.proofs.RootLemmas.{none_based, none_marked}
use Rattle.hare_types.proofs.SettledLemmas.{roots-settled}

module _ (s : Store) (ks : List Kept) (v : AreKept s ks) (t : ℕ) where
  pub root_read : (r : Root) → root_at ks t ≡ Some r → IsRootOf s t r
  root_read r e = v.roots.sound t r e

  -- the base that is told
  pub base_read : (b : ℕ) → base_in (root_at ks t) ≡ Some b → base_at s t ≡ Some b
  base_read b e = by (root_at ks t) refl e
    where
      by : (o : Option Root) → root_at ks t ≡ o → base_in o ≡ Some b → base_at s t ≡ Some b
      by None f g = absurd cc
      by (Some r) f g = (root_read r f).base b g

  pub mark_read : (r : Root) → root_at ks t ≡ Some r → r.is_error ≡ is_error_at s t
  mark_read r e = ap (λ o. unwrap_or o false) (sym (root_read r e).marked)

  few : length ks ≤ most
  few = omega (arith, v.store.rows_few, v.extents.as_many, length-map ks (λ k. k.extent))

  pub no_base_read : base_in (root_at ks t) ≡ None → base_at s t ≡ None
  no_base_read e = none_based s (root_at ks) (roots-settled s.rows s.declared ks few v.lists v.settled v.rooted) t e

  -- the base that is told, or that none is
  pub base_is : base_in (root_at ks t) ≡ base_at s t
  base_is = by (base_in (root_at ks t)) refl
    where
      by : (o : Option ℕ) → base_in (root_at ks t) ≡ o → o ≡ base_at s t
      by None e = sym (no_base_read e)
      by (Some b) e = sym (base_read b e)

  pub no_mark_read : root_at ks t ≡ None → false ≡ is_error_at s t
  no_mark_read e =
      ap (λ o. unwrap_or o false) (sym (none_marked s (root_at ks) (roots-settled s.rows s.declared ks few v.lists v.settled v.rooted) t e))

  pub base_some : (b : ℕ) → base_at s t ≡ Some b → IsBaseOf s t b
  base_some b e = (base_tells s v.store t b).0 e

  pub base_none : base_at s t ≡ None → (b : ℕ) → ¬ IsBaseOf s t b
  base_none e b h =
      let both : None ≡ Some b = sym e ∙ (base_tells s v.store t b).1 h in
      absurd cc
