-- What is known of types, in this store and in later ones.
use Rattle.std.proofs.Common.{◌≡◌, ℕ, Option, Some, None, IsSome, refl, sym, subst}
use Rattle.std.proofs.lemmas.Option.{slice_get_within}
use Rattle.hare_types.specs.declared.coercion.Ty.{Ty}
use Rattle.hare_types.specs.declared.coercion.Ty.TheVariants as ty
use Rattle.hare_types.specs.declared.row.Row.{Row}
use Rattle.hare_types.specs.Store.{Store, sized_of}
use Rattle.hare_types.specs.Sound.{IsStore}
use Rattle.hare_types.specs.ByIds.{row_at, sized_at, sized_over, has_size_at}
use Rattle.hare_types.specs.Later.{IsLater}
use Rattle.hare_types.proofs.LaterLemmas.{types_stay}
use Rattle.hare_types.proofs.IdLemmas.{sized-row}
use Rattle.hare_rules.specs.Words.{id_in}
use Rattle.rule_judge.proofs.DefinedLemmas.{within_stays}
use Rattle.rule_types.specs.Known.{IsKnown, IsKnownTy}

-- a type with a row of which this is known
pub known_row : (s : Store) (t : ℕ) (r : Row) → row_at s t ≡ Some r → IsSome (sized_over (sized_of s) (sized_at s) t r) → IsKnown s t
known_row s t r e h = record { within = slice_get_within s.rows t r e; sized = subst IsSome (sym (sized-row s t r e)) h }

some_of : {A : Type 0} (o : Option A) → IsSome o → (a : A) × (o ≡ Some a)
some_of None h = absurd cc
some_of (Some a) h = (a, refl)

module _ (now later : Store) (v : IsStore now) (l : IsLater now later) where
  pub size_stays : (t : ℕ) → IsKnown now t → has_size_at later t ≡ has_size_at now t
  size_stays t h = (types_stay now later v l).has_size t h.sized

  pub known_stays : (t : ℕ) → IsKnown now t → IsKnown later t
  known_stays t h =
      let b = some_of (sized_at now t) h.sized in
      record {
        within = within_stays now later v l t h.within;
        sized = subst IsSome (sym ((types_stay now later v l).sized t b.0 b.1)) refl;
      }

  pub known_ty_stays : (a : Ty) → IsKnownTy now a → IsKnownTy later a
  known_ty_stays (ty.Of t) h = known_stays t h
  known_ty_stays (ty.Iconst n) h = absurd h
  known_ty_stays ty.Null h = absurd h
  known_ty_stays ty.Empty h = absurd h

-- what is known is a type
pub known_id : (s : Store) (a : Ty) → IsKnownTy s a → IsSome (id_in a)
known_id s (ty.Of t) h = refl
known_id s (ty.Iconst n) h = absurd h
known_id s ty.Null h = absurd h
known_id s ty.Empty h = absurd h

pub known_of : (s : Store) (a : Ty) (t : ℕ) → a ≡ ty.Of t → IsKnownTy s a → IsKnown s t
known_of s a t e h = subst (IsKnownTy s) e h
