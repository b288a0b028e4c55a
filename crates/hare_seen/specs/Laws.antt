-- What holds of stores of whose definitions only some are seen.
use Rattle.std.specs.Prelude.{◌≡◌, ℕ, Bool, true, cond, Some, None}
use Rattle.hare_types.specs.Store.{Store, sized_of, definition_of}
use Rattle.hare_types.specs.Sound.{IsStore}
use Rattle.hare_types.specs.Later.{IsLater}
use Rattle.hare_seen.specs.Seen.{seen_by, DefinesTheSame, MeasuresTheSame}

-- what is known of the bytes of types follows from the definitions of names
abbrev pub BytesFollowDefinitions : Type 0
BytesFollowDefinitions = (s f : Store) → IsStore s → IsLater s f → DefinesTheSame s f → MeasuresTheSame s f

-- what is seen of a store is a store, which knows the definitions that are chosen, and no others
pub record IsSeen (chosen : ℕ → Bool) (l : Store) : Type 0 where
  pub sound : IsStore (seen_by chosen l)
  pub definitions : (d : ℕ) → definition_of (seen_by chosen l) d ≡ cond (chosen d) (definition_of l d) None
  pub sized : (d : ℕ) → sized_of (seen_by chosen l) d ≡ sized_of l d
  pub later : IsLater (seen_by chosen l) l
  -- it comes behind each store of that kind that knows no more
  pub behind : (s : Store) → IsLater s l → ((d t : ℕ) → definition_of s d ≡ Some t → chosen d ≡ true) → IsLater s (seen_by chosen l)

abbrev pub SeenStoresAreStores : Type 0
SeenStoresAreStores = (chosen : ℕ → Bool) (l : Store) → IsStore l → IsSeen chosen l
