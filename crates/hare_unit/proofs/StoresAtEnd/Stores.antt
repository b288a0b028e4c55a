-- Stores with which the checking may end.
use Rattle.std.proofs.Common.{◌≡◌, ℕ, List, [], refl, sym, subst, ap}
use Rattle.hare_types.specs.Store.{Store, Extends, sized_of, definition_of}
use Rattle.hare_types.specs.Sound.{IsStore}
use Rattle.hare_types.specs.Later.{IsLater}
use Rattle.hare_types.proofs.LaterLemmas.{later_here}
use Rattle.hare_whole.specs.Listing.{Listing}
use Rattle.hare_whole.specs.Judged.{IsFinal}
use Rattle.hare_turns.specs.Stages.{IsEnd}
use Rattle.hare_turns.specs.Laws.{IsGrownTo}
use Rattle.hare_declarations.proofs.WhileStoresGrow.Stores.{declared-later, nomem-later}

-- a store with which it may end is one that comes behind it
pub end-here : (p : Listing) (s : Store) → IsStore s → IsFinal p s → IsEnd p s s
end-here p s v f = record { later = later_here s v; final = f }

pub final-grown : (p : Listing) (s r : Store) → IsStore s → IsGrownTo s r → IsFinal p s → IsFinal p r
final-grown p s r v g f =
    record { declared = declared-later p s r g.sound g.declared f.declared; nomem = nomem-later s r v g.later f.nomem }

-- ---- the list of tags made anew

-- all else stays
pub listed-later : (s r : Store) (is : List ℕ) → IsStore s → IsStore r → r ≡ record s { listed = is } → IsLater s r
listed-later s r is v w e = record { grows = subst (λ x. Extends (record s { listed = [] }) x) (sym e) same; sound = w }
  where
    here : IsLater s s
    here = later_here s v

    same : Extends (record s { listed = [] }) (record s { listed = is })
    same = record {
      names = here.grows.names;
      rows = here.grows.rows;
      listed = (is, refl);
      sized = here.grows.sized;
      defined = here.grows.defined;
    }

pub listed-grown : (s r : Store) (is : List ℕ) → IsStore s → IsStore r → r ≡ record s { listed = is } → IsGrownTo s r
listed-grown s r is v w e = record {
  later = listed-later s r is v w e;
  declared = λ d. ap (λ x. sized_of x d) e;
  same = λ d. ap (λ x. definition_of x d) e;
  sound = w;
}
