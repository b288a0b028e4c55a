-- Names of fields keep their numbers.
use Rattle.std.proofs.Common.{◌≡◌, ℕ, List, Option, Some, None, refl, ap, sym, ◌∙◌}
use Rattle.std.specs.Prelude.{slice_get, bytes_eq}
use Rattle.std.proofs.lemmas.List.{map-id}
use Rattle.std.proofs.lemmas.Option.{slice_get_within}
use Rattle.std.proofs.lemmas.Slice.Eq.{bytes_eq-Decides}
use Rattle.hare_types.specs.Store.{Store}
use Rattle.hare_types.specs.Sound.{IsStore}
use Rattle.hare_types.specs.Later.{IsLater}
use Rattle.hare_types.proofs.ListLemmas.{slice_get_front}
use Rattle.hare_types.proofs.NumberingLemmas.{position_found, position_absent}
use Rattle.hare_rules.specs.Aggregates.{name_number}

whole : (s : Store) → IsStore s → (text : List ℕ) (n : ℕ) → slice_get s.names n ≡ Some text → (o : Option ℕ) → name_number s text ≡ o →
    name_number s text ≡ Some n
whole s v text n h None e =
    let nowhere = position_absent (λ q. q) text (bytes_eq text) (bytes_eq-Decides text) s.names (sym e) n in
    absurd (nowhere (ap (λ l. slice_get l n) (map-id s.names) ∙ h))
whole s v text n h (Some i) e = e ∙ ap Some (v.names_once.once i n text
    (simp map-id at (position_found (λ q. q) text (bytes_eq text) (bytes_eq-Decides text) s.names i (sym e))) h)

-- a name of the store has its number in each later store
pub numbered_stays : (now later : Store) → IsLater now later → (text : List ℕ) (n : ℕ) → slice_get now.names n ≡ Some text →
    name_number later text ≡ Some n
numbered_stays now later l text n e =
    whole later l.sound text n (ap (λ xs. slice_get xs n) l.grows.names.1 ∙ slice_get_front now.names l.grows.names.0 n
    (slice_get_within now.names n text e) ∙ e) (name_number later text) refl
