-- Packed values give their words back.
use Rattle.std.proofs.Common.{◌≡◌, ℕ, zero, suc, Bool, true, false, Option, Some, None, refl}
use Rattle.std.proofs.Math.Nat.{div-add-mod}
use Rattle.hare_types.specs.Packed.{extent_in, extent_word, id_in, id_word, root_in, base_in, mark_in}

pub extent_word-extent_in : (w : ℕ) → extent_word (extent_in w) ≡ w
extent_word-extent_in zero = refl
extent_word-extent_in (suc n) = div-add-mod (suc n) 16

pub id_word-id_in : (w : ℕ) → id_word (id_in w) ≡ w
id_word-id_in zero = refl
id_word-id_in (suc n) = refl

pub base_in-root_in : (o : Option ℕ) (e : Bool) → base_in (root_in o e) ≡ o
base_in-root_in None true = refl
base_in-root_in None false = refl
base_in-root_in (Some b) e = refl

pub mark_in-root_in : (o : Option ℕ) (e : Bool) → mark_in (root_in o e) ≡ e
mark_in-root_in None true = refl
mark_in-root_in None false = refl
mark_in-root_in (Some b) e = refl
