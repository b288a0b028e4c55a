-- Values that were asked for no type go to that of what comes together.
use Rattle.std.proofs.Common.{◌≡◌, ℕ, List, Option, Some, None, refl, ap, sym}
use Rattle.hare_types.specs.declared.coercion.Ty.{Ty}
use Rattle.hare_types.specs.declared.coercion.Ty.TheVariants as ty
use Rattle.hare_types.specs.Store.{Store}
use Rattle.hare_rules.specs.declared.hint.Hint.{Hint}
use Rattle.hare_rules.specs.declared.hint.Hint.TheVariants as hint
use Rattle.hare_rules.specs.Context.{Given}
use Rattle.hare_rules.specs.Joined.{joined}
use Rattle.hare_rules.specs.Settles.{joined_target}
use Rattle.hare_rules.specs.Words.{id_in, typed_as}

id_typed : (o : Option ℕ) (a : Ty) → typed_as o ≡ Some a → id_in a ≡ o
id_typed None a e = absurd cc
id_typed (Some t) a e = let same : ty.Of t ≡ a = cc in sym (ap id_in same)

pub unasked : (f : Store) (h : Hint) (vs : List Given) (a : Ty) → h ≡ hint.None
    → typed_as (joined f h vs) ≡ Some a → id_in a ≡ joined_target f h vs
unasked f hint.None vs a n e = id_typed (joined f hint.None vs) a e
unasked f hint.Drop vs a n e = absurd cc
unasked f (hint.Of t) vs a n e = absurd cc
