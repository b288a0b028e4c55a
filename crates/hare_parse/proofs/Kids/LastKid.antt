-- What taking out the last kid leaves.
use Rattle.std.proofs.Common.{◌≡◌, List, [], ◌∷◌, ◌++◌, refl, ap}
use Rattle.hare_tree.specs.Node.{Node}
use Rattle.hare_automaton.specs.Engine.{last_kid, but_last}

pub last_kid_append : (ks : List Node) (t : Node) → last_kid (ks ++ t ∷ []) ≡ t ∷ []
last_kid_append [] t = refl
last_kid_append (x ∷ []) t = refl
last_kid_append (x ∷ (y ∷ ys)) t = last_kid_append (y ∷ ys) t

pub but_last_append : (ks : List Node) (t : Node) → but_last (ks ++ t ∷ []) ≡ ks
but_last_append [] t = refl
but_last_append (x ∷ []) t = refl
but_last_append (x ∷ (y ∷ ys)) t = ap (λ l. x ∷ l) (but_last_append (y ∷ ys) t)
