-- The declarations of an order are there.
use Rattle.std.proofs.Common.{◌≡◌, ℕ, ◌<◌, List, length, slice_get, Some}
use Rattle.hare_depends.specs.declared.said.Said.{Said}
use Rattle.hare_depends.specs.Order.{Descends, arrives, goes_on, IsOrder}

descends_within : (ds : List Said) (done : List ℕ) {c d : ℕ} → Descends ds done c d → c < length ds → d < length ds
descends_within ds done (arrives d r) h = h
descends_within ds done (goes_on c e d f k) h = descends_within ds done k f.is_there

pub order_within : (ds : List Said) (order : List ℕ) (k d : ℕ) → IsOrder ds order → slice_get order k ≡ Some d → d < length ds
order_within ds order k d h e = let n = h.in_turn k d e in descends_within ds _ n.descends n.first.is_there
