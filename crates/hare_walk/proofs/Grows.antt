-- Stores that grow.
use Rattle.std.proofs.Common.{[], refl, ◌∙◌}
use Rattle.hare_types.specs.Store.{Store, Extends}
use Rattle.hare_types.specs.Later.{IsLater}
use Rattle.hare_types.proofs.CallerLemmas.{Extends-refl, Extends-trans}
use Rattle.hare_walk.specs.Grown.{IsGrown}

pub grown-refl : (s : Store) → IsGrown s s
grown-refl s = record { grows = Extends-refl s; declared = refl }

pub grown-trans : (a b c : Store) → IsGrown a b → IsGrown b c → IsGrown a c
grown-trans a b c h k = record { grows = Extends-trans a b c h.grows k.grows; declared = k.declared ∙ h.declared }

untagged : (a b : Store) → Extends a b → Extends (record a { listed = [] }) (record b { listed = [] })
untagged a b e = record { names = e.names; rows = e.rows; listed = ([], refl); sized = e.sized; defined = e.defined }

-- a store that is later than a grown one is later than that before
pub later-grown : (a b c : Store) → IsGrown a b → IsLater b c → IsLater a c
later-grown a b c h k =
    record { grows = Extends-trans (record a { listed = [] }) (record b { listed = [] }) c (untagged a b h.grows) k.grows; sound = k.sound }
