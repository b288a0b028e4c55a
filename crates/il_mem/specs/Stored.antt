-- Where pages are found. No public clause cites it.
use Rattle.std.specs.Prelude.{◌≡◌, ℕ, ◌*◌, List, [], ◌∷◌, ◌++◌, length, replicate, Some, nat_eq, slice_get, if◌then◌else◌}
use Rattle.std.specs.HashMap.{HashMap, get}
use Rattle.il_mem.specs.Kept.{Held, page_size}

-- the place of each page is entered, and nothing else is
pub record AreEntered {S : Type 0} (places : HashMap ℕ ℕ S) (pages : List ℕ) : Type 0 where
  pub there : (p k : ℕ) → get nat_eq places p ≡ Some k → slice_get pages k ≡ Some p
  pub found : (p k : ℕ) → slice_get pages k ≡ Some p → get nat_eq places p ≡ Some k

-- and all pages have their bytes
pub record AreStored {S : Type 0} (places : HashMap ℕ ℕ S) (pages bytes : List ℕ) : Type 0 where
  pub entered : AreEntered places pages
  pub sized : length bytes ≡ page_size * length pages

-- where a page stood before the one at a place was taken out and the last took its place
abbrev pub source : ℕ → ℕ → ℕ → ℕ
source place last j = if nat_eq j place then last else j

-- one more page, which holds the fill byte
abbrev pub with_page : Held → ℕ → Held
with_page h p = record { fill = h.fill; pages = h.pages ++ p ∷ []; bytes = h.bytes ++ replicate page_size h.fill }
