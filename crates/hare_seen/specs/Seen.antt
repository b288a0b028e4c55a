-- A store, of whose definitions of names only some are seen.
use Rattle.std.specs.Prelude.{◌≡◌, ℕ, ◌<◌, Bool, true, false, length, map, None}
use Rattle.hare_types.specs.declared.declared.Declared.{Declared}
use Rattle.hare_types.specs.Store.{Store, definition_of}
use Rattle.hare_types.specs.ByIds.{extent_at}

abbrev pub masked : Bool → Declared → Declared
masked true x = x
masked false x = record x { definition = None }

-- the store, of whose definitions no more is seen than those of the names that are chosen
abbrev pub seen_by : (ℕ → Bool) → Store → Store
seen_by chosen s = record s { declared = map (λ e. (e.0, masked (chosen e.0) e.1)) s.declared }

-- the second defines just the names that the first does, and as the first does
abbrev pub DefinesTheSame : Store → Store → Type 0
DefinesTheSame s f = (d : ℕ) → definition_of f d ≡ definition_of s d

-- the second knows of the bytes of the types of the first what the first knows, and no more
abbrev pub MeasuresTheSame : Store → Store → Type 0
MeasuresTheSame s f = (u : ℕ) → u < length s.rows → extent_at f u ≡ extent_at s u
