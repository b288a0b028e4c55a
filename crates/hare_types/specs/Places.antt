-- Where rows lie in the store's table of hashes.
use Rattle.std.specs.Prelude.{ℕ, ◌+◌, ◌*◌, ◌/◌, ◌%◌, ◌^◌, cond, ◌&&◌, ◌==◌, List, length, slice_index}
use Rattle.std.specs.Hash.FoldHasher as folding
use Rattle.hare_types.specs.declared.places.Place.{Place}
use Rattle.hare_types.specs.declared.places.Place.TheVariants.{Start, Pointer, Near, Far}
use Rattle.hare_types.specs.declared.places.RowHasher.{RowHasher}

-- what is known of the place of a row once these bytes follow
abbrev pub next_place : Place → List ℕ → Place
next_place Start bs = cond ((length bs == 1) && (slice_index bs 0 == 1)) Pointer Far
next_place Pointer bs = cond (length bs == 4) (Near (folding.read_u32 bs 0)) Far
next_place (Near t) bs = Far
next_place Far bs = Far

abbrev pub initial : RowHasher
initial = record { all = folding.initial; place = Start }

abbrev pub write : RowHasher → List ℕ → RowHasher
write h bs = record { all = folding.write h.all bs; place = next_place h.place bs }

-- the hash, where that of all that was written is n: eight bits of it, and behind them the place
abbrev pub hash_at : Place → ℕ → ℕ
hash_at (Near t) n = n / 2 ^ 56 * 2 ^ 24 + t / 2 % 2 ^ 24
hash_at Start n = n
hash_at Pointer n = n
hash_at Far n = n

abbrev pub finish : RowHasher → ℕ
finish h = hash_at h.place (folding.finish h.all)
