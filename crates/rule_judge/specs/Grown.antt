-- How a judge leaves the store.
use Rattle.std.specs.Prelude.{◌≡◌}
use Rattle.hare_types.specs.Store.{Store, Extends}
use Rattle.hare_types.specs.Later.{IsLater}

-- The store has grown, and in types alone.
pub record IsGrown (old new : Store) : Type 0 where
  pub rest : new ≡ record old { rows = new.rows }
  pub grows : Extends old new
  pub later : IsLater old new
