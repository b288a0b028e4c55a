-- How a judge of written types leaves the store.
use Rattle.std.specs.Prelude.{◌≡◌}
use Rattle.hare_types.specs.Store.{Store, Extends}
use Rattle.hare_types.specs.Later.{IsLater}

-- The store has grown, in names and types alone.
pub record IsGrown (old new : Store) : Type 0 where
  pub rest : new ≡ record old { names = new.names; rows = new.rows }
  pub grows : Extends old new
  pub later : IsLater old new
