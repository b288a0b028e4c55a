-- How a walk leaves the store.
use Rattle.std.specs.Prelude.{◌≡◌}
use Rattle.hare_types.specs.Store.{Store, Extends}

-- The store has grown in names, types and listed members. No type was declared, and none defined.
pub record IsGrown (old new : Store) : Type 0 where
  pub grows : Extends old new
  pub declared : new.declared ≡ old.declared
