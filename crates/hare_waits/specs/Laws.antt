-- What holds of nodes that wait.
use Rattle.std.specs.Prelude.{ℕ, List}
use Rattle.hare_types.specs.Store.{Store}
use Rattle.hare_types.specs.Later.{IsLater}
use Rattle.hare_typed.specs.Typed.{TypedNode}
use Rattle.hare_seen.specs.Seen.{DefinesTheSame}
use Rattle.hare_waits.specs.declared.waiting.Waiting.{Waiting}
use Rattle.hare_waits.specs.Waits.{AreAwaited}

-- where no other name is defined, the same nodes wait, and for the same names
abbrev pub WaitsStay : Type 0
WaitsStay = (s f : Store) (q : List (ℕ × Waiting)) (js : List (ℕ × List TypedNode)) → AreAwaited s q js → IsLater s f → DefinesTheSame s f →
    AreAwaited f q js
