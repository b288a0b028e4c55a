-- What a call of the emitter adds to a function. No public clause cites it.
use Rattle.std.specs.Prelude.{◌≡◌, ℕ, ◌+◌, List}
use Rattle.il_emit.specs.declared.emitter.Emitter.{Emitter}
use Rattle.il_emit.specs.Lines.{Line}
use Rattle.il_emit.specs.Drafts.{add_all}

-- lines were added, which take so many labels and addresses, and these are the exits behind them
pub record Emits (old new : Emitter) (lines : List Line) (more_labels more_addresses : ℕ) (exits_behind : List ℕ) : Type 0 where
  pub draft : new.draft ≡ add_all old.draft lines
  pub labels : new.labels ≡ old.labels + more_labels
  pub addresses : new.addresses ≡ old.addresses + more_addresses
  pub exits : new.exits.items ≡ exits_behind
