-- What the walk over a tree keeps of the nodes round the one at hand. No public clause cites this.
use Rattle.std.specs.Prelude.{ℕ, Bool, not, List, [], ◌∷◌, filter, min, Option, Some, None}
use Rattle.std.specs.List.{list_any}
use Rattle.hare_tree.specs.declared.kind.Kind.{Kind}
use Rattle.hare_typed.specs.declared.exits.Round.{Round, fold-Round}
use Rattle.hare_typed.specs.declared.exits.Round.TheOpen.{Round-F}
use Rattle.hare_typed.specs.Copies.{Exit, Copied, ends_at}

-- a node round another: its kind and its label
pub record Frame : Type 0 where
  pub kind : Kind
  pub label : List ℕ

abbrev pub frame_step : Round-F (List Frame) → List Frame
frame_step Round-F.Nothing = []
frame_step (Round-F.Inside k label outer) = record { kind = k; label = label.now } ∷ outer.now

-- the nodes round, the innermost first
abbrev pub frames : Round → List Frame
frames = fold-Round (List Frame) frame_step

-- whether an exit goes no further than one of these
abbrev pub ends_among : List Frame → Exit → Bool
ends_among fs e = list_any (λ f. ends_at f.kind f.label e) fs

-- the exits that leave all of these
abbrev pub leaving : List Frame → List Exit → List Exit
leaving fs es = filter (λ e. not (ends_among fs e)) es

-- ---- copies

abbrev pub most : ℕ
most = 18446744073709551615

-- the copies of what was found, as far as a program counts
abbrev pub capped : Option Copied → Option ℕ
capped None = None
capped (Some x) = Some (min x.times most)
