-- The calls of an object in memory: which of them fail by the list that it was given.
use Rattle.std.specs.Prelude.{ℕ, ◌+◌, ◌-◌, ◌^◌, min, Bool, ◌==◌, if◌then◌else◌}
use Rattle.std.specs.List.{list_any}
use Rattle.hx_io.specs.declared.tally.Tally.{Tally}

-- one more, where counts stop at 2 ^ 64 - 1
abbrev pub one_more : ℕ → ℕ
one_more n = min (n + 1) (2 ^ 64 - 1)

-- The number of the next call is in the list. Calls are numbered from 1, and how often a number is in the list does not matter.
abbrev pub next_fails : Tally → Bool
next_fails t = list_any (λ n. n == one_more t.calls) t.fails

-- the tally behind a call that failed, or that did not
abbrev pub counted : Bool → Tally → Tally
counted failed t = record t { calls = one_more t.calls; failed = if failed then one_more t.failed else t.failed }
