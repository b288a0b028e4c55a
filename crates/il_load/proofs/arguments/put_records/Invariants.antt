use Rattle.std.proofs.Common.{◌≡◌, ◌+◌, ◌*◌, take, drop}
use Rattle.std.specs.Prelude.{sum_by}
use Rattle.hx_base.specs.Runtime.{argument_records, argument_size, record_size}
use Rattle.il_load.specs.Puts.{IsReady, PutsBefore}
use Rattle.il_load.proofs.arguments.put_records.Given as goal

-- the records of those behind have been put, and the text of the one in front of them ends there
abbrev pub invariant-loop-i : goal.invariant-loop-i
invariant-loop-i l =
    (l.text ≡ l.texts + sum_by argument_size (take l.i l.arguments)) × (IsReady l.memory l.at (record_size * l.i))
    × (PutsBefore l.initial.memory l.memory l.texts (argument_records l.text (drop l.i l.arguments)) l.at)
