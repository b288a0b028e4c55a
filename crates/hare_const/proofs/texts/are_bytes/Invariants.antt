use Rattle.std.proofs.Common.{◌+◌, ◌-◌, take, drop}
use Rattle.std.specs.Prelude.{IsSome}
use Rattle.hare_typed.specs.Cells.{bytes_of, cells_within}
use Rattle.hare_const.proofs.texts.are_bytes.Given as goal

-- all are bytes where those are that are left, and only there
abbrev pub invariant-loop-i : goal.invariant-loop-i
invariant-loop-i l =
    record {
      found : IsSome (bytes_of (take (l.count - l.i) (drop (l.from + l.i) l.cells))) →
          IsSome (bytes_of (cells_within l.from l.count l.cells));
      back : IsSome (bytes_of (cells_within l.from l.count l.cells)) →
          IsSome (bytes_of (take (l.count - l.i) (drop (l.from + l.i) l.cells)));
    }
