use Rattle.std.proofs.Common.{drop}
use Rattle.hare_typed.specs.Joined.{AreTold}
use Rattle.hare_const.proofs.joined.are_told.Given as goal

-- all are told where those are that are left, and only there
abbrev pub invariant-loop-t : goal.invariant-loop-t
invariant-loop-t l =
    record {
      found : AreTold l.s (drop l.t-index l.types) → AreTold l.s l.types;
      back : AreTold l.s l.types → AreTold l.s (drop l.t-index l.types);
    }
