use Rattle.hare_steps.specs.Plans.{listing}
use Rattle.hare_declarations.specs.Standing.{IsStanding, StaysDeclared, steps_before}
use Rattle.hare_declarations.proofs.judge.judge_declarations.Given as goal

-- the steps so far have been passed
abbrev pub invariant-loop-place : goal.invariant-loop-place
invariant-loop-place l = record {
  standing : IsStanding (listing l.names l.files) l.s l.state (steps_before l.plan l.place);
  stays : StaysDeclared (listing l.names l.files) l.initial.s l.s;
}
