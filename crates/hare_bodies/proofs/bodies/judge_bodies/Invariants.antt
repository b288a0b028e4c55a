use Rattle.std.proofs.Common.{take}
use Rattle.hare_types.specs.Sound.{IsStore}
use Rattle.hare_saids.specs.Saids.{decls}
use Rattle.hare_steps.specs.Plans.{listing}
use Rattle.hare_turns.specs.Ends.{AreBodies}
use Rattle.hare_walk.specs.Grown.{IsGrown}
use Rattle.hare_bodies.specs.Functions.{CanJudge}
use Rattle.hare_bodies.proofs.bodies.judge_bodies.Given as goal

-- the functions among the declarations so far have these bodies
abbrev pub invariant-loop-i : goal.invariant-loop-i
invariant-loop-i l = record {
  can : CanJudge l.s l.known;
  bodies : AreBodies (listing l.names l.files) l.known l.s 0 (take l.i (decls l.files)) l.bodies;
  grown : IsGrown l.initial.s l.s;
  sound : IsStore l.s;
}
