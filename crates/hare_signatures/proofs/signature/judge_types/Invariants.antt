use Rattle.std.proofs.Common.{take}
use Rattle.hare_types.specs.Sound.{IsStore}
use Rattle.hare_whole.specs.Listing.{written_types}
use Rattle.hare_steps.specs.Plans.{listing}
use Rattle.hare_turns.specs.Types.{AreTypesSoFar}
use Rattle.hare_walk.specs.Grown.{IsGrown}
use Rattle.hare_signatures.proofs.signature.judge_types.Given as goal

-- the written types so far have these trees
abbrev pub invariant-loop-i : goal.invariant-loop-i
invariant-loop-i l = record {
  types : AreTypesSoFar (listing l.names l.files) l.known l.s l.own (take l.i (written_types l.decl)) l.types;
  grown : IsGrown l.initial.s l.s;
  sound : IsStore l.s;
}
