use Rattle.hare_types.specs.Sound.{IsStore}
use Rattle.hare_saids.specs.Saids.{decls}
use Rattle.hare_defined.specs.Known.{AreDefined}
use Rattle.hare_walk.specs.Grown.{IsGrown}
use Rattle.hare_unit.specs.Finishing.{AreFinishedTo}
use Rattle.hare_unit.proofs.finished.finish_all.Given as goal

-- the first `i` declarations have been finished
abbrev pub invariant-loop-i : goal.invariant-loop-i
invariant-loop-i l = record {
  finished : AreFinishedTo l.s (decls l.files) l.fn.parts l.fn.bodies l.i l.parts l.bodies l.finished;
  defined : AreDefined l.s l.defined;
  grown : IsGrown l.fn.s l.s;
  sound : IsStore l.s;
}
