use Rattle.std.proofs.Common.{◌≡◌, ◌++◌, take}
use Rattle.hare_typed.specs.Typed.{typed_nodes}
use Rattle.hare_typed.specs.Coherent.{statics_in_each}
use Rattle.hare_const.proofs.statics.+statics.Given as goal

abbrev pub decreases-put_statics : goal.decreases-put_statics
decreases-put_statics l = goal.size-put_statics l

abbrev pub decreases-put_statics_of : goal.decreases-put_statics_of
decreases-put_statics_of l = goal.size-put_statics_of l

-- those of the trees so far
abbrev pub invariant-put_statics_of-loop-i : goal.invariant-put_statics_of-loop-i
invariant-put_statics_of-loop-i l = l.objects ≡ l.initial.objects ++ statics_in_each l.own (typed_nodes (take l.i l.kids))
