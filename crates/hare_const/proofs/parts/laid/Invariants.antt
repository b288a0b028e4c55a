use Rattle.hare_types.specs.declared.coercion.Ty.TheVariants as ty
use Rattle.hare_const.proofs.PartLemmas.{Gathered}
use Rattle.hare_const.proofs.parts.laid.Given as goal

-- the parts so far are gathered
abbrev pub invariant-loop-i : goal.invariant-loop-i
invariant-loop-i l = Gathered l.s (ty.Of l.fn.of) l.size l.parts l.from l.kids l.i l.given.items
