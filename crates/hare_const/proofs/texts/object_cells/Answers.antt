use Rattle.std.proofs.Common.{◌∙◌, Some, sym, ap, arith}
use Rattle.hare_const.proofs.TextLemmas.{found_here, found_next, found_none}
use Rattle.hare_const.proofs.texts.object_cells.Goals as goal

pub returns-then-o-number : goal.returns-then-o-number
returns-then-o-number c =
    found_here c.args.objects.now c.loop-i.i c.in-Some.o.now c.args.number (sym c.in-Some.ensures) c.if-o-number.true c.loop-i.invariant
    ∙ ap Some (sym c.cells.ensures)

pub loop-i-preserved : goal.loop-i-preserved
loop-i-preserved c =
    found_next c.args.objects.now c.loop-i.i c.in-Some.o.now c.args.number (sym c.in-Some.ensures) c.if-o-number.false c.loop-i.invariant

pub returns : goal.returns
returns c = found_none c.args.objects.now c.loop-i.i c.args.number (omega arith) c.loop-i.invariant
