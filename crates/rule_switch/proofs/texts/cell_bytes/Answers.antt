use Rattle.std.proofs.Common.{sym}
use Rattle.rule_switch.proofs.TextLemmas.{byte_next, byte_not, bytes_end, past_get}
use Rattle.rule_switch.proofs.texts.cell_bytes.Goals as goal

pub loop-i-preserved : goal.loop-i-preserved
loop-i-preserved c =
    byte_next c.args.cells.now c.loop-i.i c.loop-i.left c.in-Some.cell
    (sym c.in-Some.ensures) c.if-left-eq0.false c.loop-i.out.items _ c.loop-i.invariant
    c.in-Some-byte_of.byte c.push.new.self.items c.in-Some-byte_of.ensures c.in_ok-push.ensures.items

pub returns-in_default-byte_of : goal.returns-in_default-byte_of
returns-in_default-byte_of c =
    byte_not c.args.cells.now c.loop-i.i c.loop-i.left c.in-Some.cell
    (sym c.in-Some.ensures) c.if-left-eq0.false c.loop-i.out.items _ c.loop-i.invariant
    c.in_default-byte_of.ensures

pub returns-in_default : goal.returns-in_default
returns-in_default c =
    bytes_end c.args.cells.now c.loop-i.i c.loop-i.left c.loop-i.out.items _
    (past_get c.args.cells.now c.loop-i.i c.in_default.ensures) c.loop-i.invariant
