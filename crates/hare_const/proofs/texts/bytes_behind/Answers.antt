use Rattle.std.proofs.Common.{sym, ap, ◌∙◌}
use Rattle.std.specs.Prelude.{Some}
use Rattle.hare_const.proofs.TextLemmas.{byte_more}
use Rattle.hare_const.proofs.texts.bytes_behind.Goals as goal

pub loop-i-preserved : goal.loop-i-preserved
loop-i-preserved c =
    byte_more c.args.cells.now c.args.from c.args.count c.loop-i.i c.in-Some-Byte.b c.loop-i.out.items c.push.new.self.items _
    (sym c.in-Some-Byte.ensures ∙ ap Some c.in-Some-Byte.field-0-is) c.loop-i-test.true c.in_ok-push.ensures.items c.loop-i.invariant
