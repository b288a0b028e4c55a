use Rattle.std.proofs.Common.{◌<◌, arith}
use Rattle.std.proofs.lemmas.List.Elements.{All-from_get_or}
use Rattle.hx_base.proofs.Memory.Numbers.{le_number-more}
use Rattle.hx_base.proofs.numbers.le_get.Goals as goal

pub loop-i-preserved : goal.loop-i-preserved
loop-i-preserved c =
    let bytes = All-from_get_or (λ x. x < 256) c.args.b.now 0 (λ k l. (c.type_inv.b k).fits) in
    le_number-more c.args.b.now c.loop-i.i c.loop-i.number c.from.result bytes
    (omega (arith, c.loop-i-test.true)) c.loop-i.auto.i c.requires.few c.loop-i.invariant c.from.ensures
