use Rattle.std.proofs.Common.{arith}
use Rattle.il_load.proofs.ArgumentLemmas.{size-at-most, sizes-within}
use Rattle.il_load.proofs.arguments.bytes_of.Goals as goal

pub overflow_add-bytes : goal.overflow_add-bytes
overflow_add-bytes c =
    let args = c.args.arguments.now in
    let i = c.loop-argument.argument-index in
    let a = c.argument-item.result in
    let within = sizes-within args i a a (omega (arith, c.loop-argument-test.true)) c.argument-item.is in
    let most = size-at-most args in
    let few = c.requires.count in
    let bytes = c.requires.bytes in
    let so_far = c.loop-argument.invariant in
    let size = c.size-bytes.ensures in
    omega (arith, within, most, few, bytes, so_far, size)
