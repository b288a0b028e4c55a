use Rattle.std.proofs.Common.{◌-◌, arith}
use Rattle.il_load.proofs.PutLemmas.{piece-zeros, zeros-ready, zeros-more, zeros-end}
use Rattle.il_load.proofs.pieces.put_page_by_page.Goals as goal

pub put_piece-requires-clause-ready : goal.put_piece-requires-clause-ready
put_piece-requires-clause-ready c =
    let piece = piece-zeros c.args.zeros.now c.min-more.result c.requires.zeros (omega arith) in
    zeros-ready c.args.memory.now c.loop-left.memory (c.args.end - c.args.count) c.args.count c.loop-left.left c.min-more.result _ piece
    (omega arith) c.loop-left.invariant

pub loop-left-preserved : goal.loop-left-preserved
loop-left-preserved c =
    let piece = piece-zeros c.args.zeros.now c.min-more.result c.requires.zeros (omega arith) in
    zeros-more c.args.memory.now c.loop-left.memory (c.args.end - c.args.count) c.args.count c.loop-left.left c.min-more.result _ piece
    (omega arith) c.loop-left.invariant c.put_piece.new.memory c.in_ok-put_piece.ensures

pub returns : goal.returns
returns c =
    zeros-end c.args.memory.now c.loop-left.memory c.args.end c.args.count c.loop-left.left c.requires.ready.room
    (omega (arith, c.loop-left-test.false)) c.loop-left.invariant
