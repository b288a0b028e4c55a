use Rattle.std.proofs.Common.{◌-◌, length, take, drop, arith}
use Rattle.il_load.proofs.PutLemmas.{piece-ready, put-more, slice-length, bytes-parts}
use Rattle.il_load.proofs.pieces.put_bytes.Goals as goal

pub put_piece-requires-clause-ready : goal.put_piece-requires-clause-ready
put_piece-requires-clause-ready c =
    let bs = c.args.bytes.now in
    let left = c.loop-left.left in
    let from = left - c.min.result in
    let whole = slice-length bs from left (omega arith) c.loop-left.invariant.within in
    piece-ready c.args.memory.now c.loop-left.memory (c.args.end - length bs) bs left from (take (left - from) (drop from bs))
    c.loop-left.invariant whole

pub loop-left-preserved : goal.loop-left-preserved
loop-left-preserved c =
    let bs = c.args.bytes.now in
    let left = c.loop-left.left in
    let from = left - c.min.result in
    let whole = slice-length bs from left (omega arith) c.loop-left.invariant.within in
    put-more c.args.memory.now c.loop-left.memory (c.args.end - length bs) bs left from (take (left - from) (drop from bs))
    c.loop-left.invariant whole c.put_piece.new.memory (bytes-parts bs from left (omega arith)) c.in_ok-put_piece.ensures
