use Rattle.il_load.proofs.PutLemmas.{put-puts}
use Rattle.il_load.proofs.pieces.put_piece.Goals as goal

pub returns-in-Ok : goal.returns-in-Ok
returns-in-Ok c =
    put-puts c.args.memory.now c.write.new.self c.args.at c.args.bytes.now c.requires.ready c.in-Ok.ensures.ranges c.in-Ok.ensures.pages
    c.in-Ok.ensures.done
