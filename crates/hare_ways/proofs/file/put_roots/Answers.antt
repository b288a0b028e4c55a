use Rattle.std.proofs.lemmas.Result.{on_ok_weaker}
use Rattle.hare_ways.proofs.Files.{roots-room, roots-put}
use Rattle.hare_ways.proofs.file.put_roots.Goals as goal

pub put_row-requires-clause-room : goal.put_row-requires-clause-room
put_row-requires-clause-room c = roots-room c.args.comments.now 4294967296 c.args.out.now.items c.args.trees.now c.requires

pub returns : goal.returns
returns c =
    on_ok_weaker c.put_row.result (roots-put c.args.comments.now c.args.out.now.items c.put_row.new.out.items c.args.trees.now)
    c.put_row.ensures
