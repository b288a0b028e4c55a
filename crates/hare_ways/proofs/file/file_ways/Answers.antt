use Rattle.hare_ways.proofs.Files.{uses-room, decls-room, file-put}
use Rattle.hare_ways.proofs.file.file_ways.Goals as goal

pub put_roots-requires : goal.put_roots-requires
put_roots-requires c = uses-room c.args.comments.now 4294967296 c.args.t.now c.new-out.result.items c.new-out.ensures.items c.requires

pub put_roots-requires-2 : goal.put_roots-requires-2
put_roots-requires-2 c =
    decls-room c.args.comments.now 4294967296 c.args.t.now c.new-out.result.items c.put_roots.new.out.items c.new-out.ensures.items
    c.in_ok-put_roots.ensures c.requires

pub returns : goal.returns
returns c =
    file-put c.args.comments.now c.args.t.now c.new-out.result.items c.put_roots.new.out.items c.put_roots-2.new.out.items
    c.push.new.self.items
    c.end_way.result c.new-out.ensures.items c.in_ok-put_roots.ensures c.in_ok-put_roots-2.ensures c.in_ok-push.ensures.items
    c.end_way.ensures
