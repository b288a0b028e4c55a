use Rattle.std.proofs.Common.{arith}
use Rattle.hare_bytes.specs.Bytes.{told_bytes}
use Rattle.hare_bytes.proofs.ByteLemmas.{one-more, are-bytes}
use Rattle.hare_bytes.proofs.globals.bytes_of_globals.Goals as goal

pub loop-i-preserved : goal.loop-i-preserved
loop-i-preserved c =
    one-more (told_bytes c.args.s.now) c.args.decls.now c.loop-i.i c.in-Some.decl.now _ _ _ c.in-Some.ensures.found c.in_ok-bytes_of.ensures
    c.in_ok-push.ensures.items
    c.loop-i.invariant

pub returns : goal.returns
returns c = record { value = are-bytes c.args.s.now c.args.decls.now c.loop-i.i c.loop-i.bytes.items (omega arith) c.loop-i.invariant }
