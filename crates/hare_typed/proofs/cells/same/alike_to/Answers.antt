use Rattle.std.proofs.Common.{arith}
use Rattle.hare_typed.proofs.StretchLemmas.{alike_same, alike_both}
use Rattle.hare_typed.proofs.cells.same.alike_to.Goals as goal

pub returns-then-left-right : goal.returns-then-left-right
returns-then-left-right c cs ds p q h =
    alike_same c.args.left c.args.right c.args.place c.min.result cs ds c.if-left-right.true c.requires.left.behind
    c.requires.right.behind (omega arith) (omega arith) p q h

pub returns-then-place-right : goal.returns-then-place-right
returns-then-place-right c cs ds p q h =
    alike_both c.args.left c.args.right c.args.place c.min-then-place-right.result cs ds (omega arith) (omega arith) (omega arith)
    (omega arith) p q h
