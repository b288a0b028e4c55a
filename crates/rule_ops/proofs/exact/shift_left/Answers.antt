use Rattle.std.proofs.Math.Pow.{pow-lt}
use Rattle.rule_ops.proofs.exact.shift_left.Goals as goal

pub pow-requires : goal.pow-requires
pow-requires c = record { sfits = pow-lt c.if-n-lt127.true }
