use Rattle.std.proofs.Common.{sym, arith}
use Rattle.std.proofs.lemmas.Grind.{common_steps}
use Rattle.hare_parse.proofs.ClosedRun.Placed.{place_got}
use Rattle.hare_parse.proofs.parse.place_at.Goals as goal

pub returns : goal.returns
returns c = sym (place_got c.args.t.now c.args.n c.in-Some.token.now (grind (arith, common_steps)))
