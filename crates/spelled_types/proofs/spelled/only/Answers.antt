use Rattle.std.proofs.Common.{sym}
use Rattle.spelled_types.proofs.BelowLemmas.{AllBelow-get}
use Rattle.spelled_types.proofs.spelled.only.Goals as goal

pub returns : goal.returns
returns c = λ n h. AllBelow-get n c.args.types.now h 0 _ (sym c.in-Some.ensures)
