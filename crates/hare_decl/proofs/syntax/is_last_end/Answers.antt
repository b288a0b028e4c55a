use Rattle.std.proofs.Common.{arith}
use Rattle.std.proofs.lemmas.Bool.{leb-true}
use Rattle.hare_decl.proofs.RunOutcomes.Behind.{last_end}
use Rattle.hare_decl.proofs.syntax.is_last_end.Goals as goal

pub returns-in-Some : goal.returns-in-Some
returns-in-Some c =
    λ e. last_end c.args.tokens.now c.args.n c.in-Some.token.now c.in-Some.ensures (c.is_end.ensures.yes c.if-is_end.true)
    (omega (arith, leb-true _ _ e, c.len.ensures))
