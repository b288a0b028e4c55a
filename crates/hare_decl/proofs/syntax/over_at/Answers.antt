use Rattle.std.proofs.Common.{arith}
use Rattle.hare_decl.proofs.RunOutcomes.Behind.{over_at_other, over_at_end, over_at_last, over_somewhere}
use Rattle.hare_decl.proofs.syntax.over_at.Goals as goal
use Rattle.hare_decl.proofs.syntax.over_at.Goals.{in_default-via-in-Some+else-is_end, in_default-via-in_default}

pub returns-then-n-len-clause-value : goal.returns-then-n-len-clause-value
returns-then-n-len-clause-value c =
    over_at_end c.args.file c.args.tokens.now c.args.uses c.args.decls c.args.n c.in-Some.token.now c.requires c.in-Some.ensures
    (c.is_end.ensures.yes c.if-is_end.true) (omega (arith, c.if-n-len.true, c.len.ensures))

pub returns-else-n-len-clause-value : goal.returns-else-n-len-clause-value
returns-else-n-len-clause-value c =
    over_at_last c.args.file c.args.tokens.now c.args.uses c.args.decls c.args.n c.in-Some.token.now c.requires c.in-Some.ensures
    (c.is_end.ensures.yes c.if-is_end.true) (omega (arith, c.if-n-len.false, c.len.ensures))

pub returns-in_default-clause-value : goal.returns-in_default-clause-value
returns-in_default-clause-value c =
    elim c.in_default.branch [
      | in_default-via-in-Some+else-is_end w ↦ over_at_other c.args.file c.args.tokens.now c.args.uses c.args.decls c.args.n
          w.in-Some.token.now c.requires w.in-Some.ensures (w.is_end.ensures.no w.if-is_end.false)
      | in_default-via-in_default w ↦ absurd
          (over_somewhere c.args.file c.args.tokens.now c.args.uses c.args.decls c.args.n c.requires w.in_default.ensures)
    ]
