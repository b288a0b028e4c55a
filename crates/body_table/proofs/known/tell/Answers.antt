use Rattle.std.proofs.Common.{sym, subst}
use Rattle.body_table.specs.Told.{AreTold}
use Rattle.body_table.proofs.ToldLemmas.{told-one_more}
use Rattle.body_table.proofs.known.tell.Goals as goal

pub returns-in_ok-push-clause-told : goal.returns-in_ok-push-clause-told
returns-in_ok-push-clause-told c =
    let s = c.args.s.now in
    subst (λ ds. AreTold s ds) (sym c.in_ok-push.ensures.ok)
    (told-one_more s c.args.told.now c.args.d c.requires.told (c.in_ok-is_told.ensures.value c.if-branch.true))
