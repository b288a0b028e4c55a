use Rattle.std.proofs.Common.{map}
use Rattle.hare_find.proofs.FoundOfNode.Answers.{if_ok_weaker}
use Rattle.hare_flow.specs.Seen.{given_of}
use Rattle.hare_find.proofs.YieldsSeen.Told.{void_here, givens_stay}
use Rattle.hare_find.proofs.told.told_yields.Goals as goal

pub returns-clause-told : goal.returns-clause-told
returns-clause-told c =
    if_ok_weaker c.told_each.result
    (λ ys h f l. h f (void_here f l.sound c.in_ok-void.void (c.in_ok-void.ensures.id f l)))
    c.told_each.ensures.told

pub returns-clause-defined : goal.returns-clause-defined
returns-clause-defined c =
    let s = c.word.new.s in
    let gs = givens_stay c.args.s.now s c.declarations-law.ensures.sound c.word.ensures.grown.later
    (map given_of c.args.gs.now) c.requires in
    if_ok_weaker c.told_each.result (λ ys h. h s c.in_ok-void.ensures.defined gs) c.told_each.ensures.defined
