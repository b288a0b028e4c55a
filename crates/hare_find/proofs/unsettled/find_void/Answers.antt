use Rattle.hare_find.proofs.FoundOfNode.Answers.{if_ok_weaker}
use Rattle.hare_find.proofs.unsettled.find_void.Goals as goal

pub returns-clause-found : goal.returns-clause-found
returns-clause-found c =
    let void = c.in_ok-void.void in
    if_ok_weaker c.unsettled.result
    (λ x h. record { void = void; word = c.in_ok-void.ensures.id; unsettled = h })
    c.unsettled.ensures.found

pub returns-clause-defined : goal.returns-clause-defined
returns-clause-defined c = if_ok_weaker c.unsettled.result (λ x h. h c.word.new.s c.in_ok-void.ensures.defined) c.unsettled.ensures.defined
