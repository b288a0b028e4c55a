use Rattle.hare_find.proofs.YieldsSeen.DefinedTypes.{locals_stay}
use Rattle.hare_find.proofs.bindings.bind_before.Goals as goal

pub returns-clause-locals : goal.returns-clause-locals
returns-clause-locals c h =
    let s = c.each_binding.new.s in
    c.bind.ensures.locals s c.in_ok-b.ensures.defined
    (locals_stay c.args.s.now s c.declarations-law.ensures.sound c.each_binding.ensures.grown.later c.args.told.now h)
