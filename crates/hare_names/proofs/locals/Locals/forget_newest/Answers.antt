use Rattle.hare_names.proofs.LocalLemmas.{told-forgotten}
use Rattle.hare_names.proofs.locals.Locals.forget_newest.Goals as goal

pub invariant_of-self : goal.invariant_of-self
invariant_of-self c =
    let told = rw c.in-Some.ensures.items at c.self.invariant in
    told-forgotten (λ k. k.now) c.self.inside.newest.entries c.pop.new.self.items c.in-Some.local told
