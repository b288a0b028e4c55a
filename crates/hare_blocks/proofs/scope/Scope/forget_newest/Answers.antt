use Rattle.std.proofs.Common.{refl}
use Rattle.hare_blocks.proofs.DeclaredNames.Scoped.{scope_forgotten, scope_has}
use Rattle.hare_blocks.proofs.scope.Scope.forget_newest.Goals as goal

pub invariant_of-self : goal.invariant_of-self
invariant_of-self c =
    let s = rw c.in-Some.ensures.items at c.self.invariant in
    rw c.in-Ok.ensures.entries (scope_forgotten (λ k. k.items) c.self.inside.newest.entries c.pop.new.self.items c.in-Some.binding
    c.in-Some.binding.name s refl)

pub unreachable-requires : goal.unreachable-requires
unreachable-requires c =
    let s = rw c.in-Some.ensures.items at c.self.invariant in
    scope_has (λ k. k.items) c.self.inside.newest.entries c.pop.new.self.items c.in-Some.binding s c.in-Err.ensures.absent
