use Rattle.std.proofs.Common.{◌≡◌, ◌∙◌, sym}
use Rattle.hare_blocks.specs.Scopes.{number_of}
use Rattle.hare_blocks.specs.ScopeParts.{bindings_of}
use Rattle.hare_blocks.proofs.DeclaredNames.Scoped.{scope_declared}
use Rattle.hare_blocks.proofs.scope.Scope.declare.Goals as goal

pub invariant_of-self-in-Ok : goal.invariant_of-self-in-Ok
invariant_of-self-in-Ok c =
    let bs = c.self.inside.bindings.items in
    let same = c.in_ok-key.ensures ∙ sym c.in_ok-name.ensures in
    let hidden : c.find-hidden.result ≡ number_of c.in_ok-name.name.items (bindings_of bs) =
    cc (c.find-hidden.ensures, c.as_slice.ensures.value, c.self.view_is) in
    rw (c.in-Ok.ensures.entries, c.in_ok-push.ensures.items)
    (scope_declared (λ k. k.items) c.self.inside.newest.entries bs
    (record { name = c.in_ok-name.name; number = c.args.number; hidden = c.find-hidden.result }) c.in_ok-key.key c.self.invariant same
    hidden)
