use Rattle.std.proofs.Common.{◌≡◌, ap, ◌∙◌, Option, Some}
use Rattle.std.specs.Prelude.{option_map}
use Rattle.hare_rules.specs.Context.{Entry, Odd}
use Rattle.hare_flow.specs.declared.seen.Binding.{Binding}
use Rattle.hare_flow.specs.Seen.{entry_of}
use Rattle.hare_find.proofs.BindingsSeen.Unknown.{odd_refused}
use Rattle.hare_find.proofs.looked.look_at_binding.Goals as goal

pub returns-in-Odd-clause-err : goal.returns-in-Odd-clause-err
returns-in-Odd-clause-err c d n m =
    let o : Option Entry = option_map entry_of c.args.binding.now in
    let at = c.in-Odd.at in
    let p : o ≡ Some (entry_of c.in-Some.b) = ap (option_map entry_of) c.in-Some.is in
    let q : Some (entry_of c.in-Some.b) ≡ Some (Odd at) = ap (λ (z : Binding). Some (entry_of z)) c.in-Odd.is in
    rw c.number.ensures.value (odd_refused d n c.args.place at o m (p ∙ q))
