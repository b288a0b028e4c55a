use Rattle.std.proofs.Common.{ap}
use Rattle.hare_tree.specs.declared.place.Place.{Place}
use Rattle.hare_tree.specs.declared.place.Fault as fault
use Rattle.hare_decl.proofs.OneAnswer.Places.{place_got}
use Rattle.hare_decl.proofs.file.fault_at.Goals as goal

pub returns : goal.returns
returns c =
    let at : Place → fault.Fault = λ p. record { number = c.args.number; place = p } in
    ap at (place_got c.args.t.now c.args.n c.in-Some.token.now c.in-Some.ensures)
