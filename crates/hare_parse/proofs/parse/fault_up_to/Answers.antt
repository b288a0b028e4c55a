use Rattle.std.proofs.Common.{◌≡◌, ◌-◌, min, sym, ap, ◌∙◌}
use Rattle.hare_tree.specs.Grammar.{place_of}
use Rattle.hare_parse.specs.Answers.{place_up_to}
use Rattle.hare_parse.proofs.ClosedRun.Placed.{place_last}
use Rattle.hare_parse.proofs.parse.fault_up_to.Goals as goal

pub returns : goal.returns
returns c =
    let ts = c.args.t.now in
    let e : c.place_at.result ≡ place_up_to ts c.args.n =
    c.place_at.ensures ∙ ap (place_of ts) (c.min.ensures ∙ ap (λ k. min c.args.n (k - 1)) c.len-last.ensures) ∙ sym
    (place_last ts c.args.n) in
    ap (λ p. record { number = c.args.number; place = p }) e
