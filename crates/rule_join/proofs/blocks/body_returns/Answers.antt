use Rattle.std.proofs.Common.{◌≡◌, true}
use Rattle.std.proofs.lemmas.Result.{IfOk-weaker}
use Rattle.hare_types.proofs.LaterLemmas.{later_trans}
use Rattle.rule_join.proofs.ValueLemmas.{returns_by}
use Rattle.rule_join.proofs.blocks.body_returns.Goals as goal

pub returns-clause-value : goal.returns-clause-value
returns-clause-value c =
    let body : c.args.t.now.case.now.inside.body ≡ true = cc in
    IfOk-weaker c.void_fits.result _ _
    (λ b h f l.
    returns_by c.args.t.now.case.now.inside.body _ _ b body
    (c.if-not-is_open.ensures f (later_trans c.args.s.now c.void_fits.new.s f c.void_fits.ensures.grown.later l)) (h f l))
    c.void_fits.ensures.value
