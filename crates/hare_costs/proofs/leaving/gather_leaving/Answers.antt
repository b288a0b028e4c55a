use Rattle.std.proofs.Common.{sym, ◌∙◌, arith}
use Rattle.hare_costs.proofs.LeavingLemmas.{kept-moved, kept-passed, kept-done}
use Rattle.hare_costs.proofs.leaving.gather_leaving.Goals as goal
use Rattle.hare_costs.proofs.leaving.gather_leaving.Goals.{then-not-ends_at, else-not-ends_at}

pub loop-i-preserved : goal.loop-i-preserved
loop-i-preserved c =
    elim c.if-not-ends_at.branch [
      | then-not-ends_at w ↦
          rw (w.exits-is, w.kept-is) (record {
            behind = omega arith;
            kept =
                kept-moved c.args.k c.args.own.now c.loop-i.exits c.loop-i.kept c.loop-i.i c.exit_at-exit.result c.loop-i.invariant.behind
                (omega arith) c.exit_at-exit.ensures
                (sym c.ends_at.ensures ∙ w.if-not-ends_at.true)
                ∙ c.loop-i.invariant.kept;
          })
      | else-not-ends_at w ↦
          rw (w.exits-is, w.kept-is) (record {
            behind = omega arith;
            kept =
                kept-passed c.args.k c.args.own.now c.loop-i.exits c.loop-i.kept c.loop-i.i c.exit_at-exit.result c.exit_at-exit.ensures
                (sym c.ends_at.ensures ∙ w.if-not-ends_at.false)
                ∙ c.loop-i.invariant.kept;
          })
    ]

pub returns : goal.returns
returns c = kept-done c.args.k c.args.own.now c.loop-i.exits c.loop-i.kept c.loop-i.i (omega arith) ∙ c.loop-i.invariant.kept
