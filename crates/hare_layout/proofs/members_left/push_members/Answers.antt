use Rattle.std.proofs.Common.{◌+◌, take, ap, sym, ◌∙◌, subst}
use Rattle.hare_layout.specs.Ids.{Gains}
use Rattle.hare_layout.proofs.LeftLemmas.{Gains-skip_at, Gains-push_at}
use Rattle.hare_layout.proofs.members_left.push_members.Goals as goal
use Rattle.hare_layout.proofs.members_left.push_members.Goals.{then-not-is_never+in_ok-push, else-not-is_never}

pub loop-t-preserved : goal.loop-t-preserved
loop-t-preserved c =
    elim c.if-not-is_never.branch [
      | then-not-is_never+in_ok-push w ↦
          subst (λ js. Gains c.args.s.now c.args.left.now.items js (take (c.loop-t.t-index + 1) c.args.types.now))
          (sym (ap (λ v. v.items) w.left-is ∙ w.in_ok-push.ensures.items))
          (Gains-push_at c.args.s.now c.args.left.now.items c.loop-t.left.items c.args.types.now c.loop-t.t-index c.t-item.result
          c.loop-t-test.true c.t-item.is c.loop-t.invariant
          (λ h. let yes = c.is_never.ensures.1 h in let no = w.if-not-is_never.true in absurd cc))
      | else-not-is_never w ↦
          subst (λ js. Gains c.args.s.now c.args.left.now.items js (take (c.loop-t.t-index + 1) c.args.types.now))
          (sym (ap (λ v. v.items) w.left-is))
          (Gains-skip_at c.args.s.now c.args.left.now.items c.loop-t.left.items c.args.types.now c.loop-t.t-index c.t-item.result
          c.loop-t-test.true c.t-item.is c.loop-t.invariant
          (c.is_never.ensures.0 w.if-not-is_never.false))
    ]
