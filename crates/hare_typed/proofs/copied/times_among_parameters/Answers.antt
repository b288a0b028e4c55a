use Rattle.std.proofs.Common.{sym, ◌∙◌, inl, inr}
use Rattle.hare_typed.proofs.CopyLemmas.{same-number, other-number}
use Rattle.hare_typed.proofs.ParameterLemmas.{parameter-here, parameter-later}
use Rattle.hare_typed.proofs.copied.times_among_parameters.Goals as goal
use Rattle.hare_typed.proofs.copied.times_among_parameters.Goals.{else-is_param-via-then-is_param+else-t-node, else-is_param-via-else-is_param}

pub returns-then-t-node : goal.returns-then-t-node
returns-then-t-node c =
    parameter-here c.args.node c.args.kids.now c.loop-i.i c.in-Some.t.now _ c.in-Some.ensures.found c.t.view_is
    (sym c.is_param.ensures ∙ c.if-is_param.true) (same-number _ _ c.if-t-node.true) c.loop-i.invariant

pub loop-i-preserved : goal.loop-i-preserved
loop-i-preserved c =
    elim c.else-is_param.branch [
      | else-is_param-via-then-is_param+else-t-node w ↦
          parameter-later c.args.node c.args.kids.now c.loop-i.i c.in-Some.t.now _ c.in-Some.ensures.found c.t.view_is
          (inr (other-number _ _ w.if-t-node.false)) c.loop-i.invariant
      | else-is_param-via-else-is_param w ↦
          parameter-later c.args.node c.args.kids.now c.loop-i.i c.in-Some.t.now _ c.in-Some.ensures.found c.t.view_is
          (inl (sym c.is_param.ensures ∙ w.if-is_param.false)) c.loop-i.invariant
    ]
