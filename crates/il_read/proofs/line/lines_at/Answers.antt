use Rattle.std.proofs.Common.{◌≡◌, ◌-◌, ◌+◌, true, Some, ◌∙◌, length, arith}
use Rattle.il_read.specs.Lines.{line_at, begins_line, lines}
use Rattle.il_read.proofs.Loops.{left, lines_phi, lines_inst}
use Rattle.il_read.proofs.line.lines_at.Goals as goal
use Rattle.il_read.proofs.line.lines_at.Goals.{in-Phi+in_ok-push-in-Phi, in-Inst+in_ok-push-in-Inst}

pub loop-turn-preserved : goal.loop-turn-preserved
loop-turn-preserved c =
    let i = c.loop-turn._turn in
    let n = length c.args.s.now in
    let s = c.loop-turn.rest.now in
    let r = c.in_ok-line.more.now in
    let begins : begins_line s ≡ true = cc in
    let read : line_at s ≡ Some (c.in_ok-line.line, r) = c.in_ok-line.ensures in
    let turn = left i n (omega arith) in
    elim c.match-line.branch [
      | in-Phi+in_ok-push-in-Phi w ↦ lines_phi (lines n c.args.s.now) c.loop-turn.phis c.match-line.phis c.loop-turn.insts
          c.match-line.insts (n - i) (n - (i + 1)) s w.in-Phi.phi r c.loop-turn.invariant turn begins (rw w.in-Phi.is at read)
          (w.phis-is ∙ w.in_ok-push-in-Phi.ensures.ok) w.insts-is
      | in-Inst+in_ok-push-in-Inst w ↦ lines_inst (lines n c.args.s.now) c.loop-turn.phis c.match-line.phis c.loop-turn.insts
          c.match-line.insts (n - i) (n - (i + 1)) s w.in-Inst.inst r c.loop-turn.invariant turn begins (rw w.in-Inst.is at read) w.phis-is
          (w.insts-is ∙ w.in_ok-push-in-Inst.ensures.ok)
    ]
