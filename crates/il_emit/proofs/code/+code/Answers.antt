-- The parts of a statement add its lines.
use Rattle.std.proofs.Common.{sym, ◌∙◌}
use Rattle.std.proofs.lemmas.Grind.{common_steps}
use Rattle.std.proofs.Common.{arith}
use Rattle.flat_code.specs.Code.{codes_of}
use Rattle.il_emit.proofs.Lines.Emitting.{seq_emits, loop_emits, if_emits, kid_emits}
use Rattle.il_emit.proofs.code.+code.Goals as goal
use Rattle.il_emit.proofs.code.+code.Goals.{each-in-Some+in_ok-code, each-in_default}

pub each-loop-i-preserved : goal.each-loop-i-preserved
each-loop-i-preserved t c =
    elim c.match-get.branch [
      | each-in-Some+in_ok-code w ↦
          let left = kid_emits c.args.s.now.program.now c.args.kids.now c.args.goal c.loop-i.i _ _ c.loop-i.e w.code.new.e
          w.in-Some.ensures.found c.requires w.in_front.ensures w.in_ok-code.ensures in
          rw w.e-is (record {
            draft = sym left.draft ∙ c.loop-i.invariant.draft;
            labels = sym left.labels ∙ c.loop-i.invariant.labels;
            addresses = sym left.addresses ∙ c.loop-i.invariant.addresses;
            exits = left.exits ∙ c.loop-i.invariant.exits;
          })
      | each-in_default w ↦ absurd (grind (arith, common_steps))
    ]

pub seq-returns : goal.seq-returns
seq-returns t c =
    let statements = rw c.inner.ensures at c.in_ok-each.ensures in
    seq_emits c.args.s.now.program.now (codes_of c.args.kids.now) c.args.goal c.in_ok-n.n c.args.e.now c.begin_seq.new.self
    c.each.new.e c.end_seq.new.e c.in_ok-n.ensures.first c.in_ok-n.ensures.ok statements c.in_ok-end_seq.ensures

pub code-returns-in_ok-own_label-in-If : goal.code-returns-in_ok-own_label-in-If
code-returns-in_ok-own_label-in-If t c =
    let branch = rw (c.get-first.ensures, c.get-other.ensures) at c.in_ok-n-in-If.ensures.ok in
    let one = rw (c.first_goal.ensures, c.first_label.ensures, c.get-first.ensures, c.get-other.ensures) at c.in_ok-side-in-If.ensures in
    let other = rw (c.inner.ensures, c.other_label.ensures, c.get-first.ensures, c.get-other.ensures) at
    c.in_ok-side-in-If-2.ensures in
    rw c.in-If.is (if_emits c.args.s.now.program.now c.in-If.cond c.in-If.yes c.in-If.no c.args.goal c.in_ok-n-in-If.n c.args.e.now
    c.begin_if.new.e c.side.new.e c.side-in-If.new.e c.own_label.new.self c.in_ok-n-in-If.ensures.first branch one other
    c.in_ok-own_label-in-If.ensures)

pub repeat-returns : goal.repeat-returns
repeat-returns t c =
    let body = rw c.get.ensures at c.in_ok-code.ensures in
    loop_emits c.args.s.now.program.now c.args.body.now c.args.goal c.in_ok-n.n c.args.e.now c.begin_loop.new.self c.code.new.e
    c.end_loop.new.self c.in_ok-n.ensures.first c.in_ok-n.ensures.ok body c.in_ok-end_loop.ensures
